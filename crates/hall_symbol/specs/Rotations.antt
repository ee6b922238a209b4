-- The rotation of a token: its axis is written, or goes without saying [Hal81; ITVB A1.4.2.3].
--   order_of r                the order of a rotation
--   axis_of r                 its axis, where that is x, y or z
--   last_axis before          the axis of the last of these tokens that has x, y or z; z where there is none
--   default_rotation before n the rotation of order n of a token without a written axis behind these ones, or none
--   rotation_in before w      the rotation of a token behind these ones, or none where it needs an axis
--   is_screw_right before w   a screw digit is below the order, and the axis is x, y or z
use Rattle.std.specs.Prelude.{ℕ, Bool, true, false, ◌==◌, ◌||◌, ◌&&◌, nat_lt, List, [], ◌∷◌, if◌then◌else◌}
use Rattle.std.specs.List.{fold}
use Rattle.std.specs.declared.option.Option.{Option}
use Rattle.std.specs.declared.option.Option.TheVariants.{Some, None}
use Rattle.hall_symbol.specs.declared.symbol.Axis.{Axis}
use Rattle.hall_symbol.specs.declared.symbol.Axis.TheVariants.{X, Z}
use Rattle.hall_symbol.specs.declared.symbol.Rotation.{Rotation}
use Rattle.hall_symbol.specs.declared.symbol.Rotation.TheVariants.{Identity, Twofold, Threefold, Fourfold, Sixfold, TwofoldDifference, TwofoldSum, ThreefoldDiagonal}
use Rattle.hall_symbol.specs.declared.symbol.Token.{Token}
use Rattle.hall_symbol.specs.declared.mark.Mark.{Mark}
use Rattle.hall_symbol.specs.declared.mark.Mark.TheVariants.{Unwritten, Along, Prime, DoublePrime, Star}
use Rattle.hall_symbol.specs.TokenForms.{order_in, screw_in, mark_in}

-- ---- the axis

abbrev pub order_of : Rotation → ℕ
order_of Identity = 1
order_of (Twofold axis) = 2
order_of (Threefold axis) = 3
order_of (Fourfold axis) = 4
order_of (Sixfold axis) = 6
order_of (TwofoldDifference axis) = 2
order_of (TwofoldSum axis) = 2
order_of ThreefoldDiagonal = 3

-- the axis x, y or z of a rotation
abbrev pub axis_of : Rotation → Option Axis
axis_of Identity = None
axis_of (Twofold axis) = Some axis
axis_of (Threefold axis) = Some axis
axis_of (Fourfold axis) = Some axis
axis_of (Sixfold axis) = Some axis
axis_of (TwofoldDifference axis) = None
axis_of (TwofoldSum axis) = None
axis_of ThreefoldDiagonal = None

-- the second where it is one
abbrev pub later_axis : Axis → Option Axis → Axis
later_axis axis None = axis
later_axis axis (Some later) = later

-- the axis of the last of these tokens that has x, y or z; z where there is none
abbrev pub last_axis : List Token → Axis
last_axis before = fold (λ axis t. later_axis axis (axis_of t.rotation)) Z before

-- the rotation of this order about x, y or z
abbrev pub about : ℕ → Axis → Rotation
about order axis =
    if order == 2 then Twofold axis else
    if order == 3 then Threefold axis else
    if order == 4 then Fourfold axis else
    if order == 6 then Sixfold axis else Identity

-- The second token, of order 2, behind one of this order: about x behind 2 and 4, and about the difference of two axes
-- behind 3 and 6.
abbrev pub second_twofold : List Token → ℕ → Option Rotation
second_twofold before order =
    if order == 2 || order == 4 then Some (Twofold X) else
    if order == 3 || order == 6 then Some (TwofoldDifference (last_axis before)) else None

-- The rotation of a token that has no axis: the first is about z, the third, of order 3, about a + b + c.
abbrev pub default_rotation : List Token → ℕ → Option Rotation
default_rotation [] order = Some (about order Z)
default_rotation (t ∷ []) order = if order == 2 then second_twofold (t ∷ []) (order_of t.rotation) else None
default_rotation (t ∷ u ∷ []) order = if order == 3 then Some ThreefoldDiagonal else None
default_rotation (t ∷ u ∷ v ∷ before) order = None

abbrev pub marked_rotation : List Token → ℕ → Mark → Option Rotation
marked_rotation before order Unwritten = default_rotation before order
marked_rotation before order (Along axis) = Some (about order axis)
marked_rotation before order Prime = Some (TwofoldDifference (last_axis before))
marked_rotation before order DoublePrime = Some (TwofoldSum (last_axis before))
marked_rotation before order Star = Some ThreefoldDiagonal

-- order 1 needs no axis
unfoldable pub rotation_in : List Token → List ℕ → Option Rotation
rotation_in before w = if order_in w == 1 then Some Identity else marked_rotation before (order_in w) (mark_in w)

-- ---- the screw digit

abbrev pub has_axis : Option Axis → Bool
has_axis None = false
has_axis (Some axis) = true

-- the rotation that was found, or the identity
abbrev pub found_rotation : Option Rotation → Rotation
found_rotation None = Identity
found_rotation (Some rotation) = rotation

unfoldable pub is_screw_right : List Token → List ℕ → Bool
is_screw_right before w = screw_in w == 0 || (nat_lt (screw_in w) (order_in w) && has_axis (axis_of (found_rotation (rotation_in before w))))
