-- The form of a rotation token, and the lattice letter [Hal81; ITVB A1.4.2.3].
--   lattice_of w          the lattice that the first word names, or none
--   order_in w            the order of a token's rotation, 0 where there is none
--   screw_in w            its screw digit, 0 where there is none
--   mark_in w             the mark of its axis
--   letters_in w          the bytes between the axis and an optional `!` at the end
--   sign_in w             the time sign, -1 where `!` stands at the end
--   goes_with order m     a rotation of this order has an axis that is written so
--   is_token_form w       the word has the form of a token, and its axis goes with its order
-- A token is an optional `-`, the order, an optional screw digit, an optional axis, letters and an optional `!`. This order,
-- the mark `!`, and `=` as another spelling of `"` are our own.
-- The byte 33 is `!` and 45 is `-`.
use Rattle.std.specs.Prelude.{ℕ, Bool, true, false, not, ◌==◌, ◌||◌, ◌&&◌, List, [], ◌∷◌, length, drop, if◌then◌else◌}
use Rattle.std.specs.List.{list_all}
use Rattle.std.specs.declared.option.Option.{Option}
use Rattle.std.specs.declared.option.Option.TheVariants.{Some, None}
use Rattle.plain_text.specs.Text.{without_last}
use Rattle.crystal_spec.specs.declared.Sign.{Sign}
use Rattle.crystal_spec.specs.declared.Sign.TheVariants.{Same, Reversed}
use Rattle.hall_symbol.specs.declared.symbol.Axis.TheVariants.{X, Y, Z}
use Rattle.hall_symbol.specs.declared.symbol.Lattice.{Lattice}
use Rattle.hall_symbol.specs.declared.symbol.Lattice.TheVariants as lattices
use Rattle.hall_symbol.specs.declared.mark.Mark.{Mark}
use Rattle.hall_symbol.specs.declared.mark.Mark.TheVariants.{Unwritten, Along, Prime, DoublePrime, Star}
use Rattle.hall_symbol.specs.Cuts.{first, without}

-- ---- the lattice

-- P, A, B, C, I, R, F
abbrev pub lattice_letter : ℕ → Option Lattice
lattice_letter b =
    if b == 80 then Some lattices.P else
    if b == 65 then Some lattices.A else
    if b == 66 then Some lattices.B else
    if b == 67 then Some lattices.C else
    if b == 73 then Some lattices.I else
    if b == 82 then Some lattices.R else
    if b == 70 then Some lattices.F else None

-- one letter, with or without `-` in front
abbrev pub lattice_of : List ℕ → Option Lattice
lattice_of w = if length (without 45 w) == 1 then lattice_letter (first (without 45 w)) else None

-- ---- the parts of a token

-- the order that a digit names, 0 where it is none
abbrev pub order_digit : ℕ → ℕ
order_digit b = if b == 49 then 1 else if b == 50 then 2 else if b == 51 then 3 else if b == 52 then 4 else if b == 54 then 6 else 0

-- the screw digit, 0 where it is none
abbrev pub screw_digit : ℕ → ℕ
screw_digit b = if b == 49 then 1 else if b == 50 then 2 else if b == 51 then 3 else if b == 52 then 4 else if b == 53 then 5 else 0

-- `x`, `y`, `z`, `'`, `"` or `=`, `*`
abbrev pub axis_mark : ℕ → Mark
axis_mark b =
    if b == 120 then Along X else
    if b == 121 then Along Y else
    if b == 122 then Along Z else
    if b == 39 then Prime else
    if b == 34 || b == 61 then DoublePrime else
    if b == 42 then Star else Unwritten

abbrev pub is_written : Mark → Bool
is_written Unwritten = false
is_written (Along axis) = true
is_written Prime = true
is_written DoublePrime = true
is_written Star = true

abbrev pub order_in : List ℕ → ℕ
order_in w = order_digit (first (without 45 w))

abbrev pub behind_order : List ℕ → List ℕ
behind_order w = drop 1 (without 45 w)

abbrev pub screw_in : List ℕ → ℕ
screw_in w = screw_digit (first (behind_order w))

abbrev pub behind_screw : List ℕ → List ℕ
behind_screw w = if screw_in w == 0 then behind_order w else drop 1 (behind_order w)

abbrev pub mark_in : List ℕ → Mark
mark_in w = axis_mark (first (behind_screw w))

abbrev pub behind_axis : List ℕ → List ℕ
behind_axis w = if is_written (mark_in w) then drop 1 (behind_screw w) else behind_screw w

-- `!` stands at the end
abbrev pub ends_primed : List ℕ → Bool
ends_primed [] = false
ends_primed (b ∷ []) = b == 33
ends_primed (b ∷ c ∷ w) = ends_primed (c ∷ w)

-- one `!` at the end is dropped
abbrev pub without_prime : List ℕ → List ℕ
without_prime w = without_last 33 w

abbrev pub letters_in : List ℕ → List ℕ
letters_in w = without_prime (behind_axis w)

abbrev pub sign_in : List ℕ → Sign
sign_in w = if ends_primed (behind_axis w) then Reversed else Same

-- ---- the form

-- a, b, c, n, u, v, w, d
abbrev pub is_letter : ℕ → Bool
is_letter b = b == 97 || b == 98 || b == 99 || b == 110 || b == 117 || b == 118 || b == 119 || b == 100

-- an axis x, y or z is for orders other than 1, `'`, `"` and `=` for order 2, and `*` for order 3
abbrev pub goes_with : ℕ → Mark → Bool
goes_with order Unwritten = true
goes_with order (Along axis) = not (order == 1)
goes_with order Prime = order == 2
goes_with order DoublePrime = order == 2
goes_with order Star = order == 3

unfoldable pub is_token_form : List ℕ → Bool
is_token_form w = not (order_in w == 0) && list_all is_letter (letters_in w) && goes_with (order_in w) (mark_in w)
