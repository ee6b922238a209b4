-- The matrices of a symbol's operations: their entries are -1, 0 and 1, and their 12th powers are I.
--   named_rotational     those that a symbol names
--   generator_rotational those about the shifted origin, whose translation parts are within one cell (generator_within)
use Rattle.std.proofs.Common.{◌≡◌, ℕ, zero, suc, Bool, true, false, ◌++◌, ◌⊎◌, inl, inr, map, T, refl, sym, subst}
use Rattle.std.specs.Prelude.{ℤ, pos, negsuc, unsigned_abs}
use Rattle.std.proofs.Math.Dec.{leb}
use Rattle.std.proofs.Math.Facts.{leb_yes}
use Rattle.ring.specs.Size.{AtMost}
use Rattle.ring.proofs.Sizes.{at_most_mul}
use Rattle.lists.specs.Increasing.{IsMember}
use Rattle.lists.proofs.Members.{mapped_from, member_either}
use Rattle.matrix3.specs.Matrices.{EachEntry, vector_map}
use Rattle.crystal_spec.specs.Matrices.{Matrix, identity, product}
use Rattle.crystal_spec.specs.Operations.{Operation, IsWithinCell}
use Rattle.basis_spec.specs.Translations.{pure_translation}
use Rattle.hall_symbol.specs.declared.symbol.Axis.TheVariants.{X, Y, Z}
use Rattle.hall_symbol.specs.declared.symbol.Rotation.{Rotation}
use Rattle.hall_symbol.specs.declared.symbol.Rotation.TheVariants.{Identity, Twofold, Threefold, Fourfold, Sixfold, TwofoldDifference, TwofoldSum, ThreefoldDiagonal}
use Rattle.hall_symbol.specs.declared.symbol.Token.{Token}
use Rattle.hall_symbol.specs.Symbols.{HallSymbol, matrix_of, negated, inversions, centrings, operation_of_token, shifted, named_operations, generators}
use Rattle.hall_symbol.specs.Views.{AreSmall}
use Rattle.hall_symbol.proofs.Compositions.{reduced_within}

-- ---- sizes

at_most_one : {z : ℤ} → T (leb (unsigned_abs z) 1) → AtMost 1 z
at_most_one h = record { size = leb_yes h }

each_small : (w : Matrix) → T (leb (unsigned_abs w.a11) 1) → T (leb (unsigned_abs w.a12) 1) → T (leb (unsigned_abs w.a13) 1) → T (leb (unsigned_abs w.a21) 1) → T (leb (unsigned_abs w.a22) 1) → T (leb (unsigned_abs w.a23) 1) → T (leb (unsigned_abs w.a31) 1) → T (leb (unsigned_abs w.a32) 1) → T (leb (unsigned_abs w.a33) 1) → EachEntry (AtMost 1) w
each_small w a b c d e f g h i = record { a11 = at_most_one a; a12 = at_most_one b; a13 = at_most_one c; a21 = at_most_one d; a22 = at_most_one e; a23 = at_most_one f; a31 = at_most_one g; a32 = at_most_one h; a33 = at_most_one i }

pub identity_small : EachEntry (AtMost 1) identity
identity_small = each_small identity tt tt tt tt tt tt tt tt tt

pub rotation_small : (r : Rotation) → EachEntry (AtMost 1) (matrix_of r)
rotation_small Identity = each_small (matrix_of Identity) tt tt tt tt tt tt tt tt tt
rotation_small (Twofold X) = each_small (matrix_of (Twofold X)) tt tt tt tt tt tt tt tt tt
rotation_small (Twofold Y) = each_small (matrix_of (Twofold Y)) tt tt tt tt tt tt tt tt tt
rotation_small (Twofold Z) = each_small (matrix_of (Twofold Z)) tt tt tt tt tt tt tt tt tt
rotation_small (Threefold X) = each_small (matrix_of (Threefold X)) tt tt tt tt tt tt tt tt tt
rotation_small (Threefold Y) = each_small (matrix_of (Threefold Y)) tt tt tt tt tt tt tt tt tt
rotation_small (Threefold Z) = each_small (matrix_of (Threefold Z)) tt tt tt tt tt tt tt tt tt
rotation_small (Fourfold X) = each_small (matrix_of (Fourfold X)) tt tt tt tt tt tt tt tt tt
rotation_small (Fourfold Y) = each_small (matrix_of (Fourfold Y)) tt tt tt tt tt tt tt tt tt
rotation_small (Fourfold Z) = each_small (matrix_of (Fourfold Z)) tt tt tt tt tt tt tt tt tt
rotation_small (Sixfold X) = each_small (matrix_of (Sixfold X)) tt tt tt tt tt tt tt tt tt
rotation_small (Sixfold Y) = each_small (matrix_of (Sixfold Y)) tt tt tt tt tt tt tt tt tt
rotation_small (Sixfold Z) = each_small (matrix_of (Sixfold Z)) tt tt tt tt tt tt tt tt tt
rotation_small (TwofoldDifference X) = each_small (matrix_of (TwofoldDifference X)) tt tt tt tt tt tt tt tt tt
rotation_small (TwofoldDifference Y) = each_small (matrix_of (TwofoldDifference Y)) tt tt tt tt tt tt tt tt tt
rotation_small (TwofoldDifference Z) = each_small (matrix_of (TwofoldDifference Z)) tt tt tt tt tt tt tt tt tt
rotation_small (TwofoldSum X) = each_small (matrix_of (TwofoldSum X)) tt tt tt tt tt tt tt tt tt
rotation_small (TwofoldSum Y) = each_small (matrix_of (TwofoldSum Y)) tt tt tt tt tt tt tt tt tt
rotation_small (TwofoldSum Z) = each_small (matrix_of (TwofoldSum Z)) tt tt tt tt tt tt tt tt tt
rotation_small ThreefoldDiagonal = each_small (matrix_of ThreefoldDiagonal) tt tt tt tt tt tt tt tt tt

pub negated_small : (w : Matrix) → EachEntry (AtMost 1) w → EachEntry (AtMost 1) (negated w)
negated_small w h =
    let minus : AtMost 1 (negsuc 0) = at_most_one tt in
    record { a11 = at_most_mul minus h.a11; a12 = at_most_mul minus h.a12; a13 = at_most_mul minus h.a13; a21 = at_most_mul minus h.a21; a22 = at_most_mul minus h.a22; a23 = at_most_mul minus h.a23; a31 = at_most_mul minus h.a31; a32 = at_most_mul minus h.a32; a33 = at_most_mul minus h.a33 }

-- ---- the 12th powers

-- the k-th power of a matrix
abbrev pub matrix_power : ℕ → Matrix → Matrix
matrix_power zero w = identity
matrix_power (suc k) w = product (matrix_power k w) w

rotation_power : (r : Rotation) → matrix_power 12 (matrix_of r) ≡ identity
rotation_power Identity = refl
rotation_power (Twofold X) = refl
rotation_power (Twofold Y) = refl
rotation_power (Twofold Z) = refl
rotation_power (Threefold X) = refl
rotation_power (Threefold Y) = refl
rotation_power (Threefold Z) = refl
rotation_power (Fourfold X) = refl
rotation_power (Fourfold Y) = refl
rotation_power (Fourfold Z) = refl
rotation_power (Sixfold X) = refl
rotation_power (Sixfold Y) = refl
rotation_power (Sixfold Z) = refl
rotation_power (TwofoldDifference X) = refl
rotation_power (TwofoldDifference Y) = refl
rotation_power (TwofoldDifference Z) = refl
rotation_power (TwofoldSum X) = refl
rotation_power (TwofoldSum Y) = refl
rotation_power (TwofoldSum Z) = refl
rotation_power ThreefoldDiagonal = refl

negated_power : (r : Rotation) → matrix_power 12 (negated (matrix_of r)) ≡ identity
negated_power Identity = refl
negated_power (Twofold X) = refl
negated_power (Twofold Y) = refl
negated_power (Twofold Z) = refl
negated_power (Threefold X) = refl
negated_power (Threefold Y) = refl
negated_power (Threefold Z) = refl
negated_power (Fourfold X) = refl
negated_power (Fourfold Y) = refl
negated_power (Fourfold Z) = refl
negated_power (Sixfold X) = refl
negated_power (Sixfold Y) = refl
negated_power (Sixfold Z) = refl
negated_power (TwofoldDifference X) = refl
negated_power (TwofoldDifference Y) = refl
negated_power (TwofoldDifference Z) = refl
negated_power (TwofoldSum X) = refl
negated_power (TwofoldSum Y) = refl
negated_power (TwofoldSum Z) = refl
negated_power ThreefoldDiagonal = refl

-- ---- the operations

pub record IsRotational (w : Matrix) : Type 0 where
  pub small : EachEntry (AtMost 1) w
  pub power : matrix_power 12 w ≡ identity

inversion_rotational : IsRotational (negated identity)
inversion_rotational = record { small = negated_small identity identity_small; power = refl }

identity_rotational : IsRotational identity
identity_rotational = record { small = identity_small; power = refl }

token_rotational : (t : Token) → IsRotational (operation_of_token t).matrix
token_rotational t = by t.is_negated t.rotation
  where
    by : (b : Bool) (r : Rotation) → IsRotational (operation_of_token (record { is_negated = b; rotation = r; translation = t.translation; sign = t.sign })).matrix
    by true r = record { small = negated_small (matrix_of r) (rotation_small r); power = negated_power r }
    by false r = record { small = rotation_small r; power = rotation_power r }

pub named_rotational : (s : HallSymbol) (o : Operation) → IsMember o (named_operations s) → IsRotational o.matrix
named_rotational s o m = by (member_either o (inversions s.is_inverted ++ map pure_translation (centrings s.lattice)) (map operation_of_token s.tokens) m)
  where
    inverted : (b : Bool) → IsMember o (inversions b) → IsRotational o.matrix
    inverted true (inl e) = subst (λ (p : Operation). IsRotational p.matrix) (sym e) inversion_rotational
    inverted true (inr k) = absurd k
    inverted false k = absurd k

    front : IsMember o (inversions s.is_inverted) ⊎ IsMember o (map pure_translation (centrings s.lattice)) → IsRotational o.matrix
    front (inl k) = inverted s.is_inverted k
    front (inr k) = let r = mapped_from pure_translation o (centrings s.lattice) k in subst (λ (p : Operation). IsRotational p.matrix) (sym r.is) identity_rotational

    by : IsMember o (inversions s.is_inverted ++ map pure_translation (centrings s.lattice)) ⊎ IsMember o (map operation_of_token s.tokens) → IsRotational o.matrix
    by (inl k) = front (member_either o (inversions s.is_inverted) (map pure_translation (centrings s.lattice)) k)
    by (inr k) = let r = mapped_from operation_of_token o s.tokens k in subst (λ (p : Operation). IsRotational p.matrix) (sym r.is) (token_rotational r.item)

pub named_small : (s : HallSymbol) → AreSmall (named_operations s)
named_small s = record { each = λ o m. (named_rotational s o m).small }

pub generator_within : (s : HallSymbol) (g : Operation) → IsMember g (generators s) → IsWithinCell 12 g.translation
unfolding generators
generator_within s g m = let r = mapped_from (shifted (vector_map pos s.shift)) g (named_operations s) m in subst (λ (p : Operation). IsWithinCell 12 p.translation) (sym r.is) (reduced_within _)

pub generator_rotational : (s : HallSymbol) (g : Operation) → IsMember g (generators s) → IsRotational g.matrix
unfolding generators
generator_rotational s g m = let r = mapped_from (shifted (vector_map pos s.shift)) g (named_operations s) m in subst (λ (p : Operation). IsRotational p.matrix) (sym r.is) (named_rotational s r.item r.of_list)
