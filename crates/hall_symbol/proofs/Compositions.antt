-- One operation after the other, modulo whole translations.
--   then_composed, composed_then     `then a b` is the one operation that does a and after it b
--   then_assoc, identity_then, then_identity
--   reduced_same                     what differs by whole translations reduces to one
use Rattle.std.proofs.Common.{◌≡◌, [], ◌∷◌, refl, sym, ap, ◌∙◌, arith}
use Rattle.std.specs.Prelude.{ℤ, pos, ◌+ℤ◌, ◌*ℤ◌}
use Rattle.ring.specs.Ring.{quoted, var, con}
use Rattle.numbers.proofs.ResidueRing.{residue_same}
use Rattle.matrix3.specs.Matrices.{coordinates, vector_of_variables}
use Rattle.matrix3.specs.Matrices as formulas
use Rattle.crystal_spec.specs.declared.Sign.{Sign}
use Rattle.crystal_spec.specs.declared.Sign.TheVariants.{Same, Reversed}
use Rattle.crystal_spec.specs.Matrices.{Triple, multiple, sum_of}
use Rattle.crystal_spec.specs.Crystals.{position_after}
use Rattle.crystal_spec.specs.Operations.{Operation, IsWithinCell, sign_factor}
use Rattle.crystal_spec.proofs.Entrywise.{triple_same}
use Rattle.crystal_spec.proofs.Identities.{by_triples, by_integers}
use Rattle.op_group.specs.Composition.{identity_operation, IsComposed}
use Rattle.positions.specs.Positions.{IsModulo}
use Rattle.positions.proofs.Residues.{modulo_once, is_residues}
use Rattle.op_group.proofs.Composing.{composed_once, composed_associates, identity_first, identity_next}
use Rattle.hall_symbol.specs.Compositions.{both, reduced, then}

-- ---- signs

pub both_factor : (s t : Sign) → sign_factor (both s t) ≡ sign_factor s *ℤ sign_factor t
both_factor Same Same = refl
both_factor Same Reversed = refl
both_factor Reversed Same = refl
both_factor Reversed Reversed = refl

pub both_twice : (s : Sign) → both s s ≡ Same
both_twice Same = refl
both_twice Reversed = refl

pub both_same : (s : Sign) → both s Same ≡ s
both_same Same = refl
both_same Reversed = refl

pub both_swapped : (s t : Sign) → both s t ≡ both t s
both_swapped Same Same = refl
both_swapped Same Reversed = refl
both_swapped Reversed Same = refl
both_swapped Reversed Reversed = refl

pub both_assoc : (s t u : Sign) → both s (both t u) ≡ both (both s t) u
both_assoc Same t u = refl
both_assoc Reversed Same u = refl
both_assoc Reversed Reversed Same = refl
both_assoc Reversed Reversed Reversed = refl

-- ---- residues

pub reduces_12 : (p : Triple) → IsModulo 12 p (reduced p)
reduces_12 p = is_residues 12 p (omega arith)

pub reduced_within : (p : Triple) → IsWithinCell 12 (reduced p)
reduced_within p = (reduces_12 p).within

-- what differs by whole translations reduces to one
pub reduced_same : (p q k : Triple) → p ≡ sum_of q (multiple (pos 12) k) → reduced p ≡ reduced q
reduced_same p q k e = triple_same
    (residue_same 12 p.x q.x k.x (ap (λ (v : Triple). v.x) e ∙ turned q.x k.x))
    (residue_same 12 p.y q.y k.y (ap (λ (v : Triple). v.y) e ∙ turned q.y k.y))
    (residue_same 12 p.z q.z k.z (ap (λ (v : Triple). v.z) e ∙ turned q.z k.z))
  where
    turned : (a b : ℤ) → a +ℤ pos 12 *ℤ b ≡ a +ℤ b *ℤ pos 12
    turned a b = by_integers (a ∷ b ∷ []) (quoted.◌⊕◌ (var 0) (quoted.◌⊗◌ (con (pos 12)) (var 1))) (quoted.◌⊕◌ (var 0) (quoted.◌⊗◌ (var 1) (con (pos 12)))) refl

-- a column within the cell is its own residue
pub reduced_is : (p : Triple) → IsWithinCell 12 p → reduced p ≡ p
reduced_is p w = modulo_once 12 p (reduced p) p (reduces_12 p) (record {
  within = w;
  cells = record { x = pos 0; y = pos 0; z = pos 0 };
  same = by_triples (coordinates p) (vector_of_variables 0) (formulas.sum_of quoted (vector_of_variables 0) (formulas.multiple quoted (con (pos 12)) (record { x = con (pos 0); y = con (pos 0); z = con (pos 0) }))) refl;
})

-- ---- one after the other

pub then_composed : (a b : Operation) → IsComposed 12 a b (then a b)
unfolding then
then_composed a b = record { matrix = refl; translation = reduces_12 (position_after b.matrix b.translation a.translation); sign = both_factor b.sign a.sign }

pub composed_then : (a b r : Operation) → IsComposed 12 a b r → r ≡ then a b
composed_then a b r h = composed_once 12 a b r (then a b) h (then_composed a b)

pub then_within : (a b : Operation) → IsWithinCell 12 (then a b).translation
then_within a b = (then_composed a b).translation.within

pub then_assoc : (a b c : Operation) → then a (then b c) ≡ then (then a b) c
then_assoc a b c =
    sym (composed_then a (then b c) (then (then a b) c) (composed_associates 12 a b c (then a b) (then b c) (then (then a b) c) (then_composed a b) (then_composed b c) (then_composed (then a b) c)))

pub identity_then : (o : Operation) → IsWithinCell 12 o.translation → then identity_operation o ≡ o
identity_then o w = sym (composed_then identity_operation o o (identity_first 12 o w))

pub then_identity : (o : Operation) → IsWithinCell 12 o.translation → then o identity_operation ≡ o
then_identity o w = sym (composed_then o identity_operation o (identity_next 12 o w))

pub then_sign : (a b : Operation) → (then a b).sign ≡ both b.sign a.sign
unfolding then
then_sign a b = refl
