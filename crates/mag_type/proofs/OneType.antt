-- A magnetic space group has one type.
--
-- Where (I, 0, -1) and (I, t, -1) are operations of a group, so is what does the one and after it the other: (I, t, +1).
-- Where the only pure translation is 0, t is 0. So the types 2 and 4 exclude each other; the others do by what they say.
use Rattle.std.proofs.Common.{◌≡◌, ℕ, List, [], ◌∷◌, ◌++◌, refl, sym, ◌∙◌}
use Rattle.std.specs.Prelude.{pos}
use Rattle.ring.specs.Ring.{Expr, quoted, var, con}
use Rattle.lists.specs.Increasing.{IsMember}
use Rattle.matrix3.specs.declared.vector.Vec3.{Vec3}
use Rattle.matrix3.specs.Matrices.{coordinates, vector_of_variables}
use Rattle.matrix3.specs.Matrices as formulas
use Rattle.crystal_spec.specs.Matrices.{Triple, multiple, sum_of, identity}
use Rattle.crystal_spec.specs.Crystals.{position_after}
use Rattle.crystal_spec.specs.Operations.{Operation}
use Rattle.crystal_spec.proofs.Identities.{by_triples}
use Rattle.positions.specs.Positions.{origin}
use Rattle.basis_spec.specs.Translations.{pure_translation}
use Rattle.op_group.specs.Composition.{IsComposed}
use Rattle.op_group.specs.Groups.{IsGroupModulo}
use Rattle.op_group.proofs.GroupLaws.{composed_member}
use Rattle.mag_type.specs.MagneticTypes.{HasOnlyZeroTranslation, anti_translation, time_reversal, IsTypeOne, IsTypeTwo, IsTypeThree, IsTypeFour, IsMagneticType, one, two, three, four}

-- I 0 + t = t + n 0
moved_origin : (n : ℕ) (t : Triple) → position_after identity t origin ≡ sum_of t (multiple (pos n) origin)
moved_origin n t =
    let x = vector_of_variables 0 in
    let o : Vec3 Expr = record { x = con (pos 0); y = con (pos 0); z = con (pos 0) } in
    by_triples (coordinates t ++ pos n ∷ []) (formulas.sum_of quoted (formulas.image quoted (formulas.scalar quoted (con (pos 1))) o) x) (formulas.sum_of quoted x (formulas.multiple quoted (var 3) o)) refl

module _ (n : ℕ) (os : List Operation) (group : IsGroupModulo n os) (primitive : HasOnlyZeroTranslation os) where
  -- time reversal, and after it (I, t, -1), is the pure translation t
  reversed_twice : (t : Triple) → IsMember (anti_translation t) os → IsComposed n time_reversal (anti_translation t) (pure_translation t)
  reversed_twice t m = record {
    matrix = refl;
    translation = record { within = group.within_cell (anti_translation t) m; cells = origin; same = moved_origin n t };
    sign = refl;
  }

  -- no translation but 0 comes with time reversal, where time reversal itself is an operation
  pub anti_translation_zero : IsTypeTwo os → (t : Triple) → IsMember (anti_translation t) os → t ≡ origin
  anti_translation_zero h t m =
      primitive t (composed_member n os group time_reversal (anti_translation t) (pure_translation t) h m (reversed_twice t m))

  -- no two types hold at once
  one_not_two : IsTypeOne os → IsTypeTwo os → ⊥
  one_not_two h k = let e = h time_reversal k in cc e

  one_not_three : IsTypeOne os → IsTypeThree os → ⊥
  one_not_three h k = let e = h k.operation k.of_list in cc (e, k.reverses)

  one_not_four : IsTypeOne os → IsTypeFour os → ⊥
  one_not_four h k = let e = h (anti_translation k.translation) k.of_list in cc e

  two_not_three : IsTypeTwo os → IsTypeThree os → ⊥
  two_not_three h k = k.no_anti_translation (record { translation = origin; of_list = h })

  two_not_four : IsTypeTwo os → IsTypeFour os → ⊥
  two_not_four h k = k.nonzero (anti_translation_zero h k.translation k.of_list)

  three_not_four : IsTypeThree os → IsTypeFour os → ⊥
  three_not_four h k = h.no_anti_translation (record { translation = k.translation; of_list = k.of_list })

  -- a group whose only pure translation is 0 has one type
  pub one_type : (j k : ℕ) → IsMagneticType os j → IsMagneticType os k → j ≡ k
  one_type j k (one e h) (one f i) = e ∙ sym f
  one_type j k (one e h) (two f i) = absurd (one_not_two h i)
  one_type j k (one e h) (three f i) = absurd (one_not_three h i)
  one_type j k (one e h) (four f i) = absurd (one_not_four h i)
  one_type j k (two e h) (one f i) = absurd (one_not_two i h)
  one_type j k (two e h) (two f i) = e ∙ sym f
  one_type j k (two e h) (three f i) = absurd (two_not_three h i)
  one_type j k (two e h) (four f i) = absurd (two_not_four h i)
  one_type j k (three e h) (one f i) = absurd (one_not_three i h)
  one_type j k (three e h) (two f i) = absurd (two_not_three i h)
  one_type j k (three e h) (three f i) = e ∙ sym f
  one_type j k (three e h) (four f i) = absurd (three_not_four h i)
  one_type j k (four e h) (one f i) = absurd (one_not_four i h)
  one_type j k (four e h) (two f i) = absurd (two_not_four i h)
  one_type j k (four e h) (three f i) = absurd (three_not_four i h)
  one_type j k (four e h) (four f i) = e ∙ sym f
