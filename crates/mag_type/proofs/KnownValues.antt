-- The definitions at four groups of two operations, one of each type: the identity, and beside it the inversion, time reversal,
-- the inversion with time reversal, and with n = 2 half a cell along c with time reversal.
use Rattle.std.proofs.Common.{◌≡◌, [], ◌∷◌, refl, sym, ap, subst, inl, inr}
use Rattle.std.specs.Prelude.{pos, negsuc}
use Rattle.lists.specs.Increasing.{IsMember}
use Rattle.crystal_spec.specs.declared.Sign.{Sign}
use Rattle.crystal_spec.specs.declared.Sign.TheVariants.{Same, Reversed}
use Rattle.crystal_spec.specs.Matrices.{Triple, identity}
use Rattle.crystal_spec.specs.Operations.{Operation}
use Rattle.positions.specs.Positions.{origin, triple}
use Rattle.op_group.specs.Composition.{identity_operation}
use Rattle.mag_type.specs.Families.{SpaceOperation, IsInFamily, IsNumberOf}
use Rattle.mag_type.specs.MagneticTypes.{anti_translation, time_reversal, IsMagneticType, one, two, three, four}

-- x, y, z to -x, -y, -z
abbrev inversion : Sign → Operation
inversion s = record {
  matrix = record { a11 = negsuc 0; a12 = pos 0; a13 = pos 0; a21 = pos 0; a22 = negsuc 0; a23 = pos 0; a31 = pos 0; a32 = pos 0; a33 = negsuc 0 };
  translation = origin;
  sign = s;
}

-- the inversion does not reverse time
first_type : IsMagneticType (inversion Same ∷ identity_operation ∷ []) 1
first_type = one refl same
  where
    same : (o : Operation) → IsMember o (inversion Same ∷ identity_operation ∷ []) → o.sign ≡ Same
    same o (inl e) = ap (λ (p : Operation). p.sign) e
    same o (inr (inl e)) = ap (λ (p : Operation). p.sign) e
    same o (inr (inr m)) = absurd m

-- time reversal itself
second_type : IsMagneticType (identity_operation ∷ time_reversal ∷ []) 2
second_type = two refl (inr (inl refl))

-- the inversion with time reversal
third_type : IsMagneticType (inversion Reversed ∷ identity_operation ∷ []) 3
third_type = three refl (record { operation = inversion Reversed; of_list = inl refl; reverses = refl; no_anti_translation = λ h. none h.translation h.of_list })
  where
    none : (t : Triple) → IsMember (anti_translation t) (inversion Reversed ∷ identity_operation ∷ []) → ⊥
    none t (inl e) = let f : pos 1 ≡ negsuc 0 = ap (λ (p : Operation). p.matrix.a11) e in cc
    none t (inr (inl e)) = let f = ap (λ (p : Operation). p.sign) e in cc f
    none t (inr (inr m)) = absurd m

-- time reversal with half a cell along c
fourth_type : IsMagneticType (identity_operation ∷ anti_translation (triple (pos 0) (pos 0) (pos 1)) ∷ []) 4
fourth_type = four refl (record { translation = triple (pos 0) (pos 0) (pos 1); nonzero = apart; of_list = inr (inl refl) })
  where
    apart : triple (pos 0) (pos 0) (pos 1) ≡ origin → ⊥
    apart e = let f = ap (λ (t : Triple). t.z) e in cc f

-- (I, 0)
abbrev unit : SpaceOperation
unit = record { matrix = identity; translation = origin }

-- a pair is told by the operation
abbrev pair : Operation → SpaceOperation
pair o = record { matrix = o.matrix; translation = o.translation }

-- the identity and time reversal have one pair
one_pair : IsNumberOf (IsInFamily (identity_operation ∷ time_reversal ∷ [])) 1
one_pair = record {
  all = unit ∷ [];
  once = ((λ m. m), tt);
  exact = λ p. (there p, (λ f. back p f.sign f.of_list));
  count = refl;
}
  where
    there : (p : SpaceOperation) → IsMember p (unit ∷ []) → IsInFamily (identity_operation ∷ time_reversal ∷ []) p
    there p (inl e) = subst (IsInFamily (identity_operation ∷ time_reversal ∷ [])) (sym e) (record { sign = Same; of_list = inl refl })
    there p (inr m) = absurd m

    back : (p : SpaceOperation) (s : Sign) → IsMember (record { matrix = p.matrix; translation = p.translation; sign = s }) (identity_operation ∷ time_reversal ∷ []) → IsMember p (unit ∷ [])
    back p s (inl e) = inl (ap pair e)
    back p s (inr (inl e)) = inl (ap pair e)
    back p s (inr (inr m)) = absurd m
