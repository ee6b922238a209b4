-- The pure translations of a list of operations, as triples, and how many they are.
use Rattle.std.proofs.Common.{◌≡◌, refl, sym, ap, subst, ◌∙◌, ◌⊎◌, inl, inr, ℕ, ◌+◌, ◌≤◌, List, [], ◌∷◌, length, arith}
use Rattle.std.specs.Prelude.{◌↔◌}
use Rattle.std.specs.declared.cmp.Ordering.{Ordering}
use Rattle.std.specs.declared.cmp.Ordering.TheVariants.{Less, Equal, Greater}
use Rattle.std.proofs.lemmas.Cmp.{tied_itself}
use Rattle.lists.specs.Increasing.{IsMember, IsDistinct}
use Rattle.crystal_spec.specs.Matrices.{Triple}
use Rattle.crystal_spec.specs.Operations.{Operation, compare_of}
use Rattle.crystal_spec.proofs.Ordered.{compare_total, compare_exact}
use Rattle.basis_spec.specs.Translations.{pure_translation}
use Rattle.op_group.specs.Lists.{HasOnlyPureTranslations}

-- an operation is a pure translation or not
pub pure_or_not : (o : Operation) → (o ≡ pure_translation o.translation) ⊎ (o ≡ pure_translation o.translation → ⊥)
pure_or_not o = by (compare_of o (pure_translation o.translation)) refl
  where
    by : (w : Ordering) → compare_of o (pure_translation o.translation) ≡ w → (o ≡ pure_translation o.translation) ⊎ (o ≡ pure_translation o.translation → ⊥)
    by Equal e = inl (compare_exact o (pure_translation o.translation) e)
    by Less e = inr (λ f. cc (sym e ∙ ap (compare_of o) (sym f) ∙ tied_itself compare_total o))
    by Greater e = inr (λ f. cc (sym e ∙ ap (compare_of o) (sym f) ∙ tied_itself compare_total o))

-- the pure translations of a list, each once
pub record Pure (os : List Operation) : Type 0 where
  pub translations : List Triple
  pub once : IsDistinct translations
  pub exact : (t : Triple) → IsMember t translations ↔ IsMember (pure_translation t) os
  pub no_more : length translations ≤ length os
  pub as_many : HasOnlyPureTranslations os → length translations ≡ length os

-- the pure translations of a list without repeats
pub pure_of : (os : List Operation) → IsDistinct os → Pure os
pure_of [] h = record { translations = []; once = tt; exact = λ t. ((λ m. m), (λ m. m)); no_more = omega arith; as_many = λ f. refl }
pure_of (o ∷ os) h = by (pure_or_not o) (pure_of os h.1)
  where
    longer : (m n : ℕ) → m ≤ n → m + 1 ≤ n + 1
    longer m n k = omega arith

    later : HasOnlyPureTranslations (o ∷ os) → HasOnlyPureTranslations os
    later f p m = f p (inr m)

    one_more : {X Y : Type 0} (x : X) (xs : List X) (y : Y) (ys : List Y) → length xs ≤ length ys → length (x ∷ xs) ≤ length (y ∷ ys)
    one_more x xs y ys k = omega (arith, k)

    one_longer : {X Y : Type 0} (x : X) (xs : List X) (y : Y) (ys : List Y) → length xs ≡ length ys → length (x ∷ xs) ≡ length (y ∷ ys)
    one_longer x xs y ys k = omega (arith, k)

    none_more : {X Y : Type 0} (xs : List X) (y : Y) (ys : List Y) → length xs ≤ length ys → length xs ≤ length (y ∷ ys)
    none_more xs y ys k = omega (arith, k)

    by : (o ≡ pure_translation o.translation) ⊎ (o ≡ pure_translation o.translation → ⊥) → Pure os → Pure (o ∷ os)
    by (inl e) r = record {
      translations = o.translation ∷ r.translations;
      once = ((λ m. h.0 (subst (λ (p : Operation). IsMember p os) (sym e) ((r.exact o.translation).0 m))), r.once);
      exact = λ t. (forth t, back t);
      no_more = one_more o.translation r.translations o os r.no_more;
      as_many = λ f. one_longer o.translation r.translations o os (r.as_many (later f));
    }
      where
        forth : (t : Triple) → (t ≡ o.translation) ⊎ IsMember t r.translations → (pure_translation t ≡ o) ⊎ IsMember (pure_translation t) os
        forth t (inl f) = inl (ap pure_translation f ∙ sym e)
        forth t (inr m) = inr ((r.exact t).0 m)

        back : (t : Triple) → (pure_translation t ≡ o) ⊎ IsMember (pure_translation t) os → (t ≡ o.translation) ⊎ IsMember t r.translations
        back t (inl f) = inl (ap (λ (p : Operation). p.translation) f)
        back t (inr m) = inr ((r.exact t).1 m)
    by (inr other) r = record {
      translations = r.translations;
      once = r.once;
      exact = λ t. ((λ m. inr ((r.exact t).0 m)), back t);
      no_more = none_more r.translations o os r.no_more;
      as_many = λ f. absurd (other (f o (inl refl)));
    }
      where
        back : (t : Triple) → (pure_translation t ≡ o) ⊎ IsMember (pure_translation t) os → IsMember t r.translations
        back t (inl f) = absurd (other (sym f ∙ ap (λ (p : Operation). pure_translation p.translation) f))
        back t (inr m) = (r.exact t).1 m
