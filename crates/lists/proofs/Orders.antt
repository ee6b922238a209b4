-- Lists are ordered by the first of their elements that differs.
--   exact_lists             lists tie only where their elements do
--   slice_cmp-append        lists whose first parts are of one length are compared part by part
--   then_assoc, then_equal  one comparison after another
use Rattle.std.proofs.Common.{◌≡◌, refl, sym, ap, ◌∙◌, List, [], ◌∷◌, ◌++◌, length, arith}
use Rattle.std.specs.declared.cmp.Ordering.{Ordering}
use Rattle.std.specs.declared.cmp.Ordering.TheVariants.{Less, Equal, Greater}
use Rattle.std.specs.Ordering.{ordering_then}
use Rattle.std.specs.Cmp.Lexicographic.{slice_cmp}
use Rattle.std.proofs.lemmas.Map.Lookups.{CmpEqualImpliesEq}

-- one comparison after another, of three
pub then_assoc : (a b c : Ordering) → ordering_then (ordering_then a b) c ≡ ordering_then a (ordering_then b c)
then_assoc Less b c = refl
then_assoc Equal b c = refl
then_assoc Greater b c = refl

-- and of nothing
pub then_equal : (o : Ordering) → ordering_then o Equal ≡ o
then_equal Less = refl
then_equal Equal = refl
then_equal Greater = refl

-- lists that tie are equal where their elements that tie are
pub exact_lists : {X : Type 0} {R : X → X → Ordering} → CmpEqualImpliesEq R → CmpEqualImpliesEq (slice_cmp R)
exact_lists exact [] [] e = refl
exact_lists exact [] (y ∷ ys) e = absurd (cc e)
exact_lists exact (x ∷ xs) [] e = absurd (cc e)
exact_lists {X} {R} exact (x ∷ xs) (y ∷ ys) e = by (R x y) refl e (exact_lists exact xs ys)
  where
    by : (o : Ordering) → R x y ≡ o → ordering_then o (slice_cmp R xs ys) ≡ Equal → (slice_cmp R xs ys ≡ Equal → xs ≡ ys) → x ∷ xs ≡ y ∷ ys
    by Less p h rest = absurd (cc h)
    by Equal p h rest = ap (λ z. z ∷ xs) (exact x y p) ∙ ap (λ zs. y ∷ zs) (rest h)
    by Greater p h rest = absurd (cc h)

-- lists whose first parts are of one length are compared part by part
pub slice_cmp-append : {X : Type 0} (cmp : X → X → Ordering) (xs ys zs ws : List X) → length xs ≡ length ys → slice_cmp cmp (xs ++ zs) (ys ++ ws) ≡ ordering_then (slice_cmp cmp xs ys) (slice_cmp cmp zs ws)
slice_cmp-append cmp [] [] zs ws e = refl
slice_cmp-append cmp [] (y ∷ ys) zs ws e = absurd (omega arith)
slice_cmp-append cmp (x ∷ xs) [] zs ws e = absurd (omega arith)
slice_cmp-append cmp (x ∷ xs) (y ∷ ys) zs ws e =
    ap (ordering_then (cmp x y)) (slice_cmp-append cmp xs ys zs ws (omega arith)) ∙ sym (then_assoc (cmp x y) (slice_cmp cmp xs ys) (slice_cmp cmp zs ws))
