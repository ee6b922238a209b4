-- Matrices compared entry by entry.
use Rattle.std.proofs.Common.{◌≡◌, refl, ap, Bool, true, false, ◌&&◌, ℤ}
use Rattle.std.specs.Ordering.{int_eq}
use Rattle.std.proofs.lemmas.Bool.Decides.{Decides-int_eq}
use Rattle.crystal_spec.specs.Matrices.{Matrix}
use Rattle.crystal_spec.proofs.Entrywise.{matrix_same}

-- the test of all nine entries
abbrev pub same_entries : Matrix → Matrix → Bool
same_entries a b =
    int_eq a.a11 b.a11 && (int_eq a.a12 b.a12 && (int_eq a.a13 b.a13 && (int_eq a.a21 b.a21 && (int_eq a.a22 b.a22 && (int_eq a.a23 b.a23 && (int_eq a.a31 b.a31 && (int_eq a.a32 b.a32 && int_eq a.a33 b.a33)))))))

both_true : (s t : Bool) → (s && t) ≡ true → (s ≡ true) × (t ≡ true)
both_true true true h = (refl, refl)
both_true true false h = absurd (cc h)
both_true false t h = absurd (cc h)

both : (s t : Bool) → s ≡ true → t ≡ true → (s && t) ≡ true
both s t h k = (λ i. h i && k i)

number_same : (x y : ℤ) → int_eq x y ≡ true → x ≡ y
number_same x y h = (Decides-int_eq x y).0 h

same_number : (x y : ℤ) → x ≡ y → int_eq x y ≡ true
same_number x y h = (Decides-int_eq x y).1 h

pub entries_same : (a b : Matrix) → same_entries a b ≡ true → a ≡ b
entries_same a b h =
    let h11 = both_true _ _ h in
    let h12 = both_true _ _ h11.1 in
    let h13 = both_true _ _ h12.1 in
    let h21 = both_true _ _ h13.1 in
    let h22 = both_true _ _ h21.1 in
    let h23 = both_true _ _ h22.1 in
    let h31 = both_true _ _ h23.1 in
    let h32 = both_true _ _ h31.1 in
    matrix_same (number_same _ _ h11.0) (number_same _ _ h12.0) (number_same _ _ h13.0) (number_same _ _ h21.0) (number_same _ _ h22.0) (number_same _ _ h23.0) (number_same _ _ h31.0) (number_same _ _ h32.0) (number_same _ _ h32.1)

pub same_entries_of : (a b : Matrix) → a ≡ b → same_entries a b ≡ true
same_entries_of a b e = both _ _ (n (λ m. m.a11)) (both _ _ (n (λ m. m.a12)) (both _ _ (n (λ m. m.a13)) (both _ _ (n (λ m. m.a21)) (both _ _ (n (λ m. m.a22)) (both _ _ (n (λ m. m.a23)) (both _ _ (n (λ m. m.a31)) (both _ _ (n (λ m. m.a32)) (n (λ m. m.a33)))))))))
  where
    n : (f : Matrix → ℤ) → int_eq (f a) (f b) ≡ true
    n f = same_number (f a) (f b) (ap f e)
