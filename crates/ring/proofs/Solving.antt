-- An identity by computation: two expressions that come to one polynomial have one value.
--   by_ring        where the laws hold among all elements
--   by_ring_on     where they hold among some, to which the values of the variables belong
--   solve_from     an identity that follows from an equation
--   add_opp, opp_in, add_cancel    opposites, and a summand that cancels
--
-- Define each side once over `Ops R`. At `quoted` it is an expression, and the value of that expression is, by
-- computation, the side at the ring's own operations; so `by_ring o L xs s t refl`, with xs the values of the variables,
-- is the identity, and no bridging lemma is needed.
use Rattle.std.proofs.Common.{◌≡◌, ℕ, zero, suc, ℤ, pos, negsuc, List, [], ◌∷◌, refl, sym, ◌∙◌, ap, subst}
use Rattle.ring.specs.Ring.{Ops, Expr, var, con, sum, product, opposite, norm, eval, env_of}
use Rattle.ring.proofs.RingSound.{Laws, LawsOn, solve, solve_on}

-- P holds for each of a list
abbrev pub AllIn : {R : Type 0} → (R → Type 0) → List R → Type 0
AllIn P [] = Unit {0}
AllIn P (x ∷ xs) = P x × AllIn P xs

-- P holds for the value of each variable
env_in : {R : Type 0} (P : R → Type 0) (d : R) (xs : List R) → P d → AllIn P xs → (i : ℕ) → P (env_of d xs i)
env_in P d [] p ps i = p
env_in P d (x ∷ xs) p ps zero = ps.0
env_in P d (x ∷ xs) p ps (suc i) = env_in P d xs p ps.1 i

-- where the laws hold among some elements
module _ {R : Type 0} (o : Ops R) (P : R → Type 0) (L : LawsOn o P) where
  open o use {int}

  -- expressions that come to one polynomial have one value, where the variables' values belong to P
  pub by_ring_on : (xs : List R) → AllIn P xs → (s t : Expr) → norm s ≡ norm t → eval o (env_of (int (pos 0)) xs) s ≡ eval o (env_of (int (pos 0)) xs) t
  by_ring_on xs ps s t h = solve_on o P L (env_of (int (pos 0)) xs) (env_in P (int (pos 0)) xs (L.int_in (pos 0)) ps) s t h

  -- the opposite belongs to P too
  pub opp_in : (x : R) → P x → P (o.opp x)
  opp_in x p = subst P (sym (L.opp_is x p)) (L.mul_in (int (negsuc 0)) x (L.int_in (negsuc 0)) p)

  -- an element and its opposite come to zero
  pub add_opp_on : (x : R) → P x → o.◌⊕◌ x (o.opp x) ≡ int (pos 0)
  add_opp_on x p =
      by_ring_on (x ∷ []) (p, tt) (sum (var 0) (opposite (var 0))) (con (pos 0)) refl

-- where they hold among all
module _ {R : Type 0} (o : Ops R) (L : Laws o) where
  open o use {◌⊕◌, ◌⊗◌, opp, int}

  -- the values of the variables, in order
  abbrev pub at : List R → ℕ → R
  at xs = env_of (int (pos 0)) xs

  -- expressions that come to one polynomial have one value
  pub by_ring : (xs : List R) (s t : Expr) → norm s ≡ norm t → eval o (at xs) s ≡ eval o (at xs) t
  by_ring xs = solve o L (at xs)

  -- an element and its opposite come to zero
  pub add_opp : (x : R) → x ⊕ opp x ≡ int (pos 0)
  add_opp x = solve o L (λ _. x) (sum (var 0) (opposite (var 0))) (con (pos 0)) refl

  -- a common summand cancels
  pub add_cancel : (x y z : R) → x ⊕ z ≡ y ⊕ z → x ≡ y
  add_cancel x y z h =
      undo x ∙ ap (λ w. w ⊕ opp z) h ∙ sym (undo y)
    where
      undo : (w : R) → w ≡ (w ⊕ z) ⊕ opp z
      undo w = solve o L (elim [ zero ↦ w | suc n ↦ z ]) (var 0) (sum (sum (var 0) (var 1)) (opposite (var 1))) refl

  -- s ≡ t from l ≡ r, where s + q r and t + q l come to one polynomial
  pub solve_from : (env : ℕ → R) (s t q l r : Expr) → eval o env l ≡ eval o env r → norm (sum s (product q r)) ≡ norm (sum t (product q l)) → eval o env s ≡ eval o env t
  solve_from env s t q l r e h =
      add_cancel (eval o env s) (eval o env t) (eval o env q ⊗ eval o env r) (solve o L env (sum s (product q r)) (sum t (product q l)) h ∙ ap (λ w. eval o env t ⊕ eval o env q ⊗ w) e)
