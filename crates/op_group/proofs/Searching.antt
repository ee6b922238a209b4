-- A fact of each operation of a list, found by one pass over it.
use Rattle.std.proofs.Common.{sym, subst, ◌⊎◌, inl, inr, List, [], ◌∷◌}
use Rattle.lists.specs.Increasing.{IsMember}
use Rattle.crystal_spec.specs.Operations.{Operation}

-- where it holds for those that are not still to come, and for the next one
pub holds_more : (P : Operation → Type 0) (x o : Operation) (rest : List Operation) → P x → IsMember o (x ∷ rest) ⊎ P o → IsMember o rest ⊎ P o
holds_more P x o rest h (inl (inl e)) = inr (subst P (sym e) h)
holds_more P x o rest h (inl (inr m)) = inl m
holds_more P x o rest h (inr k) = inr k

-- where none is still to come
pub holds_for_all : (P : Operation → Type 0) (o : Operation) → IsMember o [] ⊎ P o → P o
holds_for_all P o (inl m) = absurd m
holds_for_all P o (inr k) = k
