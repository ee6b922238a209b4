-- Positions as lists of three numbers and as triples.
use Rattle.std.proofs.Common.{◌≡◌, ap, ℕ, List, [], ◌∷◌, length, arith, map}
use Rattle.std.specs.Prelude.{pos, slice_index_or, slice_get, Some, ◌<◌, zero, suc}
use Rattle.crystal_spec.specs.Matrices.{Triple}
use Rattle.positions.specs.Positions.{triple_of}

-- three numbers are told by their triple
pub same_list : (p q : List ℕ) → length p ≡ 3 → length q ≡ 3 → triple_of p ≡ triple_of q → p ≡ q
same_list (a ∷ b ∷ c ∷ []) (d ∷ e ∷ f ∷ []) h k t =
    let x : pos a ≡ pos d = ap (λ (v : Triple). v.x) t in
    let y : pos b ≡ pos e = ap (λ (v : Triple). v.y) t in
    let z : pos c ≡ pos f = ap (λ (v : Triple). v.z) t in
    cc
same_list p q h k t = absurd (omega arith)

-- the element at i of a list that is mapped
pub slice_get-map : {X Y : Type 0} (f : X → Y) (xs : List X) (i : ℕ) (x : X) → i < length xs → slice_index_or xs i x ≡ x → slice_get (map f xs) i ≡ Some (f x)
slice_get-map f [] i x h e = absurd (omega arith)
slice_get-map f (y ∷ ys) zero x h e = ap (λ z. Some (f z)) e
slice_get-map f (y ∷ ys) (suc i) x h e = slice_get-map f ys i x (omega arith) e
