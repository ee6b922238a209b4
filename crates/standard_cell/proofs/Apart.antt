-- No two atoms of the standard cell are at one position, so that they can be put into a cell one after the other.
use Rattle.std.proofs.Common.{◌≡◌, ℕ, ℤ, pos, ◌<ℤ◌, List, [], ◌∷◌, ◌++◌, inl, inr, refl, sym, ◌∙◌, ap, subst}
use Rattle.std.specs.declared.cmp.Ordering.TheVariants.{Equal}
use Rattle.std.specs.Ordering.{int_cmp}
use Rattle.std.specs.Cmp.Lexicographic.{slice_cmp}
use Rattle.std.proofs.lemmas.Cmp.{tied_itself}
use Rattle.lists.specs.Increasing.{IsBelowAll, IsIncreasing, IsMember}
use Rattle.matrix3.specs.Matrices.{coordinates}
use Rattle.crystal_spec.specs.Matrices.{Triple, Matrix, multiple, sum_of, difference}
use Rattle.crystal_spec.specs.Crystals.{Atom, Structure}
use Rattle.crystal_spec.proofs.Identities.{by_triples}
use Rattle.ring.specs.Ring.{var, quoted}
use Rattle.matrix3.specs.Matrices as formulas
use Rattle.matrix3.specs.Matrices.{vector_of_variables}
use Rattle.crystal_spec.specs.Cells.{HasOneAtomEach}
use Rattle.crystal.specs.Occupants.{NoneAt}
use Rattle.crystal.specs.Cells.{AreApart}
use Rattle.crystal.proofs.CellLemmas.{none_member}
use Rattle.match_spec.specs.Points.{Point, IsPoint}
use Rattle.standard_cell.specs.StandardCells.{compare_places, IsAtomOf, AreBlocks, IsStandard}
use Rattle.standard_cell.proofs.Links.{IsLink, link_once}
use Rattle.standard_cell.proofs.Blocks.{block_of}
use Rattle.standard_cell.proofs.Unique.{places_total}

same_place : (x y : Atom) → y.position ≡ x.position → compare_places x y ≡ Equal
unfolding compare_places
same_place x y e = ap (λ (v : Triple). slice_cmp int_cmp (coordinates x.position) (coordinates v)) e ∙ tied_itself places_total x

none_above : (x : Atom) (ys : List Atom) → IsBelowAll compare_places x ys → NoneAt x.position ys
none_above x [] h = tt
none_above x (y ∷ ys) h = ((λ e. cc (sym h.0 ∙ same_place x y e)), none_above x ys h.1)

-- the atoms of one block are apart
increasing_apart : (xs : List Atom) → IsIncreasing compare_places xs → AreApart xs
increasing_apart [] h = tt
increasing_apart (x ∷ xs) h = (none_above x xs h.0, increasing_apart xs h.1)

none_by : (p : Triple) (ys : List Atom) → ((y : Atom) → IsMember y ys → y.position ≡ p → ⊥) → NoneAt p ys
none_by p [] h = tt
none_by p (y ∷ ys) h = (h y (inl refl), none_by p ys (λ z m. h z (inr m)))

none_both : (p : Triple) (xs ys : List Atom) → NoneAt p xs → NoneAt p ys → NoneAt p (xs ++ ys)
none_both p [] ys h k = k
none_both p (x ∷ xs) ys h k = (h.0, none_both p xs ys h.1 k)

apart_both : (xs ys : List Atom) → AreApart xs → AreApart ys → ((x y : Atom) → IsMember x xs → IsMember y ys → y.position ≡ x.position → ⊥) → AreApart (xs ++ ys)
apart_both [] ys h k far = k
apart_both (x ∷ xs) ys h k far = (none_both x.position xs ys h.0 (none_by x.position ys (λ y m. far x y (inl refl) m)), apart_both xs ys h.1 k (λ z y m n. far z y (inr m) n))

module _ (c : Structure) (q : Matrix) (p : Point) (m : ℕ) (positive : pos 0 <ℤ pos m) (is_p : IsPoint p) (one_each : HasOneAtomEach c) where
  -- atoms at one place belong to one atom
  one_source : (a b x y : Atom) → IsMember a c.atoms → IsMember b c.atoms → IsAtomOf c q p m a x → IsAtomOf c q p m b y → y.position ≡ x.position → a ≡ b
  one_source a b x y of_a of_b h k e =
      let same = link_once q p.numerators p.denominator (pos c.n) (pos m) x.position h.place.position k.place.position positive is_p.positive h.place.is.is
      (subst (λ v. IsLink q p.numerators p.denominator (pos c.n) (pos m) v k.place.position) e k.place.is.is) in
      one_each a b of_a of_b (record { cells = difference k.place.away.cells h.place.away.cells; is = apart (pos c.n) a.position b.position h.place.away.cells k.place.away.cells (sym h.place.away.is ∙ same ∙ k.place.away.is) })
    where
      apart : (n : ℤ) (a b k l : Triple) → sum_of a (multiple n k) ≡ sum_of b (multiple n l) → a ≡ sum_of b (multiple n (difference l k))
      apart n a b k l e =
          by_triples (n ∷ coordinates a ++ coordinates k) (vector_of_variables 1) (formulas.difference quoted (formulas.sum_of quoted (vector_of_variables 1) (formulas.multiple quoted (var 0) (vector_of_variables 4))) (formulas.multiple quoted (var 0) (vector_of_variables 4))) refl
          ∙ ap (λ v. difference v (multiple n k)) e
          ∙ by_triples (n ∷ coordinates b ++ coordinates l ++ coordinates k) (formulas.difference quoted (formulas.sum_of quoted (vector_of_variables 1) (formulas.multiple quoted (var 0) (vector_of_variables 4))) (formulas.multiple quoted (var 0) (vector_of_variables 7))) (formulas.sum_of quoted (vector_of_variables 1) (formulas.multiple quoted (var 0) (formulas.difference quoted (vector_of_variables 4) (vector_of_variables 7)))) refl

  blocks_apart : (atoms copies : List Atom) → AreApart atoms → ((a : Atom) → IsMember a atoms → IsMember a c.atoms) → AreBlocks c q p m atoms copies → AreApart copies
  blocks_apart [] copies h part is = subst AreApart (sym is) tt
  blocks_apart (a ∷ atoms) copies h part (block, (rest, (is, (one, more)))) =
      subst AreApart (sym is) (apart_both block rest (increasing_apart block one.increasing) (blocks_apart atoms rest h.1 (λ b k. part b (inr k)) more)
      (λ x y i j e. let r = block_of c q p m atoms rest more y j in
      none_member a.position atoms r.source h.0 r.of_cell (ap (λ (s : Atom). s.position) (sym (one_source a r.source x y (part a (inl refl)) (part r.source (inr r.of_cell)) ((one.exact x).0 i) r.atom e)))))

-- no two atoms of the standard cell are at one position
pub standard_apart : (c s : Structure) (q : Matrix) (p : Point) → IsStandard c q p s → IsPoint p → HasOneAtomEach c → AreApart c.atoms → AreApart s.atoms
standard_apart c s q p st is_p one_each h = blocks_apart c q p s.n st.n.positive is_p one_each c.atoms s.atoms h (λ a k. k) st.atoms
