-- Orbit and stabilizer: the size of an orbit times the number of members that leave the position is the number of members.
--
-- For each atom of the orbit one member is fixed that carries the position to it. A member of the site-symmetry group and
-- after it such a member give a member of the group; each is given once so. For two of these that give the same carry the
-- position to the same atom, so they are the same, and may be undone; and any member carries the position to an atom of the
-- orbit, so with the inverse of the member that was fixed for that atom after it, it leaves the position.
use Rattle.std.proofs.Common.{◌≡◌, refl, sym, ap, subst, ◌∙◌, ◌⊎◌, inl, inr, ℕ, suc, ◌*◌, ◌≤◌, List, [], ◌∷◌, length, arith}
use Rattle.lists.specs.Increasing.{IsMember, IsDistinct}
use Rattle.lists.proofs.Increasing.{increasing_distinct}
use Rattle.lists.proofs.Counting.{length_le}
use Rattle.lists.proofs.Pairs.{pairs, pair_of, pair_member, pairs_length, OneToOne, pairs_distinct}
use Rattle.crystal_spec.specs.Matrices.{Triple}
use Rattle.crystal_spec.specs.Crystals.{Atom, Structure, Occupied, position_after}
use Rattle.crystal_spec.specs.Operations.{Operation, compare_of, ListsAll}
use Rattle.crystal_spec.specs.Cells.{DiffersByCells, HasOneAtomEach}
use Rattle.crystal_spec.proofs.Ordered.{compare_total}
use Rattle.basis_spec.proofs.PrimitiveCell.{differs_sym, differs_trans, differs_itself}
use Rattle.op_group.specs.Composition.{identity_operation, IsComposed, IsInverseModulo}
use Rattle.op_group.specs.Groups.{IsGroupModulo}
use Rattle.op_group.proofs.Composing.{composed_once, composed_associates, identity_next}
use Rattle.op_group.proofs.GroupLaws.{composed_member, composition, composition_is}
use Rattle.site_orbits.specs.Orbits.{Carries, IsAlike, IsFixedBy, ListsSite, CountsOrbit}
use Rattle.site_orbits.proofs.CarriedPositions.{carries_as}
use Rattle.site_orbits.proofs.Equivalence.{carries_composed, carries_back}

-- ---- one member for each atom
-- where an operation carries a position to two positions, these differ by whole cells
carried_once : {n : ℕ} (o : Operation) (p : Triple) {q u : Triple} → Carries n o p q → Carries n o p u → DiffersByCells n q u
carried_once o p f g = differs_trans (differs_sym f) g

record Reached (n : ℕ) (o : Operation) (p : Triple) (atoms : List Atom) : Type 0 where
  atom : Atom
  of_list : IsMember atom atoms
  carries : Carries n o p atom.position

record Chosen (n : ℕ) (list : List Operation) (p : Triple) (a : Atom) : Type 0 where
  operation : Operation
  of_list : IsMember operation list
  carries : Carries n operation p a.position

record Choice (n : ℕ) (os : List Operation) (p : Triple) (atoms : List Atom) : Type 0 where
  list : List Operation
  once : IsDistinct list
  same_length : length list ≡ length atoms
  members : (o : Operation) → IsMember o list → IsMember o os
  reaches : (o : Operation) → IsMember o list → Reached n o p atoms
  chosen : (a : Atom) → IsMember a atoms → Chosen n list p a
  one : (a b : Operation) (q : Triple) → IsMember a list → IsMember b list → Carries n a p q → Carries n b p q → a ≡ b

-- no two atoms are at one position, but for whole cells
abbrev IsApart : ℕ → List Atom → Type 0
IsApart n atoms = (a b : Atom) → IsMember a atoms → IsMember b atoms → DiffersByCells n a.position b.position → a ≡ b

choice_more : (n : ℕ) (os : List Operation) (p : Triple) (x : Atom) (atoms : List Atom) → (IsMember x atoms → ⊥) → IsApart n (x ∷ atoms) → IsAlike n os p x.position → Choice n os p atoms → Choice n os p (x ∷ atoms)
choice_more n os p x atoms fresh apart to_x rest = record {
  list = first ∷ rest.list;
  once = (new, rest.once);
  same_length = ap suc rest.same_length;
  members = members;
  reaches = reaches;
  chosen = chosen;
  one = one;
}
  where
    first : Operation
    first = to_x.operation

    -- a later one does not carry p to where the first does
    other : (b : Operation) (q : Triple) → IsMember b rest.list → Carries n first p q → Carries n b p q → ⊥
    other b q m f g =
        let r = rest.reaches b m in
        let e : x ≡ r.atom = apart x r.atom (inl refl) (inr r.of_list) (differs_trans (carried_once first p to_x.carries f) (carried_once b p g r.carries)) in
        fresh (subst (λ (a : Atom). IsMember a atoms) (sym e) r.of_list)

    new : IsMember first rest.list → ⊥
    new m = other first x.position m to_x.carries to_x.carries

    members : (o : Operation) → (o ≡ first) ⊎ IsMember o rest.list → IsMember o os
    members o (inl e) = subst (λ (a : Operation). IsMember a os) (sym e) to_x.of_list
    members o (inr m) = rest.members o m

    reaches : (o : Operation) → (o ≡ first) ⊎ IsMember o rest.list → Reached n o p (x ∷ atoms)
    reaches o (inl e) = record { atom = x; of_list = inl refl; carries = subst (λ (a : Operation). Carries n a p x.position) (sym e) to_x.carries }
    reaches o (inr m) = let r = rest.reaches o m in record { atom = r.atom; of_list = inr r.of_list; carries = r.carries }

    chosen : (a : Atom) → (a ≡ x) ⊎ IsMember a atoms → Chosen n (first ∷ rest.list) p a
    chosen a (inl e) = record { operation = first; of_list = inl refl; carries = subst (λ (b : Atom). Carries n first p b.position) (sym e) to_x.carries }
    chosen a (inr m) = let r = rest.chosen a m in record { operation = r.operation; of_list = inr r.of_list; carries = r.carries }

    one : (a b : Operation) (q : Triple) → (a ≡ first) ⊎ IsMember a rest.list → (b ≡ first) ⊎ IsMember b rest.list → Carries n a p q → Carries n b p q → a ≡ b
    one a b q (inl e) (inl e') f g = e ∙ sym e'
    one a b q (inl e) (inr k) f g = absurd (other b q k (subst (λ (o : Operation). Carries n o p q) e f) g)
    one a b q (inr m) (inl e) f g = absurd (other a q m (subst (λ (o : Operation). Carries n o p q) e g) f)
    one a b q (inr m) (inr k) f g = rest.one a b q m k f g

choice : (n : ℕ) (os : List Operation) (p : Triple) (atoms : List Atom) → IsDistinct atoms → IsApart n atoms → ((a : Atom) → IsMember a atoms → IsAlike n os p a.position) → Choice n os p atoms
choice n os p [] d apart alike = record { list = []; once = tt; same_length = refl; members = λ o m. absurd m; reaches = λ o m. absurd m; chosen = λ a m. absurd m; one = λ a b q m k f g. absurd m }
choice n os p (x ∷ atoms) d apart alike =
    choice_more n os p x atoms d.0 apart (alike x (inl refl)) (choice n os p atoms d.1 (λ a b m k e. apart a b (inr m) (inr k) e) (λ a m. alike a (inr m)))

-- ---- the count
module _ (n : ℕ) (os : List Operation) (p : Triple) (at_least : 1 ≤ n) (g : IsGroupModulo n os) (site : List Operation) (exact : (o : Operation) → IsMember o site → IsFixedBy n os p o) (every : (o : Operation) → IsFixedBy n os p o → IsMember o site) where
  -- first s and after it a
  both : Operation → Operation → Operation
  both a s = composition n s a

  both_is : (a s : Operation) → IsComposed n s a (both a s)
  unfolding both
  both_is a s = composition_is n s a at_least

  both_member : (a s : Operation) → IsMember a os → IsMember s os → IsMember (both a s) os
  both_member a s m k = composed_member n os g s a (both a s) k m (both_is a s)

  -- what undoes a, after both, leaves s
  undone : (a b s : Operation) → IsMember s os → IsInverseModulo n a b → s ≡ both b (both a s)
  undone a b s m i =
      composed_once n s identity_operation s (both b (both a s)) (identity_next n s (g.within_cell s m))
      (composed_associates n s a b (both a s) identity_operation (both b (both a s)) (both_is a s) i.after (both_is b (both a s)))

  -- s leaves p, so both carry p to where a carries it
  both_carry : (a s : Operation) (q : Triple) → IsMember s site → Carries n a p q → Carries n (both a s) p q
  both_carry a s q m f = carries_composed s a (both a s) p (both_is a s) (exact s m).1 f

  module _ (atoms : List Atom) (k : Choice n os p atoms) (reached : (o : Operation) → IsMember o os → Reached n o p atoms) where
    where_to : Operation → Triple
    where_to a = position_after a.matrix a.translation p

    itself : (a : Operation) → Carries n a p (where_to a)
    unfolding where_to
    itself a = differs_itself n (where_to a)

    one_to_one : OneToOne both k.list site
    one_to_one = record {
      left = λ a b s t ma mb ms mt e.
          let f = both_carry a s (where_to a) ms (itself a) in
          let h = both_carry b t (where_to b) mt (itself b) in
          let same = carried_once (both b t) p h (subst (λ (o : Operation). Carries n o p (where_to a)) e f) in
          k.one a b (where_to a) ma mb (itself a) (carries_as b (differs_itself n p) same (itself b));
      right = λ a s t ma ms mt e.
          let i = g.inverses a (k.members a ma) in
          undone a i.0 s (exact s ms).0 i.1.1 ∙ ap (both i.0) e ∙ sym (undone a i.0 t (exact t mt).0 i.1.1);
    }

    -- each member is given
    given : (o : Operation) → IsMember o os → IsMember o (pairs both k.list site)
    given o m =
        let r = reached o m in
        let a = k.chosen r.atom r.of_list in
        let i = g.inverses a.operation (k.members a.operation a.of_list) in
        let b = i.0 in
        let s = both b o in
        let fixed : IsFixedBy n os p s = (both_member b o i.1.0 m, carries_composed o b s p (both_is b o) r.carries (carries_back a.operation b i.1.1.after a.carries)) in
        let is : o ≡ both a.operation s = composed_once n o identity_operation o (both a.operation s) (identity_next n o (g.within_cell o m))
        (composed_associates n o b a.operation s identity_operation (both a.operation s) (both_is b o) i.1.1.before (both_is a.operation s)) in
        subst (λ (x : Operation). IsMember x (pairs both k.list site)) (sym is) (pair_member both a.operation s k.list site a.of_list (every s fixed))

    -- and nothing else
    of_group : (o : Operation) → IsMember o (pairs both k.list site) → IsMember o os
    of_group o m =
        let r = pair_of both k.list site o m in
        subst (λ (x : Operation). IsMember x os) (sym r.is) (both_member r.left r.right (k.members r.left r.of_left) (exact r.right r.of_right).0)

    counted : IsDistinct os → IsDistinct site → length atoms * length site ≡ length os
    counted d e =
        let up = length_le os (pairs both k.list site) d given in
        let down = length_le (pairs both k.list site) os (pairs_distinct both k.list site k.once e one_to_one) of_group in
        let l = pairs_length both k.list site ∙ ap (λ (i : ℕ). i * length site) k.same_length in
        omega (arith, up, down, l)

-- the size of the orbit of an occupied position times the count of its site-symmetry group is the count of the group
pub orbit_stabilizer : (c : Structure) (os : List Operation) (s : ℕ) (p m : Triple) (k : ℕ) (site : List Operation) → 1 ≤ c.n → HasOneAtomEach c → ListsAll c os → IsGroupModulo c.n os →
    Occupied c s p m → CountsOrbit c os p k → ListsSite c.n os p site → k * length site ≡ length os
orbit_stabilizer c os s p m k site at_least one all g occupied orbit fixed =
    ap (λ (i : ℕ). i * length site) orbit.is ∙ counted c.n os p at_least g site (λ o. (fixed.exact o).0) (λ o. (fixed.exact o).1) orbit.atoms chosen reached
    (increasing_distinct compare_of compare_total os all.increasing) (increasing_distinct compare_of compare_total site fixed.increasing)
  where
    chosen : Choice c.n os p orbit.atoms
    chosen = choice c.n os p orbit.atoms orbit.once (λ a b ma mb e. one a b ((orbit.exact a).0 ma).0 ((orbit.exact b).0 mb).0 e) (λ a ma. ((orbit.exact a).0 ma).1)

    reached : (o : Operation) → IsMember o os → Reached c.n o p orbit.atoms
    reached o mo =
        let to = (((all.exact o).0 mo).keeps.crystal s p m).0 occupied in
        let carries : Carries c.n o p to.atom.position = record { cells = to.cells; is = to.same_position } in
        record { atom = to.atom; of_list = (orbit.exact to.atom).1 (to.of_cell, record { operation = o; of_list = mo; carries = carries }); carries = carries }
