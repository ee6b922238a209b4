use Rattle.std.proofs.Common.{◌≡◌, ◌<◌, ℕ, List, [], ◌∷◌, ◌++◌, length, map, take, subst, sym, ap, ◌∙◌, arith}
use Rattle.lists.proofs.Members.{member_at}
use Rattle.lists.proofs.Walks.{map_at}
use Rattle.crystal_spec.specs.declared.MomentKind.{MomentKind}
use Rattle.crystal_spec.specs.Crystals.{Atom, Structure}
use Rattle.crystal.specs.declared.limits.TheConstants.{MOST_ATOMS}
use Rattle.crystal.specs.Views.{atom_of}
use Rattle.crystal.specs.Cells.{IsCellAtom}
use Rattle.basis_spec.specs.Bases.{first_at_each_position, in_basis}
use Rattle.prim_cell.proofs.Making.{few_so_far, atom_rebased}
use Rattle.prim_cell.proofs.rebased.add_atoms.Goals as goal

pub atom_in_basis-requires-clause-moment : goal.atom_in_basis-requires-clause-moment
atom_in_basis-requires-clause-moment c = c.requires.moments (atom_of c.atom.result.now) (member_at c.args.cell.now.atoms c.loop-i.i (atom_of c.atom.result.now) c.atom.ensures.value)

pub put-requires-clause-atom : goal.put-requires-clause-atom
put-requires-clause-atom c =
    let s = c.args.cell.now in
    let b = atom_of c.atom_in_basis.result in
    let names = ap (λ (t : Structure). t.names) c.loop-i.invariant ∙ c.requires.names in
    let n = ap (λ (t : Structure). t.n) c.loop-i.invariant ∙ c.requires.n in
    let kind = ap (λ (t : Structure). t.kind) c.loop-i.invariant ∙ c.requires.kind in
    let value = c.atom_in_basis.ensures.value ∙ ap (λ (k : MomentKind). in_basis c.new-basis.result.modulus k c.new-basis.result.matrix (atom_of c.atom.result.now)) c.kind-kind.ensures in
    subst (λ (k : MomentKind). IsCellAtom (length c.loop-i.made.names) c.loop-i.made.n k b) (sym kind)
    (subst (λ (l : List (List ℕ)). IsCellAtom (length l) c.loop-i.made.n s.kind b) (sym names)
    (subst (λ (m : ℕ). IsCellAtom (length s.names) m s.kind b) (sym n)
    (atom_rebased s c.count-i-end.ensures.form c.new-basis.result.modulus (c.new-basis.ensures.modulus ∙ c.n.ensures) c.new-basis.result.matrix (atom_of c.atom.result.now) b c.atom.ensures.form value c.atom_in_basis.ensures.moment)))

pub put-requires-clause-fewer : goal.put-requires-clause-fewer
put-requires-clause-fewer c =
    let s = c.args.cell.now in
    let below : c.loop-i.i < length s.atoms = omega (arith, c.count-i-end.ensures.value, c.loop-i-test.true) in
    subst (λ (l : List Atom). length l < MOST_ATOMS) (sym (ap (λ (t : Structure). t.atoms) c.loop-i.invariant)) (few_so_far (in_basis s.n s.kind c.args.r.now) s.atoms c.loop-i.i below c.count-i-end.ensures.form.few)

pub loop-i-preserved : goal.loop-i-preserved
loop-i-preserved c =
    let s = c.args.cell.now in
    let i = c.loop-i.i in
    let x = atom_of c.atom.result.now in
    let f = in_basis s.n s.kind c.args.r.now in
    let value : atom_of c.atom_in_basis.result ≡ f x = c.atom_in_basis.ensures.value ∙ (λ j. in_basis ((c.new-basis.ensures.modulus ∙ c.n.ensures) j) (c.kind-kind.ensures j) (c.new-basis.ensures.matrix j) x) in
    c.in_ok-put.ensures (map f (take i s.atoms)) (ap (λ (t : Structure). t.atoms) c.loop-i.invariant)
    ∙ ap (λ (t : Structure). record t { atoms = first_at_each_position (map f (take i s.atoms) ++ atom_of c.atom_in_basis.result ∷ []) }) c.loop-i.invariant
    ∙ ap (λ (l : List Atom). record c.args.made.now { atoms = first_at_each_position l }) (ap (λ (b : Atom). map f (take i s.atoms) ++ b ∷ []) value ∙ map_at f s.atoms i x c.atom.ensures.value)
