use Rattle.std.proofs.Common.{◌<◌, ℕ, List, length, subst, sym, ap, ◌∙◌, arith}
use Rattle.crystal_spec.specs.declared.MomentKind.{MomentKind}
use Rattle.crystal_spec.specs.Crystals.{Structure}
use Rattle.crystal.specs.Views.{atom_of}
use Rattle.positions.specs.Positions.{triple_of}
use Rattle.crystal.specs.Cells.{IsCellAtom}
use Rattle.moment_space.proofs.Replacing.{few_so_far, free_so_far, replaced_more}
use Rattle.moment_space.proofs.filled.add_atoms.Goals as goal

pub add-requires-clause-atom : goal.add-requires-clause-atom
add-requires-clause-atom c =
    let s = c.args.cell.now in
    let b = atom_of c.replaced.result in
    let names = ap (λ (t : Structure). t.names) c.loop-i.invariant.rest ∙ c.requires.names in
    let n = ap (λ (t : Structure). t.n) c.loop-i.invariant.rest ∙ c.requires.n in
    let kind = ap (λ (t : Structure). t.kind) c.loop-i.invariant.rest ∙ c.requires.kind in
    subst (λ (k : MomentKind). IsCellAtom (length c.loop-i.made.names) c.loop-i.made.n k b) (sym kind)
    (subst (λ (l : List (List ℕ)). IsCellAtom (length l) c.loop-i.made.n s.kind b) (sym names)
    (subst (λ (m : ℕ). IsCellAtom (length s.names) m s.kind b) (sym n) c.replaced.ensures.atom))

pub add-requires-clause-free : goal.add-requires-clause-free
add-requires-clause-free c =
    let r = c.replaced.ensures.value in
    free_so_far c.args.cell.now.kind c.args.list.now.n c.args.list.now.operations (triple_of c.args.from) c.args.m.now c.args.cell.now.atoms c.loop-i.i r.atom c.loop-i.made.atoms (triple_of c.replaced.result.place)
    c.count-i-end.ensures.form.apart r.is_atom r.replaced.same_position c.loop-i.invariant.atoms

pub add-requires-clause-fewer : goal.add-requires-clause-fewer
add-requires-clause-fewer c =
    let s = c.args.cell.now in
    let below : c.loop-i.i < length s.atoms = omega (arith, c.count-i-end.ensures.value, c.loop-i-test.true) in
    let fewer = few_so_far s.kind c.args.list.now.n c.args.list.now.operations (triple_of c.args.from) c.args.m.now s.atoms c.loop-i.i c.loop-i.made.atoms c.loop-i.invariant.atoms below in
    omega (arith, fewer, c.count-i-end.ensures.form.few)

pub loop-i-preserved : goal.loop-i-preserved
loop-i-preserved c =
    replaced_more c.args.cell.now.kind c.args.list.now.n c.args.list.now.operations (triple_of c.args.from) c.args.m.now c.args.cell.now.atoms c.loop-i.i (atom_of c.replaced.result) c.replaced.ensures.value c.loop-i.invariant c.in_ok-add.ensures.value
