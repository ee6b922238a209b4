use Rattle.std.proofs.Common.{◌≡◌, ◌++◌, [], ◌∷◌, ℕ, List, take, map, length, sym, ap, subst, ◌∙◌, arith}
use Rattle.std.specs.Prelude.{unsigned_abs}
use Rattle.std.proofs.Math.Seq.{take-length}
use Rattle.lists.proofs.Walks.{take_at}
use Rattle.crystal_spec.specs.Crystals.{Atom}
use Rattle.crystal.specs.Views.{atom_of}
use Rattle.standard_cell.specs.StandardCells.{AreBlocks}
use Rattle.standard_cell.specs.Frames.{origin_of}
use Rattle.standard_cell.proofs.CopyLemmas.{copies_block}
use Rattle.standard_cell.proofs.RoomLemmas.{blocks_more}
use Rattle.standard_cell.proofs.StartLemmas.{element_at}
use Rattle.standard_cell.proofs.atoms.standard_atoms.Goals as goal

pub copies_of-requires-clause-i : goal.copies_of-requires-clause-i
copies_of-requires-clause-i c = omega (arith, c.count-i-end.ensures.value, c.loop-i-test.true)

pub loop-i-preserved : goal.loop-i-preserved
loop-i-preserved c =
    let f = c.args.frame.now in
    let s = c.args.cell.now in
    let i = c.loop-i.i in
    let m = unsigned_abs c.args.units.now.n in
    let x = element_at s.atoms i (omega (arith, c.count-i-end.ensures.value, c.loop-i-test.true)) in
    let added = c.in_ok-add_copies.ensures in
    let block = copies_block s f c.copies_of.result x.atom m c.requires.frame c.copies_of.ensures.copies (c.copies_of.ensures.of_atom x.atom x.is) added.block added.sweep in
    subst (λ (l : List Atom). AreBlocks s f.turn (origin_of f) m l (map atom_of c.add_copies.new.made.items)) (take_at s.atoms i x.atom x.is)
    (subst (λ (l : List Atom). AreBlocks s f.turn (origin_of f) m (take i s.atoms ++ x.atom ∷ []) l) (sym added.is)
    (blocks_more s f.turn (origin_of f) m (take i s.atoms) x.atom (map atom_of c.loop-i.made.items) added.block c.loop-i.invariant block))

pub returns : goal.returns
returns c =
    let s = c.args.cell.now in
    let ended : c.loop-i.i ≡ length s.atoms = omega (arith, c.count-i-end.ensures.value) in
    subst (λ (l : List Atom). AreBlocks s c.args.frame.now.turn (origin_of c.args.frame.now) (unsigned_abs c.args.units.now.n) l (map atom_of c.loop-i.made.items)) (ap (λ (k : ℕ). take k s.atoms) ended ∙ take-length s.atoms) c.loop-i.invariant
