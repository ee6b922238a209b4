use Rattle.std.proofs.Common.{◌≡◌, ◌≤◌, ◌*◌, ℕ, zero, suc, ℤ, pos, negsuc, ◌≤ℤ◌, ◌<ℤ◌, true, List, map, length, sym, ap, subst, ◌∙◌, arith}
use Rattle.std.specs.Prelude.{unsigned_abs, slice_get, Some}
use Rattle.std.proofs.lemmas.Int.{ints}
use Rattle.crystal_spec.specs.Matrices.{determinant}
use Rattle.crystal_spec.specs.Moments.{divisor}
use Rattle.crystal_spec.specs.Crystals.{Atom}
use Rattle.crystal_spec.proofs.Moments.{divisor-positive}
use Rattle.crystal.specs.declared.limits.TheConstants.{MOST_ATOMS}
use Rattle.crystal.specs.declared.atom.Atom.{Atom as CodeAtom}
use Rattle.crystal.specs.Views.{atom_of}
use Rattle.crystal.specs.Cells.{AreApart, AreCellAtoms}
use Rattle.standard_cell.specs.StandardCells.{AreBlocks, IsStandard, IsWithinLimits}
use Rattle.standard_cell.specs.Frames.{origin_of}
use Rattle.standard_cell.specs.Rooms.{HasRoom}
use Rattle.standard_cell.proofs.Apart.{standard_apart}
use Rattle.standard_cell.proofs.CopyLemmas.{determinant_above, origin_is_point}
use Rattle.standard_cell.proofs.RoomLemmas.{n_positive, cell_with, standard_with, limits_of_room, room_of_limits, metric_positive, atoms_fit, first_species, some_atoms}
use Rattle.standard_cell.proofs.new_cell.cell_in_frame.Goals as goal

at_least : (z : ℤ) → pos 0 <ℤ z → pos 1 ≤ℤ z
at_least z h = omega (arith, ints)

size : (z : ℤ) → pos 0 <ℤ z → pos 0 <ℤ pos (unsigned_abs z)
size (pos n) h = h
size (negsuc n) h = absurd h.lt

product : (k a b : ℕ) → k ≡ a * b → pos 0 <ℤ pos a → 1 ≤ b → 1 ≤ k
product k (suc a) (suc b) e h l = omega (arith, e)
product k zero b e h l = absurd (omega (arith, ints, h))
product k (suc a) zero e h l = absurd (omega (arith, l))

pub returns-then-not-has_room-clause-too_wide : goal.returns-then-not-has_room-clause-too_wide
returns-then-not-has_room-clause-too_wide c s st fits =
    let f = c.args.frame.now in
    let room = room_of_limits c.args.cell.now f.turn (origin_of f) c.units_of-units.result c.invariant.ensures.form (determinant_above f c.requires.frame) (origin_is_point f c.requires.frame) c.units_of-units.ensures s st fits in
    let yes : c.has_room.result ≡ true = c.has_room.ensures.1 room in
    cc (yes, c.if-not-has_room.true)

pub standard_atoms-requires-clause-few : goal.standard_atoms-requires-clause-few
standard_atoms-requires-clause-few c = (c.has_room.ensures.0 c.if-not-has_room.false).n

pub cell_of-requires-clause-n_at_least : goal.cell_of-requires-clause-n_at_least
cell_of-requires-clause-n_at_least c =
    let f = c.args.frame.now in
    let s = c.args.cell.now in
    let u = c.units_of-units.result in
    let form = c.invariant.ensures.form in
    let above = determinant_above f c.requires.frame in
    let is_p = origin_is_point f c.requires.frame in
    let units = c.units_of-units.ensures in
    let room : HasRoom s f.turn u = c.has_room.ensures.0 c.if-not-has_room.false in
    at_least u.n (n_positive s f.turn (origin_of f) u form above is_p units)

pub cell_of-requires-clause-n_at_most : goal.cell_of-requires-clause-n_at_most
cell_of-requires-clause-n_at_most c =
    let f = c.args.frame.now in
    let s = c.args.cell.now in
    let u = c.units_of-units.result in
    let form = c.invariant.ensures.form in
    let above = determinant_above f c.requires.frame in
    let is_p = origin_is_point f c.requires.frame in
    let units = c.units_of-units.ensures in
    let room : HasRoom s f.turn u = c.has_room.ensures.0 c.if-not-has_room.false in
    room.n

pub cell_of-requires-clause-k_at_least : goal.cell_of-requires-clause-k_at_least
cell_of-requires-clause-k_at_least c =
    let f = c.args.frame.now in
    let s = c.args.cell.now in
    let u = c.units_of-units.result in
    let form = c.invariant.ensures.form in
    let above = determinant_above f c.requires.frame in
    let is_p = origin_is_point f c.requires.frame in
    let units = c.units_of-units.ensures in
    let room : HasRoom s f.turn u = c.has_room.ensures.0 c.if-not-has_room.false in
    product u.k (divisor s.kind (unsigned_abs (determinant f.turn))) s.k units.k_is (divisor-positive s.kind (unsigned_abs (determinant f.turn)) (size (determinant f.turn) above)) form.k_at_least

pub cell_of-requires-clause-k_at_most : goal.cell_of-requires-clause-k_at_most
cell_of-requires-clause-k_at_most c =
    let f = c.args.frame.now in
    let s = c.args.cell.now in
    let u = c.units_of-units.result in
    let form = c.invariant.ensures.form in
    let above = determinant_above f c.requires.frame in
    let is_p = origin_is_point f c.requires.frame in
    let units = c.units_of-units.ensures in
    let room : HasRoom s f.turn u = c.has_room.ensures.0 c.if-not-has_room.false in
    room.k

pub cell_of-requires-clause-positive : goal.cell_of-requires-clause-positive
cell_of-requires-clause-positive c =
    let f = c.args.frame.now in
    let s = c.args.cell.now in
    let u = c.units_of-units.result in
    let form = c.invariant.ensures.form in
    let above = determinant_above f c.requires.frame in
    let is_p = origin_is_point f c.requires.frame in
    let units = c.units_of-units.ensures in
    let room : HasRoom s f.turn u = c.has_room.ensures.0 c.if-not-has_room.false in
    metric_positive s f.turn (origin_of f) u form above is_p units

pub cell_of-requires-clause-entries : goal.cell_of-requires-clause-entries
cell_of-requires-clause-entries c =
    let f = c.args.frame.now in
    let s = c.args.cell.now in
    let u = c.units_of-units.result in
    let form = c.invariant.ensures.form in
    let above = determinant_above f c.requires.frame in
    let is_p = origin_is_point f c.requires.frame in
    let units = c.units_of-units.ensures in
    let room : HasRoom s f.turn u = c.has_room.ensures.0 c.if-not-has_room.false in
    room.metric

pub cell_of-requires-clause-some : goal.cell_of-requires-clause-some
cell_of-requires-clause-some c =
    let f = c.args.frame.now in
    let s = c.args.cell.now in
    let u = c.units_of-units.result in
    let form = c.invariant.ensures.form in
    let above = determinant_above f c.requires.frame in
    let is_p = origin_is_point f c.requires.frame in
    let units = c.units_of-units.ensures in
    let room : HasRoom s f.turn u = c.has_room.ensures.0 c.if-not-has_room.false in
    let copies = map atom_of c.in_ok-atoms.atoms.items in
    let blocks : AreBlocks s f.turn (origin_of f) (unsigned_abs u.n) s.atoms copies = c.in_ok-atoms.ensures in
    let standard : IsStandard s f.turn (origin_of f) (cell_with s f.turn (origin_of f) u form above is_p units copies) = standard_with s f.turn (origin_of f) u form above is_p units copies blocks in
    subst (λ (xs : List CodeAtom). 1 ≤ length (map atom_of xs)) (sym c.deref.ensures.value) (some_atoms s f.turn (origin_of f) u form above is_p units (cell_with s f.turn (origin_of f) u form above is_p units copies) standard)

pub cell_of-requires-clause-few : goal.cell_of-requires-clause-few
cell_of-requires-clause-few c =
    let f = c.args.frame.now in
    let s = c.args.cell.now in
    let u = c.units_of-units.result in
    let form = c.invariant.ensures.form in
    let above = determinant_above f c.requires.frame in
    let is_p = origin_is_point f c.requires.frame in
    let units = c.units_of-units.ensures in
    let room : HasRoom s f.turn u = c.has_room.ensures.0 c.if-not-has_room.false in
    let copies = map atom_of c.in_ok-atoms.atoms.items in
    let blocks : AreBlocks s f.turn (origin_of f) (unsigned_abs u.n) s.atoms copies = c.in_ok-atoms.ensures in
    let standard : IsStandard s f.turn (origin_of f) (cell_with s f.turn (origin_of f) u form above is_p units copies) = standard_with s f.turn (origin_of f) u form above is_p units copies blocks in
    subst (λ (xs : List CodeAtom). length (map atom_of xs) ≤ MOST_ATOMS) (sym c.deref.ensures.value) (limits_of_room s f.turn (origin_of f) u form above is_p units room copies blocks).atoms

pub cell_of-requires-clause-first : goal.cell_of-requires-clause-first
cell_of-requires-clause-first c =
    let f = c.args.frame.now in
    let s = c.args.cell.now in
    let u = c.units_of-units.result in
    let form = c.invariant.ensures.form in
    let above = determinant_above f c.requires.frame in
    let is_p = origin_is_point f c.requires.frame in
    let units = c.units_of-units.ensures in
    let room : HasRoom s f.turn u = c.has_room.ensures.0 c.if-not-has_room.false in
    let copies = map atom_of c.in_ok-atoms.atoms.items in
    let blocks : AreBlocks s f.turn (origin_of f) (unsigned_abs u.n) s.atoms copies = c.in_ok-atoms.ensures in
    let standard : IsStandard s f.turn (origin_of f) (cell_with s f.turn (origin_of f) u form above is_p units copies) = standard_with s f.turn (origin_of f) u form above is_p units copies blocks in
    subst (λ (xs : List CodeAtom). (b : Atom) → slice_get (map atom_of xs) 0 ≡ Some b → b.species ≡ 0) (sym c.deref.ensures.value) (first_species s f.turn (origin_of f) u form above is_p units s.atoms copies (λ a m. m) blocks form.some form.first)

pub cell_of-requires-clause-atoms : goal.cell_of-requires-clause-atoms
cell_of-requires-clause-atoms c =
    let f = c.args.frame.now in
    let s = c.args.cell.now in
    let u = c.units_of-units.result in
    let form = c.invariant.ensures.form in
    let above = determinant_above f c.requires.frame in
    let is_p = origin_is_point f c.requires.frame in
    let units = c.units_of-units.ensures in
    let room : HasRoom s f.turn u = c.has_room.ensures.0 c.if-not-has_room.false in
    let copies = map atom_of c.in_ok-atoms.atoms.items in
    let blocks : AreBlocks s f.turn (origin_of f) (unsigned_abs u.n) s.atoms copies = c.in_ok-atoms.ensures in
    let standard : IsStandard s f.turn (origin_of f) (cell_with s f.turn (origin_of f) u form above is_p units copies) = standard_with s f.turn (origin_of f) u form above is_p units copies blocks in
    subst (λ (xs : List CodeAtom). AreCellAtoms (length s.names) (unsigned_abs u.n) s.kind (map atom_of xs)) (sym c.deref.ensures.value) (atoms_fit s f.turn (origin_of f) u form above is_p units room copies blocks)

pub cell_of-requires-clause-apart : goal.cell_of-requires-clause-apart
cell_of-requires-clause-apart c =
    let f = c.args.frame.now in
    let s = c.args.cell.now in
    let u = c.units_of-units.result in
    let form = c.invariant.ensures.form in
    let above = determinant_above f c.requires.frame in
    let is_p = origin_is_point f c.requires.frame in
    let units = c.units_of-units.ensures in
    let room : HasRoom s f.turn u = c.has_room.ensures.0 c.if-not-has_room.false in
    let copies = map atom_of c.in_ok-atoms.atoms.items in
    let blocks : AreBlocks s f.turn (origin_of f) (unsigned_abs u.n) s.atoms copies = c.in_ok-atoms.ensures in
    let standard : IsStandard s f.turn (origin_of f) (cell_with s f.turn (origin_of f) u form above is_p units copies) = standard_with s f.turn (origin_of f) u form above is_p units copies blocks in
    subst (λ (xs : List CodeAtom). AreApart (map atom_of xs)) (sym c.deref.ensures.value) (standard_apart s (cell_with s f.turn (origin_of f) u form above is_p units copies) f.turn (origin_of f) standard is_p c.invariant.ensures.cell.one_atom_each form.apart)

pub returns-clause-value : goal.returns-clause-value
returns-clause-value c =
    let f = c.args.frame.now in
    let s = c.args.cell.now in
    let u = c.units_of-units.result in
    let form = c.invariant.ensures.form in
    let above = determinant_above f c.requires.frame in
    let is_p = origin_is_point f c.requires.frame in
    let units = c.units_of-units.ensures in
    let room : HasRoom s f.turn u = c.has_room.ensures.0 c.if-not-has_room.false in
    let copies = map atom_of c.in_ok-atoms.atoms.items in
    let blocks : AreBlocks s f.turn (origin_of f) (unsigned_abs u.n) s.atoms copies = c.in_ok-atoms.ensures in
    let standard : IsStandard s f.turn (origin_of f) (cell_with s f.turn (origin_of f) u form above is_p units copies) = standard_with s f.turn (origin_of f) u form above is_p units copies blocks in
    let is : c.in_ok-made.made ≡ cell_with s f.turn (origin_of f) u form above is_p units copies = c.in_ok-made.ensures ∙ ap (λ (xs : List CodeAtom). cell_with s f.turn (origin_of f) u form above is_p units (map atom_of xs)) c.deref.ensures.value in
    subst (IsStandard s f.turn (origin_of f)) (sym is) standard

pub returns-clause-fits : goal.returns-clause-fits
returns-clause-fits c =
    let f = c.args.frame.now in
    let s = c.args.cell.now in
    let u = c.units_of-units.result in
    let form = c.invariant.ensures.form in
    let above = determinant_above f c.requires.frame in
    let is_p = origin_is_point f c.requires.frame in
    let units = c.units_of-units.ensures in
    let room : HasRoom s f.turn u = c.has_room.ensures.0 c.if-not-has_room.false in
    let copies = map atom_of c.in_ok-atoms.atoms.items in
    let blocks : AreBlocks s f.turn (origin_of f) (unsigned_abs u.n) s.atoms copies = c.in_ok-atoms.ensures in
    let standard : IsStandard s f.turn (origin_of f) (cell_with s f.turn (origin_of f) u form above is_p units copies) = standard_with s f.turn (origin_of f) u form above is_p units copies blocks in
    let is : c.in_ok-made.made ≡ cell_with s f.turn (origin_of f) u form above is_p units copies = c.in_ok-made.ensures ∙ ap (λ (xs : List CodeAtom). cell_with s f.turn (origin_of f) u form above is_p units (map atom_of xs)) c.deref.ensures.value in
    subst IsWithinLimits (sym is) (limits_of_room s f.turn (origin_of f) u form above is_p units room copies blocks)
