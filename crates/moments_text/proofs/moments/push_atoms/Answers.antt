use Rattle.std.proofs.Common.{◌≡◌, ◌<◌, ◌+◌, sym, subst, ℕ, length, get_or, Some}
use Rattle.std.specs.Prelude.{slice_get, IfSome}
use Rattle.std.proofs.lemmas.Option.{slice_get-get_or, slice_get_within}
use Rattle.crystal.specs.Views.{atom_of}
use Rattle.moments_text.specs.MomentsText.{allowed_by}
use Rattle.moments_text.proofs.AtomLines.{atoms_more, no_orbit}
use Rattle.moments_text.proofs.moments.push_atoms.Goals as goal

pub loop-i-preserved : goal.loop-i-preserved
loop-i-preserved c =
    let i = c.loop-i.i in
    let s = c.args.cell.now in
    let orbits = c.args.orbits.now in
    let a = atom_of c.atom.result.now in
    let o = get_or orbits i no_orbit in
    let below : i < length orbits = subst (λ (k : ℕ). i < k) (sym c.requires.orbits.of_each_atom) (slice_get_within s.atoms i a c.atom.ensures.value) in
    let here : slice_get orbits i ≡ Some o = slice_get-get_or orbits i no_orbit below in
    let allowed : c.allowed_at.result ≡ allowed_by s.kind o.site.operations = subst (λ found. IfSome found (λ orbit. c.allowed_at.result ≡ allowed_by s.kind orbit.site.operations)) here c.allowed_at.ensures in
    atoms_more s.kind s.names s.atoms orbits i (i + 1) a o c.name-name.result.now c.allowed_at.result c.loop-i.out _ _ c.atom.ensures.value here c.name-name.ensures allowed c.loop-i.invariant c.in_ok-push_atom.ensures
