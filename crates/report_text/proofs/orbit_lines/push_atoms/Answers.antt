use Rattle.std.proofs.Common.{◌≡◌, ◌∙◌, ap, sym, subst, ◌<◌, ℕ, length, get_or, Some}
use Rattle.std.specs.Prelude.{slice_get, IfSome}
use Rattle.std.proofs.lemmas.Option.{slice_get-get_or, slice_get_within}
use Rattle.crystal.specs.Views.{atom_of}
use Rattle.report_text.proofs.OrbitLemmas.{atoms_more, no_orbit}
use Rattle.report_text.proofs.orbit_lines.push_atoms.Goals as goal

pub loop-i-preserved : goal.loop-i-preserved
loop-i-preserved c =
    let i = c.loop-i.i in
    let orbits = c.args.orbits.now in
    let a = atom_of c.atom.result.now in
    let o = get_or orbits i no_orbit in
    let below : i < length orbits = subst (λ (k : ℕ). i < k) (sym c.requires.same_atoms) (slice_get_within c.args.cell.now.atoms i a c.atom.ensures.value) in
    let here : slice_get orbits i ≡ Some o = slice_get-get_or orbits i no_orbit below in
    let first : c.first.result ≡ o.first = subst (λ found. IfSome found (λ orbit. c.first.result ≡ orbit.first)) here c.first.ensures in
    let site : c.site.result.now ≡ o.site = subst (λ found. IfSome found (λ orbit. c.site.result.now ≡ orbit.site)) here c.site.ensures in
    atoms_more c.args.cell.now.names c.args.cell.now.atoms orbits i a o c.name-name.result.now _ _ c.loop-i.out _ _ c.atom.ensures.value here c.name-name.ensures first (c.count.ensures.value ∙ ap (λ l. length l.operations) site) c.loop-i.invariant c.in_ok-push_atom.ensures
