use Rattle.std.proofs.Common.{◌≡◌, ◌++◌, subst, ◌<◌, length, get_or, Some, arith}
use Rattle.std.specs.Prelude.{slice_get, IfSome}
use Rattle.std.proofs.lemmas.Option.{slice_get-get_or}
use Rattle.report_text.specs.OrbitText.{orbit_part}
use Rattle.report_text.proofs.OrbitLemmas.{orbits_more, no_orbit}
use Rattle.report_text.proofs.orbit_lines.push_orbits.Goals as goal

pub loop-i-preserved : goal.loop-i-preserved
loop-i-preserved c =
    let i = c.loop-i.i in
    let orbits = c.args.orbits.now in
    let o = get_or orbits i no_orbit in
    let below : i < length orbits = omega arith in
    let here : slice_get orbits i ≡ Some o = slice_get-get_or orbits i no_orbit below in
    let added : c.push_part.new.out ≡ c.loop-i.out ++ orbit_part i o = subst (λ found. IfSome found (λ orbit. c.push_part.new.out ≡ c.loop-i.out ++ orbit_part i orbit)) here c.in_ok-push_part.ensures in
    orbits_more orbits i o c.loop-i.out _ _ here c.loop-i.invariant added
