use Rattle.std.proofs.Common.{◌≡◌, subst, ◌<◌, length, get_or, Some, arith}
use Rattle.std.specs.Prelude.{slice_get, IfSome}
use Rattle.std.proofs.lemmas.Option.{slice_get-get_or}
use Rattle.serde_json.specs.View.{view}
use Rattle.report_text.specs.DatasetText.{orbit_data}
use Rattle.report_text.proofs.DatasetLemmas.{values_more}
use Rattle.report_text.proofs.OrbitLemmas.{no_orbit}
use Rattle.report_text.proofs.dataset.orbit_values.Goals as goal

pub loop-i-preserved : goal.loop-i-preserved
loop-i-preserved c =
    let i = c.loop-i.i in
    let orbits = c.args.orbits.now in
    let o = get_or orbits i no_orbit in
    let below : i < length orbits = omega arith in
    let here : slice_get orbits i ≡ Some o = slice_get-get_or orbits i no_orbit below in
    let same : view c.orbit_value.result ≡ orbit_data o = subst (λ found. IfSome found (λ orbit. view c.orbit_value.result ≡ orbit_data orbit)) here c.orbit_value.ensures in
    values_more orbit_data orbits i o _ _ c.orbit_value.result here c.in_ok-push.ensures.items same c.loop-i.invariant
