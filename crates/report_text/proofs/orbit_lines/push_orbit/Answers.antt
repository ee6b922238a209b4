use Rattle.std.proofs.Common.{◌++◌, ◌∙◌, ap, List, ℕ}
use Rattle.std.specs.Prelude.{codes}
use Rattle.report_text.specs.OrbitText.{counted_text}
use Rattle.report_text.proofs.OrbitLemmas.{orbit_from_pieces}
use Rattle.report_text.proofs.orbit_lines.push_orbit.Goals as goal

pub returns : goal.returns
returns c =
    let counted = c.in_ok-push_counted-3.ensures ∙ ap (λ (k : ℕ). c.push_counted-2.new.out ++ counted_text (codes " site ") k) c.count.ensures.value in
    let lines = c.in_ok-append.ensures.value ∙ ap (λ (text : List ℕ). c.push.new.self ++ text) (c.as_slice.ensures ∙ c.in_ok-operations.ensures) in
    orbit_from_pieces c.args.out.now _ _ _ _ _ _ _ _ _ c.in_ok-push_counted.ensures c.in_ok-push_counted-2.ensures counted c.in_ok-push.ensures.value lines
