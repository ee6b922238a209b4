use Rattle.std.proofs.Common.{◌∙◌, ◌∷◌, map, sym, ap, subst, subst₂, List, ℕ, vec_items, arith}
use Rattle.hall_text.specs.declared.rows.Row.{Row}
use Rattle.plain_text.specs.Text.{lines}
use Rattle.hall_text.specs.Tables.{spaced, rows}
use Rattle.hall_text.proofs.RowLemmas.{Decides, decides_start, decides_next}
use Rattle.hall_text.proofs.rows.read_table.Goals as goal

pub loop-rest-init : goal.loop-rest-init
loop-rest-init c = record {
  decides = subst₂ (λ (xs : List Row) (t : List ℕ). Decides (rows c.args.text.now) xs (map spaced (lines t))) (sym c.new-rows.ensures.items) (sym c.as_slice-rest.ensures) (decides_start c.args.text.now);
  few = omega (arith, c.new-rows.ensures.len);
}

pub loop-rest-preserved : goal.loop-rest-preserved
loop-rest-preserved c =
    let all = rows c.args.text.now in
    let old = vec_items c.loop-rest.rows in
    let later = map spaced (lines c.first_line.result.1.now) in
    record {
      decides = decides_next all old (vec_items c.read_line.new.rows) c.deref.result.now later
          (subst (λ (l : List ℕ). Decides all old (l ∷ later)) (sym (c.deref.ensures.value ∙ c.in-Ok.ensures))
          (subst (λ (ls : List (List ℕ)). Decides all old ls) (ap (map spaced) c.first_line.ensures.cut) c.loop-rest.invariant.decides))
          c.in-Ok-read_line.ensures.value;
      few = c.in-Ok-read_line.ensures.few;
    }
