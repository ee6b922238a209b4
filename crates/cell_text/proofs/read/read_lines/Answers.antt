use Rattle.std.proofs.Common.{◌≡◌, ℕ, List, [], ◌∷◌, ◌++◌, None, refl, sym, ap, ◌∙◌, arith, append_assoc, length-append}
use Rattle.plain_text.specs.Text.{lines}
use Rattle.cell_text.specs.Entries.{State, state_after, with_line}
use Rattle.cell_text.specs.Rules.{cell_fault, first_fault, fault_after, judged}
use Rattle.cell_text.proofs.Stepping.{first-none, more_state}
use Rattle.cell_text.proofs.read.read_lines.Goals as goal

pub loop-rest-init : goal.loop-rest-init
unfolding cell_fault state_after
loop-rest-init c = record {
  before = [];
  whole = refl;
  so_far = refl;
  state = c.new-reader.ensures;
  number = omega arith;
  short = omega arith;
}

pub loop-rest-preserved : goal.loop-rest-preserved
loop-rest-preserved c =
    let i = c.loop-rest.invariant in
    let before : List (List ℕ) = i.before in
    let line : List ℕ = c.first_line.result.0.now in
    let later : List (List ℕ) = lines c.first_line.result.1.now in
    let none : fault_after before line ≡ None = ap (λ (s : State). judged s line) (sym i.state) ∙ c.in_default.ensures.judged in
    record {
      before = before ++ line ∷ [];
      whole = append_assoc before (line ∷ []) later ∙ ap (λ (ls : List (List ℕ)). before ++ ls) (sym c.first_line.ensures.cut) ∙ i.whole;
      so_far = sym (first-none before later line none) ∙ ap (first_fault before) (sym c.first_line.ensures.cut) ∙ i.so_far;
      state = more_state before line c.read.new.self (c.in_default.ensures.next ∙ ap (λ (s : State). with_line s line) i.state);
      number = omega (arith, i.number, length-append before (line ∷ []));
      short = omega (arith, i.short, length-append before (line ∷ []), c.first_line.ensures.shorter);
    }
