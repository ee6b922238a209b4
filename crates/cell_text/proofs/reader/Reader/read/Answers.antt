use Rattle.std.proofs.Common.{◌≡◌, map, sym, ap, subst, ◌∙◌, Option, Some}
use Rattle.std.specs.Prelude.{OnOk}
use Rattle.cell_text.specs.declared.fault.CellFault.{CellFault}
use Rattle.cell_text.specs.Lines.{entry_of, entry_of_words}
use Rattle.cell_text.specs.Entries.{State}
use Rattle.cell_text.specs.Views.{entry_view, Judges}
use Rattle.cell_text.proofs.Stepping.{judged-later, with_line-later}
use Rattle.cell_text.proofs.reader.Reader.read.Goals as goal

pub returns-clause-judged : goal.returns-clause-judged
unfolding entry_of
returns-clause-judged c =
    let version : c.args.self.now.version ≡ Some c.in-Some.version = sym (ap (λ (s : State). s.version) c.self.view_is) ∙ c.in-Some.is in
    let entry : entry_view c.form_of.result ≡ entry_of c.in-Some.version c.args.line.now = c.form_of.ensures ∙ ap (entry_of_words c.in-Some.version) (ap (map (λ w. w.now)) c.deref-2.ensures.value ∙ c.in_ok-words.ensures) in
    let same = judged-later c.args.self.now c.in-Some.version c.args.line.now (entry_view c.form_of.result) version entry in
    subst (λ (f : Option CellFault). Judges f c.read_later.result) same c.read_later.ensures.judged

pub returns-clause-next : goal.returns-clause-next
unfolding entry_of
returns-clause-next c =
    let version : c.args.self.now.version ≡ Some c.in-Some.version = sym (ap (λ (s : State). s.version) c.self.view_is) ∙ c.in-Some.is in
    let entry : entry_view c.form_of.result ≡ entry_of c.in-Some.version c.args.line.now = c.form_of.ensures ∙ ap (entry_of_words c.in-Some.version) (ap (map (λ w. w.now)) c.deref-2.ensures.value ∙ c.in_ok-words.ensures) in
    let same = with_line-later c.args.self.now c.in-Some.version c.args.line.now (entry_view c.form_of.result) version entry in
    subst (λ (s : State). OnOk c.read_later.result (c.read_later.new.self ≡ s)) same c.read_later.ensures.next
