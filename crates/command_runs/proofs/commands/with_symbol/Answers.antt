use Rattle.std.proofs.Common.{◌≡◌, subst, sym, refl, List, ℕ}
use Rattle.std.specs.Prelude.{IfOk, OnErr}
use Rattle.std.specs.declared.option.Option.TheVariants.{None}
use Rattle.hall_symbol.specs.Spelling.{symbol_fault}
use Rattle.command_words.specs.declared.command.Command.TheVariants.{Hall}
use Rattle.command_words.specs.Commands.{argument}
use Rattle.answers.specs.Answers.{IsHallAnswer}
use Rattle.command_runs.proofs.Written.{finished_outcome, told_on_word}
use Rattle.command_runs.proofs.commands.with_symbol.Goals as goal

pub returns-clause-outcome : goal.returns-clause-outcome
returns-clause-outcome g c ws highest store input shelf is_asked named =
    let r = c.answer_hall-answer.result in
    let made = c.answer_hall-answer.ensures in
    finished_outcome ws _ Hall (IsHallAnswer (argument ws)) r c.finish.result is_asked
    (subst (λ (word : List ℕ). IfOk r (IsHallAnswer word)) (sym named) made.answer)
    (subst (λ (word : List ℕ). OnErr r (symbol_fault word ≡ None)) (sym named) made.read)
    (told_on_word ws _ c.finish.result is_asked refl) c.finish.ensures.finished
