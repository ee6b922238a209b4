use Rattle.std.proofs.Common.{◌≡◌, sym, ◌∙◌, rules}
use Rattle.std.specs.declared.result.Result.TheVariants.{Ok, Err}
use Rattle.command_words.specs.Commands.{with_word}
use Rattle.command_words.proofs.OptionLemmas.{options_go, options_stop}
use Rattle.command_words.proofs.command.read_options.Goals as goal

pub returns-in_err-read : goal.returns-in_err-read
returns-in_err-read c =
    let fault = c.in_err-read.field-0.0 in
    let word = c.word.result.now in
    let here : with_word c.loop-i.read word ≡ Err fault = search rules in
    let result_is : c.from_residual.result ≡ Err fault = search rules in
    result_is ∙ sym (options_stop c.loop-i.read c.args.words.now c.loop-i.i word fault c.word.ensures here) ∙ c.loop-i.invariant

pub loop-i-preserved : goal.loop-i-preserved
loop-i-preserved c =
    let word = c.word.result.now in
    let here : with_word c.loop-i.read word ≡ Ok c.in_ok-read.read = search rules in
    options_go c.loop-i.read c.in_ok-read.read c.args.words.now c.loop-i.i word c.word.ensures here ∙ c.loop-i.invariant
