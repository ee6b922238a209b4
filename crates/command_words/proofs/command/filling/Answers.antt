use Rattle.std.proofs.Common.{◌≡◌, sym, ◌∙◌, rules}
use Rattle.std.specs.declared.result.Result.TheVariants.{Ok, Err}
use Rattle.command_words.specs.Commands.{count_of, component_of}
use Rattle.command_words.proofs.FillingLemmas.{filling_at}
use Rattle.command_words.proofs.command.filling.Goals as goal

pub returns-in_err-c : goal.returns-in_err-c
returns-in_err-c c =
    let i : count_of c.word.result.now ≡ Ok c.in_ok-atom.atom = search rules in
    let x : component_of c.word-2.result.now ≡ Ok c.in_ok-a.a = search rules in
    let y : component_of c.word-3.result.now ≡ Ok c.in_ok-b.b = search rules in
    let z : component_of c.word-4.result.now ≡ Err c.in_err-c.field-0.0 = search rules in
    let result_is : c.from_residual-in_err-c.result ≡ Err c.in_err-c.field-0.0 = search rules in
    result_is ∙ sym (filling_at c.args.words.now _ _ _ _ _ _ _ _ c.word.ensures c.word-2.ensures c.word-3.ensures c.word-4.ensures i x y z)

pub returns : goal.returns
returns c =
    let i : count_of c.word.result.now ≡ Ok c.in_ok-atom.atom = search rules in
    let x : component_of c.word-2.result.now ≡ Ok c.in_ok-a.a = search rules in
    let y : component_of c.word-3.result.now ≡ Ok c.in_ok-b.b = search rules in
    let z : component_of c.word-4.result.now ≡ Ok c.in_ok-c.c = search rules in
    let e = filling_at c.args.words.now _ _ _ _ _ _ _ _ c.word.ensures c.word-2.ensures c.word-3.ensures c.word-4.ensures i x y z in
    rw e (search rules)
