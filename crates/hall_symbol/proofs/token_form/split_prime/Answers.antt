use Rattle.std.proofs.Common.{◌≡◌, ◌-◌, length, sym, arith}
use Rattle.hall_symbol.proofs.TokenLemmas.{primed-none, primed-last}
use Rattle.plain_text.proofs.Cutting.{without_last-kept, without_last-dropped}
use Rattle.hall_symbol.proofs.token_form.split_prime.Goals as goal

pub returns-then-text-len-ne33-clause-letters : goal.returns-then-text-len-ne33-clause-letters
returns-then-text-len-ne33-clause-letters c = sym (without_last-kept 33 c.args.text.now (λ n len e.
    let last : length c.args.text.now - 1 ≡ n = omega arith in
    c.if-text-len-ne33.true (rw last e)))

pub returns-then-text-len-ne33-clause-primed : goal.returns-then-text-len-ne33-clause-primed
returns-then-text-len-ne33-clause-primed c = sym (primed-none c.args.text.now (λ n len e.
    let last : length c.args.text.now - 1 ≡ n = omega arith in
    c.if-text-len-ne33.true (rw last e)))

pub returns-clause-letters : goal.returns-clause-letters
returns-clause-letters c = sym (without_last-dropped 33 c.args.text.now (length c.args.text.now - 1) (omega arith) c.if-text-len-ne33.false)

pub returns-clause-primed : goal.returns-clause-primed
returns-clause-primed c = sym (primed-last c.args.text.now (length c.args.text.now - 1) (omega arith) c.if-text-len-ne33.false)
