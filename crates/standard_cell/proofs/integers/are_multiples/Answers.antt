use Rattle.std.proofs.Common.{◌≡◌, true}
use Rattle.standard_cell.proofs.Commons.{whole_iff}
use Rattle.standard_cell.proofs.integers.are_multiples.Goals as goal

pub returns-then-not-is_multiple : goal.returns-then-not-is_multiple
returns-then-not-is_multiple c = ((λ t. absurd (cc t)), (λ w. absurd (let yes : c.is_multiple.result ≡ true = c.is_multiple.ensures.1 ((whole_iff c.args.d c.args.v.now).0 w).0 in cc (yes, c.if-not-is_multiple.true))))

pub returns-then-not-is_multiple-2 : goal.returns-then-not-is_multiple-2
returns-then-not-is_multiple-2 c = ((λ t. absurd (cc t)), (λ w. absurd (let yes : c.is_multiple-2.result ≡ true = c.is_multiple-2.ensures.1 ((whole_iff c.args.d c.args.v.now).0 w).1 in cc (yes, c.if-not-is_multiple-2.true))))

pub returns : goal.returns
returns c = (
  (λ t. (whole_iff c.args.d c.args.v.now).1 (c.is_multiple.ensures.0 c.if-not-is_multiple.false, c.is_multiple-2.ensures.0 c.if-not-is_multiple-2.false, c.is_multiple-3.ensures.0 t)),
  (λ w. c.is_multiple-3.ensures.1 ((whole_iff c.args.d c.args.v.now).0 w).2),
)
