use Rattle.std.proofs.Common.{refl}
use Rattle.numbers.specs.Gcd.{gcd}
use Rattle.numbers.specs.Fraction.{lowest}
use Rattle.plain_text.specs.NumberWords.{number_value}
use Rattle.plain_text.proofs.number.zero.Goals as goal

pub returns-clause-empty : goal.returns-clause-empty
unfolding gcd lowest number_value
returns-clause-empty c = refl
