-- What the fractions and the residues of the code mean.
--   fraction_of f           the fraction, in lowest terms
--   residue_of r            the integer, from 0 to the modulus - 1
--   modulus_of r            the modulus, from 1 to 10^6
--   IsResidueOf m z r       r is z modulo m
use Rattle.std.specs.Prelude.{◌≡◌, ℕ, ℤ, pos}
use Rattle.numbers.specs.Fraction.{Fraction, fraction}
use Rattle.numbers.specs.Residue.{residue}
use Rattle.exact_num.specs.declared.frac.Frac.{Frac}
use Rattle.exact_num.specs.declared.residue.Residue.{Residue}

-- the fraction that a `Frac` means, in lowest terms
abbrev pub fraction_of : Frac → Fraction
fraction_of f = fraction f.num f.den

-- the integer that a `Residue` means, from 0 to its modulus - 1
abbrev pub residue_of : Residue → ℤ
residue_of r = pos r.value

-- the modulus of a `Residue`
abbrev pub modulus_of : Residue → ℕ
modulus_of r = r.modulus

-- r has the modulus m and means z modulo m
abbrev pub IsResidueOf : ℕ → ℤ → Residue → Type 0
IsResidueOf m z r = (modulus_of r ≡ m) × (residue_of r ≡ residue m z)
