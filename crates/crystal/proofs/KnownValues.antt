-- Words that are names of species, and words that are not.
use Rattle.std.proofs.Common.{◌≡◌, true, false, refl}
use Rattle.std.specs.Prelude.{codes}
use Rattle.crystal.specs.Names.{is_name}

-- one letter, and eight letters, digits and underlines
one_letter : is_name (codes "M") ≡ true
one_letter = refl

eight_bytes : is_name (codes "Mn_2plus") ≡ true
eight_bytes = refl

-- nine of them
nine_bytes : is_name (codes "Mn_2plus3") ≡ false
nine_bytes = refl

digit_first : is_name (codes "2Mn") ≡ false
digit_first = refl

underline_first : is_name (codes "_Mn") ≡ false
underline_first = refl

plus_sign : is_name (codes "Mn+") ≡ false
plus_sign = refl

no_byte : is_name (codes "") ≡ false
no_byte = refl
