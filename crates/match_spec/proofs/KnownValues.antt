-- The definitions at a few values: the inversion through the origin, carried to one through (1/7, 1/7, 1/7).
use Rattle.std.proofs.Common.{◌≡◌, refl, inl, inr, ℤ, pos, negsuc, List, [], ◌∷◌}
use Rattle.crystal_spec.specs.declared.Sign.{Sign}
use Rattle.crystal_spec.specs.declared.Sign.TheVariants.{Same, Reversed}
use Rattle.crystal_spec.specs.Matrices.{Triple, Matrix, identity}
use Rattle.crystal_spec.specs.Operations.{Operation}
use Rattle.positions.specs.Positions.{triple, origin}
use Rattle.match_spec.specs.Points.{point, SameModuloOne, Equal}
use Rattle.match_spec.specs.Fractions.{point_of}
use Rattle.match_spec.specs.Maps.{image_shift, IsImage, Pair, balance, IsBalanced}
use Rattle.match_spec.specs.FirstMap.{IsLess}
use Rattle.match_spec.specs.BalancedPoints.{origin_at}

abbrev inversion : Matrix
inversion = record { a11 = negsuc 0; a12 = pos 0; a13 = pos 0; a21 = pos 0; a22 = negsuc 0; a23 = pos 0; a31 = pos 0; a32 = pos 0; a33 = negsuc 0 }

abbrev all_equal : ℤ → Triple
all_equal a = triple a a a

abbrev operation : Matrix → Triple → Sign → Operation
operation w t s = record { matrix = w; translation = t; sign = s }

-- 1/2 and 2/4 are one fraction
halves : Equal (point (triple (pos 1) (pos 0) (pos 3)) (pos 2)) (point (triple (pos 2) (pos 0) (pos 6)) (pos 4))
halves = record { is = refl }

-- -1/3 and 2/3 differ by an integer
thirds : SameModuloOne (point (triple (negsuc 0) (pos 0) (pos 0)) (pos 3)) (point (triple (pos 2) (pos 0) (pos 0)) (pos 3))
thirds = record { whole = record { quotient = triple (negsuc 0) (pos 0) (pos 0); is = refl } }

-- (1/2, 2/3, 0)
fractions : point_of (record { x = record { numerator = pos 1; denominator = pos 2 }; y = record { numerator = pos 2; denominator = pos 3 }; z = record { numerator = pos 0; denominator = pos 1 } }) ≡ point (triple (pos 3) (pos 4) (pos 0)) (pos 6)
fractions = refl

-- (2/6, 0, 0) comes before (1/2, 0, 0), and (0, 1/2, 0) before (0, 1/2, 1/3)
third_before_half : IsLess (point (triple (pos 2) (pos 0) (pos 0)) (pos 6)) (point (triple (pos 1) (pos 0) (pos 0)) (pos 2))
third_before_half = inl (record { lt = tt })

by_the_last_value : IsLess (point (triple (pos 0) (pos 1) (pos 0)) (pos 2)) (point (triple (pos 0) (pos 3) (pos 2)) (pos 6))
by_the_last_value = inr (refl, inr (refl, inl (record { lt = tt })))

-- the inversion with p = (1/7, 1/7, 1/7): 0 + p - (-p) = (2/7, 2/7, 2/7)
shift_of_inversion : Equal (image_shift identity (point (all_equal (pos 1)) (pos 7)) inversion origin) (point (all_equal (pos 2)) (pos 7))
shift_of_inversion = record { is = refl }

-- a translation part of 6/12 is 1/2
shift_of_identity : Equal (image_shift identity (point (all_equal (pos 1)) (pos 7)) identity (triple (pos 6) (pos 0) (pos 0))) (point (triple (pos 1) (pos 0) (pos 0)) (pos 2))
shift_of_identity = record { is = refl }

-- so (-I, 0, +1) goes to (-I, (2/7, 2/7, 2/7), +1)
image_of_inversion : IsImage identity (point (all_equal (pos 1)) (pos 7)) (pos 7) (operation inversion origin Same) (operation inversion (all_equal (pos 2)) Same)
image_of_inversion = record { matrix = refl; translation = record { whole = record { quotient = origin; is = refl } }; sign = refl }

-- but not to the same with time reversal
no_image_with_time_reversal : IsImage identity (point (all_equal (pos 1)) (pos 7)) (pos 7) (operation inversion origin Same) (operation inversion (all_equal (pos 2)) Reversed) → ⊥
no_image_with_time_reversal i = cc i.sign

-- ---- the balance: 0 for the identity and 2/7 for the inversion, and k = 2
abbrev pairs : List Pair
pairs =
    record { member = operation inversion (all_equal (pos 2)) Same; source = operation inversion origin Same }
    ∷ record { member = operation identity origin Same; source = operation identity origin Same }
    ∷ []

balance_of_inversion : Equal (balance identity (pos 7) pairs) (point (all_equal (pos 2)) (pos 7))
balance_of_inversion = record { is = refl }

balanced_origin : IsBalanced identity (pos 7) pairs (point (all_equal (pos 1)) (pos 7))
balanced_origin = record { whole = record { quotient = origin; is = refl } }

-- the others are halves away: (2/7 + 1) / 2 = 9/14
other_origin : Equal (origin_at (point (all_equal (pos 2)) (pos 7)) (pos 2) (triple (pos 1) (pos 0) (pos 0))) (point (triple (pos 9) (pos 2) (pos 2)) (pos 14))
other_origin = record { is = refl }
