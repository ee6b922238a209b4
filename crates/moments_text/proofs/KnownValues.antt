-- Texts of allowed moments and of filled cells, written by hand.
use Rattle.std.proofs.Common.{◌≡◌, ◌∷◌, [], pos, negsuc, refl}
use Rattle.std.specs.Prelude.{ℤ, codes, false}
use Rattle.std.specs.Fmt.{digits}
use Rattle.numbers.specs.Fraction.{lowest}
use Rattle.numbers.specs.Gcd.{gcd}
use Rattle.crystal_spec.specs.declared.Sign.TheVariants.{Same}
use Rattle.crystal_spec.specs.Matrices.{Matrix, identity}
use Rattle.crystal_spec.specs.Moments.{axial_vectors, axial_factor, turn_matrix, moment_matrix}
use Rattle.crystal_spec.specs.Crystals.{Atom, Structure}
use Rattle.crystal_spec.specs.Operations.{Operation}
use Rattle.site_orbits.specs.Entries.{AtomOrbit}
use Rattle.plain_text.specs.NumberText.{number_text}
use Rattle.cell_print.specs.CellFileText.{atom_text as line_in_file}
use Rattle.moments_text.specs.MomentsText.{atom_text, moments_text}
use Rattle.moments_text.specs.FilledText.{filled_text}

-- the operation of this matrix with no translation and no time reversal
abbrev operation : Matrix → Operation
operation w = record { matrix = w; translation = record { x = pos 0; y = pos 0; z = pos 0 }; sign = Same }

abbrev diagonal : ℤ → ℤ → ℤ → Matrix
diagonal a b c = record { a11 = a; a12 = pos 0; a13 = pos 0; a21 = pos 0; a22 = b; a23 = pos 0; a31 = pos 0; a32 = pos 0; a33 = c }

-- an atom at 0 0 z / 2 with its moment along c
abbrev atom_along_c : ℤ → ℤ → Atom
atom_along_c z moment = record { species = 0; position = record { x = pos 0; y = pos 0; z = z }; moment = record { x = pos 0; y = pos 0; z = moment } }

-- opposite moments of size 3, one behind the other
abbrev chain : Structure
chain = record {
  names = codes "A" ∷ [];
  scale = pos 1;
  metric = diagonal (pos 1) (pos 1) (pos 4);
  n = 2;
  k = 1;
  kind = axial_vectors;
  atoms = atom_along_c (pos 0) (pos 3) ∷ atom_along_c (pos 1) (negsuc 2) ∷ [];
}

-- the orbit of an atom alone, of which this operation and the identity leave the position
abbrev orbit : Matrix → AtomOrbit
orbit w = record { first = 0; size = 1; site = record { n = 2; operations = operation w ∷ operation identity ∷ [] } }

-- a half turn about a, where the angle between a and b is 120°
abbrev hexagonal_half_turn : Matrix
hexagonal_half_turn = record { a11 = pos 1; a12 = negsuc 0; a13 = pos 0; a21 = pos 0; a22 = negsuc 0; a23 = pos 0; a31 = pos 0; a32 = pos 0; a33 = negsuc 0 }

-- the inversion allows each moment, and the half turn those along a
text_of_moments : moments_text identity chain (orbit (diagonal (negsuc 0) (negsuc 0) (negsuc 0)) ∷ orbit hexagonal_half_turn ∷ [])
    ≡ codes "back 1 0 0 0 1 0 0 0 1\natom 1 A allowed 3 1 0 0 0 1 0 0 0 1\natom 2 A allowed 1 1 -1/2 0 0 0 0 0 0 0\n"
unfolding atom_text moment_matrix axial_factor turn_matrix lowest number_text digits gcd
text_of_moments = refl

-- a scalar stands three times on the diagonal, and is counted once
text_of_scalars : moments_text identity (record chain { kind = record { vector = false; axial = false }; atoms = atom_along_c (pos 0) (pos 3) ∷ [] }) (orbit (diagonal (negsuc 0) (negsuc 0) (pos 1)) ∷ [])
    ≡ codes "back 1 0 0 0 1 0 0 0 1\natom 1 A allowed 1 1 0 0 0 1 0 0 0 1\n"
unfolding atom_text moment_matrix axial_factor turn_matrix lowest number_text digits gcd
text_of_scalars = refl

-- opposite moments of size 3
text_of_a_filled_cell : filled_text identity chain
    ≡ codes "magcell 1\n# back 1 0 0 0 1 0 0 0 1\nmetric 1 1 4 0 0 0\natom A 0 0 0 0 0 3\natom A 0 0 1/2 0 0 -3\nend\n"
unfolding line_in_file number_text digits gcd
text_of_a_filled_cell = refl
