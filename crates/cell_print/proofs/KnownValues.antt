-- A printable cell, and the texts of one atom by the kind of its moment.
use Rattle.std.proofs.Common.{◌≡◌, true, false, [], ◌∷◌, ℤ, pos, negsuc, refl, inr, arith}
use Rattle.std.specs.Prelude.{codes}
use Rattle.std.specs.Fmt.{digits}
use Rattle.std.proofs.lemmas.Int.{ints}
use Rattle.numbers.specs.Gcd.{gcd}
use Rattle.crystal_spec.specs.declared.MomentKind.{MomentKind}
use Rattle.crystal_spec.specs.Matrices.{Triple}
use Rattle.crystal_spec.specs.Moments.{axial_vectors}
use Rattle.crystal_spec.specs.Crystals.{Structure}
use Rattle.plain_text.specs.NumberText.{number_text}
use Rattle.cell_print.specs.CellFileText.{atom_text, cell_file_text}
use Rattle.cell_print.specs.Printable.{IsPrintable}
use Rattle.cell_print.proofs.FirstLines.{kind_as}

-- ---- a printable cell

-- two species in an oblique cell, with a moment of one half along c
oblique : Structure
oblique = record {
  names = (77 ∷ 110 ∷ []) ∷ (79 ∷ []) ∷ [];
  scale = pos 3;
  metric = record { a11 = pos 60; a12 = negsuc 29; a13 = pos 0; a21 = negsuc 29; a22 = pos 60; a23 = negsuc 3; a31 = pos 0; a32 = negsuc 3; a33 = pos 90 };
  n = 2;
  k = 2;
  kind = axial_vectors;
  atoms =
      record { species = 0; position = record { x = pos 0; y = pos 0; z = pos 0 }; moment = record { x = pos 0; y = pos 0; z = pos 1 } }
      ∷ record { species = 1; position = record { x = pos 1; y = pos 0; z = pos 0 }; moment = record { x = pos 0; y = pos 0; z = pos 0 } }
      ∷ [];
}

oblique_is_printable : IsPrintable oblique
unfolding gcd oblique
oblique_is_printable = record {
  least_scale = refl;
  least_n = refl;
  least_k = refl;
  scale = omega (arith, ints);
  metric = (omega arith, (omega arith, (omega arith, (omega arith, (omega arith, (omega arith, tt))))));
  moments = (omega arith, (omega arith, (omega arith, (omega arith, (omega arith, (omega arith, tt))))));
  names = refl;
  species = inr (refl, inr (refl, refl));
}

-- ---- texts

abbrev triple : ℤ → ℤ → ℤ → Triple
triple x y z = record { x = x; y = y; z = z }

-- one atom with this moment in units of one half
abbrev one_atom : MomentKind → Triple → Structure
one_atom kind m = record {
  names = codes "A" ∷ [];
  scale = pos 1;
  metric = record { a11 = pos 1; a12 = pos 0; a13 = pos 0; a21 = pos 0; a22 = pos 2; a23 = pos 0; a31 = pos 0; a32 = pos 0; a33 = pos 3 };
  n = 1;
  k = 2;
  kind = kind;
  atoms = record { species = 0; position = triple (pos 0) (pos 0) (pos 0); moment = m } ∷ [];
}

an_axial_vector : cell_file_text (one_atom (kind_as true true) (triple (negsuc 0) (pos 0) (pos 4))) ≡ codes "magcell 1\nmetric 1 2 3 0 0 0\natom A 0 0 0 -1/2 0 2\nend\n"
unfolding atom_text number_text digits gcd
an_axial_vector = refl

a_plain_vector : cell_file_text (one_atom (kind_as true false) (triple (negsuc 0) (pos 0) (pos 4))) ≡ codes "magcell 2\nkind vector plain\nmetric 1 2 3 0 0 0\natom A 0 0 0 -1/2 0 2\nend\n"
unfolding atom_text number_text digits gcd
a_plain_vector = refl

an_axial_scalar : cell_file_text (one_atom (kind_as false true) (triple (negsuc 0) (pos 0) (pos 0))) ≡ codes "magcell 2\nkind scalar axial\nmetric 1 2 3 0 0 0\natom A 0 0 0 -1/2\nend\n"
unfolding atom_text number_text digits gcd
an_axial_scalar = refl

a_plain_scalar : cell_file_text (one_atom (kind_as false false) (triple (pos 4) (pos 0) (pos 0))) ≡ codes "magcell 2\nkind scalar plain\nmetric 1 2 3 0 0 0\natom A 0 0 0 2\nend\n"
unfolding atom_text number_text digits gcd
a_plain_scalar = refl

-- a moment of 0 is left out
a_scalar_of_0 : cell_file_text (one_atom (kind_as false false) (triple (pos 0) (pos 0) (pos 0))) ≡ codes "magcell 2\nkind scalar plain\nmetric 1 2 3 0 0 0\natom A 0 0 0\nend\n"
unfolding atom_text number_text digits gcd
a_scalar_of_0 = refl
