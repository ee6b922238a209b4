-- The texts of a dataset, of orbits and of a primitive cell at a few values.
use Rattle.std.proofs.Common.{◌≡◌, ◌∷◌, [], List, ℕ, false, pos, negsuc, refl}
use Rattle.std.specs.Prelude.{codes}
use Rattle.std.specs.Fmt.{digits}
use Rattle.numbers.specs.Gcd.{gcd}
use Rattle.crystal_spec.specs.declared.Sign.TheVariants.{Same}
use Rattle.crystal_spec.specs.Matrices.{Matrix, identity}
use Rattle.crystal_spec.specs.Moments.{axial_vectors}
use Rattle.crystal_spec.specs.Crystals.{Atom, Structure}
use Rattle.crystal_spec.specs.Operations.{Operation}
use Rattle.op_group.specs.Lists.{OperationList}
use Rattle.operation_text.specs.OperationText.{parts_text}
use Rattle.site_orbits.specs.Entries.{AtomOrbit}
use Rattle.plain_text.specs.NumberText.{number_text}
use Rattle.serde_json.proofs.OnLiterals.{serde_json_on_literals}
use Rattle.cell_print.specs.CellFileText.{atom_text}
use Rattle.report_text.specs.PrimitiveText.{cell_in_basis_text}
use Rattle.report_text.specs.OrbitText.{orbit_text}
use Rattle.report_text.specs.DatasetText.{metric_words, dataset_text}

-- ---- a dataset

-- the operation of this matrix with no translation and no time reversal
abbrev operation_of_matrix : Matrix → Operation
operation_of_matrix w = record { matrix = w; translation = record { x = pos 0; y = pos 0; z = pos 0 }; sign = Same }

abbrev inversion : Matrix
inversion = record { a11 = negsuc 0; a12 = pos 0; a13 = pos 0; a21 = pos 0; a22 = negsuc 0; a23 = pos 0; a31 = pos 0; a32 = pos 0; a33 = negsuc 0 }

-- axes of squared lengths 4, 5 and 6 with all other scalar products 1, and one atom with the moment 1 2 3
abbrev one_atom : Structure
one_atom = record {
  names = codes "X" ∷ [];
  scale = pos 1;
  metric = record { a11 = pos 4; a12 = pos 1; a13 = pos 1; a21 = pos 1; a22 = pos 5; a23 = pos 1; a31 = pos 1; a32 = pos 1; a33 = pos 6 };
  n = 1;
  k = 1;
  kind = axial_vectors;
  atoms = record { species = 0; position = record { x = pos 0; y = pos 0; z = pos 0 }; moment = record { x = pos 1; y = pos 2; z = pos 3 } } ∷ [];
}

abbrev one_atom_operations : OperationList
one_atom_operations = record { n = 1; operations = operation_of_matrix inversion ∷ operation_of_matrix identity ∷ [] }

-- both operations keep the position of the atom
abbrev one_atom_orbits : List AtomOrbit
one_atom_orbits = record { first = 0; size = 1; site = one_atom_operations } ∷ []

text_of_a_dataset : dataset_text 1 identity one_atom one_atom_operations 2 (record { kind = 1; family = 2; unprimed = 2 }) one_atom_orbits
    ≡ codes "{\"back\":\"1 0 0 0 1 0 0 0 1\",\"cell_order\":2,\"family_order\":2,\"index\":1,\"metric\":\"4 5 6 1 1 1\",\"operations\":[\"-x,-y,-z,+1\",\"x,y,z,+1\"],\"orbits\":[1],\"order\":2,\"sites\":[2],\"type\":1,\"unprimed_order\":2}\n"
unfolding dataset_text serde_json_on_literals parts_text number_text digits gcd
text_of_a_dataset = refl

-- a third of the metric tensor
thirds_of_a_metric : metric_words (record one_atom { scale = pos 3 }) ≡ codes "4/3 5/3 2 1/3 1/3 1/3"
unfolding number_text digits gcd
thirds_of_a_metric = refl

-- ---- orbits

abbrev atom_of_species : ℕ → Atom
atom_of_species species = record { species = species; position = record { x = pos 0; y = pos 0; z = pos 0 }; moment = record { x = pos 0; y = pos 0; z = pos 0 } }

-- the inversion is of the site-symmetry group of the second atom alone, and takes the first to the third
abbrev three_orbits : List AtomOrbit
three_orbits =
    let moved : AtomOrbit = record { first = 0; size = 2; site = record { n = 1; operations = operation_of_matrix identity ∷ [] } } in
    moved ∷ record { first = 1; size = 1; site = one_atom_operations } ∷ moved ∷ []

text_of_orbits : orbit_text (codes "A" ∷ codes "B" ∷ []) (atom_of_species 0 ∷ atom_of_species 1 ∷ atom_of_species 0 ∷ []) three_orbits
    ≡ codes "atom 1 A orbit 1 site 1\natom 2 B orbit 2 site 2\natom 3 A orbit 1 site 1\norbit 1 size 2 site 1\nx,y,z,+1\norbit 2 size 1 site 2\n-x,-y,-z,+1\nx,y,z,+1\n"
unfolding orbit_text parts_text digits
text_of_orbits = refl

-- ---- a primitive cell

text_of_a_primitive_cell : cell_in_basis_text 2 inversion one_atom ≡ codes "magcell 1\n# index 2\n# back -1 0 0 0 -1 0 0 0 -1\nmetric 4 5 6 1 1 1\natom X 0 0 0 1 2 3\nend\n"
unfolding cell_in_basis_text atom_text number_text digits gcd
text_of_a_primitive_cell = refl

-- one atom with the moment 1, a scalar that is not axial
abbrev one_scalar : Structure
one_scalar = record one_atom {
  kind = record { vector = false; axial = false };
  atoms = record { species = 0; position = record { x = pos 0; y = pos 0; z = pos 0 }; moment = record { x = pos 1; y = pos 0; z = pos 0 } } ∷ [];
}

text_of_a_primitive_cell_of_scalars : cell_in_basis_text 2 inversion one_scalar ≡ codes "magcell 2\n# index 2\n# back -1 0 0 0 -1 0 0 0 -1\nkind scalar plain\nmetric 4 5 6 1 1 1\natom X 0 0 0 1\nend\n"
unfolding cell_in_basis_text atom_text number_text digits gcd
text_of_a_primitive_cell_of_scalars = refl
