-- The generator and the text at a few values.
use Rattle.std.proofs.Common.{◌≡◌, ℕ, zero, suc, ◌/◌, List, [], ◌∷◌, length, take, drop, map, pos, negsuc, refl}
use Rattle.std.specs.Prelude.{codes}
use Rattle.std.specs.Fmt.{digits}
use Rattle.generated_cell.specs.Generator.{next_state, draws}
use Rattle.generated_cell.specs.GeneratedText.{node, row_of, plane_of, nodes, class_of, atom_line, text_of}
use Rattle.generated_cell.specs.GeneratedCell.{component, atom_of}

-- ---- the generator

-- the first n states behind s, divided by 2^16
abbrev numbers_of : ℕ → ℕ → List ℕ
numbers_of zero s = []
numbers_of (suc n) s = next_state s / 65536 ∷ numbers_of n (next_state s)

numbers_of_seed_1 : numbers_of 8 1 ≡ 16838 ∷ 5758 ∷ 10113 ∷ 17515 ∷ 31051 ∷ 5627 ∷ 23010 ∷ 7419 ∷ []
numbers_of_seed_1 = refl

draws_of_seed_1 : draws 8 1 ≡ 2 ∷ 1 ∷ 0 ∷ 1 ∷ 1 ∷ 2 ∷ 0 ∷ 0 ∷ []
unfolding draws
draws_of_seed_1 = refl

moments_of_seed_1 : map component (draws 8 1) ≡ negsuc 0 ∷ pos 1 ∷ pos 0 ∷ pos 1 ∷ pos 1 ∷ negsuc 0 ∷ pos 0 ∷ pos 0 ∷ []
unfolding draws
moments_of_seed_1 = refl

draws_of_seed_0 : draws 8 0 ≡ 0 ∷ 0 ∷ 1 ∷ 1 ∷ 0 ∷ 1 ∷ 1 ∷ 1 ∷ []
unfolding draws
draws_of_seed_0 = refl

-- the largest seed of 32 bits has the draws of the largest of 31
draws_of_the_largest_seed : draws 8 4294967295 ≡ 2 ∷ 2 ∷ 1 ∷ 0 ∷ 1 ∷ 2 ∷ 2 ∷ 2 ∷ []
unfolding draws
draws_of_the_largest_seed = refl

-- ---- the grid

the_first_nodes : take 10 nodes ≡ node 0 0 0 ∷ node 0 0 1 ∷ node 0 0 2 ∷ node 0 0 3 ∷ node 0 0 4 ∷ node 0 0 5 ∷ node 0 0 6 ∷ node 0 0 7 ∷ node 0 1 0 ∷ node 0 1 1 ∷ []
unfolding nodes plane_of row_of
the_first_nodes = refl

the_last_nodes : drop 510 nodes ≡ node 7 7 6 ∷ node 7 7 7 ∷ []
unfolding nodes plane_of row_of
the_last_nodes = refl

how_many_nodes : length nodes ≡ 512
unfolding nodes plane_of row_of
how_many_nodes = refl

classes_of_nodes : map class_of (node 0 0 0 ∷ node 0 0 1 ∷ node 2 3 4 ∷ node 0 7 5 ∷ node 1 0 0 ∷ node 5 6 7 ∷ node 3 1 2 ∷ node 7 7 7 ∷ []) ≡ 0 ∷ 1 ∷ 2 ∷ 3 ∷ 4 ∷ 5 ∷ 6 ∷ 7 ∷ []
classes_of_nodes = refl

-- ---- lines, with the draws of seed 1

abbrev of_seed_1 : List ℕ
of_seed_1 = 2 ∷ 1 ∷ 0 ∷ 1 ∷ 1 ∷ 2 ∷ 0 ∷ 0 ∷ []

a_moment_against_the_axis : atom_line of_seed_1 (node 0 0 0) ≡ codes "atom A 0/8 0/8 0/8 0 0 -1"
unfolding atom_line digits
a_moment_against_the_axis = refl

a_moment_along_the_axis : atom_line of_seed_1 (node 6 3 5) ≡ codes "atom A 6/8 3/8 5/8 0 0 1"
unfolding atom_line digits
a_moment_along_the_axis = refl

no_moment : atom_line of_seed_1 (node 7 7 4) ≡ codes "atom A 7/8 7/8 4/8"
unfolding atom_line digits
no_moment = refl

two_lines : text_of of_seed_1 (node 0 0 1 ∷ node 0 1 0 ∷ []) ≡ codes "atom A 0/8 0/8 1/8 0 0 1\natom A 0/8 1/8 0/8\n"
unfolding text_of atom_line digits
two_lines = refl

an_atom_of_the_cell : atom_of of_seed_1 (node 0 0 0) ≡ record { species = 0; position = record { x = pos 0; y = pos 0; z = pos 0 }; moment = record { x = pos 0; y = pos 0; z = negsuc 0 } }
an_atom_of_the_cell = refl
