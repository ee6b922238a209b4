-- All symmetry operations, from the primitive cell: what is carried from the list of the primitive cell is the list of the
-- cell, and maps with fractions add none.
use Rattle.std.proofs.Common.{◌≡◌, Bool, true, false, List, ℕ, subst}
use Rattle.std.specs.Prelude.{◌↔◌}
use Rattle.lists.specs.Increasing.{IsIncreasing, IsMember}
use Rattle.crystal_spec.specs.declared.Sign.{Sign}
use Rattle.crystal_spec.specs.Matrices.{Triple, Matrix}
use Rattle.crystal_spec.specs.Crystals.{Structure}
use Rattle.crystal_spec.specs.Operations.{Operation, compare_of, sign_factor, ListsAll, ListsAllSame}
use Rattle.crystal_spec.specs.Cells.{IsCell}
use Rattle.crystal_spec.proofs.Images.{occupied_itself}
use Rattle.basis_spec.specs.Translations.{IsPrimitive}
use Rattle.basis_spec.specs.Bases.{IsPrimitiveIn, SameCrystal, cell_in_basis}
use Rattle.basis_spec.specs.Carrying.{KeepsAny, IsCarried, IsListed}
use Rattle.basis_spec.proofs.OperationLists.{ListsWanted, wanted_of_all, all_of_wanted, wanted_of_same, same_of_wanted, carried_exactly, nothing_missed}

-- In a primitive cell the list of all symmetry operations misses nothing: any affine isometry, with fractions of whatever
-- denominator, that carries the crystal onto itself is one of integers, and the list has it.
pub full_group_misses_nothing : (c : Structure) (os : List Operation) → IsCell c → IsPrimitive c → ListsAll c os →
    (b : Matrix) (t : Triple) (d : ℕ) (sign : Sign) → KeepsAny c b t d (sign_factor sign) → IsListed c.n os b t d sign
full_group_misses_nothing c os cell primitive a =
    nothing_missed c os (wanted_of_all c os a) primitive cell.some_cells cell.positive cell.first.species cell.first.position cell.first.moment (occupied_itself c cell.first cell.of_cell)

wanted_in_cell : (time : Bool) (c' : Structure) (r : Matrix) (os found : List Operation) → ListsWanted time c' os → IsIncreasing compare_of found → ((o : Operation) → IsMember o found ↔ IsCarried c'.n r os o) →
    (c : Structure) → IsCell c → IsPrimitiveIn c r → cell_in_basis c r ≡ c' → ListsWanted time c found
wanted_in_cell time c' r os found a up exact c cell kept e = record {
  increasing = up;
  exact = λ o. (
      let h = carried_exactly c c' r (subst (λ (x : Structure). SameCrystal c x r) e kept.same) (subst IsPrimitive e kept.primitive) cell.some_cells cell.positive
      cell.first.species cell.first.position cell.first.moment (occupied_itself c cell.first cell.of_cell) time os a o in
      ((λ m. h.0 ((exact o).0 m)), (λ k. (exact o).1 (h.1 k))));
}

-- What is carried from the list of all symmetry operations of the primitive cell c' is, in increasing order, the list of
-- all symmetry operations of each cell c of which c' is the primitive cell in the basis of Q.
pub in_cell_is_all : (c' : Structure) (r : Matrix) (os found : List Operation) → ListsAll c' os → IsIncreasing compare_of found → ((o : Operation) → IsMember o found ↔ IsCarried c'.n r os o) →
    (c : Structure) → IsCell c → IsPrimitiveIn c r → cell_in_basis c r ≡ c' → ListsAll c found
in_cell_is_all c' r os found a up exact c cell kept e = all_of_wanted c found (wanted_in_cell true c' r os found (wanted_of_all c' os a) up exact c cell kept e)

-- the same for the operations that do not reverse time
pub in_cell_is_all_same : (c' : Structure) (r : Matrix) (os found : List Operation) → ListsAllSame c' os → IsIncreasing compare_of found → ((o : Operation) → IsMember o found ↔ IsCarried c'.n r os o) →
    (c : Structure) → IsCell c → IsPrimitiveIn c r → cell_in_basis c r ≡ c' → ListsAllSame c found
in_cell_is_all_same c' r os found a up exact c cell kept e = same_of_wanted c found (wanted_in_cell false c' r os found (wanted_of_same c' os a) up exact c cell kept e)
