-- The list of all wanted operations of a primitive cell misses no affine isometry of a wanted sign, with fractions of
-- whatever denominator: each is one of integers.
use Rattle.std.proofs.Common.{ℕ, pos, Bool, true, false, List, Result, Ok, Err, IfOk, refl}
use Rattle.crystal_spec.specs.declared.Sign.{Sign}
use Rattle.crystal_spec.specs.declared.Sign.TheVariants.{Same, Reversed}
use Rattle.crystal_spec.specs.Matrices.{Matrix, Triple}
use Rattle.crystal_spec.specs.Crystals.{Structure}
use Rattle.crystal_spec.specs.Operations.{Operation, sign_factor, ListsAllSame}
use Rattle.crystal_spec.specs.Cells.{IsCell}
use Rattle.crystal_spec.proofs.Images.{occupied_itself}
use Rattle.crystal_spec.proofs.Isometries.{sign_squared}
use Rattle.positions.specs.Positions.{modulo}
use Rattle.basis_spec.specs.Translations.{IsPrimitive}
use Rattle.basis_spec.specs.Carrying.{KeepsAny, IsListed}
use Rattle.positions.proofs.Residues.{modulo_away, modulo_within}
use Rattle.basis_spec.proofs.PrimitiveCell.{differs_sym, cells_alone}
use Rattle.basis_spec.proofs.WholeMaps.{whole}
use Rattle.basis_spec.proofs.OperationLists.{keeps_differs}
use Rattle.basis_spec.proofs.AllOperations.{full_group_misses_nothing}
use Rattle.mag_ops.specs.Groups.{ListsGroup, IsWanted}

-- of the list without time reversal
same_misses_nothing : (c : Structure) (os : List Operation) → IsCell c → IsPrimitive c → ListsAllSame c os → (b : Matrix) (t : Triple) (d : ℕ) → KeepsAny c b t d (pos 1) → IsListed c.n os b t d Same
same_misses_nothing c os cell primitive a b t d k =
    let w = whole c b t d (pos 1) k cell.first.species cell.first.position cell.first.moment (occupied_itself c cell.first cell.of_cell) cell.some_cells (cells_alone c cell.some_cells primitive) cell.positive (sign_squared Same) in
    record {
      matrix = w.matrix;
      whole_translation = w.whole_translation;
      matrix_is = w.matrix_is;
      translation_is = w.translation_is;
      of_list = (a.exact (record { matrix = w.matrix; translation = modulo c.n w.whole_translation; sign = Same })).1 (
        record {
          translation = modulo_within c.n w.whole_translation cell.some_cells;
          keeps = keeps_differs c w.matrix w.whole_translation (modulo c.n w.whole_translation) (pos 1) (differs_sym (modulo_away c.n w.whole_translation cell.some_cells)) w.keeps;
        },
        refl,
      );
    }

-- of either list
pub misses_nothing : (c : Structure) (time : Bool) (os : List Operation) → IsCell c → IsPrimitive c → ListsGroup c time os →
    (b : Matrix) (t : Triple) (d : ℕ) (sign : Sign) → IsWanted time sign → KeepsAny c b t d (sign_factor sign) → IsListed c.n os b t d sign
misses_nothing c true os cell primitive a b t d sign wanted k = full_group_misses_nothing c os cell primitive a b t d sign k
misses_nothing c false os cell primitive a b t d Same wanted k = same_misses_nothing c os cell primitive a b t d k
misses_nothing c false os cell primitive a b t d Reversed wanted k = absurd (cc wanted)

-- what follows of each value holds of the value of an `Ok`
pub if_ok_more : {X E : Type 0} {P Q : X → Type 0} (r : Result X E) → ((x : X) → P x → Q x) → IfOk r P → IfOk r Q
if_ok_more (Ok x) more h = more x h
if_ok_more (Err e) more h = tt
