-- The list of all symmetry operations of a cell is a group modulo whole cells; that of a primitive cell has no pure
-- translation but 0.
use Rattle.std.proofs.Common.{ℕ, ◌≤◌, List, arith}
use Rattle.std.specs.Prelude.{pos, ◌<ℤ◌}
use Rattle.std.proofs.lemmas.Int.{ints}
use Rattle.crystal_spec.specs.Crystals.{Structure}
use Rattle.crystal_spec.specs.Operations.{Operation, ListsAll, ListsAllSame}
use Rattle.crystal_spec.specs.Cells.{IsCell}
use Rattle.basis_spec.specs.Translations.{pure_translation, IsPrimitive}
use Rattle.op_group.specs.Groups.{IsGroupModulo}
use Rattle.op_group.proofs.GroupLaws as laws
use Rattle.mag_type.specs.MagneticTypes.{HasOnlyZeroTranslation}

one_at_least : (n : ℕ) → pos 0 <ℤ pos n → 1 ≤ n
one_at_least n h = omega (arith, ints)

-- all symmetry operations of a cell are a group
pub group_of_all : (c : Structure) (os : List Operation) → IsCell c → ListsAll c os → IsGroupModulo c.n os
group_of_all c os cell all = laws.group_of_all c cell.positive (one_at_least c.n cell.some_cells) os all

-- so are all that do not reverse time
pub group_of_same : (c : Structure) (os : List Operation) → IsCell c → ListsAllSame c os → IsGroupModulo c.n os
group_of_same c os cell same = laws.group_of_same c cell.positive (one_at_least c.n cell.some_cells) os same

-- of a primitive cell, 0 is the only pure translation among them
pub primitive_of_all : (c : Structure) (os : List Operation) → IsPrimitive c → ListsAll c os → HasOnlyZeroTranslation os
primitive_of_all c os primitive all t m =
    let s = (all.exact (pure_translation t)).0 m in
    primitive t (record { translation = s.translation; keeps = s.keeps })

pub primitive_of_same : (c : Structure) (os : List Operation) → IsPrimitive c → ListsAllSame c os → HasOnlyZeroTranslation os
primitive_of_same c os primitive same t m =
    let s = ((same.exact (pure_translation t)).0 m).0 in
    primitive t (record { translation = s.translation; keeps = s.keeps })
