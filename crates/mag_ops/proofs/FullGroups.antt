-- The list of all wanted operations of a primitive cell is a group without a translation but 0, and where the metric tensor is
-- Niggli-reduced the entries of its matrices are -1, 0 and 1.
use Rattle.std.proofs.Common.{◌≡◌, Bool, true, false, List, Result, Ok, Err, IfOk}
use Rattle.crystal_spec.specs.Matrices.{transposed}
use Rattle.crystal_spec.specs.Crystals.{Structure, KeepsMetric}
use Rattle.crystal_spec.specs.Operations.{Operation}
use Rattle.crystal_spec.specs.Cells.{IsCell}
use Rattle.lists.specs.Increasing.{IsMember}
use Rattle.lattice_spec.specs.Niggli.{IsNiggli}
use Rattle.basis_spec.specs.Translations.{IsPrimitive}
use Rattle.op_group.specs.Groups.{IsGroupModulo}
use Rattle.op_group.specs.Lists.{HasEntriesAtMost}
use Rattle.mag_type.specs.MagneticTypes.{HasOnlyZeroTranslation}
use Rattle.mag_type.proofs.AllOperations.{group_of_all, group_of_same, primitive_of_all, primitive_of_same}
use Rattle.mag_ops.specs.Groups.{ListsGroup}
use Rattle.mag_ops.proofs.CarriedBack.{reduced_isometry_small}

-- the list of all operations, or of those that do not reverse time, is a group
pub listed_group : (c : Structure) (time : Bool) (os : List Operation) → IsCell c → ListsGroup c time os → IsGroupModulo c.n os
listed_group c true os cell h = group_of_all c os cell h
listed_group c false os cell h = group_of_same c os cell h

-- of a primitive cell, 0 is the only pure translation among them
pub listed_primitive : (c : Structure) (time : Bool) (os : List Operation) → IsPrimitive c → ListsGroup c time os → HasOnlyZeroTranslation os
listed_primitive c true os primitive h = primitive_of_all c os primitive h
listed_primitive c false os primitive h = primitive_of_same c os primitive h

kept_metric : (c : Structure) (time : Bool) (os : List Operation) → ListsGroup c time os → (o : Operation) → IsMember o os → KeepsMetric c.metric o.matrix
kept_metric c true os h o m = ((h.exact o).0 m).keeps.metric
kept_metric c false os h o m = ((h.exact o).0 m).0.keeps.metric

-- each keeps the metric tensor
pub listed_small : (c : Structure) (time : Bool) (os : List Operation) → IsNiggli c.metric → transposed c.metric ≡ c.metric → ListsGroup c time os → HasEntriesAtMost 1 os
listed_small c time os niggli symmetric h o m = reduced_isometry_small c.metric o.matrix niggli symmetric (kept_metric c time os h o m)

-- what follows of two facts on each value holds of the value of an `Ok`
pub if_ok_both : {X E : Type 0} {P Q R : X → Type 0} (r : Result X E) → ((x : X) → P x → Q x → R x) → IfOk r P → IfOk r Q → IfOk r R
if_ok_both (Ok x) more p q = more x p q
if_ok_both (Err e) more p q = tt
