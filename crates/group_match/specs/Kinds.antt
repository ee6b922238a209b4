-- What a map leaves unchanged of an operation, as one number, and how many operations have it.
--   kind_of w s           9 times the trace of w, 3 times its determinant, and the factor 1 or -1 of the time sign
--   kind_of_source x      that of an operation of the symbol, by its matrix in the triangular basis
--   kind_of_member o      that of a member of the found group
--   number_of_kind k ks   how many of the list are k
--   HasOtherNumber js ks  some number is not as often in the one list as in the other
use Rattle.std.specs.Prelude.{◌≢◌, ℕ, ◌+◌, true, false, List, [], ◌∷◌, ℤ, pos, ◌+ℤ◌, ◌*ℤ◌}
use Rattle.std.specs.Ordering.{int_eq}
use Rattle.crystal_spec.specs.declared.Sign.{Sign}
use Rattle.crystal_spec.specs.Matrices.{Matrix, determinant}
use Rattle.crystal_spec.specs.Operations.{sign_factor}
use Rattle.op_group.specs.declared.operation.Op.{Op}
use Rattle.group_match.specs.declared.inner.Source.{Source}

-- 9 times the trace, 3 times the determinant, and the factor of the time sign
abbrev pub kind_of : Matrix → Sign → ℤ
kind_of w s = (pos 9 *ℤ ((w.a11 +ℤ w.a22) +ℤ w.a33) +ℤ pos 3 *ℤ determinant w) +ℤ sign_factor s

-- by the matrix in the triangular basis
abbrev pub kind_of_source : Source → ℤ
kind_of_source x = kind_of x.inner x.op.sign

-- of a member
abbrev pub kind_of_member : Op → ℤ
kind_of_member o = kind_of o.w o.sign

-- how many of the list are k
abbrev pub number_of_kind : ℤ → List ℤ → ℕ
number_of_kind k [] = 0
number_of_kind k (j ∷ js) = elim (int_eq j k) [ true ↦ 1 | false ↦ 0 ] + number_of_kind k js

-- some number is not as often in both lists
pub record HasOtherNumber (js ks : List ℤ) : Type 0 where
  pub kind : ℤ
  pub differ : number_of_kind kind js ≢ number_of_kind kind ks
