use Rattle.std.proofs.Common.{◌^◌, ℕ, ℤ, pos, ◌*ℤ◌, sym, ap, subst, ◌∙◌}
use Rattle.ring.specs.Size.{AtMost}
use Rattle.matrix3.specs.Matrices.{EachCoordinate}
use Rattle.crystal_spec.specs.Matrices.{Triple, multiple}
use Rattle.standard_cell.specs.Commons.{IsCommonWith}
use Rattle.standard_cell.proofs.FrameSizes.{back_small, unit_column}
use Rattle.standard_cell.proofs.PlaceDivisorLemmas.{first_column, second_column, third_column, translations_divisor}
use Rattle.standard_cell.proofs.divisor.translation_divisor.Goals as goal

pub multiple-requires : goal.multiple-requires
multiple-requires c = record {
  fits =
      let f = c.args.frame.now in
      let b = back_small f c.requires in
      subst (λ (v : Triple). EachCoordinate (AtMost (10 ^ 36)) (multiple c.step-unit.result v)) (sym c.columns-x.ensures.first) (subst (λ (k : ℤ). EachCoordinate (AtMost (10 ^ 36)) (multiple k (first_column f.back))) (sym c.step-unit.ensures.value) (unit_column f c.requires (first_column f.back) (record { x = b.a11; y = b.a21; z = b.a31 })));
}

pub multiple-requires-2 : goal.multiple-requires-2
multiple-requires-2 c = record {
  fits =
      let f = c.args.frame.now in
      let b = back_small f c.requires in
      subst (λ (v : Triple). EachCoordinate (AtMost (10 ^ 36)) (multiple c.step-unit.result v)) (sym c.columns-x.ensures.second) (subst (λ (k : ℤ). EachCoordinate (AtMost (10 ^ 36)) (multiple k (second_column f.back))) (sym c.step-unit.ensures.value) (unit_column f c.requires (second_column f.back) (record { x = b.a12; y = b.a22; z = b.a32 })));
}

pub multiple-requires-3 : goal.multiple-requires-3
multiple-requires-3 c = record {
  fits =
      let f = c.args.frame.now in
      let b = back_small f c.requires in
      subst (λ (v : Triple). EachCoordinate (AtMost (10 ^ 36)) (multiple c.step-unit.result v)) (sym c.columns-x.ensures.third) (subst (λ (k : ℤ). EachCoordinate (AtMost (10 ^ 36)) (multiple k (third_column f.back))) (sym c.step-unit.ensures.value) (unit_column f c.requires (third_column f.back) (record { x = b.a13; y = b.a23; z = b.a33 })));
}

pub common_with-first-requires : goal.common_with-first-requires
common_with-first-requires c = c.full.ensures.positive

pub common_with-second-requires : goal.common_with-second-requires
common_with-second-requires c = c.common_with-first.ensures.positive

pub common_with-requires : goal.common_with-requires
common_with-requires c = c.common_with-second.ensures.positive

pub returns : goal.returns
returns c s same =
    let f = c.args.frame.now in
    let n = ap (λ (k : ℕ). pos k *ℤ f.parts) same in
    translations_divisor s f.turn (record { numerators = f.shift; denominator = f.parts }) c.full.result c.step-unit.result f.back c.common_with-first.result c.common_with-second.result c.common_with.result c.full.ensures.positive
    (c.full.ensures.value ∙ (λ i. c.requires.index i *ℤ n i)) (c.step-unit.ensures.value ∙ n) c.requires.back
    (subst (λ (v : Triple). IsCommonWith c.full.result v c.common_with-first.result) (c.multiple.ensures ∙ ap (multiple c.step-unit.result) c.columns-x.ensures.first) c.common_with-first.ensures)
    (subst (λ (v : Triple). IsCommonWith c.common_with-first.result v c.common_with-second.result) (c.multiple-2.ensures ∙ ap (multiple c.step-unit.result) c.columns-x.ensures.second) c.common_with-second.ensures)
    (subst (λ (v : Triple). IsCommonWith c.common_with-second.result v c.common_with.result) (c.multiple-3.ensures ∙ ap (multiple c.step-unit.result) c.columns-x.ensures.third) c.common_with.ensures)
