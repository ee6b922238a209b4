use Rattle.std.proofs.Common.{pos, length, ap, ◌∙◌, arith}
use Rattle.lists.proofs.Members.{member_read}
use Rattle.crystal_spec.specs.Matrices.{sum_of}
use Rattle.group_match.proofs.Sums.{counted_none, none_size, counted_on, counted_all, grown_size, fits_size}
use Rattle.group_match.proofs.origin.balance.Goals as goal

pub loop-pair-init : goal.loop-pair-init
loop-pair-init c = record { counted = counted_none _ _ c.column-sum.ensures.value; size = none_size _ c.column-sum.ensures.value }

pub gap-requires-clause-pair : goal.gap-requires-clause-pair
gap-requires-clause-pair c =
    c.requires.pairs c.pair-item.result (member_read c.args.pairs.now c.loop-pair.pair-index c.pair-item.result c.loop-pair-test.true c.pair-item.is)

pub plus-sum-requires : goal.plus-sum-requires
plus-sum-requires c = record {
  fits = fits_size c.loop-pair.pair-index (length c.args.pairs.now) c.loop-pair.sum c.gap.result c.loop-pair-test.true c.requires.few c.loop-pair.invariant.size c.gap.ensures.size;
}

pub loop-pair-preserved : goal.loop-pair-preserved
loop-pair-preserved c =
    let q = c.args.turn.now in
    let n = pos c.args.n in
    record {
      counted = counted_on q n c.args.pairs.now c.loop-pair.pair-index c.pair-item.result c.loop-pair.sum c.plus-sum.result c.loop-pair-test.true c.pair-item.is (c.plus-sum.ensures ∙ ap (sum_of c.loop-pair.sum) c.gap.ensures.value) c.loop-pair.invariant.counted;
      size = grown_size c.loop-pair.pair-index c.loop-pair.sum c.gap.result c.plus-sum.result c.plus-sum.ensures c.loop-pair.invariant.size c.gap.ensures.size;
    }

pub returns : goal.returns
returns c = counted_all c.args.turn.now (pos c.args.n) c.args.pairs.now c.loop-pair.pair-index c.loop-pair.sum (omega arith) c.loop-pair.invariant.counted
