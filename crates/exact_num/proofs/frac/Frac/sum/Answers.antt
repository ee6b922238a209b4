use Rattle.ring.proofs.IntOrder.{mul_pos}
use Rattle.exact_num.proofs.FracLemmas.{sum_reads}
use Rattle.exact_num.proofs.frac.Frac.sum.Goals as goal

pub overflow_add-self : goal.overflow_add-self
overflow_add-self c =
    let p = c.args.self.now in
    let q = c.args.other.now in
    let k = sum_reads p.num p.den q.num q.den p.small q.small in
    simp (k.left_num, k.left_den, k.right_num, k.right_den, k.left_term, k.right_term) k.num_fits

pub overflow_mul-self-2 : goal.overflow_mul-self-2
overflow_mul-self-2 c =
    let p = c.args.self.now in
    let q = c.args.other.now in
    let k = sum_reads p.num p.den q.num q.den p.small q.small in
    simp (k.left_den, k.right_den) k.den_fits

pub reduce-requires : goal.reduce-requires
reduce-requires c =
    let p = c.args.self.now in
    let q = c.args.other.now in
    let k = sum_reads p.num p.den q.num q.den p.small q.small in
    record {
      positive = simp (k.left_den, k.right_den, k.den) (mul_pos _ _ p.lowest.positive q.lowest.positive);
      num_size = simp (k.left_num, k.left_den, k.right_num, k.right_den, k.left_term, k.right_term, k.num) k.num_size;
    }

pub returns : goal.returns
returns c =
    let p = c.args.self.now in
    let q = c.args.other.now in
    let k = sum_reads p.num p.den q.num q.den p.small q.small in
    record {
      value = simp (k.left_num, k.left_den, k.right_num, k.right_den, k.left_term, k.right_term, k.den, k.num) at c.reduce.ensures.value;
      exact = simp (k.left_num, k.left_den, k.right_num, k.right_den, k.left_term, k.right_term, k.den, k.num) at c.reduce.ensures.exact;
    }
