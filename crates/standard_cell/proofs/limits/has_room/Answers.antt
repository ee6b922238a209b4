use Rattle.std.proofs.Common.{◌≡◌, ◌*◌, ◌^◌, ◌≤◌, ℕ, true, length, sym, subst, ◌∙◌, lit≤}
use Rattle.ring.specs.Size.{AtMost}
use Rattle.matrix3.specs.Matrices.{EachEntry}
use Rattle.crystal_spec.specs.Matrices.{Matrix, image, determinant, adjugate}
use Rattle.crystal_spec.specs.Moments.{turn_matrix}
use Rattle.crystal.specs.declared.limits.TheConstants.{MOST_ATOMS}
use Rattle.matrix3.specs.Bounds.{CoordinatesAtMost}
use Rattle.standard_cell.proofs.FrameSizes.{back_small}
use Rattle.standard_cell.proofs.StartLemmas.{turn_each}
use Rattle.standard_cell.proofs.LimitLemmas.{index_size}
use Rattle.standard_cell.proofs.limits.has_room.Goals as goal

pub returns-then-not-is_few : goal.returns-then-not-is_few
returns-then-not-is_few c =
    let f = c.args.frame.now in
    ((λ t. absurd (cc t)), (λ room. absurd (let yes : c.is_few.result ≡ true = c.is_few.ensures.1 (subst (λ (h : ℕ). h * length c.args.cell.now.atoms ≤ MOST_ATOMS) (sym (index_size f.index (determinant f.turn) c.requires.frame.index)) room.atoms) in cc (yes, c.if-not-is_few.true))))

pub returns-then-not-is_part : goal.returns-then-not-is_part
returns-then-not-is_part c = ((λ t. absurd (cc t)), (λ room. absurd (let yes : c.is_part.result ≡ true = c.is_part.ensures.1 room.n in cc (yes, c.if-not-is_part.true))))

pub returns-then-not-is_natural_part : goal.returns-then-not-is_natural_part
returns-then-not-is_natural_part c = ((λ t. absurd (cc t)), (λ room. absurd (let yes : c.is_natural_part.result ≡ true = c.is_natural_part.ensures.1 room.k in cc (yes, c.if-not-is_natural_part.true))))

pub returns-then-not-is_metric : goal.returns-then-not-is_metric
returns-then-not-is_metric c = ((λ t. absurd (cc t)), (λ room. absurd (let yes : c.is_metric.result ≡ true = c.is_metric.ensures.1 room.metric in cc (yes, c.if-not-is_metric.true))))

pub are_moments-requires : goal.are_moments-requires
are_moments-requires c =
    let f = c.args.frame.now in
    subst (EachEntry (AtMost 60000000)) (sym c.turn_matrix.ensures) (turn_each c.kind.result 60000000 f.back (lit≤ tt) (back_small f c.requires.frame))

pub returns : goal.returns
returns c =
    let f = c.args.frame.now in
    let s = c.args.cell.now in
    let e : c.turn_matrix.result ≡ turn_matrix s.kind (adjugate f.turn) = c.turn_matrix.ensures ∙ (λ j. turn_matrix (c.kind.ensures j) (c.requires.frame.back j)) in (
      (λ t. record {
        atoms = subst (λ (h : ℕ). h * length s.atoms ≤ MOST_ATOMS) (index_size f.index (determinant f.turn) c.requires.frame.index) (c.is_few.ensures.0 c.if-not-is_few.false);
        n = c.is_part.ensures.0 c.if-not-is_part.false;
        k = c.is_natural_part.ensures.0 c.if-not-is_natural_part.false;
        metric = c.is_metric.ensures.0 c.if-not-is_metric.false;
        moments = λ a m. subst (λ (w : Matrix). CoordinatesAtMost (2 * 10 ^ 27) (image w a.moment)) e (c.are_moments.ensures.0 t a m);
      }),
      (λ room. c.are_moments.ensures.1 (λ a m. subst (λ (w : Matrix). CoordinatesAtMost (2 * 10 ^ 27) (image w a.moment)) (sym e) (room.moments a m))),
    )
