use Rattle.std.specs.Prelude.{Option, Some, None, MatchOption}
use Rattle.lattice_reduce.specs.Steps.{tensor_of}
use Rattle.lattice_reduce.proofs.Exit.{reduced_acute, reduced_obtuse, acute_of, obtuse_of}
use Rattle.lattice_reduce.proofs.choice.choose.Goals as goal

none_then : {A : Type 0} (o : Option A) (P P' : Type 0) (Q : A → Type 0) → (P → P') → MatchOption o P Q → MatchOption o P' Q
none_then None P P' Q f h = f h
none_then (Some x) P P' Q f h = h

pub returns-then-is_positive : goal.returns-then-is_positive
returns-then-is_positive c =
    let x = c.if-is_positive.ensures in
    none_then c.acute_edge.result _ _ _ (reduced_acute (tensor_of c.args.g.now) c.requires.diagonal c.in_default.ensures c.in_default-short_step.ensures (acute_of _ _ _ c.in_default-sign_step.ensures x)) c.acute_edge.ensures

pub returns-else-is_positive : goal.returns-else-is_positive
returns-else-is_positive c =
    let x = c.if-is_positive.ensures in
    none_then c.obtuse_edge.result _ _ _ (reduced_obtuse (tensor_of c.args.g.now) c.requires.diagonal c.in_default.ensures c.in_default-short_step.ensures (obtuse_of _ _ _ c.in_default-sign_step.ensures x) c.in_default-sum_step.ensures) c.obtuse_edge.ensures
