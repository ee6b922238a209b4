use Rattle.std.proofs.Common.{◌≤◌, ℕ, List, map, length, sym, subst, ap, ◌∙◌}
use Rattle.lists.specs.Increasing.{IsMember}
use Rattle.lists.proofs.Increasing.{increasing_distinct}
use Rattle.crystal_spec.specs.Operations.{compare_of}
use Rattle.crystal_spec.proofs.Ordered.{compare_total}
use Rattle.basis_spec.specs.StepBases.{InLattice, IsSteps}
use Rattle.std.proofs.lemmas.List.{length-map}
use Rattle.op_group.specs.Groups.{IsGroupModulo}
use Rattle.op_group.specs.Views.{operation_of}
use Rattle.op_group.specs.declared.operation.Op.{Op}
use Rattle.match_spec.specs.FirstMap.{IsStepMatrix}
use Rattle.match_spec.specs.Searching.{AreRepresentatives}
use Rattle.match_spec.proofs.ListedGroups.{closed_of}
use Rattle.match_spec.proofs.Fewness.{few_operations, few_representatives}
use Rattle.group_match.specs.Sources.{AreSources, HasNoInner, op_of}
use Rattle.group_match.specs.Tasks.{AreSourcesOf}
use Rattle.group_match.proofs.Outcomes.{of_none, of_some, ok_both_then, ok_none_then}
use Rattle.group_match.proofs.TaskLemmas.{step_pair, not_as_many, no_inner, sources_of}
use Rattle.group_match.proofs.search.row_map.Goals as goal

pub step_basis-steps-requires-clause-closed : goal.step_basis-steps-requires-clause-closed
step_basis-steps-requires-clause-closed c =
    closed_of c.args.symbol.now.n c.args.symbol.now.operations c.requires.symbol_group

pub step_basis-steps-requires-clause-few : goal.step_basis-steps-requires-clause-few
step_basis-steps-requires-clause-few c =
    let h = c.args.symbol.now.operations in
    let n = c.args.found.now.n in
    let m = c.args.found.now.operations in
    let gh : IsGroupModulo 12 h = subst (λ (k : ℕ). IsGroupModulo k h) c.requires.twelfths c.requires.symbol_group in
    few_operations h (increasing_distinct compare_of compare_total h c.invariant.ensures.ordered) gh.within_cell c.requires.few

pub returns-then-not-are_as_many-clause-absent : goal.returns-then-not-are_as_many-clause-absent
returns-then-not-are_as_many-clause-absent c =
    let h = c.args.symbol.now.operations in
    let n = c.args.found.now.n in
    let m = c.args.found.now.operations in
    let gh : IsGroupModulo 12 h = subst (λ (k : ℕ). IsGroupModulo k h) c.requires.twelfths c.requires.symbol_group in
    let once = increasing_distinct compare_of compare_total m c.invariant-2.ensures.ordered in
    let s = c.step_basis-steps.result in
    let steps : IsSteps 12 (InLattice 12 h) s.index s.back s.fore = subst (λ (k : ℕ). IsSteps k (InLattice k h) s.index s.back s.fore) c.requires.twelfths c.step_basis-steps.ensures.steps in
    let sm : IsStepMatrix h s.back = record { index = s.index; fore = s.fore; steps = steps } in
    let rs = map operation_of c.in_ok-reps.reps.items in
    let ar : AreRepresentatives h rs = c.in_ok-reps.ensures in
    record {
      step = s.back;
      is_step = sm;
      none = not_as_many h n m s.back rs gh c.requires.found_group c.requires.primitive once sm ar (λ e. (let yes = c.are_as_many.ensures.1 (ap length c.deref.ensures.value ∙ (sym (length-map c.in_ok-reps.reps.items operation_of) ∙ e)) in cc (yes, c.if-not-are_as_many.true)));
    }

pub sources-requires-clause-steps : goal.sources-requires-clause-steps
sources-requires-clause-steps c =
    let h = c.args.symbol.now.operations in
    let n = c.args.found.now.n in
    let m = c.args.found.now.operations in
    let gh : IsGroupModulo 12 h = subst (λ (k : ℕ). IsGroupModulo k h) c.requires.twelfths c.requires.symbol_group in
    let s = c.step_basis-steps.result in
    let steps : IsSteps 12 (InLattice 12 h) s.index s.back s.fore = subst (λ (k : ℕ). IsSteps k (InLattice k h) s.index s.back s.fore) c.requires.twelfths c.step_basis-steps.ensures.steps in
    let sm : IsStepMatrix h s.back = record { index = s.index; fore = s.fore; steps = steps } in
    step_pair h s.index s.back s.fore gh steps c.step_basis-steps.ensures.determinant c.step_basis-steps.ensures.back_entries c.step_basis-steps.ensures.fore_entries

pub sources-requires-clause-small : goal.sources-requires-clause-small
sources-requires-clause-small c o ho =
    let h = c.args.symbol.now.operations in
    let n = c.args.found.now.n in
    let m = c.args.found.now.operations in
    let gh : IsGroupModulo 12 h = subst (λ (k : ℕ). IsGroupModulo k h) c.requires.twelfths c.requires.symbol_group in
    let rs = map operation_of c.in_ok-reps.reps.items in
    let ar : AreRepresentatives h rs = c.in_ok-reps.ensures in
    c.requires.symbol_entries o (ar.of_list o (subst (λ (xs : List Op). IsMember o (map operation_of xs)) c.deref-2.ensures.value ho))

pub returns-in-None-clause-absent : goal.returns-in-None-clause-absent
returns-in-None-clause-absent c =
    let h = c.args.symbol.now.operations in
    let n = c.args.found.now.n in
    let m = c.args.found.now.operations in
    let gh : IsGroupModulo 12 h = subst (λ (k : ℕ). IsGroupModulo k h) c.requires.twelfths c.requires.symbol_group in
    let s = c.step_basis-steps.result in
    let steps : IsSteps 12 (InLattice 12 h) s.index s.back s.fore = subst (λ (k : ℕ). IsSteps k (InLattice k h) s.index s.back s.fore) c.requires.twelfths c.step_basis-steps.ensures.steps in
    let sm : IsStepMatrix h s.back = record { index = s.index; fore = s.fore; steps = steps } in
    let rs = map operation_of c.in_ok-reps.reps.items in
    let ar : AreRepresentatives h rs = c.in_ok-reps.ensures in
    record {
      step = s.back;
      is_step = sm;
      none = no_inner h n m s.back rs c.requires.found_entries ar (subst (λ (xs : List Op). HasNoInner s.back (map operation_of xs)) c.deref-2.ensures.value (of_none c.in_ok-sources.field-0 c.in_ok-sources.ensures.absent c.in-None.is));
    }

pub compared_map-requires-clause-task : goal.compared_map-requires-clause-task
compared_map-requires-clause-task c =
    let h = c.args.symbol.now.operations in
    let n = c.args.found.now.n in
    let m = c.args.found.now.operations in
    let gh : IsGroupModulo 12 h = subst (λ (k : ℕ). IsGroupModulo k h) c.requires.twelfths c.requires.symbol_group in
    let once = increasing_distinct compare_of compare_total m c.invariant-2.ensures.ordered in
    let rs = map operation_of c.in_ok-reps.reps.items in
    let ar : AreRepresentatives h rs = c.in_ok-reps.ensures in
    record {
      symbol_group = gh;
      found_group = c.requires.found_group;
      primitive = c.requires.primitive;
      once = once;
      n_most = c.requires.found_n;
      few = subst (λ (k : ℕ). k ≤ 96) (length-map c.in_ok-reps.reps.items operation_of ∙ (sym (ap length c.deref.ensures.value) ∙ c.are_as_many.ensures.0 c.if-not-are_as_many.false)) (few_representatives h rs c.requires.few ar);
      small = c.requires.found_entries;
    }

pub compared_map-requires-clause-step : goal.compared_map-requires-clause-step
compared_map-requires-clause-step c =
    let h = c.args.symbol.now.operations in
    let n = c.args.found.now.n in
    let m = c.args.found.now.operations in
    let gh : IsGroupModulo 12 h = subst (λ (k : ℕ). IsGroupModulo k h) c.requires.twelfths c.requires.symbol_group in
    let s = c.step_basis-steps.result in
    let steps : IsSteps 12 (InLattice 12 h) s.index s.back s.fore = subst (λ (k : ℕ). IsSteps k (InLattice k h) s.index s.back s.fore) c.requires.twelfths c.step_basis-steps.ensures.steps in
    let sm : IsStepMatrix h s.back = record { index = s.index; fore = s.fore; steps = steps } in
    sm

pub compared_map-requires-clause-sources : goal.compared_map-requires-clause-sources
compared_map-requires-clause-sources c =
    let h = c.args.symbol.now.operations in
    let n = c.args.found.now.n in
    let m = c.args.found.now.operations in
    let gh : IsGroupModulo 12 h = subst (λ (k : ℕ). IsGroupModulo k h) c.requires.twelfths c.requires.symbol_group in
    let s = c.step_basis-steps.result in
    let steps : IsSteps 12 (InLattice 12 h) s.index s.back s.fore = subst (λ (k : ℕ). IsSteps k (InLattice k h) s.index s.back s.fore) c.requires.twelfths c.step_basis-steps.ensures.steps in
    let sm : IsStepMatrix h s.back = record { index = s.index; fore = s.fore; steps = steps } in
    let rs = map operation_of c.in_ok-reps.reps.items in
    let ar : AreRepresentatives h rs = c.in_ok-reps.ensures in
    let ops = c.in_ok-reps.reps.items in
    let so : AreSources s.back ops c.in-Some.sources.items = subst (λ (xs : List Op). AreSources s.back xs c.in-Some.sources.items) c.deref-2.ensures.value (of_some (λ v. AreSources s.back c.deref-2.result.now v.items) c.in_ok-sources.field-0 c.in-Some.sources c.in_ok-sources.ensures.found c.in-Some.is) in
    subst (AreSourcesOf h s.back) (sym c.deref-in-Some.ensures.value) (sources_of h s.back ops c.in-Some.sources.items ar so)

pub compared_map-requires-clause-many : goal.compared_map-requires-clause-many
compared_map-requires-clause-many c =
    let h = c.args.symbol.now.operations in
    let n = c.args.found.now.n in
    let m = c.args.found.now.operations in
    let gh : IsGroupModulo 12 h = subst (λ (k : ℕ). IsGroupModulo k h) c.requires.twelfths c.requires.symbol_group in
    let s = c.step_basis-steps.result in
    let steps : IsSteps 12 (InLattice 12 h) s.index s.back s.fore = subst (λ (k : ℕ). IsSteps k (InLattice k h) s.index s.back s.fore) c.requires.twelfths c.step_basis-steps.ensures.steps in
    let sm : IsStepMatrix h s.back = record { index = s.index; fore = s.fore; steps = steps } in
    let rs = map operation_of c.in_ok-reps.reps.items in
    let ar : AreRepresentatives h rs = c.in_ok-reps.ensures in
    let ops = c.in_ok-reps.reps.items in
    let so : AreSources s.back ops c.in-Some.sources.items = subst (λ (xs : List Op). AreSources s.back xs c.in-Some.sources.items) c.deref-2.ensures.value (of_some (λ v. AreSources s.back c.deref-2.result.now v.items) c.in_ok-sources.field-0 c.in-Some.sources c.in_ok-sources.ensures.found c.in-Some.is) in
    ap length c.deref-in-Some.ensures.value ∙ (sym (length-map c.in-Some.sources.items op_of) ∙ (ap length so.ops_are ∙ (sym (ap length c.deref.ensures.value) ∙ c.are_as_many.ensures.0 c.if-not-are_as_many.false)))

pub returns-clause-found : goal.returns-clause-found
returns-clause-found c =
    let h = c.args.symbol.now.operations in
    let n = c.args.found.now.n in
    let m = c.args.found.now.operations in
    let gh : IsGroupModulo 12 h = subst (λ (k : ℕ). IsGroupModulo k h) c.requires.twelfths c.requires.symbol_group in
    let s = c.step_basis-steps.result in
    let steps : IsSteps 12 (InLattice 12 h) s.index s.back s.fore = subst (λ (k : ℕ). IsSteps k (InLattice k h) s.index s.back s.fore) c.requires.twelfths c.step_basis-steps.ensures.steps in
    let sm : IsStepMatrix h s.back = record { index = s.index; fore = s.fore; steps = steps } in
    ok_both_then c.compared_map.result (λ v f t. record { step = s.back; is_step = sm; turn_is = t; first = f }) c.compared_map.ensures.found c.compared_map.ensures.turn

pub returns-clause-absent : goal.returns-clause-absent
returns-clause-absent c =
    let h = c.args.symbol.now.operations in
    let n = c.args.found.now.n in
    let m = c.args.found.now.operations in
    let gh : IsGroupModulo 12 h = subst (λ (k : ℕ). IsGroupModulo k h) c.requires.twelfths c.requires.symbol_group in
    let s = c.step_basis-steps.result in
    let steps : IsSteps 12 (InLattice 12 h) s.index s.back s.fore = subst (λ (k : ℕ). IsSteps k (InLattice k h) s.index s.back s.fore) c.requires.twelfths c.step_basis-steps.ensures.steps in
    let sm : IsStepMatrix h s.back = record { index = s.index; fore = s.fore; steps = steps } in
    ok_none_then c.compared_map.result (λ f. record { step = s.back; is_step = sm; none = f }) c.compared_map.ensures.absent
