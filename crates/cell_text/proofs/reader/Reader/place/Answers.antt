use Rattle.std.proofs.Common.{sym, ◌∙◌, arith, ap, List, [], ◌∷◌, map, length, length-append}
use Rattle.std.proofs.lemmas.List.{length-map}
use Rattle.cell_text.specs.declared.atom_line.AtomLine.{AtomLine}
use Rattle.cell_text.specs.Entries.{State}
use Rattle.cell_text.specs.Views.{atom_view}
use Rattle.cell_text.specs.Rules.{same_place}
use Rattle.cell_text.proofs.Placing.{place-position, place-moment, place-wide, place-rest, Fits, placed_n, placed_k, placed_moments, placed_apart, placed_kind}
use Rattle.cell_text.proofs.Stepping.{judged_error}
use Rattle.cell_text.proofs.reader.Reader.place.Goals as goal

pub returns-in_default-clause-judged : goal.returns-in_default-clause-judged
returns-in_default-clause-judged c = place-position c.self.inside c.args.self.now c.args.atom c.self.invariant c.self.view_is c.in_default.ensures

pub returns-in_default-grown-clause-judged : goal.returns-in_default-grown-clause-judged
returns-in_default-grown-clause-judged c = place-moment c.self.inside c.args.self.now c.args.atom c.in-Some.n c.self.invariant c.self.view_is c.in-Some.ensures.0 c.in-Some.ensures.1 c.in_default-grown.ensures

pub returns-then-not-are_moments_in_range-clause-judged : goal.returns-then-not-are_moments_in_range-clause-judged
returns-then-not-are_moments_in_range-clause-judged c =
    let fits : Fits c.self.inside c.args.atom c.in-Some.n c.in-Some-grown.k = record { n_is = c.in-Some.ensures.0; n_within = c.in-Some.ensures.1; k_is = c.in-Some-grown.ensures.0; k_within = c.in-Some-grown.ensures.1 } in
    place-wide c.self.inside c.args.self.now c.args.atom _ _ c.self.invariant c.self.view_is fits (sym c.are_moments_in_range.ensures ∙ c.if-not-are_moments_in_range.true)

pub returns-in_err-same_place-clause-judged : goal.returns-in_err-same_place-clause-judged
returns-in_err-same_place-clause-judged c =
    let fits : Fits c.self.inside c.args.atom c.in-Some.n c.in-Some-grown.k = record { n_is = c.in-Some.ensures.0; n_within = c.in-Some.ensures.1; k_is = c.in-Some-grown.ensures.0; k_within = c.in-Some-grown.ensures.1 } in
    let fault = place-rest c.self.inside c.args.self.now c.args.atom _ _ _ c.self.invariant c.self.view_is fits (sym c.are_moments_in_range.ensures ∙ c.if-not-are_moments_in_range.false) (ap (λ (xs : List AtomLine). same_place (map atom_view xs) (atom_view c.args.atom)) (sym c.deref.ensures.value) ∙ c.in_err-same_place.ensures) in
    judged_error c.from_residual.result _ _ c.from_residual.ensures.0 c.from_residual.ensures.1 fault

pub invariant_of-self-2 : goal.invariant_of-self-2
invariant_of-self-2 c = record {
  n_is = placed_n c.self.inside.atoms.items c.push.new.self.items c.args.atom _ _ c.self.invariant.n_is c.in-Some.ensures.0 c.in_ok-push.ensures.items;
  k_is = placed_k c.self.inside.atoms.items c.push.new.self.items c.args.atom _ _ c.self.invariant.k_is c.in-Some-grown.ensures.0 c.in_ok-push.ensures.items;
  n_positive = c.in-Some.ensures.0.positive;
  k_positive = c.in-Some-grown.ensures.0.positive;
  n_within = c.in-Some.ensures.1;
  k_within = c.in-Some-grown.ensures.1;
  moments_within = placed_moments c.self.inside c.args.self.now c.push.new.self.items c.args.atom c.in-Some-grown.k c.self.view_is (sym c.are_moments_in_range.ensures ∙ c.if-not-are_moments_in_range.false) c.in_ok-push.ensures.items;
  apart = placed_apart c.self.inside.atoms.items c.push.new.self.items c.args.atom c.self.invariant.apart (ap (λ (xs : List AtomLine). same_place (map atom_view xs) (atom_view c.args.atom)) (sym c.deref.ensures.value) ∙ c.in_ok-same_place.ensures) c.in_ok-push.ensures.items;
  of_kind = placed_kind c.self.inside c.args.self.now c.push.new.self.items c.args.atom c.self.view_is c.self.invariant.of_kind c.requires.of_kind c.in_ok-push.ensures.items;
  positive = c.self.invariant.positive;
  ends = λ h. ((c.self.invariant.ends h).0, omega (arith, ap length c.in_ok-push.ensures.items, length-append c.self.inside.atoms.items (c.args.atom ∷ [])));
  few = omega (arith, ap length c.in_ok-push.ensures.items, length-append c.self.inside.atoms.items (c.args.atom ∷ []), c.requires.fewer, ap (λ (s : State). length s.held.atoms) c.self.view_is, length-map c.self.inside.atoms.items atom_view);
}

pub returns-clause-judged : goal.returns-clause-judged
returns-clause-judged c =
    let fits : Fits c.self.inside c.args.atom c.in-Some.n c.in-Some-grown.k = record { n_is = c.in-Some.ensures.0; n_within = c.in-Some.ensures.1; k_is = c.in-Some-grown.ensures.0; k_within = c.in-Some-grown.ensures.1 } in
    place-rest c.self.inside c.args.self.now c.args.atom _ _ _ c.self.invariant c.self.view_is fits (sym c.are_moments_in_range.ensures ∙ c.if-not-are_moments_in_range.false) (ap (λ (xs : List AtomLine). same_place (map atom_view xs) (atom_view c.args.atom)) (sym c.deref.ensures.value) ∙ c.in_ok-same_place.ensures)
