use Rattle.std.proofs.Common.{sym, subst, refl, inl, inr}
use Rattle.crystal_spec.specs.declared.MomentKind.{MomentKind}
use Rattle.crystal_spec.specs.Moments.{IsOfKind}
use Rattle.crystal_spec.specs.Operations.{sign_factor}
use Rattle.crystal.specs.Views.{atom_of}
use Rattle.positions.specs.Positions.{triple_of}
use Rattle.moment_space.specs.Replacements.{IsCarriedMoment}
use Rattle.moment_space.proofs.Ranges.{moment-of_kind}
use Rattle.moment_space.proofs.filled.replaced.Goals as goal

pub returns-in-Some-clause-value : goal.returns-in-Some-clause-value
returns-in-Some-clause-value c =
    let found = subst (λ (k : MomentKind). IsCarriedMoment k c.args.list.now.n c.args.list.now.operations (triple_of c.args.from) c.args.m.now (triple_of c.atom-atom.result.now.place) c.in-Some.moment) c.kind.ensures c.in-Some.ensures.found in
    record {
      atom = atom_of c.atom-atom.result.now;
      is_atom = c.atom-atom.ensures.value;
      replaced = record { same_species = refl; same_position = refl; moment = inl found };
    }

pub returns-in-Some-clause-atom : goal.returns-in-Some-clause-atom
returns-in-Some-clause-atom c =
    let kind = c.args.cell.now.kind in
    let found = subst (λ (k : MomentKind). IsCarriedMoment k c.args.list.now.n c.args.list.now.operations (triple_of c.args.from) c.args.m.now (triple_of c.atom-atom.result.now.place) c.in-Some.moment) c.kind.ensures c.in-Some.ensures.found in
    record {
      named = c.atom-atom.ensures.form.named;
      within = c.atom-atom.ensures.form.within;
      moment = c.in-Some.ensures.size;
      of_kind = subst (IsOfKind kind) (sym found.is) (moment-of_kind kind found.operation.matrix (sign_factor found.operation.sign) c.args.m.now c.requires.of_kind);
    }

pub returns-in-None-clause-value : goal.returns-in-None-clause-value
returns-in-None-clause-value c = record {
  atom = atom_of c.atom-atom.result.now;
  is_atom = c.atom-atom.ensures.value;
  replaced = record { same_species = refl; same_position = refl; moment = inr (c.in-None.ensures.absent, refl) };
}
