use Rattle.std.proofs.Common.{◌++◌, ◌∙◌, ap, append_assoc, List, ℕ}
use Rattle.moments_text.specs.MomentsText.{name_text, allowed_text, atom_text}
use Rattle.moments_text.proofs.moments.push_atom.Goals as goal

pub returns : goal.returns
unfolding atom_text
returns c =
    c.in_ok-push_allowed.ensures ∙ ap (λ (text : List ℕ). text ++ allowed_text c.args.allowed.now) c.in_ok-push_heading.ensures
    ∙ append_assoc c.args.out.now (name_text c.args.number c.args.name.now) (allowed_text c.args.allowed.now)
