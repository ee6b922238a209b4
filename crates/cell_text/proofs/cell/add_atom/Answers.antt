use Rattle.std.proofs.Common.{◌≡◌, ℕ, List, sym, ap, subst, ◌∙◌}
use Rattle.crystal_spec.specs.Crystals.{Structure}
use Rattle.crystal_spec.specs.Operations.{IsWithinCell}
use Rattle.positions.specs.Positions.{triple_of}
use Rattle.cell_text.specs.CellFile.{number_of, with_name}
use Rattle.cell_text.specs.Views.{atom_view}
use Rattle.cell_text.proofs.Fillings.{is_small, is_named, kind_added}
use Rattle.cell_text.proofs.cell.add_atom.Goals as goal

pub overflow_cast-number : goal.overflow_cast-number
overflow_cast-number c =
    let names = c.args.cell.now.names in
    let number : c.in_ok-number.number ≡ number_of names c.in_ok-name.name.items = c.in_ok-number.ensures.number ∙ ap (λ (ns : List (List ℕ)). number_of ns c.in_ok-name.name.items) c.requires.names in
    record { fits = is_small names c.in_ok-name.name.items c.in_ok-number.number number c.requires.fewer_names }

pub add-requires-clause-atom : goal.add-requires-clause-atom
add-requires-clause-atom c =
    let names = c.args.cell.now.names in
    let number : c.in_ok-number.number ≡ number_of names c.in_ok-name.name.items = c.in_ok-number.ensures.number ∙ ap (λ (ns : List (List ℕ)). number_of ns c.in_ok-name.name.items) c.requires.names in
    let same : c.args.atom.now.name ≡ c.in_ok-name.name.items = sym (c.in_ok-name.ensures.items ∙ c.as_bytes.ensures) in
    let more : c.name_species.new.cell.names ≡ with_name names c.in_ok-name.name.items = ap (λ (s : Structure). s.names) c.in_ok-name_species.ensures ∙ ap (with_name names) same in
    record {
      named = is_named names c.name_species.new.cell.names c.in_ok-name.name.items c.in_ok-number.number number more;
      within = subst (λ (n : ℕ). IsWithinCell n (triple_of c.position_of.result)) c.n-n.ensures c.position_of.ensures.within;
      moment = c.moment_of.ensures.size;
      of_kind = kind_added c.args.cell.now.kind c.name_species.new.cell.kind c.args.cell.now.k c.k-k.result (atom_view c.args.atom.now) c.moment_of.result (ap (λ (s : Structure). s.kind) c.in_ok-name_species.ensures) (c.k-k.ensures ∙ ap (λ (s : Structure). s.k) c.in_ok-name_species.ensures) c.moment_of.ensures.value c.requires.of_kind;
    }
