use Rattle.lists.proofs.Members.{member_at}
use Rattle.positions.specs.Positions.{triple_of}
use Rattle.crystal.proofs.CellLemmas.{none_member}
use Rattle.crystal.proofs.cell.Cell.is_free.Goals as goal

pub returns-in-Some : goal.returns-in-Some
returns-in-Some c =
    let atoms = c.args.self.now.atoms in
    let there = c.in-Some.ensures.found in
    ((λ t. absurd (cc t)), (λ none. absurd (none_member (triple_of c.args.place) atoms there.atom none (member_at atoms _ there.atom there.numbered) there.here)))
