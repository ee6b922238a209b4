use Rattle.std.proofs.Common.{ℕ, subst, sym, lit≤}
use Rattle.op_group.specs.Groups.{IsGroupModulo}
use Rattle.matrix3.proofs.FitsBySize.{entries_grown}
use Rattle.answers.proofs.IdentifyLemmas.{row_map}
use Rattle.answers.proofs.StandardLemmas.{group_map}
use Rattle.answers.proofs.identify.map_of.Goals as goal

-- the group of the symbol, and what is known of the found one
pub match_row-requires : goal.match_row-requires
match_row-requires c =
    let list = c.in-Ok.list in
    let made = c.in-Ok.ensures in
    record {
      twelfths = made.n;
      symbol_group = subst (λ (n : ℕ). IsGroupModulo n list.operations) (sym made.n) made.group;
      found_group = c.requires.group;
      primitive = c.requires.primitive;
      few = made.few_matrices;
      symbol_entries = made.entries;
      found_entries = λ o m. entries_grown (lit≤ tt) (c.requires.small o m);
      found_n = c.requires.n;
    }

pub returns : goal.returns
returns c = record {
  value = row_map c.args.found.now.n c.args.found.now.operations c.in-Ok.list.operations c.args.symbol.now c.match_row.result c.in-Ok.ensures.exact c.match_row.ensures.found c.match_row.ensures.absent;
  group = group_map c.args.found.now.n c.args.found.now.operations c.in-Ok.list.operations c.args.symbol.now c.match_row.result c.in-Ok.ensures.exact c.in-Ok.ensures.group c.match_row.ensures.found;
}
