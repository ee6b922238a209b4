-- Matched rows of a table: words of private clauses.
--   IsMapOfGroup n os s m    m is the first map that carries the group of the symbol s, which is one, onto the group os
--   IsMatching n os rows m   the row of this number, from 0, is the first that has a map onto the group os
-- Our own.
use Rattle.std.specs.Prelude.{ℕ, suc, List}
use Rattle.crystal_spec.specs.Operations.{Operation}
use Rattle.op_group.specs.Groups.{IsGroupModulo}
use Rattle.hall_symbol.specs.Symbols.{HallSymbol}
use Rattle.hall_text.specs.declared.rows.Row.{Row}
use Rattle.group_match.specs.declared.map.Map.{Map}
use Rattle.answers.specs.declared.standard.Matching.{Matching}
use Rattle.answers.specs.IdentifyReports.{IsMapOf}
use Rattle.answers.specs.StandardReports.{IsFirstMatch}

pub record IsMapOfGroup (n : ℕ) (os : List Operation) (s : HallSymbol) (m : Map) : Type 0 where
  pub is_map : IsMapOf n os s m
  pub is_group : IsGroupModulo 12 is_map.group

pub record IsMatching (n : ℕ) (os : List Operation) (rows : List Row) (m : Matching) : Type 0 where
  pub row : Row
  pub first : IsFirstMatch n os rows (suc m.row) row m.map
  pub is_group : IsGroupModulo 12 first.is_map.group
