use Rattle.std.proofs.Common.{◌≡◌, sym, refl, inl, inr, rules, arith}
use Rattle.std.specs.declared.result.Result.TheVariants.{Ok}
use Rattle.command_words.specs.Commands.{command, ReadsCellAlone, ReadsTable}
use Rattle.command_words.specs.declared.command.Command.TheVariants.{Hall, Compare, Fill, Selfrun}
use Rattle.command_runs.proofs.Written.{reads_cell, table_reads_cell, table_limit, file_taken, moment_small}
use Rattle.command_runs.proofs.commands.answer.Goals as goal

pub returns-in-Symmetry : goal.returns-in-Symmetry
returns-in-Symmetry g c =
    let asked : command c.args.words.now ≡ Ok c.in-Ok.request = (let p = c.read_words.ensures.value in let q = c.in-Ok.is in cc) in
    let reads : ReadsCellAlone c.in-Ok.request = search rules in
    record {
      outcome = c.with_cell.ensures.outcome c.args.words.now _ _ asked;
      taken = c.with_cell.ensures.taken;
      stops = c.with_cell.ensures.stops;
      input_untouched = λ none. absurd (none (record { request = c.in-Ok.request; asked = asked; reads = reads_cell c.in-Ok.request reads }));
      shelf_untouched = λ none. refl;
      file_read = inl refl;
      out_untouched = c.with_cell.ensures.out_untouched;
      in_later = c.with_cell.ensures.in_later;
      shelf_later = omega arith;
      out_later = c.with_cell.ensures.out_later;
    }

pub with_moment-requires : goal.with_moment-requires
with_moment-requires g c = moment_small c.read_words.result c.in-Ok.request c.in-Fill.filling c.in-Ok.is c.in-Fill.is c.read_words.ensures.small

pub returns-in-Fill : goal.returns-in-Fill
returns-in-Fill g c =
    let asked : command c.args.words.now ≡ Ok (Fill c.in-Fill.filling) = (let p = c.read_words.ensures.value in let q = c.in-Ok.is in let r = c.in-Fill.is in cc) in
    record {
      outcome = c.with_moment.ensures.outcome c.args.words.now _ _ asked;
      taken = c.with_moment.ensures.taken;
      stops = c.with_moment.ensures.stops;
      input_untouched = λ none. absurd (none (record { request = Fill c.in-Fill.filling; asked = asked; reads = tt }));
      shelf_untouched = λ none. refl;
      file_read = inl refl;
      out_untouched = c.with_moment.ensures.out_untouched;
      in_later = c.with_moment.ensures.in_later;
      shelf_later = omega arith;
      out_later = c.with_moment.ensures.out_later;
    }

pub returns-in-Identify : goal.returns-in-Identify
returns-in-Identify g c =
    let words = c.args.words.now in
    let request = c.in-Ok.request in
    let asked : command words ≡ Ok request = (let p = c.read_words.ensures.value in let q = c.in-Ok.is in cc) in
    let reads : ReadsTable request = search rules in
    record {
      outcome = c.with_table.ensures.outcome words asked (sym c.argument.ensures);
      taken = c.with_table.ensures.taken;
      stops = c.with_table.ensures.stops;
      input_untouched = λ none. absurd (none (record { request = request; asked = asked; reads = table_reads_cell request reads }));
      shelf_untouched = λ none. c.with_table.ensures.shelf_untouched (λ cell accepted. none (inl (record { request = request; asked = asked; reads = reads; cell = cell; accepted = accepted })));
      file_read = file_taken words request _ _ _ _ asked (table_limit request reads) c.argument.ensures c.with_table.ensures.file_read;
      out_untouched = c.with_table.ensures.out_untouched;
      in_later = c.with_table.ensures.in_later;
      shelf_later = c.with_table.ensures.shelf_later;
      out_later = c.with_table.ensures.out_later;
    }

pub returns-in-Compare : goal.returns-in-Compare
returns-in-Compare g c =
    let words = c.args.words.now in
    let asked : command words ≡ Ok Compare = (let p = c.read_words.ensures.value in let q = c.in-Ok.is in let r = c.in-Compare.is in cc) in
    record {
      outcome = c.with_other.ensures.outcome words asked (sym c.argument-in-Compare.ensures);
      taken = c.with_other.ensures.taken;
      stops = c.with_other.ensures.stops;
      input_untouched = λ none. absurd (none (record { request = Compare; asked = asked; reads = tt }));
      shelf_untouched = λ none. c.with_other.ensures.shelf_untouched (λ cell accepted. none (inr (record { asked = asked; cell = cell; accepted = accepted })));
      file_read = file_taken words Compare _ _ _ _ asked refl c.argument-in-Compare.ensures c.with_other.ensures.file_read;
      out_untouched = c.with_other.ensures.out_untouched;
      in_later = c.with_other.ensures.in_later;
      shelf_later = c.with_other.ensures.shelf_later;
      out_later = c.with_other.ensures.out_later;
    }

pub returns-in-Hall-clause-outcome : goal.returns-in-Hall-clause-outcome
returns-in-Hall-clause-outcome g c =
    let asked : command c.args.words.now ≡ Ok Hall = (let p = c.read_words.ensures.value in let q = c.in-Ok.is in let r = c.in-Hall.is in cc) in
    c.with_symbol.ensures.outcome c.args.words.now _ _ _ _ asked (sym c.argument-in-Hall.ensures)

pub returns-in-Selfrun-clause-outcome : goal.returns-in-Selfrun-clause-outcome
returns-in-Selfrun-clause-outcome g c =
    let asked : command c.args.words.now ≡ Ok (Selfrun c.in-Selfrun.seed) = (let p = c.read_words.ensures.value in let q = c.in-Ok.is in let r = c.in-Selfrun.is in cc) in
    c.with_seed.ensures.outcome c.args.words.now _ _ _ _ asked
