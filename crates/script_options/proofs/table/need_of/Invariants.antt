use Rattle.std.proofs.Common.{◌≡◌, drop}
use Rattle.script_options.specs.Table.{table, need_in}
use Rattle.script_options.proofs.table.need_of.Given as goal

abbrev pub invariant-loop-row : goal.invariant-loop-row
invariant-loop-row l = need_in (drop l.row-index l.row-items) l.option ≡ need_in (table l.fn.command) l.option
