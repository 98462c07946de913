use Rattle.std.proofs.Common.{sym, ◌∙◌}
use Rattle.macro_blocks.proofs.Keywords.{number_sort}
use Rattle.macro_blocks.proofs.sort.sort_of_text.Goals as goal

pub returns-then-begins_number : goal.returns-then-begins_number
returns-then-begins_number c = sym (number_sort c.args.text.now (sym c.begins_number.ensures ∙ c.if-begins_number.true))
