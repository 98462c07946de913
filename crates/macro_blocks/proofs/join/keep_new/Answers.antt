use Rattle.std.proofs.Common.{not, rules, ◌∙◌}
use Rattle.std.proofs.lemmas.Fn.{filter_same}
use Rattle.list_laws.specs.Among.{is_among}
use Rattle.macro_blocks.specs.Record.{name_of}
use Rattle.lef_cells.specs.Laws.Joining.{same_without}
use Rattle.macro_blocks.proofs.join.keep_new.Goals as goal

pub returns : goal.returns
returns c =
    filter_same _ (λ x. not (is_among c.in_ok-names.names (name_of x))) _ (λ x b f' k. search rules) _ _ c.retain.ensures.filtered
    ∙ same_without name_of c.in_ok-names.names c.args.taken.now c.args.macros.now.items c.in_ok-names.ensures
