use Rattle.std.proofs.Common.{map, sym, ◌∙◌, arith}
use Rattle.std.proofs.lemmas.List.{length-map}
use Rattle.macro_blocks.proofs.Words.{long_act}
use Rattle.reading.specs.Word.{heard_token}
use Rattle.macro_blocks.proofs.act.act_of.Goals as goal

pub returns-in_default : goal.returns-in_default
returns-in_default c =
    let count = length-map c.args.unit.now heard_token in
    let many = c.in_default.len_at_least in
    c.act_of_more.ensures ∙ sym (long_act c.args.section c.args.pin.now (map heard_token c.args.unit.now) (omega arith))
