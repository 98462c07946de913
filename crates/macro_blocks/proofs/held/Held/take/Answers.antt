use Rattle.std.proofs.Common.{map, ◌∙◌, ap}
use Rattle.macro_blocks.specs.Record.{act_of}
use Rattle.macro_blocks.proofs.Taking.{taken}
use Rattle.reading.specs.Word.{heard_token}
use Rattle.macro_blocks.proofs.held.Held.take.Goals as goal

pub returns : goal.returns
returns c = λ units h whole heard.
    let unit = map heard_token c.args.unit.now in
    let old = c.args.self.now in
    taken units c.args.unit.now old (record old { said = c.take.new.self; standing = c.go_on.new.self }) h whole heard c.go_on.ensures c.act_of-act.result
    (c.act_of-act.ensures ∙ ap (λ z. act_of z old.standing.pin unit) c.section.ensures) c.in_ok-take.ensures
