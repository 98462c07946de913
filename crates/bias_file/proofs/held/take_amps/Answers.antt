use Rattle.std.proofs.Common.{[], map, subst}
use Rattle.bias_file.specs.Record.{SaysAmps}
use Rattle.bias_file.specs.inside.Held.{HoldsLines, Takes, FindsAmps}
use Rattle.bias_file.specs.inside.Value.{says}
use Rattle.bias_file.proofs.Taking.{amps_taken, on_heard, line_kept}
use Rattle.reading.specs.Grammar.{AreHeard}
use Rattle.reading.specs.Word.{heard_token}
use Rattle.bias_file.proofs.held.take_amps.Goals as goal

pub returns-in_default : goal.returns-in_default
returns-in_default c = λ heard.
    let unit = map heard_token c.args.unit.now in
    line_kept SaysAmps c.args.word c.args.currents.now unit (subst (λ z. FindsAmps c.args.word unit z) c.in_default.is (c.name_amps.ensures heard))

pub returns : goal.returns
returns c = on_heard (AreHeard says [] c.args.unit.now)
    (Takes (HoldsLines SaysAmps c.args.word c.args.currents.now) (HoldsLines SaysAmps c.args.word c.add.new.self) (map heard_token c.args.unit.now)) c.add.result (λ heard.
    let unit = map heard_token c.args.unit.now in
    amps_taken c.args.word c.args.currents.now c.add.new.self unit c.in-Some.field-0 _ c.add.result c.requires
    (subst (λ z. FindsAmps c.args.word unit z) c.in-Some.is (c.name_amps.ensures heard)) c.in_ok-new.ensures c.add.ensures.names c.add.ensures.entries)
