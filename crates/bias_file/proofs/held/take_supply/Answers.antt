use Rattle.std.proofs.Common.{[], map, refl, subst, arith}
use Rattle.bias_file.specs.declared.sort.Sort.TheVariants.{Supply}
use Rattle.bias_file.specs.Number.{volts}
use Rattle.bias_file.specs.Record.{SaysSupply}
use Rattle.bias_file.specs.inside.Held.{FindsVolts, HoldsLines, Takes}
use Rattle.bias_file.specs.inside.Value.{says}
use Rattle.reading.specs.Grammar.{AreHeard}
use Rattle.bias_file.proofs.Taking.{volts_taken, on_heard, line_kept}
use Rattle.reading.specs.Word.{heard_token}
use Rattle.bias_file.proofs.held.take_supply.Goals as goal

pub returns-in_default : goal.returns-in_default
returns-in_default c = λ heard.
    let unit = map heard_token c.args.unit.now in
    line_kept SaysSupply Supply c.args.supplies.now unit (subst (λ z. FindsVolts Supply volts unit z) c.in_default.is (c.net_volts.ensures volts (omega arith) (λ text value h. h) heard))

pub returns : goal.returns
returns c = on_heard (AreHeard says [] c.args.unit.now)
    (Takes (HoldsLines SaysSupply Supply c.args.supplies.now) (HoldsLines SaysSupply Supply c.add.new.self) (map heard_token c.args.unit.now)) c.add.result (λ heard.
    let unit = map heard_token c.args.unit.now in
    volts_taken SaysSupply (λ line net v. record { line = line; net = net; volts = v }) Supply volts c.args.supplies.now c.add.new.self unit c.in-Some.field-0 _ c.add.result
    (omega arith) refl (subst (λ z. FindsVolts Supply volts unit z) c.in-Some.is (c.net_volts.ensures volts (omega arith) (λ text value h. h) heard)) (λ first net value stop v is. (v, is, refl))
    c.in_ok-new.ensures c.add.ensures.names c.add.ensures.entries)
