use Rattle.std.proofs.Common.{rules, ◌≡◌, ◌||◌, false}
use Rattle.pdn_script.specs.Sort.{is_end}
use Rattle.pdn_script.proofs.Told.{command_tells, neither_holds}
use Rattle.reading.specs.Word.{heard_token}
use Rattle.pdn_script.proofs.statement.unit_says.Goals as goal

pub returns-else-is_end : goal.returns-else-is_end
returns-else-is_end c =
    let e : (c.args.known.now.passing || is_end (heard_token c.in-Some.first.now)) ≡ false = search rules in
    let n = neither_holds c.args.known.now.passing (is_end (heard_token c.in-Some.first.now)) e in
    command_tells c.args.known.now c.args.unit.now c.in-Some.first.now c.in-Some.words.now c.in-Some.ensures.cases.0 n.0 n.1 c.command_says.result c.command_says.ensures
