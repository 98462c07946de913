use Rattle.std.proofs.Common.{map, arith}
use Rattle.reading.specs.Word.{heard_token}
use Rattle.statements.proofs.Counts.{count-more, count-few, count-one}
use Rattle.statements.proofs.format.StatementsGrammar.take.Goals as goal

pub returns : goal.returns
returns c = λ units few held taken heard.
    omega (arith, few, held, count-few units, count-more units (map heard_token c.args.unit.now), count-one (map heard_token c.args.unit.now), c.count_in.ensures, c.saturating_add.ensures)
