use Rattle.std.proofs.Common.{map, arith}
use Rattle.reading.specs.Word.{heard_token}
use Rattle.wiring_file.proofs.Heard.{kept, heard_at}
use Rattle.wiring_file.proofs.unit.value_at.Goals as goal

pub returns-in-Some : goal.returns-in-Some
returns-in-Some c = λ section quantity said there within.
    let unit = c.args.unit.now in
    let heard = c.in-Some.heard.now in
    kept quantity c.args.n (map heard_token unit) heard.value (heard_at section quantity unit c.args.n heard said there within c.in-Some.ensures.lookup.1)

pub returns-in-None : goal.returns-in-None
returns-in-None c = λ section quantity said there within. let past = c.in-None.ensures.lookup.3 in absurd (omega arith)
