use Rattle.std.proofs.Common.{map, arith}
use Rattle.std.proofs.lemmas.List.{length-map}
use Rattle.bias_file.proofs.Taking.{no_current}
use Rattle.reading.specs.Word.{heard_token}
use Rattle.bias_file.proofs.held.name_amps.Goals as goal

pub returns-in_default : goal.returns-in_default
returns-in_default c = λ heard.
    let other = c.in_default in
    let count = length-map c.args.unit.now heard_token in
    no_current c.args.word c.requires (map heard_token c.args.unit.now) (λ e. omega (arith, other)) (λ e. omega (arith, other))
