use Rattle.std.proofs.Common.{map, refl, subst}
use Rattle.reading.specs.Word.{heard_token}
use Rattle.wave_file.specs.inside.Held.{FindsChange}
use Rattle.wave_file.proofs.Taking.{line_taken, line_kept}
use Rattle.wave_file.proofs.held.take_unit.Goals as goal

pub returns-in_default : goal.returns-in_default
returns-in_default c = λ names units h taken heard.
    let line = map heard_token c.args.unit.now in
    line_kept names units line c.args.held.now (subst (λ z. FindsChange names line z) c.in_default.is (c.change_of.ensures names heard)) h

pub returns : goal.returns
returns c = λ names units h taken heard.
    let line = map heard_token c.args.unit.now in
    let found = subst (λ z. FindsChange names line z) c.in-Some.is (c.change_of.ensures names heard) in
    line_taken names units line c.args.held.now _ c.in-Some.change found.0 (found.1 units taken) h taken refl c.in_ok-push.ensures.items c.in_ok-add.ensures
