use Rattle.std.proofs.Common.{◌≡◌, IfOk, subst, ◌∙◌, arith}
use Rattle.std.proofs.lemmas.List.{take_all}
use Rattle.wave_file.proofs.read.places_of.Goals as goal

pub returns : goal.returns
returns c =
    let test = c.loop-name-test.false in
    subst (λ z. IfOk c.new.result (λ places. places ≡ z)) (c.loop-name.invariant ∙ take_all c.loop-name.name-index c.args.names.now (omega (arith, test))) c.new.ensures
