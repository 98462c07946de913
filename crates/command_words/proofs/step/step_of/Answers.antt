use Rattle.std.proofs.Common.{[], ◌∷◌, ◌≡◌, get_or, refl}
use Rattle.command_words.specs.inside.Split.{texts}
use Rattle.command_words.proofs.Commands.{t6, no_word}
use Rattle.command_words.proofs.step.step_of.Goals as goal

pub returns : goal.returns
returns c =
    let t = t6 c.args.values.now no_word c.requires in
    let e : texts c.args.values.now
    ≡ (get_or c.args.values.now 0 no_word).now ∷ (get_or c.args.values.now 1 no_word).now ∷ c.in_ok-new.field-0 ∷ c.in_ok-new-2.field-0 ∷ c.in_ok-new-3.field-0 ∷ c.in_ok-new-4.field-0 ∷ [] = cc (c.in_ok-new.ensures, c.in_ok-new-2.ensures, c.in_ok-new-3.ensures, c.in_ok-new-4.ensures) in
    ((get_or c.args.values.now 0 no_word).now, (get_or c.args.values.now 1 no_word).now, e, refl, refl)
