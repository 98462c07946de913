use Rattle.std.proofs.Common.{◌≡◌, true, false, refl, sym, ◌∙◌, subst}
use Rattle.std.proofs.lemmas.List.{take_all}
use Rattle.command_words.specs.Words.{AreApart}
use Rattle.command_words.specs.inside.Split.{texts}
use Rattle.command_words.proofs.Commands.{apart_not, apart_more}
use Rattle.command_words.proofs.apart.are_apart.Goals as goal

pub returns-then-is_among : goal.returns-then-is_among
returns-then-is_among c = (
  (λ h. absurd (let t : false ≡ true = h in cc)),
  (λ apart. absurd (apart_not c.args.names.now c.loop-at.at _ c.loop-at-test.true (c.is_among.ensures.0 c.if-is_among.true) apart)),
)

pub loop-at-preserved : goal.loop-at-preserved
loop-at-preserved c =
    apart_more c.args.names.now c.loop-at.at _ c.loop-at-test.true c.loop-at.invariant
    (λ there. let t : false ≡ true = sym c.if-is_among.false ∙ c.is_among.ensures.1 there in cc)

pub returns : goal.returns
returns c = (
  (λ h. subst (λ z. AreApart (texts z)) (take_all c.loop-at.at c.args.names.now c.loop-at-test.false) c.loop-at.invariant),
  (λ h. refl),
)
