use Rattle.std.proofs.Common.{◌≡◌, true, false, refl, sym, ◌∙◌}
use Rattle.command_words.proofs.Spelling.{option_found, option_missed, option_none}
use Rattle.command_words.proofs.settings.is_among.Goals as goal

pub returns-then-eq : goal.returns-then-eq
returns-then-eq c = (
  (λ h. option_found c.args.words.now c.loop-other.other-index _ c.args.word.now c.loop-other-test.true (sym c.if-eq.ensures)),
  (λ h. refl),
)

pub loop-other-preserved : goal.loop-other-preserved
loop-other-preserved c =
    option_missed c.args.words.now c.loop-other.other-index _ c.args.word.now c.loop-other-test.true c.loop-other.invariant (sym c.eq.ensures ∙ c.if-eq.false)

pub returns : goal.returns
returns c = (
  (λ h. absurd (let t : false ≡ true = h in cc)),
  (λ there. absurd (option_none c.args.words.now c.loop-other.other-index c.args.word.now c.loop-other-test.false c.loop-other.invariant there)),
)
