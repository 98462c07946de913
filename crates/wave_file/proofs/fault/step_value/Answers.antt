use Rattle.std.proofs.Common.{◌≡◌, true, false, inl, inr, refl, sym, ◌∙◌}
use Rattle.wave_file.proofs.fault.step_value.Goals as goal

pub returns-then-is_below_last : goal.returns-then-is_below_last
returns-then-is_below_last c = λ names units h.
    inr (refl, (c.is_below_last.ensures names units c.args.text.now h c.in-Some.ensures.some).0 c.if-is_below_last.true)

pub returns : goal.returns
returns c = λ names units h. (
  (λ kind f. elim f [
    | inl none ↦ none.1 c.in-Some.step c.in-Some.ensures.some
    | inr falls ↦ let no : true ≡ false = sym ((c.is_below_last.ensures names units c.args.text.now h c.in-Some.ensures.some).1 falls.1) ∙ c.if-is_below_last.false in cc
  ]),
  c.in-Some.ensures.some,
)
