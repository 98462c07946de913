use Rattle.std.proofs.Common.{◌≡◌, true, false, sym, ◌∙◌, ap}
use Rattle.std.specs.List.{list_all}
use Rattle.std.specs.Char.{is_ascii_digit}
use Rattle.command_words.proofs.Commands.{are_digits}
use Rattle.command_words.proofs.number.number_of.Goals as goal

pub returns-then-not-are_digits-clause-none : goal.returns-then-not-are_digits-clause-none
returns-then-not-are_digits-clause-none c = λ number h fits.
    let t : false ≡ true = sym c.if-not-are_digits.true ∙ c.are_digits.ensures ∙ ap (λ z. list_all is_ascii_digit z) c.as_bytes.ensures.value ∙ are_digits c.args.text.now h.0.1 in
    absurd (cc)
