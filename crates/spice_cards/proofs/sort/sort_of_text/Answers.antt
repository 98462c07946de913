use Rattle.std.proofs.Common.{sym, ap, ◌∙◌}
use Rattle.spice_cards.specs.Sort.{sort_of_letter}
use Rattle.spice_cards.proofs.Keywords.{no_keyword}
use Rattle.spice_cards.proofs.sort.sort_of_text.Goals as goal

pub returns-then-not-begins_keyword : goal.returns-then-not-begins_keyword
returns-then-not-begins_keyword c =
    c.sort_of_letter.ensures ∙ ap sort_of_letter c.letter_of.ensures ∙ sym (no_keyword c.args.text.now _ (sym c.begins_keyword.ensures ∙ c.if-not-begins_keyword.true))
