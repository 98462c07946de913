use Rattle.std.proofs.Common.{◌∙◌, sym, ap, map}
use Rattle.reading.specs.Word.{heard_token}
use Rattle.spice_cards.specs.declared.section.Section.TheVariants.{Cards}
use Rattle.spice_cards.specs.Section.{section_after}
use Rattle.spice_cards.proofs.Holding.{unit-more, section-more}
use Rattle.spice_cards.proofs.format.CardsFormatGrammar.take.Goals as goal

pub returns : goal.returns
returns c = λ units few h t heard. record {
  cards = unit-more units (map heard_token c.args.unit.now) _ _ h.cards (c.in_ok-take_unit.ensures heard);
  section = c.section_after-said.ensures ∙ ap (λ z. section_after z (map heard_token c.args.unit.now)) h.section ∙ sym (section-more Cards units (map heard_token c.args.unit.now));
}
