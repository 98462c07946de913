-- Netlists as a format, and what reading one gives.
use Rattle.std.specs.Prelude.{◌≡◌, ◌⊎◌, ◌==◌, ℕ, List, Result, Ok, Err, if◌then◌else◌}
use Rattle.netlist_words.specs.Text.{netlist_text}
use Rattle.outside.specs.declared.place.Place.{Place}
use Rattle.reading.specs.declared.error.ReadError.{ReadError}
use Rattle.reading.specs.declared.refusal.Cause.{Cause}
use Rattle.reading.specs.declared.refusal.Cause.TheVariants.{Fault}
use Rattle.reading.specs.Error.{Kinds, kind_of}
use Rattle.reading.specs.Outcome.{IsReadAs, IsRefusedAt}
use Rattle.reading.specs.Reading.{Format}
use Rattle.reading.specs.Word.{Token}
use Rattle.spice_cards.specs.declared.record.Cards.{Cards}
use Rattle.spice_cards.specs.declared.error.CardsKind.{CardsKind}
use Rattle.spice_cards.specs.declared.error.CardsKind.TheVariants.{Syntax, Want}
use Rattle.spice_cards.specs.declared.sort.Sort.{Sort}
use Rattle.spice_cards.specs.Sort.{sort_of}
use Rattle.spice_cards.specs.Section.{section_of, is_ended}
use Rattle.spice_cards.specs.Rule.{pattern}
use Rattle.spice_cards.specs.Fault.{fault}
use Rattle.spice_cards.specs.Record.{SaysCards}

-- The format of netlists: which units may follow, their faults, and that `.end` ends the text.
abbrev pub format : Format Token Sort CardsKind
format = record {
  sort = λ units word. sort_of word;
  follow = λ units. pattern (section_of units);
  fault = fault;
  ends = λ units. is_ended (section_of units);
}

-- No word of a netlist is refused for itself.
abbrev pub kinds : Kinds CardsKind
kinds = record { syntax = Syntax; want = Want; word = λ kind. Syntax }

-- The text is these units, as far as it is read: cards, and the words of dot lines.
abbrev pub IsNetlist : List ℕ → List (List Token) → Type 0
IsNetlist text units = IsReadAs format (netlist_text text) units

-- The end of a first line that is the card of a capacitor, behind its four words.
abbrev pub first_end : Place
first_end = record { line = 1; word = 5 }

-- Where a cause is told. A number of a sign that may not stand is told where the words so far show that it is used: at the
-- number, but on the first line at the line's end, since one more word would make it the title. All others stand at their
-- word.
abbrev pub told_at : Cause CardsKind → Place → Place
told_at (Fault Syntax) place = if place.line == 1 then first_end else place
told_at cause place = place

-- The text is refused so; want of memory aside.
abbrev pub IsRefusedNetlist : List ℕ → ReadError CardsKind → Type 0
IsRefusedNetlist text error =
    (place : Place) × (cause : Cause CardsKind) × IsRefusedAt format (netlist_text text) place cause
    × (told_at cause place ≡ error.place) × (kind_of kinds cause ≡ error.kind)

-- What the cards of the text's one list of units say, or its one refusal with place and kind.
abbrev pub ReadsCards : List ℕ → Result Cards (ReadError CardsKind) → Type 0
ReadsCards text (Ok cards) = (units : List (List Token)) × IsNetlist text units × SaysCards units cards
ReadsCards text (Err error) = (error.kind ≡ Want) ⊎ IsRefusedNetlist text error
