-- The laws that the format owes.
use Rattle.std.proofs.Common.{◌≡◌, ℕ, Bool, true, List, [], codes, refl, inr, ap}
use Rattle.lef_tech.specs.declared.section.Section.{Section}
use Rattle.lef_tech.specs.declared.section.Section.TheVariants as sections
use Rattle.lef_tech.specs.declared.sort.Sort.{Sort}
use Rattle.lef_tech.specs.declared.sort.Sort.TheVariants.{Layer, ViaRule, Units, Passed, Definitions, Extension, End, Library, Database, Microns, LayerType, Routing, Cut, Direction, Horizontal, Vertical, Spacing, Resistance, PerSquare, Current, Average, Width, CutArea, TableEntries, Generate, Default, Enclosure, To, Rect, By, Semicolon, Bracket, Quoted, Other, TextEnd}
use Rattle.lef_tech.specs.Sort.{all_sorts, sort_of, sort_with}
use Rattle.lef_tech.specs.Turn.{state_of}
use Rattle.lef_tech.specs.Pattern.{pattern}
use Rattle.lef_tech.specs.Format.{format}
use Rattle.lef_tech.proofs.Numbers.{HasOne}
use Rattle.lef_tech.proofs.Late.{near, alone, one}
use Rattle.reading.specs.declared.word.Form.{Form}
use Rattle.reading.specs.declared.word.Form.TheVariants as forms
use Rattle.reading.specs.Grammar.{IsUnit, IsRegular}
use Rattle.reading.specs.Laws.{late}
use Rattle.reading.specs.Word.{Token}

word : List ℕ → Form → Token
word text form = record { text = text; place = record { line = 1; word = 1 }; form = form }

sample : (sort : Sort) → (w : Token) × (sort_of w ≡ sort)
unfolding word
sample Layer = (word (codes "LAYER") forms.Bare, refl)
sample ViaRule = (word (codes "VIARULE") forms.Bare, refl)
sample Units = (word (codes "UNITS") forms.Bare, refl)
sample Passed = (word (codes "VIA") forms.Bare, refl)
sample Definitions = (word (codes "PROPERTYDEFINITIONS") forms.Bare, refl)
sample Extension = (word (codes "BEGINEXT") forms.Bare, refl)
sample End = (word (codes "END") forms.Bare, refl)
sample Library = (word (codes "LIBRARY") forms.Bare, refl)
sample Database = (word (codes "DATABASE") forms.Bare, refl)
sample Microns = (word (codes "MICRONS") forms.Bare, refl)
sample LayerType = (word (codes "TYPE") forms.Bare, refl)
sample Routing = (word (codes "ROUTING") forms.Bare, refl)
sample Cut = (word (codes "CUT") forms.Bare, refl)
sample Direction = (word (codes "DIRECTION") forms.Bare, refl)
sample Horizontal = (word (codes "HORIZONTAL") forms.Bare, refl)
sample Vertical = (word (codes "VERTICAL") forms.Bare, refl)
sample Spacing = (word (codes "SPACING") forms.Bare, refl)
sample Resistance = (word (codes "RESISTANCE") forms.Bare, refl)
sample PerSquare = (word (codes "RPERSQ") forms.Bare, refl)
sample Current = (word (codes "DCCURRENTDENSITY") forms.Bare, refl)
sample Average = (word (codes "AVERAGE") forms.Bare, refl)
sample Width = (word (codes "WIDTH") forms.Bare, refl)
sample CutArea = (word (codes "CUTAREA") forms.Bare, refl)
sample TableEntries = (word (codes "TABLEENTRIES") forms.Bare, refl)
sample Generate = (word (codes "GENERATE") forms.Bare, refl)
sample Default = (word (codes "DEFAULT") forms.Bare, refl)
sample Enclosure = (word (codes "ENCLOSURE") forms.Bare, refl)
sample To = (word (codes "TO") forms.Bare, refl)
sample Rect = (word (codes "RECT") forms.Bare, refl)
sample By = (word (codes "BY") forms.Bare, refl)
sample Semicolon = (word (codes ";") forms.Bare, refl)
sample Bracket = (word (codes "(") forms.Bare, refl)
sample Quoted = (word [] forms.Quoted, refl)
sample Other = (word [] forms.Bare, refl)
sample TextEnd = (word [] forms.End, refl)

usable : Section → Sort → Bool
usable section sort = true

units_end : (section : Section) → IsUnit all_sorts (usable section) TextEnd (pattern section)
unfolding usable
units_end sections.Top = record { solid = inr refl; closes = refl; comes_last = refl }
units_end sections.Passing = record { solid = inr refl; closes = refl; comes_last = refl }
units_end sections.LayerStart = record { solid = inr refl; closes = refl; comes_last = refl }
units_end sections.Undirected = record { solid = inr refl; closes = refl; comes_last = refl }
units_end sections.Directed = record { solid = inr refl; closes = refl; comes_last = refl }
units_end sections.Cut = record { solid = inr refl; closes = refl; comes_last = refl }
units_end sections.WireTable = record { solid = inr refl; closes = refl; comes_last = refl }
units_end sections.WireValues = record { solid = inr refl; closes = refl; comes_last = refl }
units_end sections.CutTable = record { solid = inr refl; closes = refl; comes_last = refl }
units_end sections.CutValues = record { solid = inr refl; closes = refl; comes_last = refl }
units_end sections.RuleStart = record { solid = inr refl; closes = refl; comes_last = refl }
units_end sections.RuleHead = record { solid = inr refl; closes = refl; comes_last = refl }
units_end sections.Rule = record { solid = inr refl; closes = refl; comes_last = refl }
units_end sections.WirePart = record { solid = inr refl; closes = refl; comes_last = refl }
units_end sections.CutPart = record { solid = inr refl; closes = refl; comes_last = refl }
units_end sections.Units = record { solid = inr refl; closes = refl; comes_last = refl }
units_end sections.Ended = record { solid = inr refl; closes = refl; comes_last = refl }

pub regular : HasOne → IsRegular all_sorts pattern format
regular n = record {
  usable = usable;
  place = λ units. (state_of units).place.section;
  follow = λ units. refl;
  samples = λ units sort h. sample sort;
  end = TextEnd;
  ends = λ units w e. ap (λ z. sort_with z w.text) e;
  begun = refl;
  units = units_end;
  orderly = late format (record { near = near; alone = alone; one = one n });
}
