-- What the lines of a bias file say.
use Rattle.std.specs.Prelude.{◌≡◌, ℤ, ◌≤ℤ◌, List, [], ◌∷◌, Ok}
use Rattle.bias_file.specs.declared.record.Bias.{Bias}
use Rattle.bias_file.specs.declared.record.Supply.{Supply}
use Rattle.bias_file.specs.declared.record.DropLimit.{DropLimit}
use Rattle.bias_file.specs.declared.record.PadAt.{PadAt}
use Rattle.bias_file.specs.declared.record.Amps.{Amps}
use Rattle.bias_file.specs.declared.sort.Sort.TheVariants as sorts
use Rattle.bias_file.specs.Rule.{lines}
use Rattle.bias_file.specs.Number.{volts, drop_volts, amperes, micrometres}
use Rattle.entry_list.specs.InTurn.{InTurn}
use Rattle.number_place.specs.Place.{IsNumberAt}
use Rattle.reading.specs.Word.{Token}

-- `supply NET V`: the potential of the net's pads.
abbrev pub SaysSupply : List Token → Supply → Type 0
SaysSupply (first ∷ net ∷ value ∷ stop ∷ []) supply =
    (v : ℤ) × IsNumberAt volts value.text (Ok v)
    × (supply ≡ record { line = first.place.line; net = net.text; volts = v })
SaysSupply _ supply = ⊥

-- `droplimit NET V`: how far a node of the net may be from its supply.
abbrev pub SaysDropLimit : List Token → DropLimit → Type 0
SaysDropLimit (first ∷ net ∷ value ∷ stop ∷ []) limit =
    (v : ℤ) × IsNumberAt drop_volts value.text (Ok v)
    × (limit ≡ record { line = first.place.line; net = net.text; volts = v })
SaysDropLimit _ limit = ⊥

-- `cell MACRO LOW HIGH`: the range of the current that each component of the macro draws that has no line of its own;
-- `instance NAME LOW HIGH`: that of one component. A line with one number gives both ends.
abbrev pub SaysAmps : List Token → Amps → Type 0
SaysAmps (first ∷ name ∷ value ∷ stop ∷ []) amps =
    (v : ℤ) × IsNumberAt amperes value.text (Ok v)
    × (amps ≡ record { line = first.place.line; name = name.text; low = v; high = v })
SaysAmps (first ∷ name ∷ low ∷ high ∷ stop ∷ []) amps =
    (v : ℤ) × (w : ℤ) × IsNumberAt amperes low.text (Ok v) × IsNumberAt amperes high.text (Ok w) × (v ≤ℤ w)
    × (amps ≡ record { line = first.place.line; name = name.text; low = v; high = w })
SaysAmps _ amps = ⊥

-- `pad NET LAYER x y`.
abbrev pub SaysPad : List Token → PadAt → Type 0
SaysPad (first ∷ net ∷ layer ∷ x ∷ y ∷ stop ∷ []) pad =
    (v : ℤ) × (w : ℤ) × IsNumberAt micrometres x.text (Ok v) × IsNumberAt micrometres y.text (Ok w)
    × (pad ≡ record { line = first.place.line; net = net.text; layer = layer.text; x = v; y = w })
SaysPad _ pad = ⊥

-- The record of the lines: of each kind of line what its lines say, in their order.
pub record IsBias (units : List (List Token)) (bias : Bias) : Type 0 where
  pub supplies : InTurn SaysSupply (lines sorts.Supply units) bias.supplies
  pub drops : InTurn SaysDropLimit (lines sorts.DropLimit units) bias.drops
  pub pads : InTurn SaysPad (lines sorts.Pad units) bias.pads
  pub cells : InTurn SaysAmps (lines sorts.Cell units) bias.cells
  pub instances : InTurn SaysAmps (lines sorts.Instance units) bias.instances
