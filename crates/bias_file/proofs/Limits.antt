-- What a record keeps, by what its lines say.
use Rattle.std.proofs.Common.{◌≡◌, ℕ, ◌^◌, ◌≤◌, ℤ, pos, negsuc, ◌≤ℤ◌, List, [], ◌∷◌, map, All, Ok, sym, ap, subst, arith}
use Rattle.std.specs.Prelude.{unsigned_abs}
use Rattle.std.proofs.lemmas.Int.{ints}
use Rattle.name_table.specs.Numbering.{AreDistinct}
use Rattle.bias_file.specs.declared.record.Bias.{Bias}
use Rattle.bias_file.specs.declared.record.Supply.{Supply}
use Rattle.bias_file.specs.declared.record.DropLimit.{DropLimit}
use Rattle.bias_file.specs.declared.record.PadAt.{PadAt}
use Rattle.bias_file.specs.declared.record.Amps.{Amps}
use Rattle.bias_file.specs.declared.held.Lists.{Lists}
use Rattle.bias_file.specs.Rule.{name_on}
use Rattle.bias_file.specs.Number.{volts, drop_volts, amperes, micrometres}
use Rattle.bias_file.specs.Limits.{BiasKeeps, SupplyKeeps, DropLimitKeeps, PadKeeps, AmpsKeep}
use Rattle.bias_file.specs.Record.{SaysSupply, SaysDropLimit, SaysAmps, SaysPad}
use Rattle.bias_file.specs.inside.Held.{HoldsLists}
use Rattle.entry_list.specs.Laws.{in-turn-all}
use Rattle.named_entries.specs.Laws.{names-differ}
use Rattle.number_place.specs.declared.place.NumberPlace.{NumberPlace}
use Rattle.number_place.specs.Place.{IsNumberAt, HasSign}
use Rattle.reading.specs.Word.{Token}

-- A value is within the limit of its place, and has its sign.
abbrev pub Limited : Type 0
Limited = (place : NumberPlace) (text : List ℕ) (value : ℤ) → IsNumberAt place text (Ok value) → unsigned_abs value ≤ place.limit

abbrev pub Signed : Type 0
Signed = (place : NumberPlace) (text : List ℕ) (value : ℤ) → IsNumberAt place text (Ok value) → HasSign place.sign value

at_most : (v : ℤ) (n : ℕ) → unsigned_abs v ≤ n → v ≤ℤ pos n
at_most (pos m) n h = omega (arith, ints)
at_most (negsuc m) n h = omega (arith, ints)

same_most : (v : ℤ) → v ≤ℤ v
same_most v = omega (arith, ints)

supply_kept : Limited → (line : List Token) (supply : Supply) → SaysSupply line supply → SupplyKeeps supply
supply_kept l (first ∷ net ∷ value ∷ stop ∷ []) supply h = subst SupplyKeeps (sym h.2) (l volts value.text h.0 h.1)
supply_kept l line supply h = absurd h

limit_kept : Limited → Signed → (line : List Token) (limit : DropLimit) → SaysDropLimit line limit → DropLimitKeeps limit
limit_kept l s (first ∷ net ∷ value ∷ stop ∷ []) limit h =
    subst DropLimitKeeps (sym h.2) (s drop_volts value.text h.0 h.1, at_most h.0 (10 ^ 25) (l drop_volts value.text h.0 h.1))
limit_kept l s line limit h = absurd h

amps_kept : Limited → Signed → (line : List Token) (amps : Amps) → SaysAmps line amps → AmpsKeep amps
amps_kept l s (first ∷ name ∷ value ∷ stop ∷ []) amps h =
    subst AmpsKeep (sym h.2) (s amperes value.text h.0 h.1, same_most h.0, at_most h.0 (10 ^ 18) (l amperes value.text h.0 h.1))
amps_kept l s (first ∷ name ∷ low ∷ high ∷ stop ∷ []) amps h =
    subst AmpsKeep (sym h.5) (s amperes low.text h.0 h.2, h.4, at_most h.1 (10 ^ 18) (l amperes high.text h.1 h.3))
amps_kept l s line amps h = absurd h

pad_kept : Limited → (line : List Token) (pad : PadAt) → SaysPad line pad → PadKeeps pad
pad_kept l (first ∷ net ∷ layer ∷ x ∷ y ∷ stop ∷ []) pad h = subst PadKeeps (sym h.4) (l micrometres x.text h.0 h.2, l micrometres y.text h.1 h.3)
pad_kept l line pad h = absurd h

supply_name : (line : List Token) (supply : Supply) → SaysSupply line supply → supply.net ≡ name_on line
supply_name (first ∷ net ∷ value ∷ stop ∷ []) supply h = ap (λ (z : Supply). z.net) h.2
supply_name line supply h = absurd h

limit_name : (line : List Token) (limit : DropLimit) → SaysDropLimit line limit → limit.net ≡ name_on line
limit_name (first ∷ net ∷ value ∷ stop ∷ []) limit h = ap (λ (z : DropLimit). z.net) h.2
limit_name line limit h = absurd h

amps_name : (line : List Token) (amps : Amps) → SaysAmps line amps → amps.name ≡ name_on line
amps_name (first ∷ name ∷ value ∷ stop ∷ []) amps h = ap (λ (z : Amps). z.name) h.2
amps_name (first ∷ name ∷ low ∷ high ∷ stop ∷ []) amps h = ap (λ (z : Amps). z.name) h.5
amps_name line amps h = absurd h

pub lists_kept : Limited → Signed → (units : List (List Token)) (lists : Lists) (bias : Bias) → HoldsLists units lists → bias.supplies ≡ lists.supplies.entries → bias.drops ≡ lists.drops.entries →
    bias.pads ≡ lists.pads.items → bias.cells ≡ lists.cells.entries → bias.instances ≡ lists.instances.entries → AreDistinct lists.supplies.names → AreDistinct lists.drops.names →
    AreDistinct lists.cells.names → AreDistinct lists.instances.names → BiasKeeps bias
lists_kept l s units lists bias h supplies drops pads cells instances one two three four = record {
  supplies = subst (λ z. All SupplyKeeps z) (sym supplies) (in-turn-all SaysSupply SupplyKeeps (supply_kept l) _ _ h.supplies.entries);
  drops = subst (λ z. All DropLimitKeeps z) (sym drops) (in-turn-all SaysDropLimit DropLimitKeeps (limit_kept l s) _ _ h.drops.entries);
  pads = subst (λ z. All PadKeeps z) (sym pads) (in-turn-all SaysPad PadKeeps (pad_kept l) _ _ h.pads);
  cells = subst (λ z. All AmpsKeep z) (sym cells) (in-turn-all SaysAmps AmpsKeep (amps_kept l s) _ _ h.cells.entries);
  instances = subst (λ z. All AmpsKeep z) (sym instances) (in-turn-all SaysAmps AmpsKeep (amps_kept l s) _ _ h.instances.entries);
  supplied_nets = subst (λ (z : List Supply). AreDistinct (map (λ supply. supply.net) z)) (sym supplies) (names-differ SaysSupply name_on (λ supply. supply.net) supply_name _ lists.supplies h.supplies one);
  limited_nets = subst (λ (z : List DropLimit). AreDistinct (map (λ limit. limit.net) z)) (sym drops) (names-differ SaysDropLimit name_on (λ limit. limit.net) limit_name _ lists.drops h.drops two);
  macros = subst (λ (z : List Amps). AreDistinct (map (λ amps. amps.name) z)) (sym cells) (names-differ SaysAmps name_on (λ amps. amps.name) amps_name _ lists.cells h.cells three);
  components = subst (λ (z : List Amps). AreDistinct (map (λ amps. amps.name) z)) (sym instances) (names-differ SaysAmps name_on (λ amps. amps.name) amps_name _ lists.instances h.instances four);
}
