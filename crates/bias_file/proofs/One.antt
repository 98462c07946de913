-- The lines of a bias file say one record.
use Rattle.std.proofs.Common.{◌≡◌, ℤ, List, [], ◌∷◌, Ok, Result, sym, ◌∙◌, ap}
use Rattle.bias_file.specs.declared.record.Bias.{Bias}
use Rattle.bias_file.specs.declared.record.Supply.{Supply}
use Rattle.bias_file.specs.declared.record.DropLimit.{DropLimit}
use Rattle.bias_file.specs.declared.record.Amps.{Amps}
use Rattle.bias_file.specs.declared.record.PadAt.{PadAt}
use Rattle.bias_file.specs.Number.{volts, drop_volts, amperes, micrometres}
use Rattle.bias_file.specs.Record.{SaysSupply, SaysDropLimit, SaysAmps, SaysPad, IsBias}
use Rattle.bias_file.proofs.Numbers.{HasOne}
use Rattle.entry_list.specs.Laws.{in-turn-one}
use Rattle.number_place.specs.declared.place.Refused.{Refused}
use Rattle.reading.specs.Word.{Token}

ok_is : (v w : ℤ) → ◌≡◌ {A = Result ℤ Refused} (Ok v) (Ok w) → v ≡ w
ok_is v w h = cc

abbrev supply_of : Token → Token → ℤ → Supply
supply_of first net v = record { line = first.place.line; net = net.text; volts = v }

abbrev limit_of : Token → Token → ℤ → DropLimit
limit_of first net v = record { line = first.place.line; net = net.text; volts = v }

abbrev amps_of : Token → Token → ℤ → ℤ → Amps
amps_of first name v w = record { line = first.place.line; name = name.text; low = v; high = w }

abbrev pad_of_line : Token → Token → Token → ℤ → ℤ → PadAt
pad_of_line first net layer v w = record { line = first.place.line; net = net.text; layer = layer.text; x = v; y = w }

one_supply : HasOne → (line : List Token) (a b : Supply) → SaysSupply line a → SaysSupply line b → a ≡ b
one_supply one (first ∷ net ∷ value ∷ stop ∷ []) a b h k =
    h.2 ∙ ap (supply_of first net) (ok_is h.0 k.0 (one volts value.text (Ok h.0) (Ok k.0) h.1 k.1)) ∙ sym k.2
one_supply one line a b h k = absurd h

one_limit : HasOne → (line : List Token) (a b : DropLimit) → SaysDropLimit line a → SaysDropLimit line b → a ≡ b
one_limit one (first ∷ net ∷ value ∷ stop ∷ []) a b h k =
    h.2 ∙ ap (limit_of first net) (ok_is h.0 k.0 (one drop_volts value.text (Ok h.0) (Ok k.0) h.1 k.1)) ∙ sym k.2
one_limit one line a b h k = absurd h

one_amps : HasOne → (line : List Token) (a b : Amps) → SaysAmps line a → SaysAmps line b → a ≡ b
one_amps one (first ∷ name ∷ value ∷ stop ∷ []) a b h k =
    h.2 ∙ ap (λ z. amps_of first name z z) (ok_is h.0 k.0 (one amperes value.text (Ok h.0) (Ok k.0) h.1 k.1)) ∙ sym k.2
one_amps one (first ∷ name ∷ low ∷ high ∷ stop ∷ []) a b h k =
    h.5 ∙ ap (λ z. amps_of first name z h.1) (ok_is h.0 k.0 (one amperes low.text (Ok h.0) (Ok k.0) h.2 k.2))
    ∙ ap (λ z. amps_of first name k.0 z) (ok_is h.1 k.1 (one amperes high.text (Ok h.1) (Ok k.1) h.3 k.3)) ∙ sym k.5
one_amps one line a b h k = absurd h

one_pad : HasOne → (line : List Token) (a b : PadAt) → SaysPad line a → SaysPad line b → a ≡ b
one_pad one (first ∷ net ∷ layer ∷ x ∷ y ∷ stop ∷ []) a b h k =
    h.4 ∙ ap (λ z. pad_of_line first net layer z h.1) (ok_is h.0 k.0 (one micrometres x.text (Ok h.0) (Ok k.0) h.2 k.2))
    ∙ ap (λ z. pad_of_line first net layer k.0 z) (ok_is h.1 k.1 (one micrometres y.text (Ok h.1) (Ok k.1) h.3 k.3)) ∙ sym k.4
one_pad one line a b h k = absurd h

abbrev the_bias : Bias → Bias
the_bias a = a

same_bias : (a b : Bias) → a.supplies ≡ b.supplies → a.drops ≡ b.drops → a.pads ≡ b.pads → a.cells ≡ b.cells → a.instances ≡ b.instances → a ≡ b
same_bias a b e f g h i =
    ap (λ z. the_bias (record { supplies = z; drops = a.drops; pads = a.pads; cells = a.cells; instances = a.instances })) e
    ∙ (ap (λ z. the_bias (record { supplies = b.supplies; drops = z; pads = a.pads; cells = a.cells; instances = a.instances })) f
    ∙ (ap (λ z. the_bias (record { supplies = b.supplies; drops = b.drops; pads = z; cells = a.cells; instances = a.instances })) g
    ∙ (ap (λ z. the_bias (record { supplies = b.supplies; drops = b.drops; pads = b.pads; cells = z; instances = a.instances })) h
    ∙ (ap (λ z. the_bias (record { supplies = b.supplies; drops = b.drops; pads = b.pads; cells = b.cells; instances = z })) i))))

pub one_bias : HasOne → (units : List (List Token)) (a b : Bias) → IsBias units a → IsBias units b → a ≡ b
one_bias one units a b h k = same_bias a b
    (in-turn-one SaysSupply (one_supply one) _ a.supplies b.supplies h.supplies k.supplies)
    (in-turn-one SaysDropLimit (one_limit one) _ a.drops b.drops h.drops k.drops)
    (in-turn-one SaysPad (one_pad one) _ a.pads b.pads h.pads k.pads)
    (in-turn-one SaysAmps (one_amps one) _ a.cells b.cells h.cells k.cells)
    (in-turn-one SaysAmps (one_amps one) _ a.instances b.instances h.instances k.instances)
