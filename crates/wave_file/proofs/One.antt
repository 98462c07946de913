-- The lines of a wave file say one record.
use Rattle.std.proofs.Common.{◌≡◌, ℕ, List, [], ◌∷◌, Some, sym, ◌∙◌, ap}
use Rattle.wave_file.specs.declared.record.Change.{Change}
use Rattle.wave_file.specs.declared.record.Waves.{Waves}
use Rattle.wave_file.specs.Rule.{lines}
use Rattle.wave_file.specs.Record.{SaysRange, SaysChange, IsWaves}
use Rattle.wave_file.proofs.Numbers.{HasOne, one_step, one_value}
use Rattle.entry_list.specs.Laws.{in-turn-one}
use Rattle.reading.specs.Word.{Token}

some_is : (m n : ℕ) → Some m ≡ Some n → m ≡ n
some_is m n h = cc

abbrev the_change : Change → Change
the_change a = a

same_change : (a b : Change) → a.step ≡ b.step → a.node ≡ b.node → a.low ≡ b.low → a.high ≡ b.high → a ≡ b
same_change a b e f g h =
    ap (λ z. the_change (record { step = z; node = a.node; low = a.low; high = a.high })) e
    ∙ (ap (λ z. the_change (record { step = b.step; node = z; low = a.low; high = a.high })) f
    ∙ (ap (λ z. the_change (record { step = b.step; node = b.node; low = z; high = a.high })) g
    ∙ ap (λ z. the_change (record { step = b.step; node = b.node; low = b.low; high = z })) h))

one_range : HasOne → (names : List (List ℕ)) (step name low high : List ℕ) (a b : Change) → SaysRange names step name low high a → SaysRange names step name low high b → a ≡ b
one_range one names step name low high a b h k = same_change a b
    (one_step one step a.step b.step h.0 k.0) (some_is a.node b.node (sym h.1 ∙ k.1))
    (one_value one low a.low b.low h.2 k.2) (one_value one high a.high b.high h.3 k.3)

one_change : HasOne → (names : List (List ℕ)) (line : List Token) (a b : Change) → SaysChange names line a → SaysChange names line b → a ≡ b
one_change one names (first ∷ step ∷ name ∷ value ∷ stop ∷ []) a b h k = one_range one names step.text name.text value.text value.text a b h k
one_change one names (first ∷ step ∷ name ∷ low ∷ high ∷ stop ∷ []) a b h k = one_range one names step.text name.text low.text high.text a b h k
one_change one names line a b h k = absurd h

abbrev the_waves : Waves → Waves
the_waves a = a

pub one_waves : HasOne → (names : List (List ℕ)) (units : List (List Token)) (a b : Waves) → IsWaves names units a → IsWaves names units b → a ≡ b
one_waves one names units a b h k =
    ap (λ z. the_waves (record { changes = z })) (in-turn-one (SaysChange names) (one_change one names) (lines units) a.changes b.changes h k)
