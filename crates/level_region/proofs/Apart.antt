-- Spans that `cut` gave one after another never overlap: each begins where the cells end that were used before.
use Rattle.std.proofs.Common.{◌≡◌, ℕ, zero, suc, ◌+◌, ◌≤◌, List, [], ◌∷◌, Option, Some, None, All, AllPairs, IfSome, ap, arith}
use Rattle.std.specs.Prelude.{⊤}
use Rattle.std.specs.List.{cons_option}
use Rattle.std.proofs.lemmas.List.Elements.{All-cons, All-nil, All-weaker}
use Rattle.level_region.specs.declared.span.Span.{Span}
use Rattle.level_region.specs.Block.{Block, end_of, AreApart}
use Rattle.level_region.specs.Cuts.{IsCut, Cut, AreInTurn, spans_of}

AllPairs-nil : {X : Type 0} (R : X → X → Type 0) → AllPairs R []
AllPairs-nil R i j d less within = absurd (omega arith)

-- One more element in front.
AllPairs-cons : {X : Type 0} (R : X → X → Type 0) (x : X) (xs : List X) → All (R x) xs → AllPairs R xs → AllPairs R (x ∷ xs)
AllPairs-cons R x xs first others zero zero d less within = absurd (omega arith)
AllPairs-cons R x xs first others zero (suc j) d less within = first j d (omega arith)
AllPairs-cons R x xs first others (suc i) zero d less within = absurd (omega arith)
AllPairs-cons R x xs first others (suc i) (suc j) d less within = others i j d (omega arith) (omega arith)

-- An answer of `cut` in front of the spans.
All-cons_option : (P : Span → Type 0) (answer : Option Span) (spans : List Span) → IfSome answer P → All P spans → All P (cons_option answer spans)
All-cons_option P None spans first others = others
All-cons_option P (Some span) spans first others = All-cons P span spans first others

AllPairs-cons_option : (R : Span → Span → Type 0) (answer : Option Span) (spans : List Span) → IfSome answer (λ span. All (R span) spans) → AllPairs R spans → AllPairs R (cons_option answer spans)
AllPairs-cons_option R None spans first others = others
AllPairs-cons_option R (Some span) spans first others = AllPairs-cons R span spans first others

-- The span begins at cell `low` or behind it.
abbrev Behind : ℕ → Span → Type 0
Behind low span = low ≤ span.start

-- The cells that a call of `cut` takes: from `low` up to below `high`.
record Takes (low : ℕ) (answer : Option Span) (high : ℕ) : Type 0 where
  rises : low ≤ high
  begins : IfSome answer (Behind low)
  ends : IfSome answer (λ span. end_of span ≡ high)

takes_of : (before after : Block) (n : ℕ) (answer : Option Span) → IsCut before n answer after → Takes before.used answer after.used
takes_of before after n None is =
    let same : after.used ≡ before.used = ap (λ (b : Block). b.used) is.unchanged in
    record { rises = omega arith; begins = tt; ends = tt }
takes_of before after n (Some span) is =
    let start : span.start ≡ before.used = ap (λ (s : Span). s.start) is.next in
    let len : span.len ≡ n = ap (λ (s : Span). s.len) is.next in
    let used : after.used ≡ before.used + n = ap (λ (b : Block). b.used) is.counted in
    record { rises = omega arith; begins = omega arith; ends = omega arith }

-- The first of the calls finds at least `low` cells used.
abbrev BeginAt : ℕ → List Cut → Type 0
BeginAt low [] = ⊤
BeginAt low (cut ∷ cuts) = low ≤ cut.before.used

others_begin : (cut : Cut) (cuts : List Cut) → AreInTurn (cut ∷ cuts) → BeginAt cut.after.used cuts
others_begin cut [] in_turn = tt
others_begin cut (next ∷ cuts) in_turn = let same : next.before.used ≡ cut.after.used = in_turn.0.1 in omega arith

others_in_turn : (cut : Cut) (cuts : List Cut) → AreInTurn (cut ∷ cuts) → AreInTurn cuts
others_in_turn cut [] in_turn = tt
others_in_turn cut (next ∷ cuts) in_turn = in_turn.1

-- No span begins before the cells that the first call finds used.
all_behind : (low : ℕ) (cuts : List Cut) → AreInTurn cuts → BeginAt low cuts → All (Behind low) (spans_of cuts)
all_behind low [] in_turn begin = All-nil (Behind low)
all_behind low (cut ∷ cuts) in_turn begin =
    let takes = takes_of cut.before cut.after cut.n cut.answer cut.is in
    let others = all_behind cut.after.used cuts (others_in_turn cut cuts in_turn) (others_begin cut cuts in_turn) in
    All-cons_option (Behind low) cut.answer (spans_of cuts) (weaker cut.answer takes.begins)
    (All-weaker (Behind cut.after.used) (Behind low) (λ span h. let up : cut.before.used ≤ cut.after.used = takes.rises in omega arith) (spans_of cuts) others)
  where
    weaker : (answer : Option Span) → IfSome answer (Behind cut.before.used) → IfSome answer (Behind low)
    weaker None h = tt
    weaker (Some span) h = omega arith

-- A span that ends at `high` overlaps none that begins there or behind it.
apart_from_all : (high : ℕ) (answer : Option Span) (spans : List Span) → IfSome answer (λ span. end_of span ≡ high) → All (Behind high) spans → IfSome answer (λ span. All (AreApart span) spans)
apart_from_all high None spans ends behind = tt
apart_from_all high (Some span) spans ends behind =
    All-weaker (Behind high) (AreApart span) (λ other begins k in_span in_other. let a = in_span.1 in let b = in_other.0 in omega arith) spans behind

pub all_apart : (cuts : List Cut) → AreInTurn cuts → AllPairs AreApart (spans_of cuts)
all_apart [] in_turn = AllPairs-nil AreApart
all_apart (cut ∷ cuts) in_turn =
    let takes = takes_of cut.before cut.after cut.n cut.answer cut.is in
    let others = others_in_turn cut cuts in_turn in
    AllPairs-cons_option AreApart cut.answer (spans_of cuts)
    (apart_from_all cut.after.used cut.answer (spans_of cuts) takes.ends (all_behind cut.after.used cuts others (others_begin cut cuts in_turn)))
    (all_apart cuts others)
