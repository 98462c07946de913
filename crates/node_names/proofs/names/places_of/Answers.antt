use Rattle.std.proofs.Common.{◌≡◌, ℕ, ◌<◌, ◌∙◌, All, get_or, List, length, take, subst, sym, ap, arith}
use Rattle.std.proofs.lemmas.List.{length-set, length-map, take_all, get_or-map}
use Rattle.std.proofs.lemmas.List.Elements.{All-get_or}
use Rattle.node_names.specs.declared.names.Numbered.{Numbered}
use Rattle.node_names.specs.inside.Entries.{entry_of, entries_of}
use Rattle.node_names.proofs.EntryLemmas.{Entry, numbers_of, placed_more, IsPlacedAt}
use Rattle.node_names.proofs.names.places_of.Goals as goal

-- The number of an entry is the number of what was sorted.
number_at : (sorted : List Numbered) (i : ℕ) (n : Numbered) → i < length sorted → n ≡ get_or sorted i n → get_or (numbers_of (entries_of sorted)) i 0 ≡ n.number
number_at sorted i n within is =
    get_or-map (λ e. e.0) (entries_of sorted) i (entry_of n) 0 (omega (arith, length-map sorted entry_of))
    ∙ ap (λ e. e.0) (get_or-map entry_of sorted i n (entry_of n) within) ∙ ap (λ (m : Numbered). m.number) (sym is)

-- It is within the list.
number_within : (sorted : List Numbered) (i : ℕ) (n : Numbered) → i < length sorted → n ≡ get_or sorted i n → All (λ e. e.0 < length sorted) (entries_of sorted) → n.number < length sorted
number_within sorted i n within is all =
    let e = get_or-map entry_of sorted i n (entry_of n) within ∙ ap entry_of (sym is) in
    subst (λ (m : Entry). m.0 < length sorted) e (All-get_or (λ m. m.0 < length sorted) (entries_of sorted) i (entry_of n) (omega (arith, length-map sorted entry_of)) all)

pub index_mut-requires : goal.index_mut-requires
index_mut-requires c =
    omega (arith, number_within c.args.sorted.now c.loop-place.place c.index-sorted-place.result c.loop-place-test.true c.index-sorted-place.is c.requires.within, c.loop-place.invariant.0)

pub loop-place-preserved : goal.loop-place-preserved
loop-place-preserved c =
    let sorted : List Numbered = c.args.sorted.now in
    let places = c.loop-place.places.items in
    let i = c.loop-place.place in
    let found : Numbered = c.index-sorted-place.result in
    let number : ℕ = found.number in
    let count : length (numbers_of (entries_of sorted)) ≡ length sorted = length-map (entries_of sorted) (λ e. e.0) ∙ length-map sorted entry_of in
    let within : number < length sorted = number_within sorted i found c.loop-place-test.true c.index-sorted-place.is c.requires.within in
    let at = number_at sorted i found c.loop-place-test.true c.index-sorted-place.is in
    (length-set places number i ∙ c.loop-place.invariant.0, placed_more (numbers_of (entries_of sorted)) places i number (omega (arith, count, c.loop-place-test.true)) at (omega (arith, within, c.loop-place.invariant.0)) c.loop-place.invariant.1)

pub returns-clause-placed : goal.returns-clause-placed
returns-clause-placed c =
    let numbers : List ℕ = numbers_of (entries_of c.args.sorted.now) in
    let count : length numbers ≡ length c.args.sorted.now = length-map (entries_of c.args.sorted.now) (λ e. e.0) ∙ length-map c.args.sorted.now entry_of in
    let all : take c.loop-place.place numbers ≡ numbers = take_all c.loop-place.place numbers (omega (arith, count, c.loop-place-test.false)) in
    subst (λ (ms : List ℕ). All (IsPlacedAt numbers c.loop-place.places.items) ms) all c.loop-place.invariant.1
