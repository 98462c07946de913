use Rattle.std.proofs.Common.{◌≡◌, [], ℕ, ◌<◌, ◌∙◌, All, get_or, List, map, length, take, set, subst, arith}
use Rattle.std.proofs.lemmas.List.{length-set, length-map, take_all, get_or-map}
use Rattle.std.proofs.lemmas.List.Elements.{All-get_or}
use Rattle.name_table.specs.declared.table.NumberedName.{NumberedName}
use Rattle.name_table.proofs.NumberedLemmas.{placed_more, IsPlacedAt}
use Rattle.name_table.proofs.table.places_of.Goals as goal

pub loop-place-preserved : goal.loop-place-preserved
loop-place-preserved c =
    let entries = c.args.sorted.now in
    let places = c.loop-place.places.items in
    let i = c.loop-place.place in
    let none : NumberedName = record { name = record { name = record { ref_ptr = (0, 0); now = [] } }; number = 0 } in
    let number : ℕ = (get_or entries i none).number in
    let count : length (map (λ n. n.number) entries) ≡ length entries = length-map entries (λ n. n.number) in
    let within : number < length entries = All-get_or (λ n. n.number < length entries) entries i none c.loop-place-test.true c.requires.within in
    let kept : length (set places number i) ≡ length entries = length-set places number i ∙ c.loop-place.invariant.0 in
    let at : get_or (map (λ n. n.number) entries) i 0 ≡ number = get_or-map (λ n. n.number) entries i none 0 c.loop-place-test.true in
    (kept, placed_more (map (λ n. n.number) entries) places i number (omega arith) at (omega (arith, c.loop-place.invariant.0)) c.loop-place.invariant.1)

pub returns-clause-placed : goal.returns-clause-placed
returns-clause-placed c =
    let numbers : List ℕ = map (λ n. n.number) c.args.sorted.now in
    let count : length numbers ≡ length c.args.sorted.now = length-map c.args.sorted.now (λ n. n.number) in
    let all : take c.loop-place.place numbers ≡ numbers = take_all c.loop-place.place numbers (omega arith) in
    subst (λ (ms : List ℕ). All (IsPlacedAt numbers c.loop-place.places.items) ms) all c.loop-place.invariant.1
