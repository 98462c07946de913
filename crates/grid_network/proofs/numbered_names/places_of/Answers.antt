use Rattle.std.proofs.Common.{◌≡◌, ℕ, ◌<◌, ◌∙◌, All, get_or, List, map, length, take, set, sym, ap, subst, arith}
use Rattle.std.proofs.lemmas.List.{length-set, length-map, take_all, get_or-map}
use Rattle.grid_network.specs.declared.numbered_names.NumberedName.{NumberedName}
use Rattle.grid_network.proofs.Numberings.{placed_more, IsPlacedAt}
use Rattle.grid_network.proofs.numbered_names.places_of.Goals as goal

pub loop-place-preserved : goal.loop-place-preserved
loop-place-preserved c =
    let entries = c.args.named.now in
    let places = c.loop-place.places.items in
    let i = c.loop-place.place in
    let one : NumberedName = c.index-named-place.result in
    let is : one ≡ get_or entries i one = c.index-named-place.is in
    let number : ℕ = one.number in
    let count : length (map (λ n. n.number) entries) ≡ length entries = length-map entries (λ n. n.number) in
    let within : number < length entries = subst (λ (n : NumberedName). n.number < length entries) (sym is) (c.requires.within i one c.loop-place-test.true) in
    let kept : length (set places number i) ≡ length entries = length-set places number i ∙ c.loop-place.invariant.0 in
    let at : get_or (map (λ n. n.number) entries) i 0 ≡ number = get_or-map (λ n. n.number) entries i one 0 c.loop-place-test.true ∙ ap (λ n. n.number) (sym is) in
    (kept, placed_more (map (λ n. n.number) entries) places i number (omega arith) at (omega (arith, c.loop-place.invariant.0)) c.loop-place.invariant.1)

pub returns-clause-placed : goal.returns-clause-placed
returns-clause-placed c =
    let numbers : List ℕ = map (λ n. n.number) c.args.named.now in
    let count : length numbers ≡ length c.args.named.now = length-map c.args.named.now (λ n. n.number) in
    let all : take c.loop-place.place numbers ≡ numbers = take_all c.loop-place.place numbers (omega arith) in
    subst (λ (ms : List ℕ). All (IsPlacedAt numbers c.loop-place.places.items) ms) all c.loop-place.invariant.1
