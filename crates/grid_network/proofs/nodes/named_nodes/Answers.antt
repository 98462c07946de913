use Rattle.std.proofs.Common.{◌≡◌, ◌<◌, ℕ, List, All, Contains, map, length, sym, subst, ap, ◌∙◌, arith}
use Rattle.std.specs.List.{range_with_len}
use Rattle.std.specs.List.Sorted.{IsPermutation}
use Rattle.name_table.specs.ByteOrder.{IsInByteOrder}
use Rattle.grid_network.specs.declared.key.Key.{Key}
use Rattle.grid_network.specs.declared.numbered_names.NumberedName.{NumberedName}
use Rattle.grid_network.specs.Listing.{ListsAll}
use Rattle.grid_network.specs.Nodes.{name_of}
use Rattle.grid_network.specs.inside.Steps.{IsPlaced, TellsNumbers, place_of, numbered_name}
use Rattle.grid_network.proofs.Places.{rising_once}
use Rattle.grid_network.proofs.Numberings.{IsMoved, as_many, numbers_within, keys_same, names_are, order, tells}
use Rattle.grid_network.proofs.nodes.named_nodes.Goals as goal

pub keys_of-requires : goal.keys_of-requires
keys_of-requires c =
    let es : List NumberedName = c.put_in_byte_order.new.named.items in
    let moved : IsMoved c.args.layers c.args.places.now es = subst (λ (l : List NumberedName). IsPermutation l es) c.in_ok-named.ensures.named c.put_in_byte_order.ensures.same in
    subst (λ (l : List NumberedName). All (λ n. n.number < length c.args.places.now) l) (sym c.deref.ensures.value) (numbers_within c.args.layers c.args.places.now es moved)

pub places_of-requires-clause-few : goal.places_of-requires-clause-few
places_of-requires-clause-few c =
    let es : List NumberedName = c.put_in_byte_order.new.named.items in
    let moved : IsMoved c.args.layers c.args.places.now es = subst (λ (l : List NumberedName). IsPermutation l es) c.in_ok-named.ensures.named c.put_in_byte_order.ensures.same in
    omega (arith, c.requires.few, as_many c.args.layers c.args.places.now es moved, ap length c.deref-2.ensures.value)

pub places_of-requires-clause-within : goal.places_of-requires-clause-within
places_of-requires-clause-within c =
    let es : List NumberedName = c.put_in_byte_order.new.named.items in
    let moved : IsMoved c.args.layers c.args.places.now es = subst (λ (l : List NumberedName). IsPermutation l es) c.in_ok-named.ensures.named c.put_in_byte_order.ensures.same in
    let count = as_many c.args.layers c.args.places.now es moved in
    let within : All (λ n. n.number < length es) es = λ k d below. let h = numbers_within c.args.layers c.args.places.now es moved k d below in omega (arith, h, count) in
    subst (λ (l : List NumberedName). All (λ n. n.number < length l) l) (sym c.deref-2.ensures.value) within

pub returns-clause-same : goal.returns-clause-same
returns-clause-same c =
    let places : List Key = c.args.places.now in
    let es : List NumberedName = c.put_in_byte_order.new.named.items in
    let moved : IsMoved c.args.layers places es = subst (λ (l : List NumberedName). IsPermutation l es) c.in_ok-named.ensures.named c.put_in_byte_order.ensures.same in
    let keys : c.in_ok-keys.keys.items ≡ map (λ n. place_of places n.number) es = c.in_ok-keys.ensures ∙ ap (map (λ n. place_of places n.number)) c.deref.ensures.value in
    subst (λ (ks : List Key). ListsAll (λ k. Contains places k) ks) (sym keys) (keys_same c.args.layers places es moved)

pub returns-clause-names : goal.returns-clause-names
returns-clause-names c =
    let places : List Key = c.args.places.now in
    let es : List NumberedName = c.put_in_byte_order.new.named.items in
    let moved : IsMoved c.args.layers places es = subst (λ (l : List NumberedName). IsPermutation l es) c.in_ok-named.ensures.named c.put_in_byte_order.ensures.same in
    let keys : c.in_ok-keys.keys.items ≡ map (λ n. place_of places n.number) es = c.in_ok-keys.ensures ∙ ap (map (λ n. place_of places n.number)) c.deref.ensures.value in
    c.in_ok-names.ensures ∙ names_are c.args.layers places es moved ∙ ap (map (name_of c.args.layers)) (sym keys)

pub returns-clause-order : goal.returns-clause-order
returns-clause-order c =
    let places : List Key = c.args.places.now in
    let es : List NumberedName = c.put_in_byte_order.new.named.items in
    let moved : IsMoved c.args.layers places es = subst (λ (l : List NumberedName). IsPermutation l es) c.in_ok-named.ensures.named c.put_in_byte_order.ensures.same in
    let keys : c.in_ok-keys.keys.items ≡ map (λ n. place_of places n.number) es = c.in_ok-keys.ensures ∙ ap (map (λ n. place_of places n.number)) c.deref.ensures.value in
    subst (λ (ks : List Key). IsInByteOrder (map (name_of c.args.layers) ks)) (sym keys)
    (order c.args.layers places es moved c.requires.layers c.requires.within c.in_ok-named.ensures.short (rising_once places c.requires.sorted) c.put_in_byte_order.ensures.sorted)

pub returns-clause-numbers : goal.returns-clause-numbers
returns-clause-numbers c =
    let places : List Key = c.args.places.now in
    let es : List NumberedName = c.put_in_byte_order.new.named.items in
    let moved : IsMoved c.args.layers places es = subst (λ (l : List NumberedName). IsPermutation l es) c.in_ok-named.ensures.named c.put_in_byte_order.ensures.same in
    let keys : c.in_ok-keys.keys.items ≡ map (λ n. place_of places n.number) es = c.in_ok-keys.ensures ∙ ap (map (λ n. place_of places n.number)) c.deref.ensures.value in
    let numbers : List ℕ = c.in_ok-numbers.numbers.items in
    let long : length numbers ≡ length es = c.in_ok-numbers.ensures.count ∙ ap length c.deref-2.ensures.value in
    let placed : IsPlaced (map (λ n. n.number) es) numbers = subst (λ (l : List NumberedName). IsPlaced (map (λ n. n.number) l) numbers) c.deref-2.ensures.value c.in_ok-numbers.ensures.placed in
    let told = tells c.args.layers places es moved c.requires.layers c.requires.within c.in_ok-named.ensures.short (rising_once places c.requires.sorted) numbers c.requires.sorted long placed in
    subst (λ (ks : List Key). TellsNumbers ks places c.new.result) (sym keys) (subst (λ (ns : List ℕ). TellsNumbers (map (λ n. place_of places n.number) es) places ns) (sym c.new.ensures) told)
