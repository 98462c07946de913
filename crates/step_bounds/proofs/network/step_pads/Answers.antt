use Rattle.std.proofs.Common.{◌≡◌, ◌∙◌, ◌<◌, ap, ℕ, pos, Bool, List, length, get_or, arith, rules, to_z, of_z, to_z-of_z, SFits}
use mir.Syntax.{w128}
use Rattle.std.specs.List.{range_with_len, filter}
use Rattle.std.proofs.lemmas.List.{get_or_read}
use Rattle.std.proofs.lemmas.List.FromFn.{length-map-range_with_len, get_or-map-range_with_len}
use Rattle.grid_net.specs.declared.part.Pad.{Pad}
use Rattle.grid_net.specs.Network.{entry_of}
use Rattle.step_bounds.specs.StepNetwork.{has_memory, memory_of, memory_pad}
use Rattle.step_bounds.proofs.Memory.{each_below}
use Rattle.step_bounds.proofs.Pushed.{push_mapped}
use Rattle.step_bounds.proofs.network.step_pads.Goals as goal

-- The node of an entry of the list of nodes with a memory is a node.
in_net : (has : ℕ → Bool) (n : ℕ) (slice items : List ℕ) → slice ≡ items → items ≡ filter has (range_with_len 0 n) → (k : ℕ)
    → k < length slice → get_or slice k 0 < n
in_net has n slice items e f k l =
    let long = ap length (e ∙ f) in
    let at = ap (λ (xs : List ℕ). get_or xs k 0) (e ∙ f) in
    let h = each_below has n k 0 (omega (arith, long, l)) in
    omega (arith, at, h)

pub index-requires : goal.index-requires
index-requires c =
    let n = c.args.net.now.nodes in
    let xs = c.args.extension.now.companions.items in
    let h = in_net (has_memory xs) n c.deref-node-items.result.now c.args.extension.now.memories.nodes.items c.deref-node-items.ensures.value
    c.requires.extension.memories_are.nodes_are c.loop-node.node-index c.loop-node-test.true in
    let long = ap length c.requires.extension.memories_are.numbers_are in
    omega (arith, long, length-map-range_with_len (memory_of xs n) 0 n, h)

pub bounds-before-node : goal.bounds-before-node
bounds-before-node c =
    let h = in_net (has_memory c.args.extension.now.companions.items) c.args.net.now.nodes c.deref-node-items.result.now
    c.args.extension.now.memories.nodes.items c.deref-node-items.ensures.value
    c.requires.extension.memories_are.nodes_are c.loop-node.node-index c.loop-node-test.true in
    omega (arith, h, c.requires.before)

pub loop-node-preserved : goal.loop-node-preserved
loop-node-preserved c =
    let n = c.args.net.now.nodes in
    let xs = c.args.extension.now.companions.items in
    let k = c.loop-node.node-index in
    let items = c.deref-node-items.result.now in
    let ns = c.args.extension.now.memories.nodes.items in
    let numbers = c.args.extension.now.memories.numbers.items in
    let v = c.args.before.now in
    let j = get_or items k 0 in
    let h : j < n = in_net (has_memory xs) n items ns c.deref-node-items.ensures.value
    c.requires.extension.memories_are.nodes_are k c.loop-node-test.true in
    let long = ap length c.requires.extension.memories_are.numbers_are in
    let bound : j < length numbers = omega (arith, long, length-map-range_with_len (memory_of xs n) 0 n, h) in
    let read : c.index.result.now ≡ memory_of xs n j =
    get_or_read numbers _ _ bound c.index.ensures 0
    ∙ ap (λ (ms : List ℕ). get_or ms j 0) c.requires.extension.memories_are.numbers_are
    ∙ get_or-map-range_with_len (memory_of xs n) 0 n j j 0 h (omega arith) in
    let fits : SFits w128 (get_or v j (pos 0)) = search rules in
    let volts : to_z w128 (of_z w128 (get_or v j (pos 0))) ≡ entry_of v j = to_z-of_z fits in
    let told : Pad = record { node = c.index.result.now; volts = to_z w128 (of_z w128 (get_or v j (pos 0))) } in
    let same : told ≡ memory_pad xs n v j = λ i. record { node = read i; volts = volts i } in
    let in_list : k < length ns = omega (arith, c.loop-node-test.true, ap length c.deref-node-items.ensures.value) in
    c.in_ok-push.ensures.items
    ∙ push_mapped c.args.net.now.pads (memory_pad xs n v) ns k 0 in_list c.loop-node.pads.items
    c.loop-node.invariant told (same ∙ ap (λ (ms : List ℕ). memory_pad xs n v (get_or ms k 0)) c.deref-node-items.ensures.value)
