use Rattle.std.proofs.Common.{◌≡◌, ◌∙◌, ◌+◌, ◌<◌, ◌∷◌, [], ◌++◌, ap, sym, ℕ, List, Vec, Global, length, map, arith, Bool, false, get_or}
use Rattle.std.specs.List.{range_with_len}
use Rattle.std.proofs.lemmas.List.{get_or_read}
use Rattle.std.proofs.lemmas.List.FromFn.{length-map-range_with_len, get_or-map-range_with_len, map-range_with_len_more}
use Rattle.step_bounds.specs.StepNetwork.{has_memory, memory_of}
use Rattle.step_bounds.proofs.Memory.{few_below, one_more_yes, one_more_no}
use Rattle.step_bounds.proofs.extension.memories_of.Goals as goal
use Rattle.step_bounds.proofs.extension.memories_of.Goals.{then-index+in_ok-push-2, else-index}

pub overflow_cast-len : goal.overflow_cast-len
overflow_cast-len c =
    let long = ap length c.loop-node.invariant.with_memory in
    let few = few_below (has_memory c.args.companions.now) c.loop-node.node in
    omega (arith, long, few, c.len.ensures, c.loop-node-test.true, c.requires.few)

pub overflow_add-nodes : goal.overflow_add-nodes
overflow_add-nodes c =
    let long = ap length c.loop-node.invariant.with_memory in
    let few = few_below (has_memory c.args.companions.now) c.loop-node.node in
    omega (arith, long, few, c.len.ensures, c.loop-node-test.true, c.requires.few)

pub index-requires : goal.index-requires
index-requires c =
    let long = ap length c.in_ok-marks.ensures in
    omega (arith, long, length-map-range_with_len (has_memory c.args.companions.now) 0 c.args.nodes, c.loop-node-test.true)

pub loop-node-preserved : goal.loop-node-preserved
loop-node-preserved c =
    let xs = c.args.companions.now in
    let node = c.loop-node.node in
    let inv = c.loop-node.invariant in
    let long = ap length c.in_ok-marks.ensures in
    let in_marks : node < length c.in_ok-marks.marks.items = omega (arith, long, length-map-range_with_len (has_memory xs) 0 c.args.nodes, c.loop-node-test.true) in
    let read : c.index.result.now ≡ has_memory xs node =
    get_or_read c.in_ok-marks.marks.items _ _ in_marks c.index.ensures false
    ∙ ap (λ (ms : List Bool). get_or ms node false) c.in_ok-marks.ensures
    ∙ get_or-map-range_with_len (has_memory xs) 0 c.args.nodes node node false c.loop-node-test.true (omega arith) in
    let number : c.args.nodes + c.len.result ≡ memory_of xs c.args.nodes node =
    omega (arith, c.len.ensures, ap length inv.with_memory) in
    let numbers = c.in_ok-push.ensures.items
    ∙ ap (λ (ns : List ℕ). ns ++ (c.args.nodes + c.len.result) ∷ []) inv.numbers
    ∙ ap (λ (n : ℕ). map (memory_of xs c.args.nodes) (range_with_len 0 node) ++ n ∷ []) number
    ∙ sym (map-range_with_len_more (memory_of xs c.args.nodes) 0 node node (omega arith)) in
    elim c.if-index.branch [
      | then-index+in_ok-push-2 w ↦ record {
        with_memory = ap (λ (v : Vec ℕ Global). v.items) w.with_memory-is
            ∙ w.in_ok-push-2.ensures.items
            ∙ ap (λ (ns : List ℕ). ns ++ node ∷ []) inv.with_memory
            ∙ sym (one_more_yes (has_memory xs) node (sym read ∙ w.if-index.true));
        numbers = numbers;
      }
      | else-index w ↦ record {
        with_memory = ap (λ (v : Vec ℕ Global). v.items) w.with_memory-is
            ∙ inv.with_memory
            ∙ sym (one_more_no (has_memory xs) node (sym read ∙ w.if-index.false));
        numbers = numbers;
      }
    ]
