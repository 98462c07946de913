use Rattle.std.proofs.Common.{◌≡◌, ◌∙◌, ◌<◌, ap, ℕ, pos, List, length, get_or, arith, rules, to_z, of_z, to_z-of_z, SFits}
use mir.Syntax.{w128}
use Rattle.std.proofs.lemmas.List.{get_or_read}
use Rattle.std.proofs.lemmas.List.FromFn.{length-map-range_with_len, get_or-map-range_with_len}
use Rattle.grid_net.specs.declared.part.Resistor.{Resistor}
use Rattle.step_bounds.specs.declared.companion.Companion.{Companion}
use Rattle.step_bounds.specs.StepNetwork.{memory_of, memory_resistor}
use Rattle.step_bounds.proofs.Pushed.{push_mapped}
use Rattle.step_bounds.proofs.network.step_resistors.Goals as goal

abbrev none : Companion
none = record { node = 0; ohms = pos 0 }

pub index-requires : goal.index-requires
index-requires c =
    let n = c.args.net.now.nodes in
    let long = ap length c.requires.memories.numbers_are in
    let here = c.requires.companions c.loop-companion.companion-index none c.loop-companion-test.true in
    omega (arith, long, length-map-range_with_len (memory_of c.args.companions.now n) 0 n, here.0)

pub loop-companion-preserved : goal.loop-companion-preserved
loop-companion-preserved c =
    let xs = c.args.companions.now in
    let n = c.args.net.now.nodes in
    let k = c.loop-companion.companion-index in
    let x = get_or xs k none in
    let numbers = c.args.memories.now.numbers.items in
    let long = ap length c.requires.memories.numbers_are in
    let here = c.requires.companions k none c.loop-companion-test.true in
    let bound : x.node < length numbers = omega (arith, long, length-map-range_with_len (memory_of xs n) 0 n, here.0) in
    let read : c.index.result.now ≡ memory_of xs n x.node =
    get_or_read numbers _ _ bound c.index.ensures 0
    ∙ ap (λ (ns : List ℕ). get_or ns x.node 0) c.requires.memories.numbers_are
    ∙ get_or-map-range_with_len (memory_of xs n) 0 n x.node x.node 0 here.0 (omega arith) in
    let fits : SFits w128 x.ohms = search rules in
    let ohms : to_z w128 (of_z w128 x.ohms) ≡ x.ohms = to_z-of_z fits in
    let told : Resistor = record { a = x.node; b = c.index.result.now; ohms = to_z w128 (of_z w128 x.ohms) } in
    let same : told ≡ memory_resistor xs n x = λ i. record { a = x.node; b = read i; ohms = ohms i } in
    c.in_ok-push.ensures.items
    ∙ push_mapped c.args.net.now.resistors (memory_resistor xs n) xs k none c.loop-companion-test.true c.loop-companion.resistors.items
    c.loop-companion.invariant told same
