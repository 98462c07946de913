use Rattle.std.proofs.Common.{◌≡◌, arith, sym, ◌∙◌, ap, List, ◌++◌, ◌∷◌, [], map, rules, to_z, of_z, to_z-of_z, SFits}
use mir.Syntax.{w64}
use Rattle.std.specs.List.{range_with_len}
use Rattle.std.proofs.lemmas.List.FromFn.{map-range_with_len_more}
use Rattle.grid_net.specs.declared.part.Load.{Load}
use Rattle.grid_net.specs.Network.{load_range}
use Rattle.step_bounds.specs.Changes.{load_entry}
use Rattle.step_bounds.proofs.loads.loads_of.Goals as goal

pub loop-node-preserved : goal.loop-node-preserved
loop-node-preserved c =
    let f = load_entry (load_range c.args.net.now) in
    let node = c.loop-node.node in
    let fl : SFits w64 c.load-low.result.0 = search rules in
    let fh : SFits w64 c.load-low.result.1 = search rules in
    let low : to_z w64 (of_z w64 c.load-low.result.0) ≡ (load_range c.args.net.now node).low = to_z-of_z fl ∙ c.load-low.ensures.low in
    let high : to_z w64 (of_z w64 c.load-low.result.1) ≡ (load_range c.args.net.now node).high = to_z-of_z fh ∙ c.load-low.ensures.high in
    let told : Load = record {
      node = node;
      low = to_z w64 (of_z w64 c.load-low.result.0);
      high = to_z w64 (of_z w64 c.load-low.result.1);
    } in
    let same : told ≡ f node = λ i. record { node = node; low = low i; high = high i } in
    c.in_ok-push.ensures.items ∙ ap (λ (xs : List Load). xs ++ told ∷ []) c.loop-node.invariant
    ∙ ap (λ (x : Load). map f (range_with_len 0 node) ++ x ∷ []) same
    ∙ sym (map-range_with_len_more f 0 node node (omega arith))
