use Rattle.std.proofs.Common.{◌≡◌, pos, arith, sym, ◌∙◌, ap, List, ◌++◌, ◌∷◌, [], map, get_or, rules, to_z, of_z}
use mir.Syntax.{w64}
use Rattle.std.specs.List.{range_with_len}
use Rattle.std.proofs.lemmas.List.FromFn.{map-range_with_len_more}
use Rattle.grid_net.specs.declared.part.Load.{Load}
use Rattle.grid_net.specs.declared.part.LoadRange.{LoadRange}
use Rattle.group_net.specs.inside.Loads.{load_at}
use Rattle.group_net.proofs.moved.loads_of_groups.Goals as goal

pub loop-node-preserved : goal.loop-node-preserved
loop-node-preserved c =
    let node = c.loop-node.node in
    let range : LoadRange = get_or c.args.loads.now node (record { low = pos 0; high = pos 0 }) in
    let low : to_z w64 (of_z w64 range.low) ≡ range.low = search rules in
    let high : to_z w64 (of_z w64 range.high) ≡ range.high = search rules in
    let told : Load = record {
      node = get_or c.args.group.now node 0;
      low = to_z w64 (of_z w64 range.low);
      high = to_z w64 (of_z w64 range.high);
    } in
    let same : told ≡ load_at c.args.loads.now c.args.group.now node =
    λ i. record { node = get_or c.args.group.now node 0; low = low i; high = high i } in
    c.in_ok-push.ensures.items ∙ ap (λ (xs : List Load). xs ++ told ∷ []) c.loop-node.invariant
    ∙ ap (λ (x : Load). map (load_at c.args.loads.now c.args.group.now) (range_with_len 0 node) ++ x ∷ []) same
    ∙ sym (map-range_with_len_more (load_at c.args.loads.now c.args.group.now) 0 node node (omega arith))
