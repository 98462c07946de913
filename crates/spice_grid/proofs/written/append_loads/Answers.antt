use Rattle.std.proofs.Common.{◌≡◌, ℕ, ◌<◌, List, [], ◌++◌, length, ap, sym, ◌∙◌, arith}
use Rattle.std.specs.List.{flat_map, enumerate_from}
use Rattle.std.proofs.lemmas.List.{get_or_default}
use Rattle.spice_grid.specs.Written.{load_lines}
use Rattle.spice_grid.proofs.LoadLemmas.{drawn_written, drawn_counted, not_drawn}
use Rattle.spice_grid.proofs.written.append_loads.Goals as goal
use Rattle.spice_grid.proofs.written.append_loads.Goals.{then-is_drawing+in_ok-append_load, else-is_drawing}

pub loop-node-preserved : goal.loop-node-preserved
loop-node-preserved c =
    let names : List (List ℕ) = c.args.names.now in
    let loads = c.args.net.now.loads in
    let node = c.loop-node.node in
    let number = c.loop-node.number in
    let count : length loads ≡ c.args.net.now.nodes = c.nodes-node-end.ensures.built.one_load_a_node in
    let within : node < length loads = omega (arith, count, c.loop-node-test.true, c.nodes-node-end.ensures.nodes) in
    let counted = c.loop-node.invariant.1 in
    elim c.if-is_drawing.branch [
      | then-is_drawing+in_ok-append_load w ↦
          let drawn = sym c.is_drawing.ensures ∙ w.if-is_drawing.true in
          let in_names : node < length names = omega (arith, c.requires, count, within) in
          let name = w.bytes.ensures ∙ w.index-names-node.is ∙ get_or_default names node w.index-names-node.result [] in_names in
          let written = drawn_written names loads node number within counted _ _ _ _ c.load_at-load.result drawn c.load_at-load.ensures name c.loop-node.invariant.0 w.in_ok-append_load.ensures in
          (ap (λ v. v.items) w.out-is ∙ written, w.number-is ∙ drawn_counted names loads node number within counted c.load_at-load.result drawn c.load_at-load.ensures, omega (arith, w.number-is, c.loop-node.invariant.2))
      | else-is_drawing w ↦
          let drawn = sym c.is_drawing.ensures ∙ w.if-is_drawing.false in
          let same = not_drawn names loads node number within counted c.load_at-load.result drawn c.load_at-load.ensures in
          (ap (λ v. v.items) w.out-is ∙ c.loop-node.invariant.0 ∙ ap (λ l. c.args.out.now.items ++ flat_map (load_lines names) (enumerate_from 1 l)) (sym same), w.number-is ∙ counted ∙ ap length (sym same), omega (arith, w.number-is, c.loop-node.invariant.2))
    ]
