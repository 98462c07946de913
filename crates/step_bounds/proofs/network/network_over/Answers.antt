use Rattle.std.proofs.Common.{◌∙◌, ap, sym, subst, List, All, ◌≤ℤ◌}
use Rattle.grid_net.specs.declared.part.Load.{Load}
use Rattle.grid_net.specs.Building.{BuildFails}
use Rattle.step_bounds.specs.declared.companion.Companion.{Companion}
use Rattle.step_bounds.specs.StepNetwork.{step_nodes, step_resistors, step_pads}
use Rattle.step_bounds.proofs.Pushed.{of_lists}
use Rattle.step_bounds.proofs.Resistors.{loads_in_order}
use Rattle.step_bounds.proofs.Refused.{left}
use Rattle.step_bounds.proofs.network.network_over.Goals as goal

pub build-requires : goal.build-requires
build-requires c =
    let P : List Load → Type 0 = λ ls. All (λ (l : Load). l.low ≤ℤ l.high) ls in
    record {
      ranges = subst P (sym c.in_ok-loads.ensures)
          (loads_in_order c.args.net.now c.step_nodes-nodes.ensures.built c.args.extension.now.companions.items c.requires.extension.fit
          c.args.loads.now c.requires.loads c.args.before.now);
    }

pub passed_by-requires : goal.passed_by-requires
passed_by-requires c =
    let net = c.args.net.now in
    let xs = c.args.extension.now.companions.items in
    left net c.step_nodes-nodes.ensures.built xs c.requires.extension.fit c.args.loads.now c.requires.loads c.args.before.now c.in-Err.error
    (of_lists (λ n rs ps ls. BuildFails n rs ps ls c.in-Err.error) c.step_nodes-nodes.result (step_nodes net xs)
    c.in_ok-resistors.resistors.items (step_resistors net xs) c.in_ok-pads.pads.items (step_pads net xs c.args.before.now)
    c.in_ok-loads.loads.items c.args.loads.now c.step_nodes-nodes.ensures.nodes
    (c.in_ok-resistors.ensures ∙ ap (λ (ys : List Companion). step_resistors net ys) c.deref.ensures.value)
    c.in_ok-pads.ensures c.in_ok-loads.ensures c.in-Err.ensures.refused)
