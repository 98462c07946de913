use Rattle.std.proofs.Common.{◌≡◌, ◌≤◌, ◌<◌, ◌+◌, ℕ, length, take, get_or}
use Rattle.outside.specs.Counts.{Rose}
use Rattle.grid_net.specs.Network.{load_range}
use Rattle.wave_file.specs.declared.record.Change.{Change}
use Rattle.step_bounds.specs.StepNetwork.{step_cells}
use Rattle.step_bounds.specs.StepCertificate.{IsStepCertificate, KeepStepLimits}
use Rattle.step_bounds.specs.inside.Loads.{loads_after}
use Rattle.step_bounds.proofs.stepping.step_all.Given as goal

abbrev pub invariant-loop-t : goal.invariant-loop-t
invariant-loop-t g l =
    let V = g.V.Solver in
    record {
      certificate : IsStepCertificate l.net l.extension.companions.items l.changes (l.t + 1) l.lists.high.items l.lists.low.items;
      limits : KeepStepLimits l.net l.extension.companions.items l.changes l.t l.lists.high.items l.lists.low.items;
      loads : l.loads.items ≡ loads_after (load_range l.net) (take l.reached l.changes) l.net.nodes;
      reached : l.reached ≤ length l.changes;
      until : (k : ℕ) (d : Change) → k < l.reached → (get_or l.changes k d).step ≤ l.t;
      counted : V.proposals l.fn.solver ≤ V.proposals l.solver;
      asked : Rose (V.proposals l.fn.solver) (V.proposals l.solver);
      told : V.told l.solver ≡ V.told l.fn.solver;
      cells : length l.work.cells ≡ step_cells l.net l.extension.companions.items;
    }
