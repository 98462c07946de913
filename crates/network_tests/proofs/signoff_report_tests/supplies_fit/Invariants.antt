use Rattle.std.proofs.Common.{All, take}
use Rattle.grid_net.specs.Limits.{IsInLimit, greatest_voltage}
use Rattle.signoff_report.specs.declared.records.NetLimit.{NetLimit}
use Rattle.network_tests.proofs.signoff_report_tests.supplies_fit.Given as goal

abbrev pub invariant-loop-net : goal.invariant-loop-net
invariant-loop-net l = All (λ (n : NetLimit). IsInLimit greatest_voltage n.supply) (take l.net-index l.nets)
