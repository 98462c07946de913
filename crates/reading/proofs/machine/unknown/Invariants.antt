use Rattle.std.proofs.Common.{◌≡◌, length}
use Rattle.reading.specs.inside.Machine.{IsUnknown}
use Rattle.reading.proofs.machine.unknown.Given as goal

abbrev pub invariant-loop : goal.invariant-loop
invariant-loop l = record {
  unknown : IsUnknown l.table.items;
  count : length l.table.items ≡ l.counter;
}
