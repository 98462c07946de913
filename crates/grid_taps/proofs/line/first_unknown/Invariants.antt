-- The least of the lines before the next one.
use Rattle.std.proofs.Common.{take}
use Rattle.grid_taps.specs.Naming.{IsFirst, IsUnknown}
use Rattle.grid_taps.specs.inside.Steps.{NumberAmong}
use Rattle.grid_taps.proofs.line.first_unknown.Given as goal

abbrev pub invariant-loop-line : goal.invariant-loop-line
invariant-loop-line g l =
    IsFirst (NumberAmong g.T.Line.line_of (λ x. IsUnknown l.names (g.T.Named.name_of x)) (take l.line-index l.lines)) l.first
