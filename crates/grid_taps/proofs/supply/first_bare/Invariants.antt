use Rattle.std.proofs.Common.{take}
use Rattle.grid_pieces.specs.declared.piece.Piece.{Piece}
use Rattle.grid_taps.specs.Naming.{IsFirst}
use Rattle.grid_taps.specs.Refusals.{HasNoSupply}
use Rattle.grid_taps.specs.inside.Steps.{NumberAmong}
use Rattle.grid_taps.proofs.supply.first_bare.Given as goal

abbrev pub invariant-loop-piece : goal.invariant-loop-piece
invariant-loop-piece l =
    IsFirst (NumberAmong (λ (p : Piece). p.net) (λ (p : Piece). HasNoSupply l.grid l.bias p.net) (take l.piece-index l.piece-items)) l.first
