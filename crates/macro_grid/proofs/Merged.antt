-- Pieces of two lists in one order.
use Rattle.std.proofs.Common.{List, ◌++◌, All}
use Rattle.std.specs.List.Sorted.{IsPermutation}
use Rattle.std.proofs.lemmas.List.Elements.{All-append}
use Rattle.std.proofs.lemmas.List.Sorted.{All-permutation}
use Rattle.grid_pieces.specs.declared.piece.Piece.{Piece}

-- What holds of the pieces of both lists holds of all.
pub all_merged : (P : Piece → Type 0) (straps pins pieces : List Piece) → IsPermutation (straps ++ pins) pieces → All P straps → All P pins → All P pieces
all_merged P straps pins pieces same of_straps of_pins = All-permutation P (straps ++ pins) pieces same (All-append P straps pins of_straps of_pins)
