-- What a record keeps, by what its units say.
use Rattle.std.proofs.Common.{◌≡◌, ℤ, ◌≤ℤ◌, List, [], ◌∷◌, arith}
use Rattle.std.specs.Int.{int_min, int_max}
use Rattle.std.proofs.lemmas.Int.{ints, clamps}
use Rattle.entry_list.specs.Laws.{in-turn-all}
use Rattle.macro_blocks.specs.declared.record.BlockMacro.{BlockMacro}
use Rattle.macro_blocks.specs.declared.record.BlockPin.{BlockPin}
use Rattle.macro_blocks.specs.declared.record.BlockRect.{BlockRect}
use Rattle.macro_blocks.specs.declared.record.Blocks.{Blocks}
use Rattle.macro_blocks.specs.Limits.{IsNear, RectKeeps, PinKeeps, MacroKeeps, BlocksKeep}
use Rattle.macro_blocks.specs.Number.{coordinate, IsCoordinate}
use Rattle.macro_blocks.specs.Record.{Shape, SaidPin, SaidMacro, SaysCorners, SaysRect, SaysPin, SaysMacro, IsBlocks}
use Rattle.macro_blocks.proofs.Numbers.{Limited}
use Rattle.reading.specs.Word.{Token}

near : Limited → (word : Token) (v : ℤ) → IsCoordinate word v → IsNear v
near limited word v h = limited coordinate word.text v h

in_order : (x z m n : ℤ) → m ≡ int_min x z → n ≡ int_max x z → m ≤ℤ n
in_order x z m n e f = omega (arith, ints, clamps)

near_least : (x z m : ℤ) → m ≡ int_min x z → IsNear x → IsNear z → IsNear m
near_least x z m e h k = omega (arith, ints, clamps)

near_most : (x z m : ℤ) → m ≡ int_max x z → IsNear x → IsNear z → IsNear m
near_most x z m e h k = omega (arith, ints, clamps)

corners_kept : Limited → (words : List Token) (rect : BlockRect) → SaysCorners words rect → RectKeeps rect
corners_kept limited (first ∷ a ∷ b ∷ c ∷ d ∷ stop ∷ []) rect (x, y, z, w, p, q, r, s, x1, y1, x2, y2) = record {
  wide = in_order x z rect.x1 rect.x2 x1 x2;
  high = in_order y w rect.y1 rect.y2 y1 y2;
  x1 = near_least x z rect.x1 x1 (near limited a x p) (near limited c z r);
  y1 = near_least y w rect.y1 y1 (near limited b y q) (near limited d w s);
  x2 = near_most x z rect.x2 x2 (near limited a x p) (near limited c z r);
  y2 = near_most y w rect.y2 y2 (near limited b y q) (near limited d w s);
}
corners_kept limited words rect h = absurd h

rect_kept : Limited → (shape : Shape) (rect : BlockRect) → SaysRect shape rect → RectKeeps rect
rect_kept limited shape rect h = corners_kept limited shape.words rect h.corners

pin_kept : Limited → (said : SaidPin) (pin : BlockPin) → SaysPin said pin → PinKeeps pin
pin_kept limited said pin h = in-turn-all SaysRect RectKeeps (rect_kept limited) said.shapes pin.rects h.rects

macro_kept : Limited → (said : SaidMacro) (cell : BlockMacro) → SaysMacro said cell → MacroKeeps cell
macro_kept limited said cell h = record {
  pins = in-turn-all SaysPin PinKeeps (pin_kept limited) said.pins cell.pins h.pins;
  obstructions = in-turn-all SaysRect RectKeeps (rect_kept limited) said.obstructions cell.obstructions h.obstructions;
}

pub blocks_kept : Limited → (units : List (List Token)) (blocks : Blocks) → IsBlocks units blocks → BlocksKeep blocks
blocks_kept limited units blocks h = in-turn-all SaysMacro MacroKeeps (macro_kept limited) _ blocks.macros h
