-- The boxes of blocks lie near 0.
use Rattle.std.proofs.Common.{ℕ, ◌^◌, ℤ, pos, neg_ℤ, negsuc, ◌≤ℤ◌, ◌≡◌, List, [], ◌∷◌, All, arith, Option, Some, None}
use Rattle.std.specs.List.{cons_option}
use Rattle.std.specs.Option.{option_map}
use Rattle.std.proofs.lemmas.Int.{ints}
use Rattle.std.proofs.lemmas.List.Elements.{All-nil, All-cons, All-head, All-tail, All-same}
use Rattle.geom_rect.specs.declared.rect.Rect.{Rect}
use Rattle.lef_tech.specs.declared.tech.Tech.{Tech}
use Rattle.grid_plan.specs.Keeping.{IsNear, LiesNear}
use Rattle.macro_turns.specs.Limits.{RectKeeps}
use Rattle.placed_blocks.specs.declared.block.PlacedBlock.{PlacedBlock}
use Rattle.placed_blocks.specs.Limits.{BlockKeeps}
use Rattle.block_stripes.specs.declared.blocks.BlockBox.{BlockBox}
use Rattle.block_stripes.specs.Blocks.{boxes_in, BoxKeeps}

near_of : (z : ℤ) → (neg_ℤ (pos (2 ^ 40)) ≤ℤ z) × (z ≤ℤ pos (2 ^ 40)) → IsNear (2 ^ 40) z
near_of (pos n) is = let high = is.1 in omega (arith, ints)
near_of (negsuc n) is = let low = is.0 in omega (arith, ints)

rect_near : (rect : Rect) → RectKeeps rect → LiesNear (2 ^ 40) rect
rect_near rect keeps = record {
  in_order = keeps.in_order;
  x1 = near_of rect.x1 keeps.x1;
  y1 = near_of rect.y1 keeps.y1;
  x2 = near_of rect.x2 keeps.x2;
  y2 = near_of rect.y2 keeps.y2;
}

-- One more, where the block has a grid.
one_near : (blocks : List PlacedBlock) (block : PlacedBlock) (grid : Option ℕ) → RectKeeps block.outline → All BoxKeeps (boxes_in blocks)
    → All BoxKeeps (cons_option (option_map (λ (g : ℕ). record { grid = g; outline = block.outline }) grid) (boxes_in blocks))
one_near blocks block None keeps all = all
one_near blocks block (Some g) keeps all = All-cons BoxKeeps (record { grid = g; outline = block.outline }) (boxes_in blocks) (rect_near block.outline keeps) all

all_near : (tech : Tech) (blocks : List PlacedBlock) → All (BlockKeeps tech) blocks → All BoxKeeps (boxes_in blocks)
all_near tech [] all = All-nil BoxKeeps
all_near tech (block ∷ blocks) all =
    one_near blocks block block.grid (All-head (BlockKeeps tech) block blocks all).outline (all_near tech blocks (All-tail (BlockKeeps tech) block blocks all))

pub boxes_keep : (tech : Tech) (blocks : List PlacedBlock) (boxes : List BlockBox) → All (BlockKeeps tech) blocks → boxes ≡ boxes_in blocks → All BoxKeeps boxes
boxes_keep tech blocks boxes all are = All-same BoxKeeps boxes (boxes_in blocks) are (all_near tech blocks all)
