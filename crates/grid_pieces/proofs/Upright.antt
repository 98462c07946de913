-- The rectangles of all metal are in order.
use Rattle.std.proofs.Common.{ℤ, pos, ◌<ℤ◌, ◌≤ℤ◌, List, [], ◌∷◌, map, get_or, All, arith}
use Rattle.std.specs.List.{flat_map}
use Rattle.std.proofs.lemmas.Int.{ints}
use Rattle.std.proofs.lemmas.List.Elements.{All-nil, All-append, All-map, All-head, All-tail}
use Rattle.geom_rect.specs.declared.direction.Axis.{Axis}
use Rattle.geom_rect.specs.declared.direction.Axis.TheVariants.{X, Y}
use Rattle.geom_rect.specs.Rect.{IsInOrder}
use Rattle.grid_pieces.specs.declared.metal.Metal.{Metal}
use Rattle.grid_pieces.specs.declared.piece.Piece.{Piece}
use Rattle.grid_pieces.specs.declared.piece.StackAt.{StackAt}
use Rattle.geom_rect.specs.Drawn.{centred}
use Rattle.grid_pieces.specs.Limits.{PieceKeeps, StackKeeps}
use Rattle.grid_pieces.specs.Touch.{piece_metal, stack_metal, between, metal}
use Rattle.grid_pieces.specs.Laws.Geometry.{half_within}

abbrev IsUpright : Metal → Type 0
IsUpright m = IsInOrder m.rect

centred_upright : (axis : Axis) (centre width from to : ℤ) → pos 2 ≤ℤ width → from <ℤ to → IsInOrder (centred axis centre width from to)
centred_upright X centre width from to wide long = let halves = half_within width (omega (arith, ints)) in (omega (arith, ints), omega (arith, ints))
centred_upright Y centre width from to wide long = let halves = half_within width (omega (arith, ints)) in (omega (arith, ints), omega (arith, ints))

All-flat_map : {A B : Type 0} (P : B → Type 0) (f : A → List B) (xs : List A) → All (λ x. All P (f x)) xs → All P (flat_map f xs)
All-flat_map P f [] all = All-nil P
All-flat_map P f (x ∷ xs) all = All-append P (f x) (flat_map f xs) (All-head (λ x. All P (f x)) x xs all) (All-flat_map P f xs (All-tail (λ x. All P (f x)) x xs all))

pub upright : (pieces : List Piece) (stacks : List StackAt) → All PieceKeeps pieces → All StackKeeps stacks → All (λ (m : Metal). IsInOrder m.rect) (metal pieces stacks)
upright pieces stacks keep crossings =
    All-append IsUpright (map piece_metal pieces) (flat_map (λ s. map (stack_metal s) (between s.stack.from s.stack.to)) stacks)
    (All-map IsUpright piece_metal pieces (λ k d within. let keeps = keep k d within in centred_upright _ _ _ _ _ keeps.0.0 keeps.1))
    (All-flat_map IsUpright (λ s. map (stack_metal s) (between s.stack.from s.stack.to)) stacks
    (λ k d within.
    let s = get_or stacks k d in
    All-map IsUpright (stack_metal s) (between s.stack.from s.stack.to) (λ n e in_list. crossings k d within)))
