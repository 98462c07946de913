-- What the parts of pins and the obstructions of a block keep.
use Rattle.std.proofs.Common.{◌≡◌, ℕ, ◌<◌, Bool, true, false, ◌&&◌, int_lt, ℤ, ◌<ℤ◌, List, [], ◌∷◌, ◌++◌, All, length, Option, Some, None, IfSome, refl, sym, ◌∙◌, ap, subst, arith, if◌then◌else◌}
use Rattle.std.specs.List.{filter_map, flat_map, cons_option}
use Rattle.std.specs.Option.{option_map}
use Rattle.std.proofs.lemmas.Int.{ints}
use Rattle.std.proofs.lemmas.List.Elements.{All-nil, All-cons, All-append, All-head, All-tail}
use Rattle.geom_rect.specs.declared.rect.Rect.{Rect}
use Rattle.geom_rect.specs.Rect.{IsInOrder, HasCoordinates}
use Rattle.lef_tech.specs.declared.layer.LayerRef.{LayerRef}
use Rattle.lef_tech.specs.declared.tech.Tech.{Tech}
use Rattle.via_arrays.specs.Choice.{direction}
use Rattle.via_arrays.specs.Lengths.{IsUnits}
use Rattle.macro_blocks.specs.declared.record.BlockMacro.{BlockMacro}
use Rattle.macro_blocks.specs.declared.record.BlockPin.{BlockPin}
use Rattle.macro_blocks.specs.declared.record.BlockRect.{BlockRect}
use Rattle.macro_blocks.specs.Limits.{MacroKeeps, PinKeeps, RectKeeps}
use Rattle.macro_turns.specs.declared.turned.Placed.{Placed}
use Rattle.macro_turns.specs.Limits.{PlacedKeeps}
use Rattle.block_rects.specs.declared.part.Obstruction.{Obstruction}
use Rattle.block_rects.specs.declared.part.PinPart.{PinPart}
use Rattle.block_rects.specs.Layers.{place_of_layer, layer_of}
use Rattle.block_rects.specs.Limits.{PartKeeps, ObstructionKeeps}
use Rattle.block_rects.specs.Placed.{rect_in_units, placed_rect, evened, has_area, part_with, part_on, part_of, parts_of_pin, parts_of, obstruction_on, obstruction_of, obstructions_of}
use Rattle.block_rects.specs.inside.Bounds.{IsSmall}
use Rattle.block_rects.proofs.Bounds.{rect_keeps, rect_is_small, placed_is_small, placed_in_order, placed_at_coordinates}
use Rattle.block_rects.proofs.Extents.{part_keeps}
use Rattle.block_rects.proofs.Steps.{layer_within}

record IsGood (r : Rect) : Type 0 where
  pub order : IsInOrder r
  pub at : HasCoordinates r
  pub small : IsSmall r

good : (units : ℕ) (placed : Placed) (rect : BlockRect) → IsUnits units → PlacedKeeps placed → RectKeeps rect → IsGood (placed_rect units placed rect)
good units placed rect is keeps of =
    let inner = rect_keeps units rect is of in
    record {
      order = placed_in_order placed (rect_in_units units rect);
      at = placed_at_coordinates placed (rect_in_units units rect) keeps inner;
      small = placed_is_small placed (rect_in_units units rect) inner.in_order (rect_is_small units rect is of);
    }

-- ## one part

both_true : (a b : Bool) → (a && b) ≡ true → (a ≡ true) × (b ≡ true)
both_true true b h = (refl, h)
both_true false b h = absurd (grind (arith, h))

is_below : (a b : ℤ) → int_lt a b ≡ true → a <ℤ b
is_below a b h = grind (arith, ints, h)

if_some : {X : Type 0} (P : X → Type 0) (b : Bool) (x : X) → (b ≡ true → P x) → IfSome (if b then Some x else None) P
if_some P true x h = h refl
if_some P false x h = tt

one_part : (tech : Tech) (power : Bool) (r : Rect) (o : Option ℕ) → ((k : ℕ) → o ≡ Some k → k < length tech.routing) → IsGood r
    → IfSome (part_on tech power r o) (PartKeeps tech)
one_part tech power r None within is = tt
one_part tech power r (Some k) within is =
    let e = evened (direction tech k) r in
    if_some (PartKeeps tech) (has_area e) (record { layer = k; power = power; rect = e }) (λ h.
    let two = both_true (int_lt e.x1 e.x2) (int_lt e.y1 e.y2) h in
    part_keeps tech power k (direction tech k) r refl (within k refl) is.order is.at is.small (is_below e.x1 e.x2 two.0) (is_below e.y1 e.y2 two.1))

-- ## all

cons_keeps : {Y : Type 0} (P : Y → Type 0) (o : Option Y) (ys : List Y) → IfSome o P → All P ys → All P (cons_option o ys)
cons_keeps P None ys one all = all
cons_keeps P (Some y) ys one all = All-cons P y ys one all

kept : {X Y : Type 0} (Q : X → Type 0) (P : Y → Type 0) (h : X → Option Y) → ((x : X) → Q x → IfSome (h x) P) → (xs : List X) → All Q xs → All P (filter_map h xs)
kept Q P h one [] all = All-nil P
kept Q P h one (x ∷ xs) all = cons_keeps P (h x) (filter_map h xs) (one x (All-head Q x xs all)) (kept Q P h one xs (All-tail Q x xs all))

kept_of : {X Y : Type 0} (Q : X → Type 0) (P : Y → Type 0) (f : X → List Y) → ((x : X) → Q x → All P (f x)) → (xs : List X) → All Q xs → All P (flat_map f xs)
kept_of Q P f one [] all = All-nil P
kept_of Q P f one (x ∷ xs) all = All-append P (f x) (flat_map f xs) (one x (All-head Q x xs all)) (kept_of Q P f one xs (All-tail Q x xs all))

pub parts_keep : (tech : Tech) (units : ℕ) (placed : Placed) (cell : BlockMacro) → IsUnits units → PlacedKeeps placed → MacroKeeps cell
    → All (PartKeeps tech) (parts_of tech units placed cell)
parts_keep tech units placed cell is keeps of = kept_of PinKeeps (PartKeeps tech) (parts_of_pin tech units placed) (λ pin pin_keeps.
    kept RectKeeps (PartKeeps tech) (part_of tech units placed pin.power) (λ rect rect_is.
    one_part tech pin.power (placed_rect units placed rect) (place_of_layer tech rect.layer) (λ k e. layer_within tech rect.layer k e)
    (good units placed rect is keeps rect_is)) pin.rects pin_keeps) cell.pins of.pins

one_obstruction : (r : Rect) (o : Option LayerRef) → IsGood r → IfSome (option_map (obstruction_on r) o) ObstructionKeeps
one_obstruction r None is = tt
one_obstruction r (Some layer) is = (is.order, is.at)

pub obstructions_keep : (tech : Tech) (units : ℕ) (placed : Placed) (cell : BlockMacro) → IsUnits units → PlacedKeeps placed → MacroKeeps cell
    → All ObstructionKeeps (obstructions_of tech units placed cell)
obstructions_keep tech units placed cell is keeps of = kept RectKeeps ObstructionKeeps (obstruction_of tech units placed) (λ rect rect_is.
    one_obstruction (placed_rect units placed rect) (layer_of tech rect.layer) (good units placed rect is keeps rect_is)) cell.obstructions of.obstructions
