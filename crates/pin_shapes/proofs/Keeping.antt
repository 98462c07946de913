-- What pins as shapes keep.
use Rattle.std.proofs.Common.{◌≡◌, ℕ, zero, suc, ◌+◌, ◌<◌, ℤ, pos, ◌<ℤ◌, ◌^◌, Bool, true, false, List, [], ◌∷◌, ◌++◌, All, take, length, get_or, refl, sym, ap, ◌∙◌, append_assoc, subst, arith, Option, Some, None}
use Rattle.std.specs.Prelude.{slice_get}
use Rattle.std.specs.List.{flat_map}
use Rattle.std.proofs.lemmas.Int.{ints}
use Rattle.std.proofs.lemmas.List.{append-nil, take_more}
use Rattle.std.proofs.lemmas.List.Concat.{flat_map-append}
use Rattle.std.proofs.lemmas.List.Elements.{All-nil, All-append, All-head, All-tail, All-map, All-contains, All-same}
use Rattle.geom_rect.specs.declared.drawn.Drawn.{Drawn}
use Rattle.geom_rect.specs.Drawn.{IsWidth}
use Rattle.geom_rect.specs.Rect.{HasCoordinates}
use Rattle.lef_tech.specs.declared.tech.Tech.{Tech}
use Rattle.via_arrays.specs.Choice.{direction}
use Rattle.grid_pieces.specs.declared.grid.DomainAt.{DomainAt}
use Rattle.grid_pieces.specs.Limits.{WidthKeeps, DrawnKeeps, OneAxis}
use Rattle.grid_plan.specs.declared.record.Plan.{Plan}
use Rattle.grid_plan.specs.Keeping.{PlanKeeps, DomainKeeps}
use Rattle.grid_shapes.specs.inside.Sites.{ShapeKeeps}
use Rattle.block_rects.specs.declared.part.PinPart.{PinPart}
use Rattle.block_rects.specs.Limits.{size_across, PartKeeps}
use Rattle.placed_blocks.specs.declared.block.PlacedBlock.{PlacedBlock}
use Rattle.placed_blocks.specs.Limits.{BlockKeeps}
use Rattle.pin_shapes.specs.Pins.{net_of, pin_shape, domain_of, pins_in, block_pins, pin_shapes}
use Rattle.pin_shapes.proofs.Metal.{metal}

pub flat_more : {X A : Type 0} (f : X → List A) (xs : List X) (i : ℕ) (d : X) (old before after : List A) → i < length xs
    → before ≡ old ++ flat_map f (take i xs) → after ≡ before ++ f (get_or xs i d) → after ≡ old ++ flat_map f (take (i + 1) xs)
flat_more f xs i d old before after within are joined =
    let one : flat_map f (take (i + 1) xs) ≡ flat_map f (take i xs) ++ f (get_or xs i d) =
    ap (flat_map f) (take_more xs i d within) ∙ flat_map-append f (take i xs) (get_or xs i d ∷ [])
    ∙ ap (λ ys. flat_map f (take i xs) ++ ys) (append-nil (f (get_or xs i d))) in
    joined ∙ ap (λ ys. ys ++ f (get_or xs i d)) are ∙ append_assoc old (flat_map f (take i xs)) (f (get_or xs i d)) ∙ ap (λ ys. old ++ ys) (sym one)

width_keeps : (w : ℤ) → IsWidth w → w <ℤ pos (2 ^ 32) → WidthKeeps w
width_keeps w wide thin =
    let low = wide.0 in
    let even = wide.1 in
    (omega (arith, ints), thin)

net_keeps : (plan : Plan) (domain : DomainAt) (power : Bool) → DomainKeeps plan domain → net_of domain power < length plan.nets
net_keeps plan domain true keeps = keeps.upper_net
net_keeps plan domain false keeps = keeps.lower_net

drawn_keeps : (tech : Tech) (domain : DomainAt) (part : PinPart) → PartKeeps tech part → DrawnKeeps (pin_shape tech domain part)
drawn_keeps tech domain part keeps =
    (width_keeps (size_across (direction tech part.layer) part.rect) keeps.width keeps.thin, subst HasCoordinates (sym (metal tech domain part keeps)) keeps.coordinates)

all_drawn_keep : (tech : Tech) (owner : Option DomainAt) (parts : List PinPart) → All (PartKeeps tech) parts → All DrawnKeeps (pins_in tech owner parts)
all_drawn_keep tech None parts keep = All-nil DrawnKeeps
all_drawn_keep tech (Some domain) parts keep =
    All-map DrawnKeeps (pin_shape tech domain) parts (λ k d within. drawn_keeps tech domain (get_or parts k d) (keep k d within))

-- The pins of a block are shapes of a grid.
pub block_keeps : (tech : Tech) (domains : List DomainAt) (block : PlacedBlock) (shapes : List Drawn) → BlockKeeps tech block
    → shapes ≡ block_pins tech domains block → All DrawnKeeps shapes
block_keeps tech domains block shapes keeps are =
    All-same DrawnKeeps shapes (block_pins tech domains block) are (all_drawn_keep tech (domain_of domains block.domain) block.pins keeps.pins)

pin_keeps : (tech : Tech) (plan : Plan) (domain : DomainAt) (part : PinPart) → DomainKeeps plan domain → PartKeeps tech part
    → ShapeKeeps tech plan (pin_shape tech domain part)
pin_keeps tech plan domain part owner keeps = record {
  keeps = drawn_keeps tech domain part keeps;
  even = keeps.width;
  net = net_keeps plan domain part.power owner;
  layer = keeps.layer;
  axis = refl;
}

-- A domain that stands in the list.
got_keeps : (P : DomainAt → Type 0) (domains : List DomainAt) (k : ℕ) (domain : DomainAt) → All P domains → slice_get domains k ≡ Some domain → P domain
got_keeps P [] k domain all is = absurd (cc)
got_keeps P (first ∷ domains) zero domain all is =
    let same : first ≡ domain = cc in
    subst P same (All-head P first domains all)
got_keeps P (first ∷ domains) (suc k) domain all is = got_keeps P domains k domain (All-tail P first domains all) is

owner_keeps : (P : DomainAt → Type 0) (domains : List DomainAt) (place : Option ℕ) (domain : DomainAt) → All P domains → domain_of domains place ≡ Some domain → P domain
owner_keeps P domains None domain all is = absurd (cc)
owner_keeps P domains (Some k) domain all is = got_keeps P domains k domain all is

pins_keep : (tech : Tech) (plan : Plan) (owner : Option DomainAt) (parts : List PinPart) → ((domain : DomainAt) → owner ≡ Some domain → DomainKeeps plan domain)
    → All (PartKeeps tech) parts → All (ShapeKeeps tech plan) (pins_in tech owner parts)
pins_keep tech plan None parts owned keep = All-nil (ShapeKeeps tech plan)
pins_keep tech plan (Some domain) parts owned keep =
    All-map (ShapeKeeps tech plan) (pin_shape tech domain) parts (λ k d within. pin_keeps tech plan domain (get_or parts k d) (owned domain refl) (keep k d within))

all_pins_keep : (tech : Tech) (plan : Plan) (blocks : List PlacedBlock) → PlanKeeps tech plan → All (BlockKeeps tech) blocks
    → All (ShapeKeeps tech plan) (pin_shapes tech plan.domains blocks)
all_pins_keep tech plan [] keeps all = All-nil (ShapeKeeps tech plan)
all_pins_keep tech plan (block ∷ blocks) keeps all =
    All-append (ShapeKeeps tech plan) (block_pins tech plan.domains block) (pin_shapes tech plan.domains blocks)
    (pins_keep tech plan (domain_of plan.domains block.domain) block.pins
    (λ domain is. owner_keeps (DomainKeeps plan) plan.domains block.domain domain keeps.domains is) (All-head (BlockKeeps tech) block blocks all).pins)
    (all_pins_keep tech plan blocks keeps (All-tail (BlockKeeps tech) block blocks all))

pub shapes_keep : (tech : Tech) (plan : Plan) (blocks : List PlacedBlock) (shapes : List Drawn) → PlanKeeps tech plan → All (BlockKeeps tech) blocks
    → shapes ≡ pin_shapes tech plan.domains blocks → All (ShapeKeeps tech plan) shapes
shapes_keep tech plan blocks shapes keeps all are =
    All-same (ShapeKeeps tech plan) shapes (pin_shapes tech plan.domains blocks) are (all_pins_keep tech plan blocks keeps all)

pub one_axis : (tech : Tech) (plan : Plan) (shapes : List Drawn) → All (ShapeKeeps tech plan) shapes → OneAxis shapes
one_axis tech plan shapes keep a b has_a has_b same =
    (All-contains (ShapeKeeps tech plan) shapes a keep has_a).axis ∙ ap (direction tech) same ∙ sym (All-contains (ShapeKeeps tech plan) shapes b keep has_b).axis
