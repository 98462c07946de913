-- The shapes of segments keep what is asked of drawn shapes.
use Rattle.std.proofs.Common.{◌≡◌, ℕ, zero, suc, ◌+◌, ◌<◌, ◌≤◌, ◌^◌, ℤ, pos, negsuc, neg_ℤ, ◌+ℤ◌, ◌-ℤ◌, ◌≤ℤ◌, ◌<ℤ◌, Bool, true, false, cond, List, [], ◌∷◌, ◌++◌, All, Contains, length, map, get_or, slice_get, Option, Some, refl, sym, ◌∙◌, ap, subst, unsigned_abs, arith}
use Rattle.std.specs.List.{flat_map}
use Rattle.std.specs.Ordering.{int_eq}
use Rattle.std.proofs.lemmas.Int.{ints}
use Rattle.std.proofs.lemmas.List.Elements.{All-nil, All-append, All-map}
use Rattle.std.proofs.lemmas.Option.{slice_get-get_or}
use Rattle.def_wiring.specs.declared.record.Segment.{Segment}
use Rattle.def_wiring.specs.declared.record.WiredNet.{WiredNet}
use Rattle.def_wiring.specs.declared.record.Wires.{Wires}
use Rattle.def_wiring.specs.Limits.{IsNear, IsLength}
use Rattle.geom_rect.specs.declared.direction.Axis.{Axis}
use Rattle.geom_rect.specs.declared.direction.Axis.TheVariants.{X, Y}
use Rattle.geom_rect.specs.declared.drawn.Drawn.{Drawn}
use Rattle.geom_rect.specs.Drawn.{half, centred, IsWidth}
use Rattle.geom_rect.specs.Rect.{IsCoordinate, HasCoordinates}
use Rattle.grid_pieces.specs.Limits.{WidthKeeps, DrawnKeeps}
use Rattle.lef_tech.specs.declared.tech.Tech.{Tech}
use Rattle.wire_limits.specs.First.{EachHas}
use Rattle.wire_limits.specs.Limits.{WidthsFit}
use Rattle.wire_limits.specs.Segments.{IsEven, AreEven}
use Rattle.wire_names.specs.declared.record.NamedWires.{NamedWires}
use Rattle.wire_names.specs.Keeping.{IsWithin, ShapeStands, NamedKeep}
use Rattle.wire_names.specs.Names.{Names, names_of, place_in}
use Rattle.wire_names.specs.Nets.{net_number}
use Rattle.wire_names.specs.Wiring.{AreNamed, shape_of, shapes_of, along_x, along_y}

width_of : (b : Bool) (one other : Drawn) (width : ℤ) → one.width ≡ width → other.width ≡ width → (cond b one other).width ≡ width
width_of true one other width e f = e
width_of false one other width e f = f

shape_even : (names : Names) (net : ℕ) (s : Segment) → IsEven s → IsWidth (shape_of names net s).width
shape_even names net s even =
    subst IsWidth (sym (width_of (int_eq s.y1 s.y2) (along_x net (place_in names.layers s.layer) s) (along_y net (place_in names.layers s.layer) s) s.width refl refl)) even

all_of : {X : Type 0} (P : X → Type 0) (xs : List X) → EachHas P xs → All P xs
all_of P xs each k d within = each k (get_or xs k d) (slice_get-get_or xs k d within)

net_even : (names : Names) (first : Bool) (net : WiredNet) → AreEven net → All (λ (d : Drawn). IsWidth d.width) (shapes_of names first net)
net_even names first net even =
    All-map (λ (d : Drawn). IsWidth d.width) (shape_of names (net_number first net.power)) net.segments
    (λ k d within. shape_even names (net_number first net.power) (get_or net.segments k d) (all_of IsEven net.segments even k d within))

nets_even : (names : Names) (first : Bool) (nets : List WiredNet) → EachHas AreEven nets
    → All (λ (d : Drawn). IsWidth d.width) (flat_map (shapes_of names first) nets)
nets_even names first [] each = All-nil (λ (d : Drawn). IsWidth d.width)
nets_even names first (net ∷ nets) each =
    All-append (λ (d : Drawn). IsWidth d.width) (shapes_of names first net) (flat_map (shapes_of names first) nets)
    (net_even names first net (each 0 net refl)) (nets_even names first nets (λ k other at. each (suc k) other at))

pub all_even : (tech : Tech) (wires : Wires) (named : NamedWires) → AreNamed tech wires named → WidthsFit wires
    → All (λ (d : Drawn). IsWidth d.width) named.shapes
all_even tech wires named are widths =
    subst (All (λ (d : Drawn). IsWidth d.width)) (sym are.shapes) (nets_even (names_of tech wires) named.power_first wires.nets widths)

between : (z : ℤ) → unsigned_abs z ≤ 2 ^ 32 → IsCoordinate z
between (pos n) near = (omega (arith, ints), omega (arith, ints))
between (negsuc n) near = (omega (arith, ints), omega (arith, ints))

fits : (axis : Axis) (centre width from to : ℤ) → IsCoordinate (centre -ℤ half width) → IsCoordinate (centre +ℤ half width) → IsCoordinate from
    → IsCoordinate to → HasCoordinates (centred axis centre width from to)
fits X centre width from to low high first last = (first, low, last, high)
fits Y centre width from to low high first last = (low, first, high, last)

edges : (centre width h : ℤ) → IsNear centre → IsLength width → width ≡ h +ℤ h → pos 0 <ℤ width → IsCoordinate (centre -ℤ h) × IsCoordinate (centre +ℤ h)
edges centre width h near long even some = (between_low, between_high)
  where
    between_low : IsCoordinate (centre -ℤ h)
    between_low = let n = near in let l = long in (omega (arith, ints), omega (arith, ints))

    between_high : IsCoordinate (centre +ℤ h)
    between_high = let n = near in let l = long in (omega (arith, ints), omega (arith, ints))

wide : (width h : ℤ) → IsLength width → width ≡ h +ℤ h → pos 0 <ℤ width → WidthKeeps width
wide width h long even some = let l = long in (omega (arith, ints), omega (arith, ints))

shape_keeps : (layers : ℕ) (d : Drawn) → ShapeStands layers d → IsWidth d.width → DrawnKeeps d
shape_keeps layers d stands even =
    let sides = edges d.centre d.width (half d.width) stands.centre stands.width even.1 even.0 in (
      wide d.width (half d.width) stands.width even.1 even.0,
      fits d.axis d.centre d.width d.from d.to sides.0 sides.1 (between d.from (omega (arith, stands.from))) (between d.to (omega (arith, stands.to))),
    )

pub shapes_keep : (tech : Tech) (wires : Wires) (named : NamedWires) → AreNamed tech wires named → WidthsFit wires → NamedKeep tech named
    → All DrawnKeeps named.shapes
shapes_keep tech wires named are widths keep k d within =
    shape_keeps (length tech.routing) (get_or named.shapes k d) (keep.shapes k d within) (all_even tech wires named are widths k d within)
