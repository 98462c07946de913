-- Wiring passes one limit first, or none.
use Rattle.std.proofs.Common.{◌≡◌, ℕ, ◌<◌, ◌≤◌, ℤ, List, length, slice_get, subst, refl, sym, ap, ◌∙◌, arith}
use Rattle.geom_rect.specs.declared.drawn.Drawn.{Drawn}
use Rattle.lef_tech.specs.declared.tech.Tech.{Tech}
use Rattle.def_wiring.specs.declared.record.Segment.{Segment}
use Rattle.def_wiring.specs.declared.record.WiredNet.{WiredNet}
use Rattle.def_wiring.specs.declared.record.Wires.{Wires}
use Rattle.wire_names.specs.declared.record.NamedVia.{NamedVia}
use Rattle.wire_names.specs.declared.record.NamedWires.{NamedWires}
use Rattle.wire_limits.specs.declared.error.WireCount.TheVariants.{Segments, Vias}
use Rattle.wire_limits.specs.declared.within.TheConstants.{MOST_SEGMENTS, MOST_VIAS}
use Rattle.wire_limits.specs.First.{IsFirstWithout}
use Rattle.wire_limits.specs.Limits.{LayersFit, SizesFit, WidthsFit, SheetsStand, CutsStand, AreWithin, HasOddWidth}
use Rattle.wire_limits.specs.Segments.{IsEven, AreEven, HasSheet, IsFirstOdd}
use Rattle.wire_limits.specs.Vias.{HasItsLayers, HasSize, HasCutResistance}
use Rattle.wired_grid.specs.declared.error.WiredError.{WiredError}
use Rattle.wired_grid.specs.declared.error.WiredError.TheVariants.{ViaLayers, ViaSize, OddWidth, NoSheet, NoResistance, TooMany}
use Rattle.one_wired_grid.proofs.Firsts.{BadFirst, BadUsed, first_same, first_one, used_one}
use Rattle.one_wired_grid.proofs.Ways.{One, Then, and_then, told}

-- ## widths

abbrev pub BadWidth : Wires → WiredError → Type 0
BadWidth wires e = (net : ℕ) × (width : ℤ) × HasOddWidth wires net width × (e ≡ OddWidth net width)

odd_same : (wires : Wires) (k l : ℕ) (s t : Segment) → IsFirstOdd wires k s → IsFirstOdd wires l t → (k ≡ l) × (s ≡ t)
odd_same wires k l s t a b =
    let nets = first_same AreEven wires.nets k l a.net b.net a.first_net b.first_net in
    let there : IsFirstWithout IsEven b.net.segments a.number s = subst (λ (n : WiredNet). IsFirstWithout IsEven n.segments a.number s) nets.1 a.first_segment in
    (nets.0, (first_same IsEven b.net.segments a.number b.number s t there b.first_segment).1)

widths_one : (wires : Wires) → One (WidthsFit wires) (BadWidth wires)
widths_one wires = record { apart = apart; one = one }
  where
    apart : (e : WiredError) → WidthsFit wires → BadWidth wires e → ⊥
    apart e fit (net, width, (segment, first, is), so) = first.first_net.lacks (fit net first.net first.first_net.stands)

    one : (e f : WiredError) → BadWidth wires e → BadWidth wires f → e ≡ f
    one e f (k, v, (s, a, is), so) (l, w, (t, b, also), to) =
        let same = odd_same wires k l s t a b in
        let width : v ≡ w = sym is ∙ ap (λ (z : Segment). z.width) same.1 ∙ also in
        so ∙ ap (λ n. OddWidth n v) same.0 ∙ ap (OddWidth l) width ∙ sym to

-- ## all limits

abbrev BadLayers : Tech → NamedWires → WiredError → Type 0
BadLayers tech named = BadUsed (HasItsLayers tech) named.vias named.spots (λ k via. ViaLayers k)

abbrev BadSizes : NamedWires → WiredError → Type 0
BadSizes named = BadUsed HasSize named.vias named.spots (λ k via. ViaSize k)

abbrev BadSheets : Tech → NamedWires → WiredError → Type 0
BadSheets tech named = BadFirst (HasSheet tech) named.shapes (λ k (shape : Drawn). NoSheet shape.layer)

abbrev BadCuts : Tech → NamedWires → WiredError → Type 0
BadCuts tech named = BadUsed (HasCutResistance tech) named.vias named.spots (λ k via. NoResistance via.lower)

abbrev FewSegments : NamedWires → Type 0
FewSegments named = length named.shapes ≤ MOST_SEGMENTS

abbrev FewVias : NamedWires → Type 0
FewVias named = length named.spots ≤ MOST_VIAS

abbrev ManySegments : NamedWires → WiredError → Type 0
ManySegments named e = (MOST_SEGMENTS < length named.shapes) × (e ≡ TooMany Segments)

abbrev ManyVias : NamedWires → WiredError → Type 0
ManyVias named e = (MOST_VIAS < length named.spots) × (e ≡ TooMany Vias)

-- What is left after each of them.
abbrev AfterCuts : NamedWires → Type 0
AfterCuts named = FewSegments named × FewVias named

abbrev BadAfterCuts : NamedWires → WiredError → Type 0
BadAfterCuts named = Then (ManySegments named) (FewSegments named) (ManyVias named)

abbrev AfterSheets : Tech → NamedWires → Type 0
AfterSheets tech named = CutsStand tech named × AfterCuts named

abbrev BadAfterSheets : Tech → NamedWires → WiredError → Type 0
BadAfterSheets tech named = Then (BadCuts tech named) (CutsStand tech named) (BadAfterCuts named)

abbrev AfterWidths : Tech → NamedWires → Type 0
AfterWidths tech named = SheetsStand tech named × AfterSheets tech named

abbrev BadAfterWidths : Tech → NamedWires → WiredError → Type 0
BadAfterWidths tech named = Then (BadSheets tech named) (SheetsStand tech named) (BadAfterSheets tech named)

abbrev AfterSizes : Tech → Wires → NamedWires → Type 0
AfterSizes tech wires named = WidthsFit wires × AfterWidths tech named

abbrev BadAfterSizes : Tech → Wires → NamedWires → WiredError → Type 0
BadAfterSizes tech wires named = Then (BadWidth wires) (WidthsFit wires) (BadAfterWidths tech named)

abbrev AfterLayers : Tech → Wires → NamedWires → Type 0
AfterLayers tech wires named = SizesFit named × AfterSizes tech wires named

abbrev BadAfterLayers : Tech → Wires → NamedWires → WiredError → Type 0
BadAfterLayers tech wires named = Then (BadSizes named) (SizesFit named) (BadAfterSizes tech wires named)

abbrev pub Within : Tech → Wires → NamedWires → Type 0
Within tech wires named = LayersFit tech named × AfterLayers tech wires named

abbrev pub BadLimit : Tech → Wires → NamedWires → WiredError → Type 0
BadLimit tech wires named = Then (BadLayers tech named) (LayersFit tech named) (BadAfterLayers tech wires named)

pub limits_one : (tech : Tech) (wires : Wires) (named : NamedWires) → One (Within tech wires named) (BadLimit tech wires named)
limits_one tech wires named =
    and_then (LayersFit tech named) (AfterLayers tech wires named) (BadLayers tech named) (BadAfterLayers tech wires named) (used_one (HasItsLayers tech) named.vias named.spots (λ k via. ViaLayers k))
    (and_then (SizesFit named) (AfterSizes tech wires named) (BadSizes named) (BadAfterSizes tech wires named) (used_one HasSize named.vias named.spots (λ k via. ViaSize k))
    (and_then (WidthsFit wires) (AfterWidths tech named) (BadWidth wires) (BadAfterWidths tech named) (widths_one wires)
    (and_then (SheetsStand tech named) (AfterSheets tech named) (BadSheets tech named) (BadAfterSheets tech named)
    (first_one (HasSheet tech) named.shapes (λ k (shape : Drawn). NoSheet shape.layer))
    (and_then (CutsStand tech named) (AfterCuts named) (BadCuts tech named) (BadAfterCuts named)
    (used_one (HasCutResistance tech) named.vias named.spots (λ k via. NoResistance via.lower))
    (and_then (FewSegments named) (FewVias named) (ManySegments named) (ManyVias named) (told (FewSegments named) (MOST_SEGMENTS < length named.shapes) (TooMany Segments) (λ few many. omega arith))
    (told (FewVias named) (MOST_VIAS < length named.spots) (TooMany Vias) (λ few many. omega arith)))))))

pub within_is : (tech : Tech) (wires : Wires) (named : NamedWires) → AreWithin tech wires named → Within tech wires named
within_is tech wires named is = (is.layers, (is.sizes, (is.widths, (is.sheets, (is.cuts, (is.segments, is.vias))))))
