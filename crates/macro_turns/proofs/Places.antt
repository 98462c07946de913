-- Where spans and rectangles of a macro lie.
use Rattle.std.proofs.Common.{◌≡◌, ◌↔◌, ℤ, pos, neg_ℤ, ◌+ℤ◌, ◌≤ℤ◌, ap, arith}
use Rattle.std.specs.Int.{int_max, int_min}
use Rattle.std.proofs.lemmas.Int.{ints, clamps}
use Rattle.geom_rect.specs.declared.direction.Orient.{Orient}
use Rattle.geom_rect.specs.declared.direction.Orient.TheVariants.{N, S, W, E, FN, FS, FW, FE}
use Rattle.geom_rect.specs.declared.rect.Rect.{Rect}
use Rattle.geom_rect.specs.Rect.{IsBetween, IsInOrder, IsCoordinate, HasCoordinates}
use Rattle.macro_turns.specs.declared.turned.Placed.{Placed}
use Rattle.macro_turns.specs.declared.turned.Point.{Point}
use Rattle.macro_turns.specs.Limits.{IsNear, IsLength, PlacedKeeps, RectKeeps, PointKeeps}
use Rattle.macro_turns.specs.Turns.{from_edge, turned, moved, point_in_place, rect_in_place, box_in_place, spanned, HasPlacesOf, Holds}

-- The places of a span along an axis that is kept, and along one that is turned round.
kept_span : (by a b z : ℤ) → a ≤ℤ b
    → IsBetween a b z ↔ IsBetween (int_min (by +ℤ a) (by +ℤ b)) (int_max (by +ℤ a) (by +ℤ b)) (by +ℤ z)
kept_span by a b z le = (λ h. (omega (arith, ints, clamps), omega (arith, ints, clamps)), λ h. (omega (arith, ints, clamps), omega (arith, ints, clamps)))

round_span : (by size a b z : ℤ) → a ≤ℤ b
    → IsBetween a b z
    ↔ IsBetween (int_min (by +ℤ from_edge size a) (by +ℤ from_edge size b)) (int_max (by +ℤ from_edge size a) (by +ℤ from_edge size b)) (by +ℤ from_edge size z)
round_span by size a b z le = (λ h. (omega (arith, ints, clamps), omega (arith, ints, clamps)), λ h. (omega (arith, ints, clamps), omega (arith, ints, clamps)))

-- Two spans make a rectangle, in one order or in the other.
both : {A B C D : Type 0} → A ↔ B → C ↔ D → (A × C) ↔ (B × D)
both ab cd = (λ h. (ab.0 h.0, cd.0 h.1), λ h. (ab.1 h.0, cd.1 h.1))

crossed : {A B C D : Type 0} → A ↔ B → C ↔ D → (A × C) ↔ (D × B)
crossed ab cd = (λ h. (cd.0 h.1, ab.0 h.0), λ h. (ab.1 h.1, cd.1 h.0))

abbrev placed_rect : Orient → ℤ → ℤ → Point → Rect → Rect
placed_rect o w h by rect = spanned (moved by (turned o w h (record { x = rect.x1; y = rect.y1 }))) (moved by (turned o w h (record { x = rect.x2; y = rect.y2 })))

places_of : (o : Orient) (w h : ℤ) (by : Point) (rect : Rect) → IsInOrder rect → (p : Point)
    → Holds rect p ↔ Holds (placed_rect o w h by rect) (moved by (turned o w h p))
places_of N w h by r le p = both (kept_span by.x r.x1 r.x2 p.x le.0) (kept_span by.y r.y1 r.y2 p.y le.1)
places_of S w h by r le p = both (round_span by.x w r.x1 r.x2 p.x le.0) (round_span by.y h r.y1 r.y2 p.y le.1)
places_of W w h by r le p = crossed (kept_span by.y r.x1 r.x2 p.x le.0) (round_span by.x h r.y1 r.y2 p.y le.1)
places_of E w h by r le p = crossed (round_span by.y w r.x1 r.x2 p.x le.0) (kept_span by.x r.y1 r.y2 p.y le.1)
places_of FN w h by r le p = both (round_span by.x w r.x1 r.x2 p.x le.0) (kept_span by.y r.y1 r.y2 p.y le.1)
places_of FS w h by r le p = both (kept_span by.x r.x1 r.x2 p.x le.0) (round_span by.y h r.y1 r.y2 p.y le.1)
places_of FW w h by r le p = crossed (kept_span by.y r.x1 r.x2 p.x le.0) (kept_span by.x r.y1 r.y2 p.y le.1)
places_of FE w h by r le p = crossed (round_span by.y w r.x1 r.x2 p.x le.0) (round_span by.x h r.y1 r.y2 p.y le.1)

pub places : (m : Placed) (rect : Rect) → IsInOrder rect → HasPlacesOf m rect (rect_in_place m rect)
places m rect le p = places_of m.orient m.width m.height m.corner rect le p

-- A turned point is at most twice the greatest length from 0.
abbrev pub IsTwice : ℤ → Type 0
IsTwice z = (neg_ℤ (pos 2199023255552) ≤ℤ z) × (z ≤ℤ pos 2199023255552)

near_of : (o : Orient) (w h : ℤ) (p : Point) → IsLength w → IsLength h → PointKeeps p
    → IsTwice (turned o w h p).x × IsTwice (turned o w h p).y
near_of N w h p wide high keeps = ((omega (arith, ints), omega (arith, ints)), (omega (arith, ints), omega (arith, ints)))
near_of S w h p wide high keeps = ((omega (arith, ints), omega (arith, ints)), (omega (arith, ints), omega (arith, ints)))
near_of W w h p wide high keeps = ((omega (arith, ints), omega (arith, ints)), (omega (arith, ints), omega (arith, ints)))
near_of E w h p wide high keeps = ((omega (arith, ints), omega (arith, ints)), (omega (arith, ints), omega (arith, ints)))
near_of FN w h p wide high keeps = ((omega (arith, ints), omega (arith, ints)), (omega (arith, ints), omega (arith, ints)))
near_of FS w h p wide high keeps = ((omega (arith, ints), omega (arith, ints)), (omega (arith, ints), omega (arith, ints)))
near_of FW w h p wide high keeps = ((omega (arith, ints), omega (arith, ints)), (omega (arith, ints), omega (arith, ints)))
near_of FE w h p wide high keeps = ((omega (arith, ints), omega (arith, ints)), (omega (arith, ints), omega (arith, ints)))

pub near : (m : Placed) (p : Point) → PlacedKeeps m → PointKeeps p
    → IsTwice (turned m.orient m.width m.height p).x × IsTwice (turned m.orient m.width m.height p).y
near m p keeps is = near_of m.orient m.width m.height p keeps.width keeps.height is

-- A placed rectangle lies at coordinates.
in_reach : (a b c : ℤ) → IsNear c → IsTwice a → IsTwice b
    → IsCoordinate (int_min (c +ℤ a) (c +ℤ b)) × IsCoordinate (int_max (c +ℤ a) (c +ℤ b))
in_reach a b c h k l = ((omega (arith, ints, clamps), omega (arith, ints, clamps)), (omega (arith, ints, clamps), omega (arith, ints, clamps)))

pub at_coordinates : (m : Placed) (rect : Rect) → PlacedKeeps m → RectKeeps rect → HasCoordinates (rect_in_place m rect)
at_coordinates m rect keeps is =
    let a = turned m.orient m.width m.height (record { x = rect.x1; y = rect.y1 }) in
    let b = turned m.orient m.width m.height (record { x = rect.x2; y = rect.y2 }) in
    let first = near m (record { x = rect.x1; y = rect.y1 }) keeps (record { x = is.x1; y = is.y1 }) in
    let last = near m (record { x = rect.x2; y = rect.y2 }) keeps (record { x = is.x2; y = is.y2 }) in
    let x = in_reach a.x b.x m.corner.x keeps.corner.x first.0 last.0 in
    let y = in_reach a.y b.y m.corner.y keeps.corner.y first.1 last.1 in
    (x.0, y.0, x.1, y.1)

-- The box begins at its corner.
begins : (o : Orient) (w h : ℤ) (by : Point) → pos 0 ≤ℤ w → pos 0 ≤ℤ h
    → ((placed_rect o w h by (record { x1 = pos 0; y1 = pos 0; x2 = w; y2 = h })).x1 ≡ by.x)
    × ((placed_rect o w h by (record { x1 = pos 0; y1 = pos 0; x2 = w; y2 = h })).y1 ≡ by.y)
begins N w h by wide high = (omega (arith, ints, clamps), omega (arith, ints, clamps))
begins S w h by wide high = (omega (arith, ints, clamps), omega (arith, ints, clamps))
begins W w h by wide high = (omega (arith, ints, clamps), omega (arith, ints, clamps))
begins E w h by wide high = (omega (arith, ints, clamps), omega (arith, ints, clamps))
begins FN w h by wide high = (omega (arith, ints, clamps), omega (arith, ints, clamps))
begins FS w h by wide high = (omega (arith, ints, clamps), omega (arith, ints, clamps))
begins FW w h by wide high = (omega (arith, ints, clamps), omega (arith, ints, clamps))
begins FE w h by wide high = (omega (arith, ints, clamps), omega (arith, ints, clamps))

pub box_begins : (m : Placed) → PlacedKeeps m → ((box_in_place m).x1 ≡ m.corner.x) × ((box_in_place m).y1 ≡ m.corner.y)
box_begins m keeps = begins m.orient m.width m.height m.corner keeps.width.0 keeps.height.0

-- Two points of a macro have two places.
same : (a b : Point) → a.x ≡ b.x → a.y ≡ b.y → a ≡ b
same a b x y = λ i. record { x = x i; y = y i }

apart_of : (o : Orient) (w h : ℤ) (by a b : Point) → moved by (turned o w h a) ≡ moved by (turned o w h b) → a ≡ b
apart_of N w h by a b e = same a b (omega (arith, ints, ap (λ (p : Point). p.x) e)) (omega (arith, ints, ap (λ (p : Point). p.y) e))
apart_of S w h by a b e = same a b (omega (arith, ints, ap (λ (p : Point). p.x) e)) (omega (arith, ints, ap (λ (p : Point). p.y) e))
apart_of W w h by a b e = same a b (omega (arith, ints, ap (λ (p : Point). p.y) e)) (omega (arith, ints, ap (λ (p : Point). p.x) e))
apart_of E w h by a b e = same a b (omega (arith, ints, ap (λ (p : Point). p.y) e)) (omega (arith, ints, ap (λ (p : Point). p.x) e))
apart_of FN w h by a b e = same a b (omega (arith, ints, ap (λ (p : Point). p.x) e)) (omega (arith, ints, ap (λ (p : Point). p.y) e))
apart_of FS w h by a b e = same a b (omega (arith, ints, ap (λ (p : Point). p.x) e)) (omega (arith, ints, ap (λ (p : Point). p.y) e))
apart_of FW w h by a b e = same a b (omega (arith, ints, ap (λ (p : Point). p.y) e)) (omega (arith, ints, ap (λ (p : Point). p.x) e))
apart_of FE w h by a b e = same a b (omega (arith, ints, ap (λ (p : Point). p.y) e)) (omega (arith, ints, ap (λ (p : Point). p.x) e))

pub apart : (m : Placed) (a b : Point) → point_in_place m a ≡ point_in_place m b → a ≡ b
apart m a b e = apart_of m.orient m.width m.height m.corner a b e
