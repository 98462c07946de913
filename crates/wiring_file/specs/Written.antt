-- A written wiring as a text, from its names and numbers (LEF/DEF 5.8 Language Reference, "DEF Syntax"). A line is the list
-- of its words.
use Rattle.std.specs.Prelude.{◌≡◌, ◌≢◌, ◌⊎◌, ℕ, ◌≤◌, Bool, true, false, ℤ, pos, ◌≤ℤ◌, ◌<ℤ◌, unsigned_abs, List, [], ◌∷◌, ◌++◌, length, map, All, codes, decimal, flat_map}
use Rattle.std.specs.List.{join_with_byte}
use Rattle.std.specs.Fmt.{signed_decimal}
use Rattle.text_lex.specs.Name.{IsName}
use Rattle.wiring_file.specs.declared.record.ViaText.{ViaText}
use Rattle.wiring_file.specs.declared.record.WireText.{WireText}
use Rattle.wiring_file.specs.declared.record.PlaceText.{PlaceText}
use Rattle.wiring_file.specs.declared.record.Wiring.{Wiring}
use Rattle.wiring_file.specs.Number.{limit}

-- What stands before the vias: the name of the design, its units in a micrometre, and the corners of its die.
pub record HeadText : Type 0 where
  pub name : List ℕ
  pub units : ℕ
  pub x1 : ℤ
  pub y1 : ℤ
  pub x2 : ℤ
  pub y2 : ℤ

-- A net: its name, its use, its pieces of metal, and the arrays of its stacks.
pub record NetText : Type 0 where
  pub name : List ℕ
  pub supply : List ℕ
  pub wires : List WireText
  pub places : List PlaceText

-- ## lines

-- A point: `( x y )`.
abbrev pub point : ℤ → ℤ → List (List ℕ)
point x y = codes "(" ∷ signed_decimal x ∷ signed_decimal y ∷ codes ")" ∷ []

abbrev pub head_lines : HeadText → List (List (List ℕ))
head_lines head =
    (codes "VERSION" ∷ codes "5.8" ∷ codes ";" ∷ [])
    ∷ (codes "DIVIDERCHAR" ∷ codes "\"/\"" ∷ codes ";" ∷ [])
    ∷ (codes "BUSBITCHARS" ∷ codes "\"[]\"" ∷ codes ";" ∷ [])
    ∷ (codes "DESIGN" ∷ head.name ∷ codes ";" ∷ [])
    ∷ (codes "UNITS" ∷ codes "DISTANCE" ∷ codes "MICRONS" ∷ decimal head.units ∷ codes ";" ∷ [])
    ∷ (codes "DIEAREA" ∷ (point head.x1 head.y1 ++ point head.x2 head.y2 ++ codes ";" ∷ [])) ∷ []

abbrev pub via_words : ViaText → List (List ℕ)
via_words via =
    codes "-" ∷ via.name
    ∷ codes "+" ∷ codes "VIARULE" ∷ via.rule
    ∷ codes "+" ∷ codes "CUTSIZE" ∷ signed_decimal via.cut_x ∷ signed_decimal via.cut_y
    ∷ codes "+" ∷ codes "LAYERS" ∷ via.lower ∷ via.cut ∷ via.upper
    ∷ codes "+" ∷ codes "CUTSPACING" ∷ signed_decimal via.gap_x ∷ signed_decimal via.gap_y
    ∷ codes "+" ∷ codes "ENCLOSURE" ∷ signed_decimal via.lower_x ∷ signed_decimal via.lower_y ∷ signed_decimal via.upper_x
    ∷ signed_decimal via.upper_y
    ∷ codes "+" ∷ codes "ROWCOL" ∷ signed_decimal via.rows ∷ signed_decimal via.columns
    ∷ codes ";" ∷ []

abbrev pub via_lines : List ViaText → List (List (List ℕ))
via_lines vias =
    (codes "VIAS" ∷ decimal (length vias) ∷ codes ";" ∷ []) ∷ (map via_words vias ++ (codes "END" ∷ codes "VIAS" ∷ []) ∷ [])

-- The words of a piece, and those of an array of a stack.
abbrev pub wire_words : WireText → List (List ℕ)
wire_words wire =
    wire.layer ∷ signed_decimal wire.width ∷ codes "+" ∷ codes "SHAPE" ∷ wire.shape
    ∷ (point wire.x1 wire.y1 ++ point wire.x2 wire.y2)

abbrev pub place_words : PlaceText → List (List ℕ)
place_words place =
    place.layer ∷ codes "0" ∷ codes "+" ∷ codes "SHAPE" ∷ codes "STRIPE" ∷ (point place.x place.y ++ place.via ∷ [])

-- Lines of wiring with these words: the first of its net begins with `+ ROUTED`, the others with `NEW`.
abbrev pub routed : Bool → List (List (List ℕ)) → List (List (List ℕ))
routed first [] = []
routed true (words ∷ more) = (codes "+" ∷ codes "ROUTED" ∷ words) ∷ routed false more
routed false (words ∷ more) = (codes "NEW" ∷ words) ∷ routed false more

-- The pieces of a net, and then the arrays of its stacks.
abbrev pub net_words : NetText → List (List (List ℕ))
net_words net = map wire_words net.wires ++ map place_words net.places

abbrev pub net_lines : NetText → List (List (List ℕ))
net_lines net =
    (codes "-" ∷ net.name ∷ codes "+" ∷ codes "USE" ∷ net.supply ∷ [])
    ∷ (routed true (net_words net) ++ (codes ";" ∷ []) ∷ [])

abbrev pub special_net_lines : List NetText → List (List (List ℕ))
special_net_lines nets =
    (codes "SPECIALNETS" ∷ decimal (length nets) ∷ codes ";" ∷ [])
    ∷ (flat_map net_lines nets ++ (codes "END" ∷ codes "SPECIALNETS" ∷ []) ∷ [])

abbrev pub lines : HeadText → List ViaText → List NetText → List (List (List ℕ))
lines head vias nets =
    head_lines head ++ via_lines vias ++ special_net_lines nets ++ (codes "END" ∷ codes "DESIGN" ∷ []) ∷ []

-- The bytes of a line: its words with single blanks (32) between them, and the line feed (10).
abbrev pub line_of : List (List ℕ) → List ℕ
line_of words = join_with_byte 32 words ++ 10 ∷ []

-- The text of a wiring.
abbrev pub wiring_text : HeadText → List ViaText → List NetText → List ℕ
wiring_text head vias nets = flat_map line_of (lines head vias nets)

-- ## what reads back

-- A number is within the limit; the same, and not below 0; the same, and not 0.
abbrev pub IsNear : ℤ → Type 0
IsNear z = unsigned_abs z ≤ limit

abbrev pub IsLength : ℤ → Type 0
IsLength z = (pos 0 ≤ℤ z) × IsNear z

abbrev pub IsSome : ℤ → Type 0
IsSome z = (pos 0 <ℤ z) × IsNear z

-- The name of the design is one, the units are from 1 to 20000, and the corners of the die have no coordinate in common.
pub record HeadReads (head : HeadText) : Type 0 where
  pub name : IsName head.name
  pub some_units : 1 ≤ head.units
  pub units : head.units ≤ 20000
  pub x1 : IsNear head.x1
  pub y1 : IsNear head.y1
  pub x2 : IsNear head.x2
  pub y2 : IsNear head.y2
  pub wide : head.x1 ≢ head.x2
  pub high : head.y1 ≢ head.y2

-- The cut of a via and its counts are more than 0, its spaces and enclosures are not below 0.
pub record ViaReads (via : ViaText) : Type 0 where
  pub name : IsName via.name
  pub rule : IsName via.rule
  pub cut_x : IsSome via.cut_x
  pub cut_y : IsSome via.cut_y
  pub lower : IsName via.lower
  pub cut : IsName via.cut
  pub upper : IsName via.upper
  pub gap_x : IsLength via.gap_x
  pub gap_y : IsLength via.gap_y
  pub lower_x : IsLength via.lower_x
  pub lower_y : IsLength via.lower_y
  pub upper_x : IsLength via.upper_x
  pub upper_y : IsLength via.upper_y
  pub rows : IsSome via.rows
  pub columns : IsSome via.columns

-- A piece of the net of this name has a width.
pub record WireReads (name : List ℕ) (wire : WireText) : Type 0 where
  pub net : wire.net ≡ name
  pub layer : IsName wire.layer
  pub width : IsSome wire.width
  pub shape : (wire.shape ≡ codes "RING") ⊎ ((wire.shape ≡ codes "STRIPE") ⊎ (wire.shape ≡ codes "FOLLOWPIN"))
  pub x1 : IsNear wire.x1
  pub y1 : IsNear wire.y1
  pub x2 : IsNear wire.x2
  pub y2 : IsNear wire.y2

-- The name of an array's via is not `(`, which would begin a point.
pub record PlaceReads (name : List ℕ) (place : PlaceText) : Type 0 where
  pub net : place.net ≡ name
  pub layer : IsName place.layer
  pub x : IsNear place.x
  pub y : IsNear place.y
  pub via : IsName place.via
  pub not_open : place.via ≢ codes "("

pub record NetReads (net : NetText) : Type 0 where
  pub name : IsName net.name
  pub supply : (net.supply ≡ codes "POWER") ⊎ (net.supply ≡ codes "GROUND")
  pub wires : All (WireReads net.name) net.wires
  pub places : All (PlaceReads net.name) net.places

pub record CanBeWritten (head : HeadText) (vias : List ViaText) (nets : List NetText) : Type 0 where
  pub head_reads : HeadReads head
  pub vias_read : All ViaReads vias
  pub nets_read : All NetReads nets
  pub few_vias : length vias ≤ limit
  pub few_nets : length nets ≤ limit

-- The wiring of these vias and nets: the vias, the pieces net by net, and the arrays net by net.
abbrev pub wiring_with : List ViaText → List NetText → Wiring
wiring_with vias nets =
    record { vias = vias; wires = flat_map (λ (net : NetText). net.wires) nets; places = flat_map (λ (net : NetText). net.places) nets }
