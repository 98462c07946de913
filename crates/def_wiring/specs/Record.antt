-- What the units of a design say of its wiring: generated vias, and the wires of its power and ground nets (LEF/DEF 5.8
-- Language Reference, VIAS and SPECIALNETS).
use Rattle.std.specs.Prelude.{◌≡◌, ◌≢◌, ◌⊎◌, ℕ, ℤ, pos, Bool, List, [], ◌∷◌, ◌++◌, map, Option, Some, None}
use Rattle.entry_list.specs.InTurn.{InTurn}
use Rattle.geom_rect.specs.declared.drawn.Shape.{Shape}
use Rattle.geom_rect.specs.declared.drawn.Shape.TheVariants.{Ring, Stripe, FollowPin}
use Rattle.def_wiring.specs.declared.act.Act.{Act}
use Rattle.def_wiring.specs.declared.act.Act.TheVariants as acts
use Rattle.def_wiring.specs.declared.number.Quantity.TheVariants.{Any, NotNegative, Positive}
use Rattle.def_wiring.specs.declared.path.Path.{Path}
use Rattle.def_wiring.specs.declared.path.Point.{Point}
use Rattle.def_wiring.specs.declared.record.Segment.{Segment}
use Rattle.def_wiring.specs.declared.record.ViaDef.{ViaDef}
use Rattle.def_wiring.specs.declared.record.ViaPlace.{ViaPlace}
use Rattle.def_wiring.specs.declared.record.WiredNet.{WiredNet}
use Rattle.def_wiring.specs.declared.record.Wires.{Wires}
use Rattle.def_wiring.specs.declared.section.Section.{Section}
use Rattle.def_wiring.specs.declared.section.Section.TheVariants.{Vias, Via, Nets, Net}
use Rattle.def_wiring.specs.declared.sort.Sort.{Sort}
use Rattle.def_wiring.specs.declared.sort.Sort.TheVariants as sorts
use Rattle.def_wiring.specs.declared.standing.Standing.{Standing}
use Rattle.def_wiring.specs.declared.via.ViaNumbers.{ViaNumbers}
use Rattle.def_wiring.specs.Number.{IsNumber}
use Rattle.def_wiring.specs.Path.{last_x, last_y, point_of}
use Rattle.def_wiring.specs.Sort.{sort_of}
use Rattle.def_wiring.specs.Standing.{act_in, standing_after, section_in, at_start}
use Rattle.def_wiring.specs.Words.{text_at, text_or_one}
use Rattle.reading.specs.Word.{Token}

-- ## what is said, in words of the text

-- A generated via: its name and the words after it.
pub record SaidVia : Type 0 where
  pub name : List ℕ
  pub words : List Token

-- A segment between two points of a path, and the sort of the path's shape.
pub record SaidSegment : Type 0 where
  pub layer : List ℕ
  pub width : List ℕ
  pub shape : Sort
  pub from : Point
  pub to : Point

-- A via at the point of a path, and the path's layer.
pub record SaidPlace : Type 0 where
  pub via : List ℕ
  pub layer : List ℕ
  pub x : List ℕ
  pub y : List ℕ

-- A net of power or ground.
pub record SaidNet : Type 0 where
  pub name : List ℕ
  pub power : Bool
  pub segments : List SaidSegment
  pub places : List SaidPlace

-- A word of the entry that is open, what it does there, and the path before it.
pub record Asked : Type 0 where
  pub act : Act
  pub path : Path
  pub word : Token

-- What units say: the names of all entries so far, the vias and the nets that count, and of the entry that is open its
-- wires, and its words as long as it is not known whether it counts.
pub record Said : Type 0 where
  pub via_names : List (List ℕ)
  pub net_names : List (List ℕ)
  pub vias : List SaidVia
  pub nets : List SaidNet
  pub segments : List SaidSegment
  pub places : List SaidPlace
  pub asked : List Asked

-- The segment to the point that ends, from the one before it.
abbrev pub segment_from : Option Point → Path → List SaidSegment
segment_from None path = []
segment_from (Some from) path =
    record { layer = path.layer; width = path.width; shape = path.shape; from = from; to = point_of path } ∷ []

-- The via of this name at the path's point.
abbrev pub place_of : Path → List ℕ → SaidPlace
place_of path via = record { via = via; layer = path.layer; x = last_x path.last; y = last_y path.last }

-- The net that ends, which counts where its use is POWER or GROUND.
abbrev pub net_of : Option Bool → List ℕ → Said → List SaidNet
net_of None name said = []
net_of (Some power) name said =
    record { name = name; power = power; segments = said.segments; places = said.places } ∷ []

-- Nothing of an open entry is left.
abbrev pub cleared : Said → Said
cleared said = record said { segments = []; places = []; asked = [] }

-- What is said after a word of an entry that does this.
abbrev pub said_by : Act → Standing → Token → Said → Said
said_by acts.EndsVia standing word said = record (cleared said) {
  vias = said.vias ++ record { name = standing.name; words = standing.entry } ∷ [];
}
said_by acts.Point standing word said =
    record said { segments = said.segments ++ segment_from standing.path.last standing.path }
said_by acts.Place standing word said =
    record said { places = said.places ++ place_of standing.path word.text ∷ [] }
said_by acts.EndsNet standing word said = record (cleared said) {
  nets = said.nets ++ net_of standing.power standing.name said;
}
said_by act standing word said = said

-- The words of the entry with this one more, as long as its use is not known.
abbrev pub noted : Option Bool → Asked → Said → Said
noted None asked said = record said { asked = said.asked ++ asked ∷ [] }
noted (Some power) asked said = said

-- What is said after one more word of an entry.
abbrev pub said_word : Act → Standing → Token → Said → Said
said_word act standing word said =
    said_by act standing word
    (noted standing.power (record { act = act; path = standing.path; word = word }) said)

-- `- name` begins an entry of VIAS, or one of SPECIALNETS.
abbrev pub opened_via : Sort → Token → Said → Said
opened_via sorts.Minus name said = record (cleared said) { via_names = said.via_names ++ name.text ∷ [] }
opened_via _ name said = said

abbrev pub opened_net : Sort → Token → Said → Said
opened_net sorts.Minus name said = record (cleared said) { net_names = said.net_names ++ name.text ∷ [] }
opened_net _ name said = said

-- What is said after one more unit of this section.
abbrev pub said_unit : Section → Standing → List Token → Said → Said
said_unit Via standing (word ∷ []) said = said_word (act_in Via standing (sort_of word)) standing word said
said_unit Net standing (word ∷ []) said = said_word (act_in Net standing (sort_of word)) standing word said
said_unit Vias standing (first ∷ second ∷ []) said = opened_via (sort_of first) second said
said_unit Nets standing (first ∷ second ∷ []) said = opened_net (sort_of first) second said
said_unit section standing unit said = said

-- ## what all units say

-- Where the units so far lead, and what they say.
pub record Heard : Type 0 where
  pub standing : Standing
  pub said : Said

abbrev pub heard_after : Heard → List Token → Heard
heard_after heard unit =
    let standing = heard.standing in
    record {
      standing = standing_after standing unit;
      said = said_unit (section_in standing) standing unit heard.said;
    }

abbrev pub heard_from : Heard → List (List Token) → Heard
heard_from heard [] = heard
heard_from heard (unit ∷ units) = heard_from (heard_after heard unit) units

abbrev pub nothing_said : Said
nothing_said = record { via_names = []; net_names = []; vias = []; nets = []; segments = []; places = []; asked = [] }

abbrev pub heard_of : List (List Token) → Heard
heard_of units = heard_from (record { standing = at_start; said = nothing_said }) units

-- The names of the generated vias.
abbrev pub said_name : SaidVia → List ℕ
said_name said = said.name

abbrev pub known_vias : Said → List (List ℕ)
known_vias said = map said_name said.vias

-- ## the record

-- The numbers of a generated via: sizes of cuts and counts are positive, spaces and enclosures not negative. An absent
-- ROWCOL is 1 1.
pub record SaysNumbers (words : List Token) (numbers : ViaNumbers) : Type 0 where
  pub cut_x : IsNumber Positive (text_at 5 words) numbers.cut_x
  pub cut_y : IsNumber Positive (text_at 6 words) numbers.cut_y
  pub gap_x : IsNumber NotNegative (text_at 14 words) numbers.gap_x
  pub gap_y : IsNumber NotNegative (text_at 15 words) numbers.gap_y
  pub lower_x : IsNumber NotNegative (text_at 18 words) numbers.lower_x
  pub lower_y : IsNumber NotNegative (text_at 19 words) numbers.lower_y
  pub upper_x : IsNumber NotNegative (text_at 20 words) numbers.upper_x
  pub upper_y : IsNumber NotNegative (text_at 21 words) numbers.upper_y
  pub rows : IsNumber Positive (text_or_one 24 words) numbers.rows
  pub columns : IsNumber Positive (text_or_one 25 words) numbers.columns

abbrev pub numbers_of : ViaDef → ViaNumbers
numbers_of via = record {
  cut_x = via.cut_x;
  cut_y = via.cut_y;
  gap_x = via.gap_x;
  gap_y = via.gap_y;
  lower_x = via.lower_x;
  lower_y = via.lower_y;
  upper_x = via.upper_x;
  upper_y = via.upper_y;
  rows = via.rows;
  columns = via.columns;
}

pub record SaysVia (said : SaidVia) (via : ViaDef) : Type 0 where
  pub name : via.name ≡ said.name
  pub rule : via.rule ≡ text_at 2 said.words
  pub lower : via.lower ≡ text_at 9 said.words
  pub cut : via.cut ≡ text_at 10 said.words
  pub upper : via.upper ≡ text_at 11 said.words
  pub numbers : SaysNumbers said.words (numbers_of via)

-- RING is a Ring, FOLLOWPIN of a segment along x a FollowPin, every other shape and none a Stripe.
abbrev pub HasShape : Sort → ℤ → ℤ → Shape → Type 0
HasShape sorts.Ring y1 y2 shape = shape ≡ Ring
HasShape sorts.FollowPin y1 y2 shape = ((y1 ≡ y2) × (shape ≡ FollowPin)) ⊎ ((y1 ≢ y2) × (shape ≡ Stripe))
HasShape _ y1 y2 shape = shape ≡ Stripe

-- An absent lengthening is 0.
abbrev pub IsReach : Option (List ℕ) → ℤ → Type 0
IsReach None value = value ≡ pos 0
IsReach (Some text) value = IsNumber NotNegative text value

-- A segment lies along x or along y; one without length lies along both.
pub record SaysSegment (said : SaidSegment) (segment : Segment) : Type 0 where
  pub layer : segment.layer ≡ said.layer
  pub width : IsNumber NotNegative said.width segment.width
  pub x1 : IsNumber Any said.from.x segment.x1
  pub y1 : IsNumber Any said.from.y segment.y1
  pub e1 : IsReach said.from.reach segment.e1
  pub x2 : IsNumber Any said.to.x segment.x2
  pub y2 : IsNumber Any said.to.y segment.y2
  pub e2 : IsReach said.to.reach segment.e2
  pub straight : (segment.x1 ≡ segment.x2) ⊎ (segment.y1 ≡ segment.y2)
  pub shape : HasShape said.shape segment.y1 segment.y2 segment.shape

pub record SaysPlace (said : SaidPlace) (place : ViaPlace) : Type 0 where
  pub via : place.via ≡ said.via
  pub layer : place.layer ≡ said.layer
  pub x : IsNumber Any said.x place.x
  pub y : IsNumber Any said.y place.y

pub record SaysNet (said : SaidNet) (net : WiredNet) : Type 0 where
  pub name : net.name ≡ said.name
  pub power : net.power ≡ said.power
  pub segments : InTurn SaysSegment said.segments net.segments
  pub vias : InTurn SaysPlace said.places net.vias

-- The record of what is said.
pub record SaysWires (said : Said) (wires : Wires) : Type 0 where
  pub vias : InTurn SaysVia said.vias wires.vias
  pub nets : InTurn SaysNet said.nets wires.nets

-- The record of the units: the generated vias and the power and ground nets, in the order of the text.
abbrev pub IsWires : List (List Token) → Wires → Type 0
IsWires units wires = SaysWires (heard_of units).said wires
