-- What of a wiring that is given in names and numbers is read as its wires once it is written.
use Rattle.std.specs.Prelude.{◌≡◌, ◌⊎◌, ℕ, ◌^◌, ◌≤◌, List, length, map, All, Contains}
use Rattle.name_table.specs.Numbering.{AreDistinct}
use Rattle.def_wiring.specs.declared.sort.Sort.TheVariants.{Other}
use Rattle.def_wiring.specs.Limits.{IsNear, IsLength, IsPositive}
use Rattle.def_wiring.specs.Sort.{sort_of_text}
use Rattle.wiring_file.specs.declared.record.PlaceText.{PlaceText}
use Rattle.wiring_file.specs.declared.record.ViaText.{ViaText}
use Rattle.wiring_file.specs.declared.record.WireText.{WireText}
use Rattle.wiring_file.specs.Written.{HeadText, NetText, CanBeWritten}

abbrev pub via_name : ViaText → List ℕ
via_name via = via.name

abbrev pub net_name : NetText → List ℕ
net_name net = net.name

-- The numbers of a via are at most 2^30 from 0. Its cut and its counts are more than 0, its spaces and enclosures are not
-- below 0.
pub record ViaFits (via : ViaText) : Type 0 where
  pub cut_x : IsPositive via.cut_x
  pub cut_y : IsPositive via.cut_y
  pub gap_x : IsLength via.gap_x
  pub gap_y : IsLength via.gap_y
  pub lower_x : IsLength via.lower_x
  pub lower_y : IsLength via.lower_y
  pub upper_x : IsLength via.upper_x
  pub upper_y : IsLength via.upper_y
  pub rows : IsPositive via.rows
  pub columns : IsPositive via.columns

-- So are those of a piece, which lies along x or along y.
pub record WireFits (wire : WireText) : Type 0 where
  pub width : IsLength wire.width
  pub x1 : IsNear wire.x1
  pub y1 : IsNear wire.y1
  pub x2 : IsNear wire.x2
  pub y2 : IsNear wire.y2
  pub straight : (wire.x1 ≡ wire.x2) ⊎ (wire.y1 ≡ wire.y2)

-- The via of an array is no keyword of DEF.
abbrev pub PlaceIsPlain : PlaceText → Type 0
PlaceIsPlain place = sort_of_text place.via ≡ Other

abbrev pub NetIsPlain : NetText → Type 0
NetIsPlain net = All PlaceIsPlain net.places

-- The numbers of an array's point are at most 2^30 from 0. Its via is one of these, and no keyword of DEF.
pub record PlaceFits (vias : List (List ℕ)) (place : PlaceText) : Type 0 where
  pub x : IsNear place.x
  pub y : IsNear place.y
  pub known : Contains vias place.via
  pub no_keyword : PlaceIsPlain place

pub record NetFits (vias : List (List ℕ)) (net : NetText) : Type 0 where
  pub wires : All WireFits net.wires
  pub places : All (PlaceFits vias) net.places

-- Names are names of DEF, no via and no net has the name of another one, and numbers are at most 2^30 from 0.
pub record CanBeWired (head : HeadText) (vias : List ViaText) (nets : List NetText) : Type 0 where
  pub written : CanBeWritten head vias nets
  pub vias_fit : All ViaFits vias
  pub nets_fit : All (NetFits (map via_name vias)) nets
  pub via_names : AreDistinct (map via_name vias)
  pub net_names : AreDistinct (map net_name nets)
  pub few_vias : length vias ≤ 2 ^ 30
  pub few_nets : length nets ≤ 2 ^ 30
