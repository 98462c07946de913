-- What the regions of domains, the rows and the components refuse (LEF/DEF 5.8 Language Reference, REGIONS; OpenROAD PDN
-- manual, set_voltage_domain -region).
use Rattle.std.specs.Prelude.{ℕ, ℤ, ◌+◌, Bool, false, not, ◌&&◌, nat_lt, int_le, int_lt, if◌then◌else◌, List, [], ◌∷◌, map, length, slice_index_or, Option, Some, None}
use Rattle.std.specs.Bool.{nat_eq}
use Rattle.std.specs.Int.{int_max, int_min}
use Rattle.std.specs.List.{position, list_any}
use Rattle.std.specs.Option.{is_some}
use Rattle.geom_rect.specs.declared.rect.Rect.{Rect}
use Rattle.lef_cells.specs.declared.record.Cells.{Cells}
use Rattle.lef_cells.specs.declared.record.MacroCell.{MacroCell}
use Rattle.def_design.specs.declared.record.Component.{Component}
use Rattle.def_design.specs.declared.record.Design.{Design}
use Rattle.def_design.specs.declared.record.Fence.{Fence}
use Rattle.pdn_script.specs.declared.record.Domain.{Domain}
use Rattle.rail_layout.specs.declared.row.RowBox.{RowBox}
use Rattle.grid_cores.specs.Owner.{lies_in, rows_of}
use Rattle.grid_plan.specs.declared.record.GridAt.{GridAt}
use Rattle.grid_plan.specs.Names.{Names, place_in}
use Rattle.grid_plan.specs.Order.{first_place}

-- How many rectangles the region of a domain has.
abbrev pub rects_of : Names → Design → Option (List ℕ) → ℕ
rects_of names design None = 0
rects_of names design (Some region) =
    slice_index_or (map (λ (fence : Fence). length fence.rects) design.regions) (place_in names.regions region) 0

-- The first domain whose region has more than one.
abbrev pub first_shaped : Names → Design → List Domain → Option ℕ
first_shaped names design domains = first_place (λ (d : Domain). nat_lt 1 (rects_of names design d.region)) domains

-- Two closed spans meet: neither ends before the other begins.
abbrev pub spans_meet : ℤ → ℤ → ℤ → ℤ → Bool
spans_meet from to other_from other_to = int_le from other_to && int_le other_from to

-- Two closed rectangles meet: they do in x and in y.
abbrev pub meet : Rect → Rect → Bool
meet a b = spans_meet a.x1 a.x2 b.x1 b.x2 && spans_meet a.y1 a.y2 b.y1 b.y2

abbrev pub regions_meet : Option Rect → Option Rect → Bool
regions_meet (Some a) (Some b) = meet a b
regions_meet (Some a) None = false
regions_meet None other = false

-- The pair of a domain and the first later one that it meets, or else what later domains have.
abbrev pub paired : ℕ → Option ℕ → Option (ℕ × ℕ) → Option (ℕ × ℕ)
paired k (Some j) rest = Some (k, k + 1 + j)
paired k None rest = rest

-- The first domain, counted from a number, whose region meets that of a later one, with the first such later one.
abbrev pub first_meeting_from : ℕ → List (Option Rect) → Option (ℕ × ℕ)
first_meeting_from k [] = None
first_meeting_from k (region ∷ later) =
    paired k (position (regions_meet region) later) (first_meeting_from (k + 1) later)

abbrev pub first_meeting : List (Option Rect) → Option (ℕ × ℕ)
first_meeting regions = first_meeting_from 0 regions

-- Two spans share a length.
abbrev pub share_length : ℤ → ℤ → ℤ → ℤ → Bool
share_length from to other_from other_to = int_lt (int_max from other_from) (int_min to other_to)

-- Two rectangles share an area: they share a length in x and in y.
abbrev pub share_area : Rect → Rect → Bool
share_area a b = share_length a.x1 a.x2 b.x1 b.x2 && share_length a.y1 a.y2 b.y1 b.y2

-- A row's box shares an area with a region, and does not lie in it.
abbrev pub is_across : Rect → Option Rect → Bool
is_across box None = false
is_across box (Some region) = share_area box region && not (lies_in box region)

-- The first row that lies across the region of a domain.
abbrev pub first_across : List (Option Rect) → List RowBox → Option ℕ
first_across regions rows = position (λ (row : RowBox). list_any (is_across row.rect) regions) rows

-- A grid that is not one over macros names the domain at a place.
abbrev pub is_drawn : List GridAt → ℕ → Bool
is_drawn grids k = list_any (λ (g : GridAt). nat_eq g.domain k && not g.over_macros) grids

-- A domain at a place has no row, and a grid draws it.
abbrev pub is_bare : List (Option Rect) → List RowBox → List GridAt → ℕ → Option Rect → Bool
is_bare regions rows grids k region = nat_eq (length (rows_of regions region rows)) 0 && is_drawn grids k

-- The first such domain.
abbrev pub first_bare_from : List (Option Rect) → List RowBox → List GridAt → ℕ → List (Option Rect) → Option ℕ
first_bare_from regions rows grids k [] = None
first_bare_from regions rows grids k (region ∷ later) =
    if is_bare regions rows grids k region then Some k else first_bare_from regions rows grids (k + 1) later

abbrev pub first_bare : List (Option Rect) → List RowBox → List GridAt → Option ℕ
first_bare regions rows grids = first_bare_from regions rows grids 0 regions

-- A placed component is a block.
abbrev pub is_block : Cells → Names → Component → Bool
is_block cells names component = is_some component.place
    && slice_index_or (map (λ (cell : MacroCell). cell.block) cells.macros) (place_in names.macros component.cell) false

-- The first such component, where a grid over macros stands.
abbrev pub first_block : Cells → Names → Design → List GridAt → Option ℕ
first_block cells names design grids =
    if list_any (λ (g : GridAt). g.over_macros) grids then first_place (is_block cells names) design.components else None
