-- The vias of a grid: one for each rule with its columns and rows that an array has.
use Rattle.std.specs.Prelude.{ℕ, ◌+◌, ℤ, ◌-ℤ◌, List, [], ◌∷◌, ◌++◌, map, codes, decimal, slice_index_or, fold, flat_map}
use Rattle.std.specs.Fmt.{signed_decimal}
use Rattle.std.specs.Ordering.{nat_cmp, ordering_then}
use Rattle.std.specs.BTreeMap.{insert_entry}
use Rattle.std.specs.Map.{values_of}
use Rattle.std.specs.declared.cmp.Ordering.{Ordering}
use Rattle.grid_pieces.specs.declared.piece.StackAt.{StackAt}
use Rattle.lef_tech.specs.declared.rule.ViaRule.{ViaRule}
use Rattle.lef_tech.specs.declared.layer.RoutingLayer.{RoutingLayer}
use Rattle.lef_tech.specs.declared.layer.CutLayer.{CutLayer}
use Rattle.lef_tech.specs.declared.tech.Tech.{Tech}
use Rattle.via_arrays.specs.declared.parts.CutArray.{CutArray}
use Rattle.def_writer.specs.declared.via.Via.{Via}

-- The via of an array.
abbrev pub via_of : CutArray → Via
via_of array = record { rule = array.rule; columns = array.columns; rows = array.rows }

-- Vias are compared by rule, columns and rows, in turn.
abbrev pub via_order : Via → Via → Ordering
via_order a b = ordering_then (ordering_then (nat_cmp a.rule b.rule) (nat_cmp a.columns b.columns)) (nat_cmp a.rows b.rows)

-- The arrays by their vias, with one more array: its via stands once, in its place in the order.
abbrev pub with_array : List (Via × CutArray) → CutArray → List (Via × CutArray)
with_array vias array = insert_entry via_order vias (via_of array) array

-- The arrays by their vias.
abbrev pub by_via : List CutArray → List (Via × CutArray)
by_via arrays = fold with_array [] arrays

-- The vias of arrays, each as an array that has it: each once, in order.
abbrev pub vias_of : List CutArray → List CutArray
vias_of arrays = values_of (by_via arrays)

-- The arrays of stacks.
abbrev pub arrays_of : List StackAt → List CutArray
arrays_of stacks = flat_map (λ (at : StackAt). at.stack.arrays) stacks

-- The name of a via: its rule, counted from 1, its columns and its rows, as in `pdn_1_3_1`.
abbrev pub via_name : Via → List ℕ
via_name via =
    codes "pdn_" ++ decimal (via.rule + 1) ++ codes "_" ++ decimal via.columns ++ codes "_" ++ decimal via.rows

-- The name of a routing layer.
abbrev pub layer_name : Tech → ℕ → List ℕ
layer_name tech layer = slice_index_or (map (λ (l : RoutingLayer). l.name) tech.routing) layer []

-- The name of a rule, and those of its lower layer, its cut layer and its upper layer.
abbrev pub rule_name : Tech → ℕ → List ℕ
rule_name tech rule = slice_index_or (map (λ (r : ViaRule). r.name) tech.rules) rule []

abbrev pub lower_name : Tech → ℕ → List ℕ
lower_name tech rule = slice_index_or (map (λ (r : ViaRule). layer_name tech r.lower) tech.rules) rule []

abbrev pub cut_name : Tech → ℕ → List ℕ
cut_name tech rule =
    slice_index_or (map (λ (r : ViaRule). slice_index_or (map (λ (l : CutLayer). l.name) tech.cuts) r.cut []) tech.rules) rule []

abbrev pub upper_name : Tech → ℕ → List ℕ
upper_name tech rule = slice_index_or (map (λ (r : ViaRule). layer_name tech r.upper) tech.rules) rule []

-- The space between a cut and the next one: the pitch less the cut.
abbrev pub gap : ℤ → ℤ → ℤ
gap cut pitch = pitch -ℤ cut

-- The line of a via (LEF/DEF 5.8 Language Reference, VIAS): the name, the rule, the cut, the layers from below, the space
-- between cuts, the enclosures of the lower and of the upper layer, and how many rows and columns of cuts it has.
abbrev pub via_line : Tech → CutArray → List (List ℕ)
via_line tech array =
    codes "-" ∷ via_name (via_of array)
    ∷ codes "+" ∷ codes "VIARULE" ∷ rule_name tech array.rule
    ∷ codes "+" ∷ codes "CUTSIZE" ∷ signed_decimal array.cut_x ∷ signed_decimal array.cut_y
    ∷ codes "+" ∷ codes "LAYERS" ∷ lower_name tech array.rule ∷ cut_name tech array.rule ∷ upper_name tech array.rule
    ∷ codes "+" ∷ codes "CUTSPACING" ∷ signed_decimal (gap array.cut_x array.pitch_x) ∷ signed_decimal (gap array.cut_y array.pitch_y)
    ∷ codes "+" ∷ codes "ENCLOSURE" ∷ signed_decimal array.lower_x ∷ signed_decimal array.lower_y ∷ signed_decimal array.upper_x ∷ signed_decimal array.upper_y
    ∷ codes "+" ∷ codes "ROWCOL" ∷ decimal array.rows ∷ decimal array.columns
    ∷ codes ";" ∷ []
