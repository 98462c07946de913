-- The units that say something, by their words (LEF/DEF 5.8 Language Reference, "DEF Syntax").
use Rattle.std.specs.Prelude.{ℕ, ◌==◌, ◌&&◌, ◌||◌, nat_lt, Bool, true, false, List, length, Option, Some, None}
use Rattle.geom_rect.specs.declared.direction.Orient.{Orient}
use Rattle.geom_rect.specs.declared.direction.Orient.TheVariants as orients
use Rattle.def_statements.specs.declared.sort.Sort.{Sort}
use Rattle.def_statements.specs.declared.sort.Sort.TheVariants as sorts
use Rattle.def_statements.specs.Sort.{the}
use Rattle.def_statements.specs.Unit.{begins, sort_at, text_at}
use Rattle.reading.specs.Word.{Token}

-- `DESIGN name ;`.
abbrev pub is_design : List Token → Bool
is_design unit = begins sorts.Design 3 unit

-- `UNITS DISTANCE MICRONS n ;`.
abbrev pub is_units : List Token → Bool
is_units unit = begins sorts.Units 5 unit

-- `DIEAREA ( x y ) ( x y ) ;`.
abbrev pub is_die : List Token → Bool
is_die unit = begins sorts.DieArea 10 unit

-- `ROW name site x y orient` and what follows it.
abbrev pub is_row : List Token → Bool
is_row unit = nat_lt 6 (length unit) && the sorts.Row (sort_at 0 unit)

-- `- name macro`.
abbrev pub is_component : List Token → Bool
is_component unit = begins sorts.Minus 3 unit

-- `PLACED ( x y ) orient`, and with FIXED or COVER.
abbrev pub is_placed : List Token → Bool
is_placed unit = (length unit == 6) && (the sorts.Placed (sort_at 0 unit) || the sorts.Fixed (sort_at 0 unit))

-- `LAYER l` of a blockage.
abbrev pub is_layer : List Token → Bool
is_layer unit = begins sorts.Layer 2 unit

-- `SPACING s` of a blockage.
abbrev pub is_spacing : List Token → Bool
is_spacing unit = begins sorts.Spacing 2 unit

-- `EXCEPTPGNET`, `FILLS` or `SLOTS` of a blockage, which then blocks no wires of a power grid.
abbrev pub excepts : List Token → Bool
excepts unit = (length unit == 1) && (the sorts.ExceptPgNet (sort_at 0 unit) || the sorts.Fills (sort_at 0 unit))

-- `RECT ( x y ) ( x y )` of a blockage.
abbrev pub is_rect : List Token → Bool
is_rect unit = begins sorts.Rect 9 unit

-- `- name ( x y ) ( x y )`.
abbrev pub is_region : List Token → Bool
is_region unit = begins sorts.Minus 10 unit

-- One more rectangle `( x y ) ( x y )` of a region.
abbrev pub is_more : List Token → Bool
is_more unit = begins sorts.Open 8 unit

-- The name in an entry's head, `- name ..`.
abbrev pub name_of : List Token → List ℕ
name_of unit = text_at 1 unit

-- The orientation that a word says.
abbrev pub orient_of : Sort → Option Orient
orient_of sorts.N = Some orients.N
orient_of sorts.S = Some orients.S
orient_of sorts.W = Some orients.W
orient_of sorts.E = Some orients.E
orient_of sorts.FN = Some orients.FN
orient_of sorts.FS = Some orients.FS
orient_of sorts.FW = Some orients.FW
orient_of sorts.FE = Some orients.FE
orient_of _ = None

-- The same where it leaves a row along the x axis.
abbrev pub upright : Sort → Option Orient
upright sorts.N = Some orients.N
upright sorts.S = Some orients.S
upright sorts.FN = Some orients.FN
upright sorts.FS = Some orients.FS
upright _ = None

-- It turns a row to a side.
abbrev pub is_across : Sort → Bool
is_across sorts.W = true
is_across sorts.E = true
is_across sorts.FW = true
is_across sorts.FE = true
is_across _ = false
