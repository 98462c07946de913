-- A grid as DEF (LEF/DEF 5.8 Language Reference, "DEF Syntax"), line by line: the design's name, units and die, the vias,
-- the special nets.
use Rattle.std.specs.Prelude.{ℕ, List, [], ◌∷◌, ◌++◌, length, map, codes, decimal, flat_map}
use Rattle.std.specs.List.{enumerate_from}
use Rattle.def_design.specs.declared.record.Design.{Design}
use Rattle.geom_rect.specs.declared.rect.Rect.{Rect}
use Rattle.grid_pieces.specs.declared.grid.Grid.{Grid}
use Rattle.lef_tech.specs.declared.tech.Tech.{Tech}
use Rattle.via_arrays.specs.declared.parts.CutArray.{CutArray}
use Rattle.def_writer.specs.Line.{text_of}
use Rattle.def_writer.specs.Via.{arrays_of, vias_of, via_line}
use Rattle.def_writer.specs.Wiring.{point, net_of_grid}

-- Names of DEF have `/` between their parts and `[]` around their numbers.
abbrev pub head_lines : List (List (List ℕ))
head_lines =
    (codes "VERSION" ∷ codes "5.8" ∷ codes ";" ∷ [])
    ∷ (codes "DIVIDERCHAR" ∷ codes "\"/\"" ∷ codes ";" ∷ [])
    ∷ (codes "BUSBITCHARS" ∷ codes "\"[]\"" ∷ codes ";" ∷ []) ∷ []

-- The corners of the die.
abbrev pub die_line : Rect → List (List ℕ)
die_line die = codes "DIEAREA" ∷ (point (die.x1, die.y1) ++ point (die.x2, die.y2) ++ codes ";" ∷ [])

-- The name of the design, its units in a micrometre, and its die.
abbrev pub design_lines : Design → List (List (List ℕ))
design_lines design =
    (codes "DESIGN" ∷ design.name ∷ codes ";" ∷ [])
    ∷ (codes "UNITS" ∷ codes "DISTANCE" ∷ codes "MICRONS" ∷ decimal design.units ∷ codes ";" ∷ [])
    ∷ die_line design.die ∷ []

-- The section of the vias.
abbrev pub via_lines : Tech → List CutArray → List (List (List ℕ))
via_lines tech vias =
    (codes "VIAS" ∷ decimal (length vias) ∷ codes ";" ∷ [])
    ∷ (map (via_line tech) vias ++ (codes "END" ∷ codes "VIAS" ∷ []) ∷ [])

-- The section of the special nets.
abbrev pub special_net_lines : Tech → Grid → List (List (List ℕ))
special_net_lines tech grid =
    (codes "SPECIALNETS" ∷ decimal (length grid.nets) ∷ codes ";" ∷ [])
    ∷ (flat_map (net_of_grid tech grid) (enumerate_from 0 grid.nets) ++ (codes "END" ∷ codes "SPECIALNETS" ∷ []) ∷ [])

-- All lines.
abbrev pub def_lines : Design → Tech → Grid → List (List (List ℕ))
def_lines design tech grid =
    head_lines ++ design_lines design ++ via_lines tech (vias_of (arrays_of grid.stacks)) ++ special_net_lines tech grid
    ++ (codes "END" ∷ codes "DESIGN" ∷ []) ∷ []

-- The text of a grid as DEF.
abbrev pub written_def : Design → Tech → Grid → List ℕ
written_def design tech grid = text_of (def_lines design tech grid)
