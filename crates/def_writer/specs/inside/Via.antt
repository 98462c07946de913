-- The parts of the line of a via, inside this crate.
use Rattle.std.specs.Prelude.{ℕ, List, [], ◌∷◌, codes, decimal}
use Rattle.std.specs.Fmt.{signed_decimal}
use Rattle.lef_tech.specs.declared.tech.Tech.{Tech}
use Rattle.via_arrays.specs.declared.parts.CutArray.{CutArray}
use Rattle.def_writer.specs.Via.{rule_name, lower_name, cut_name, upper_name, gap}

-- The rule, the cut and the layers.
abbrev pub rule_words : Tech → CutArray → List (List ℕ)
rule_words tech array =
    codes "+" ∷ codes "VIARULE" ∷ rule_name tech array.rule
    ∷ codes "+" ∷ codes "CUTSIZE" ∷ signed_decimal array.cut_x ∷ signed_decimal array.cut_y
    ∷ codes "+" ∷ codes "LAYERS" ∷ lower_name tech array.rule ∷ cut_name tech array.rule ∷ upper_name tech array.rule ∷ []

-- The space between cuts and the enclosures.
abbrev pub space_words : CutArray → List (List ℕ)
space_words array =
    codes "+" ∷ codes "CUTSPACING" ∷ signed_decimal (gap array.cut_x array.pitch_x) ∷ signed_decimal (gap array.cut_y array.pitch_y)
    ∷ codes "+" ∷ codes "ENCLOSURE" ∷ signed_decimal array.lower_x ∷ signed_decimal array.lower_y ∷ signed_decimal array.upper_x ∷ signed_decimal array.upper_y ∷ []

-- How many rows and columns of cuts it has.
abbrev pub count_words : CutArray → List (List ℕ)
count_words array = codes "+" ∷ codes "ROWCOL" ∷ decimal array.rows ∷ decimal array.columns ∷ codes ";" ∷ []
