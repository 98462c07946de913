-- Where the next unit stands.
use Rattle.std.specs.Prelude.{ℕ, ◌+◌, Bool, true, false, List, [], ◌∷◌, ◌++◌, if◌then◌else◌}
use Rattle.wiring_file.specs.declared.section.Section.{Section}
use Rattle.wiring_file.specs.declared.section.Section.TheVariants.{Version, DividerChar, BusBitChars, Design, Units, Die, ViasHead, Vias, NetsHead, Nets, First, Line, Next, DesignEnd, Ended}
use Rattle.wiring_file.specs.Unit.{text_at, is_entry, ends_net, is_place}
use Rattle.reading.specs.Word.{Token}

-- The section of the next unit; the count that the list of vias or of nets has at its head, and how many entries of it
-- there were; the net that is open, and whether a line with a via of it was read.
pub record Standing : Type 0 where
  pub section : Section
  pub count : List ℕ
  pub entries : ℕ
  pub net : List ℕ
  pub placed : Bool

abbrev pub start : Standing
start = record { section = Version; count = []; entries = 0; net = []; placed = false }

-- The same at another section.
abbrev pub at : Section → Standing → Standing
at section s = record { section = section; count = s.count; entries = s.entries; net = s.net; placed = s.placed }

-- A list of entries begins, whose head has this count.
abbrev pub list_of : Section → List ℕ → Standing → Standing
list_of section count s = record { section = section; count = count; entries = 0; net = s.net; placed = s.placed }

-- One more entry stands.
abbrev pub one_more : Section → Standing → Standing
one_more section s =
    record { section = section; count = s.count; entries = s.entries + 1; net = s.net; placed = s.placed }

-- Where the unit leads, which stands in this section.
abbrev pub leads : Section → Standing → List Token → Standing
leads Version s unit = at DividerChar s
leads DividerChar s unit = at BusBitChars s
leads BusBitChars s unit = at Design s
leads Design s unit = at Units s
leads Units s unit = at Die s
leads Die s unit = at ViasHead s
leads ViasHead s unit = list_of Vias (text_at 1 unit) s
leads Vias s unit = if is_entry unit then one_more Vias s else at NetsHead s
leads NetsHead s unit = list_of Nets (text_at 1 unit) s
leads Nets s unit =
    if is_entry unit then
    (record { section = First; count = s.count; entries = s.entries + 1; net = text_at 1 unit; placed = false })
    else at DesignEnd s
leads First s unit = if ends_net unit then at Nets s else at Line s
leads Line s unit =
    record { section = Next; count = s.count; entries = s.entries; net = s.net; placed = is_place unit }
leads Next s unit = if ends_net unit then at Nets s else at Line s
leads DesignEnd s unit = at Ended s
leads Ended s unit = at Ended s

-- Where a unit leads that stands here.
abbrev pub after : Standing → List Token → Standing
after s unit = leads s.section s unit

-- Where the next unit stands after these, the first of which stands here.
abbrev pub standing_from : Standing → List (List Token) → Standing
standing_from s [] = s
standing_from s (unit ∷ units) = standing_from (after s unit) units

-- Where the next unit stands after these.
abbrev pub standing : List (List Token) → Standing
standing units = standing_from start units

-- The units, each with where it stands.
abbrev pub placed_from : Standing → List (List Token) → List (Standing × List Token)
placed_from s [] = []
placed_from s (unit ∷ units) = (s, unit) ∷ placed_from (after s unit) units

abbrev pub placed : List (List Token) → List (Standing × List Token)
placed units = placed_from start units
