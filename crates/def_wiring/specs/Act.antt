-- What a word of an entry does there, by where it stands and its sort: the form of a generated via, and the form of a net
-- (LEF/DEF 5.8 Language Reference, VIAS and SPECIALNETS).
use Rattle.std.specs.Prelude.{ℕ, Bool, true, false, ◌==◌, ◌||◌, ◌&&◌, List, [], ◌∷◌, Option, Some, None, slice_get, if◌then◌else◌}
use Rattle.def_wiring.specs.declared.act.Act.{Act}
use Rattle.def_wiring.specs.declared.act.Act.TheVariants as acts
use Rattle.def_wiring.specs.declared.act.Ask.{Ask}
use Rattle.def_wiring.specs.declared.act.Ask.TheVariants.{Key, Name, Number}
use Rattle.def_wiring.specs.declared.act.Stage.{Stage}
use Rattle.def_wiring.specs.declared.act.Stage.TheVariants as stages
use Rattle.def_wiring.specs.declared.sort.Sort.{Sort}
use Rattle.def_wiring.specs.declared.sort.Sort.TheVariants as sorts
use Rattle.def_wiring.specs.Rule.{is_name, is_number}
use Rattle.def_wiring.specs.Sort.{the}

-- ## an entry of VIAS

-- `+ VIARULE rule + CUTSIZE x y + LAYERS lower cut upper + CUTSPACING x y + ENCLOSURE x y x y`, and perhaps
-- `+ ROWCOL rows columns` and a further part.
abbrev pub via_form : List Ask
via_form =
    Key sorts.Plus ∷ Key sorts.ViaRule ∷ Name
    ∷ Key sorts.Plus ∷ Key sorts.CutSize ∷ Number ∷ Number
    ∷ Key sorts.Plus ∷ Key sorts.Layers ∷ Name ∷ Name ∷ Name
    ∷ Key sorts.Plus ∷ Key sorts.CutSpacing ∷ Number ∷ Number
    ∷ Key sorts.Plus ∷ Key sorts.Enclosure ∷ Number ∷ Number ∷ Number ∷ Number
    ∷ Key sorts.Plus ∷ Key sorts.RowCol ∷ Number ∷ Number
    ∷ Key sorts.Plus ∷ []

-- So many words are all parts of a generated via, without ROWCOL or with it.
abbrev pub is_whole : ℕ → Bool
is_whole words = (words == 22) || (words == 26)

-- So many are all these parts and a `+`.
abbrev pub is_more : ℕ → Bool
is_more words = (words == 23) || (words == 27)

-- A word of this sort is what is asked for.
abbrev pub takes : Ask → Sort → Bool
takes (Key this) sort = the this sort
takes Name sort = is_name sort
takes Number sort = is_number sort

abbrev pub kept : Ask → Act
kept Number = acts.Number
kept _ = acts.Keeps

-- Any other entry is passed over to its `;`.
abbrev pub passes : Sort → Act
passes sorts.Semicolon = acts.Drops
passes _ = acts.Passes

abbrev pub asked_act : Option Ask → Sort → Act
asked_act (Some ask) sort = if takes ask sort then kept ask else passes sort
asked_act None sort = passes sort

-- What a word of this sort does after so many words of an entry of VIAS: it ends a generated via, begins a part of one
-- that is not read, belongs to its form, or shows that the entry is another one.
abbrev pub inner_act : ℕ → Sort → Act
inner_act words sort =
    if is_more words && the sorts.Unread sort then acts.NoVia else asked_act (slice_get via_form words) sort

abbrev pub via_act : ℕ → Sort → Act
via_act words sort =
    if is_whole words && the sorts.Semicolon sort then acts.EndsVia else inner_act words sort

-- ## an entry of SPECIALNETS
--
-- Parts begin with `+`; what stands before the first part, and in a part that is no wiring, is passed over. Wiring is
-- `ROUTED`, `FIXED` or `COVER` and paths with `NEW` between them. A path is `layer width`, perhaps `+ SHAPE shape`, a point,
-- and then points or the name of a via, perhaps with `N`. A point is `( x y )` or `( x y reach )`.

-- Between parts, or in one that is passed over.
abbrev pub in_parts : Sort → Act
in_parts sorts.Semicolon = acts.EndsNet
in_parts sorts.Plus = acts.Goes stages.Part
in_parts _ = acts.Goes stages.Parts

-- After the `+` of a part.
abbrev pub in_part : Sort → Act
in_part sorts.Routed = acts.Goes stages.Layer
in_part sorts.Unwired = acts.NoWire
in_part sorts.Via = acts.NoWire
in_part sort = in_parts sort

abbrev pub in_layer : Sort → Act
in_layer sort = if is_name sort then acts.Layer else acts.Misplaced

abbrev pub in_width : Sort → Act
in_width sort = if is_number sort then acts.Width else acts.Misplaced

-- After the width: `+`, or the first point.
abbrev pub in_head : Sort → Act
in_head sorts.Plus = acts.Goes stages.HeadPart
in_head sorts.Open = acts.Goes stages.X
in_head sorts.Unwired = acts.NoWire
in_head _ = acts.Misplaced

abbrev pub in_head_part : Sort → Act
in_head_part sorts.ShapeWord = acts.Goes stages.Shape
in_head_part sorts.Unwired = acts.NoWire
in_head_part sorts.Via = acts.NoWire
in_head_part _ = acts.Misplaced

abbrev pub in_shape : Sort → Act
in_shape sort = if is_name sort then acts.Shape else acts.Misplaced

-- After the shape: the first point.
abbrev pub in_first : Sort → Act
in_first sorts.Plus = acts.Goes stages.FirstPart
in_first sorts.Open = acts.Goes stages.X
in_first sorts.Unwired = acts.NoWire
in_first _ = acts.Misplaced

abbrev pub in_first_part : Sort → Act
in_first_part sorts.Unwired = acts.NoWire
in_first_part sorts.Via = acts.NoWire
in_first_part _ = acts.Misplaced

abbrev pub in_x : Sort → Act
in_x sort = if is_number sort then acts.X else acts.Misplaced

abbrev pub in_y : Sort → Act
in_y sort = if is_number sort then acts.Y else acts.Misplaced

-- After `( x y`.
abbrev pub in_reach : Sort → Act
in_reach sorts.Close = acts.Point
in_reach sort = if is_number sort then acts.Reach else acts.Misplaced

-- After `( x y reach`.
abbrev pub in_close : Sort → Act
in_close sorts.Close = acts.Point
in_close _ = acts.Misplaced

-- After the first point of a path: a second one, or the name of a via.
abbrev pub in_one : Sort → Act
in_one sorts.Open = acts.Goes stages.X
in_one sorts.Unwired = acts.NoWire
in_one sorts.Plus = acts.Misplaced
in_one sorts.New = acts.Misplaced
in_one sort = if is_name sort then acts.Place else acts.Misplaced

-- After a whole path.
abbrev pub in_whole : Sort → Act
in_whole sorts.New = acts.Goes stages.Layer
in_whole sorts.Plus = acts.Goes stages.Part
in_whole sorts.Semicolon = acts.EndsNet
in_whole sorts.Unwired = acts.NoWire
in_whole _ = acts.Misplaced

-- After two points and more.
abbrev pub in_more : Sort → Act
in_more sorts.Open = acts.Goes stages.X
in_more sort = in_whole sort

-- After the name of a via, and after its `N`. No point follows.
abbrev pub in_turned : Sort → Act
in_turned sorts.Open = acts.NoWire
in_turned sorts.Do = acts.NoVia
in_turned sort = in_whole sort

abbrev pub in_placed : Sort → Act
in_placed sorts.North = acts.Goes stages.Turned
in_placed sorts.Turn = acts.NoVia
in_placed sort = in_turned sort

-- After a word that cannot stand there.
abbrev pub in_lost : Sort → Act
in_lost sorts.Semicolon = acts.EndsNet
in_lost _ = acts.Goes stages.Lost

-- At this place of an entry of SPECIALNETS.
abbrev pub in_stage : Stage → Sort → Act
in_stage stages.Parts sort = in_parts sort
in_stage stages.Part sort = in_part sort
in_stage stages.Layer sort = in_layer sort
in_stage stages.Width sort = in_width sort
in_stage stages.Head sort = in_head sort
in_stage stages.HeadPart sort = in_head_part sort
in_stage stages.Shape sort = in_shape sort
in_stage stages.First sort = in_first sort
in_stage stages.FirstPart sort = in_first_part sort
in_stage stages.X sort = in_x sort
in_stage stages.Y sort = in_y sort
in_stage stages.Reach sort = in_reach sort
in_stage stages.Close sort = in_close sort
in_stage stages.One sort = in_one sort
in_stage stages.More sort = in_more sort
in_stage stages.Placed sort = in_placed sort
in_stage stages.Turned sort = in_turned sort
in_stage stages.Lost sort = in_lost sort

-- A `;` ends the entry wherever it stands.
abbrev pub broken : Sort → Act → Act
broken sorts.Semicolon acts.Misplaced = acts.Breaks
broken sort act = act

-- What a word of this sort does at this place of an entry of SPECIALNETS.
abbrev pub net_act : Stage → Sort → Act
net_act stage sort = broken sort (in_stage stage sort)
