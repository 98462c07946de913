-- Where the next unit stands after a whole unit.
use Rattle.std.specs.Prelude.{ℕ, ◌+◌, ◌-◌, Bool, true, false, ◌&&◌, List, [], ◌∷◌, ◌++◌, Option, Some, None, if◌then◌else◌}
use Rattle.lef_statements.specs.declared.passing.Passing.{Passing}
use Rattle.lef_statements.specs.declared.passing.Passing.TheVariants.{Statement, Section as Passed_section, SectionEnd as Passed_end, Extension as Passed_extension}
use Rattle.lef_statements.specs.Passing.{passing_after}
use Rattle.lef_tech.specs.declared.known.Known.{Known}
use Rattle.lef_tech.specs.declared.layer.LayerRef.{LayerRef}
use Rattle.lef_tech.specs.declared.layer.LayerRef.TheVariants as references
use Rattle.lef_tech.specs.declared.section.Section.{Section}
use Rattle.lef_tech.specs.declared.section.Section.TheVariants as sections
use Rattle.lef_tech.specs.declared.sort.Sort.{Sort}
use Rattle.lef_tech.specs.declared.sort.Sort.TheVariants as sorts
use Rattle.lef_tech.specs.declared.state.Place.{Place}
use Rattle.lef_tech.specs.declared.state.State.{State}
use Rattle.lef_tech.specs.declared.shape.Shape.{Shape}
use Rattle.lef_tech.specs.declared.shape.Shape.TheVariants.{One, Two, Three, Four}
use Rattle.lef_tech.specs.declared.turn.Turn.{Turn}
use Rattle.lef_tech.specs.declared.turn.Turn.TheVariants.{Stay, Go, Open, Skip, SkipSection, SkipExtension, SkipOpen, Word, Table, Point, Values, Value, Back}
use Rattle.lef_tech.specs.Known.{reference_in}
use Rattle.lef_tech.specs.Pattern.{the}
use Rattle.lef_tech.specs.Shape.{shape_in, text_at}
use Rattle.lef_tech.specs.State.{first_state}
use Rattle.reading.specs.Word.{Token, last_of}

-- The first word of a section without a name or of a statement at the top, or the end of the text.
abbrev pub turn_word : Sort → Turn
turn_word sorts.Units = Open sections.Units
turn_word sorts.Definitions = SkipSection
turn_word sorts.Spacing = SkipSection
turn_word sorts.Extension = SkipExtension
turn_word sorts.TextEnd = Stay
turn_word _ = Skip sections.Top

-- The head of a section with a name, or `END LIBRARY`.
abbrev pub turn_head : Sort → Turn
turn_head sorts.Layer = Open sections.LayerStart
turn_head sorts.ViaRule = Open sections.RuleStart
turn_head sorts.End = Go sections.Ended
turn_head _ = SkipSection

abbrev pub turn_top : Shape → Turn
turn_top (One word) = turn_word word
turn_top (Two word name) = turn_head word
turn_top _ = Stay

-- The type of a layer.
abbrev pub turn_type : Sort → Turn
turn_type sorts.Routing = Go sections.Undirected
turn_type _ = Go sections.Cut

-- A layer of another type than `ROUTING` and `CUT` is passed over.
abbrev pub turn_start : Shape → Turn
turn_start (Two word type) = SkipOpen (the sorts.End type)
turn_start (Three word type stop) = turn_type type
turn_start _ = Stay

-- A statement of a layer has ended with `;`, or the rest of it is passed over.
abbrev pub turn_other : Section → Sort → Turn
turn_other same sort = if the sorts.Semicolon sort then Stay else Skip same

-- The statements of a layer: `END` and its name; `DIRECTION`; the head of a table by this word; others.
abbrev pub turn_layer : Section → Sort → Section → Shape → Turn
turn_layer same by table (One word) = Skip same
turn_layer same by table (Two word name) =
    if the sorts.End word then Go sections.Top else turn_other same name
turn_layer same by table (Three word second last) =
    if the sorts.Direction word then Go sections.Directed else turn_other same last
turn_layer same by table (Four word second third last) =
    if the sorts.Current word && the by third then Table table
    else turn_other same last
turn_layer same by table _ = Stay

-- A table of densities among its points: one more point, or the first entry.
abbrev pub turn_table : Section → Shape → Turn
turn_table values (One word) = Point
turn_table values _ = Values values

-- A table of densities among its entries: one more entry, or the end.
abbrev pub turn_values : Shape → Turn
turn_values (One word) = if the sorts.Semicolon word then Back else Value
turn_values _ = Stay

-- The word after `VIARULE name`: a rule that is not `GENERATE` is passed over to `END` and its name.
abbrev pub turn_rule_word : Sort → Turn
turn_rule_word sorts.Generate = Go sections.RuleHead
turn_rule_word sorts.End = SkipOpen true
turn_rule_word _ = SkipOpen false

abbrev pub turn_rule_start : Shape → Turn
turn_rule_start (One word) = turn_rule_word word
turn_rule_start _ = Stay

-- The section after `LAYER name ;` in a rule, by what the layer is.
abbrev pub part_section : Option LayerRef → Section
part_section None = sections.Rule
part_section (Some (references.Routing place)) = sections.WirePart
part_section (Some (references.Cut place)) = sections.CutPart

-- The statements of `UNITS` and of a generate rule: `END` and its name; `LAYER name ;` of such a layer; others.
abbrev pub turn_part : Section → Option LayerRef → Shape → Turn
turn_part same reference (One word) = Skip same
turn_part same reference (Two word name) = Go sections.Top
turn_part same reference (Three word name stop) =
    if the sorts.Layer word then Go (part_section reference) else Stay
turn_part same reference _ = Stay

-- The first statement after `GENERATE`, or `DEFAULT`.
abbrev pub turn_rule_head : Option LayerRef → Shape → Turn
turn_rule_head reference (One word) =
    if the sorts.Default word then Go sections.Rule else Skip sections.Rule
turn_rule_head reference shape = turn_part sections.Rule reference shape

-- One more word of what is passed over.
abbrev pub turn_passing : Shape → Turn
turn_passing (One word) = Word
turn_passing _ = Stay

-- What a whole unit of these sorts does to the place of the next one. A unit `LAYER name ;` names a layer that is this one.
abbrev pub turn_of : Section → Option LayerRef → Shape → Turn
turn_of sections.Top reference shape = turn_top shape
turn_of sections.Passing reference shape = turn_passing shape
turn_of sections.LayerStart reference shape = turn_start shape
turn_of sections.Undirected reference shape = turn_layer sections.Undirected sorts.Width sections.WireTable shape
turn_of sections.Directed reference shape = turn_layer sections.Directed sorts.Width sections.WireTable shape
turn_of sections.Cut reference shape = turn_layer sections.Cut sorts.CutArea sections.CutTable shape
turn_of sections.WireTable reference shape = turn_table sections.WireValues shape
turn_of sections.WireValues reference shape = turn_values shape
turn_of sections.CutTable reference shape = turn_table sections.CutValues shape
turn_of sections.CutValues reference shape = turn_values shape
turn_of sections.RuleStart reference shape = turn_rule_start shape
turn_of sections.RuleHead reference shape = turn_rule_head reference shape
turn_of sections.Rule reference shape = turn_part sections.Rule reference shape
turn_of sections.WirePart reference shape = turn_part sections.WirePart reference shape
turn_of sections.CutPart reference shape = turn_part sections.CutPart reference shape
turn_of sections.Units reference shape = turn_part sections.Units reference shape
turn_of sections.Ended reference shape = Go sections.Top

-- The open section as what is passed over.
abbrev pub open_passing : Bool → List ℕ → Passing
open_passing ended name = if ended then Passed_end name else Passed_section name

-- The place after one more word of what is passed over.
abbrev pub passed_to : Place → Option Passing → Place
passed_to place None = record place { section = place.back; passing = Statement }
passed_to place (Some passing) = record place { passing = passing }

-- The place after a turn, where this is the unit's last word.
abbrev pub turned : Place → Token → Turn → Place
turned place last Stay = place
turned place last (Go section) = record place { section = section }
turned place last (Open section) = record place { section = section; name = last.text }
turned place last (Skip back) = record place { section = sections.Passing; back = back; passing = Statement }
turned place last SkipSection =
    record place { section = sections.Passing; back = sections.Top; passing = Passed_section last.text }
turned place last SkipExtension =
    record place { section = sections.Passing; back = sections.Top; passing = Passed_extension }
turned place last (SkipOpen ended) =
    record place { section = sections.Passing; back = sections.Top; passing = open_passing ended place.name }
turned place last Word = passed_to place (passing_after place.passing last)
turned place last (Table section) =
    record place { section = section; back = place.section; left = 1; point = last.text }
turned place last Point = record place { left = place.left + 1; point = last.text }
turned place last (Values section) = record place { section = section; left = place.left - 1 }
turned place last Value = record place { left = place.left - 1 }
turned place last Back = record place { section = place.back }

-- The section has `LAYER name ;` as a statement of a rule.
abbrev pub is_in_rule : Section → Bool
is_in_rule sections.RuleHead = true
is_in_rule sections.Rule = true
is_in_rule sections.WirePart = true
is_in_rule sections.CutPart = true
is_in_rule _ = false

-- The layer that a statement of a rule names, where the unit has these sorts.
abbrev pub named_in : List Known → Shape → List Token → Option LayerRef
named_in layers (Three word name stop) unit = reference_in layers (text_at unit 1)
named_in layers _ unit = None

abbrev pub named_by : State → Shape → List Token → Option LayerRef
named_by state shape unit = if is_in_rule state.place.section then named_in state.layers shape unit else None

abbrev pub named : State → List Token → Option LayerRef
named state unit = named_by state (shape_in unit) unit

-- The layers with the open one, which is this one.
abbrev pub layers_with : State → Option LayerRef → List Known
layers_with state reference = state.layers ++ record { name = state.place.name; reference = reference } ∷ []

-- What `TYPE ROUTING ;` and `TYPE CUT ;` say of the open layer: which routing or cut layer it is.
abbrev pub typed : State → Sort → State
typed state sorts.Routing =
    record state { layers = layers_with state (Some (references.Routing state.routing)); routing = state.routing + 1 }
typed state _ =
    record state { layers = layers_with state (Some (references.Cut state.cuts)); cuts = state.cuts + 1 }

-- The type of the open layer. A layer of another type is neither a routing nor a cut layer.
abbrev pub learnt_start : State → Shape → State
learnt_start state (Two word type) = record state { layers = layers_with state None }
learnt_start state (Three word type stop) = typed state type
learnt_start state _ = state

-- `VIARULE name`.
abbrev pub ruled : State → Sort → List ℕ → State
ruled state sorts.ViaRule name = record state { rules = state.rules ++ name ∷ [] }
ruled state _ name = state

abbrev pub learnt_top : State → Shape → Token → State
learnt_top state (Two word name) last = ruled state word last.text
learnt_top state _ last = state

-- Which layers and rules are known after a unit of this section, of these sorts and with this last word.
abbrev pub learnt : Section → State → Shape → Token → State
learnt sections.Top state shape last = learnt_top state shape last
learnt sections.LayerStart state shape last = learnt_start state shape
learnt _ state shape last = state

-- What is known after one more unit of these sorts, which names this layer and has this last word.
abbrev pub moved : State → Shape → Option LayerRef → Token → State
moved state shape reference last =
    record (learnt state.place.section state shape last) {
      place = turned state.place last (turn_of state.place.section reference shape);
    }

-- What is known after one more unit.
abbrev pub state_by : State → List Token → Option Token → State
state_by state unit None = state
state_by state unit (Some last) = moved state (shape_in unit) (named state unit) last

abbrev pub state_after : State → List Token → State
state_after state unit = state_by state unit (last_of unit)

-- What is known after more units.
abbrev pub state_from : State → List (List Token) → State
state_from state [] = state
state_from state (unit ∷ units) = state_from (state_after state unit) units

-- What is known after these units, from the beginning of a text.
abbrev pub state_of : List (List Token) → State
state_of units = state_from first_state units
