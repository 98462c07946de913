-- What the reader holds after whole units.
use Rattle.std.specs.Prelude.{◌≡◌, Bool, List, [], ◌∷◌, ◌++◌, Option, filter, map}
use Rattle.std.specs.List.{list_any}
use Rattle.entry_list.specs.InTurn.{InTurn}
use Rattle.named_entries.specs.Named.{NamedList, HoldsNamed}
use Rattle.def_design.specs.declared.blockages.Blockages.{Blockages}
use Rattle.def_design.specs.declared.blockages.Open.{Open}
use Rattle.def_design.specs.declared.components.Components.{Components}
use Rattle.def_design.specs.declared.held.Held.{Held}
use Rattle.def_design.specs.declared.held.Said.{Said}
use Rattle.def_design.specs.declared.record.Component.{Component}
use Rattle.def_design.specs.declared.record.Fence.{Fence}
use Rattle.def_design.specs.declared.record.Row.{Row}
use Rattle.def_design.specs.declared.regions.Regions.{Regions}
use Rattle.def_design.specs.declared.top.Top.{Top}
use Rattle.def_design.specs.declared.value.Value.{Value}
use Rattle.def_design.specs.Fault.{head_name}
use Rattle.def_design.specs.Format.{format}
use Rattle.def_design.specs.inside.Value.{says}
use Rattle.def_design.specs.Record.{Stated, SaysName, SaysUnits, SaysDie, SaysRow, SaysComponent, SaysSpacing, SaysBlockage, SaysRegion, entry_by, entry_of, each_after, blocks_wires}
use Rattle.def_design.specs.Unit.{is_design, is_units, is_die, is_row, is_component, is_layer, is_spacing, excepts, is_region}
use Rattle.def_statements.specs.Standing.{standing_of}
use Rattle.def_statements.specs.Unit.{text_at}
use Rattle.lef_statements.specs.First.{first_with}
use Rattle.reading.specs.Blocks.{Block, blocks}
use Rattle.reading.specs.declared.word.Heard.{Heard}
use Rattle.reading.specs.Grammar.{IsTaken, AreHeard}
use Rattle.reading.specs.Word.{Token, heard_token}

-- What was held leads to what is held after one more unit.
abbrev pub Leads : {X : Type 0} → (List (List Token) → X → Type 0) → List Token → X → X → Type 0
Leads holds unit old new = (units : List (List Token)) → holds units old → holds (units ++ unit ∷ []) new

-- These words are a whole unit after these units, none of them has shown a fault, and each says its value.
pub record IsWhole (units : List (List Token)) (unit : List (Heard Value)) : Type 0 where
  pub wiring : Bool
  pub taken : IsTaken (format wiring) units (map heard_token unit)
  pub heard : AreHeard (says units) [] unit

-- What holds wherever these words are a whole unit.
abbrev pub WhenWhole : List (Heard Value) → Type 0 → Type 0
WhenWhole unit held = (units : List (List Token)) → IsWhole units unit → held

-- What was held of the units leads to what is held with a whole unit more.
abbrev pub Takes : {X : Type 0} → (List (List Token) → X → Type 0) → List (Heard Value) → X → X → Type 0
Takes holds unit old new = (units : List (List Token)) → IsWhole units unit → holds units old →
    holds (units ++ map heard_token unit ∷ []) new

-- What the first of the units of a kind says, if there is one.
abbrev pub FirstSays : {E : Type 0} → (List Token → Bool) → (List Token → E → Type 0) → List (List Token) → Option E →
    Type 0
FirstSays is says units value = Stated says (first_with is units) value

pub record HoldsTop (text : List (List Token)) (top : Top) : Type 0 where
  pub name : FirstSays is_design SaysName text top.name
  pub units : FirstSays is_units SaysUnits text top.units
  pub die : FirstSays is_die SaysDie text top.die

abbrev pub HoldsRows : List (List Token) → List Row → Type 0
HoldsRows units rows = InTurn SaysRow (filter is_row units) rows

abbrev pub components_of : Components → NamedList Component
components_of said = record { names = said.names.names; entries = said.items.items }

-- The entries of components with their names.
abbrev pub HoldsComponents : List (List Token) → Components → Type 0
HoldsComponents units said = HoldsNamed SaysComponent head_name (blocks is_component units) (components_of said)

abbrev pub regions_of : Regions → NamedList Fence
regions_of said = record { names = said.names.names; entries = said.items.items }

-- The entries of regions with their names.
abbrev pub HoldsRegions : List (List Token) → Regions → Type 0
HoldsRegions units said = HoldsNamed SaysRegion head_name (blocks is_region units) (regions_of said)

-- What the entry over a layer has said so far.
pub record IsOpen (entry : Block Token) (said : Open) : Type 0 where
  pub layer : said.layer.now ≡ text_at 1 entry.head
  pub spacing : Stated SaysSpacing (first_with is_spacing entry.body) said.spacing
  pub excepts : said.excepts ≡ list_any excepts entry.body

-- One more unit of the entry, or the head of another one.
abbrev pub GoesOn : List Token → Open → Open → Type 0
GoesOn unit old new = (entry : Block Token) → IsOpen entry old → IsOpen (entry_by (is_layer unit) entry unit) new

pub record HoldsBlockages (units : List (List Token)) (said : Blockages) : Type 0 where
  pub «open» : IsOpen (entry_of units) said.open
  pub items : InTurn SaysBlockage (filter blocks_wires (each_after [] units)) said.items.items

-- The rectangles with those of one more unit.
abbrev pub AddsRect : List Token → Blockages → Blockages → Type 0
AddsRect unit old new = (units : List (List Token)) → HoldsBlockages units old →
    InTurn SaysBlockage (filter blocks_wires (each_after [] (units ++ unit ∷ []))) new.items.items

pub record HoldsSaid (units : List (List Token)) (said : Said) : Type 0 where
  pub top : HoldsTop units said.top
  pub rows : HoldsRows units said.rows.items
  pub components : HoldsComponents units said.components
  pub blockages : HoldsBlockages units said.blockages
  pub regions : HoldsRegions units said.regions

pub record Holds (units : List (List Token)) (held : Held) : Type 0 where
  pub standing : held.standing ≡ standing_of units
  pub said : HoldsSaid units held.said
