-- What the reader holds after whole units.
use Rattle.std.specs.Prelude.{◌≡◌, ℕ, ◌+◌, ◌-◌, ◌≤◌, ◌<◌, ◌^◌, Bool, true, false, List, map, length, Option, Contains}
use Rattle.lef_tech.specs.declared.held.Held.{Held}
use Rattle.lef_tech.specs.declared.section.Section.{Section}
use Rattle.lef_tech.specs.declared.section.Section.TheVariants.{Top, LayerStart}
use Rattle.lef_tech.specs.declared.shape.Shape.{Shape}
use Rattle.lef_tech.specs.declared.shape.Shape.TheVariants.{Two}
use Rattle.lef_tech.specs.declared.sort.Sort.{Sort}
use Rattle.lef_tech.specs.declared.sort.Sort.TheVariants.{Layer, ViaRule}
use Rattle.lef_tech.specs.declared.state.State.{State}
use Rattle.lef_tech.specs.declared.statement.Statement.{Statement}
use Rattle.lef_tech.specs.Known.{name_of}
use Rattle.lef_tech.specs.Record.{Told, stated}
use Rattle.lef_tech.specs.State.{first_state}
use Rattle.lef_tech.specs.Turn.{state_of}
use Rattle.reading.specs.Word.{Token}

-- A layer's name has been read, and its type comes next.
abbrev pub is_start : Section → Bool
is_start LayerStart = true
is_start _ = false

-- What every state keeps: the name of a layer whose type comes next is new, no layer's start is come back to, and each
-- routing or cut layer is a layer.
pub record Sound (state : State) : Type 0 where
  pub back : is_start state.place.back ≡ false
  pub fresh : is_start state.place.section ≡ true → ¬ Contains (map name_of state.layers) state.place.name
  pub count : state.routing + state.cuts ≤ length state.layers

-- The name of a new layer or rule stands nowhere before.
abbrev pub IsNewName : State → Shape → Section → Token → Type 0
IsNewName state (Two Layer name) Top last = ¬ Contains (map name_of state.layers) last.text
IsNewName state (Two ViaRule name) Top last = ¬ Contains state.rules last.text
IsNewName state shape section last = Unit {0}

-- The same of what is the name of a rule after this word.
abbrev pub IsNewRule : Sort → List (List ℕ) → List ℕ → Type 0
IsNewRule ViaRule rules name = ¬ Contains rules name
IsNewRule sort rules name = Unit {0}

-- What is needed for one more unit of these sorts with this last word.
pub record IsReady (state : State) (shape : Shape) (last : Token) : Type 0 where
  pub sound : Sound state
  pub name : IsNewName state shape state.place.section last
  pub left : state.place.left < 2 ^ 64 - 1

-- The state after the units, and the statements that they say.
pub record Holds (units : List (List Token)) (held : Held) : Type 0 where
  pub state : held.state ≡ state_of units
  pub sound : Sound (state_of units)
  pub told : List (Option Statement)
  pub tells : Told first_state units told
  pub statements : held.statements.items ≡ stated told
