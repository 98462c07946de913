-- What whole units lead to: where the next one stands, and which layers and rules are known.
use Rattle.std.specs.Prelude.{[]}
use Rattle.lef_statements.specs.declared.passing.Passing.TheVariants.{Statement}
use Rattle.lef_tech.specs.declared.section.Section.TheVariants.{Top}
use Rattle.lef_tech.specs.declared.state.Place.{Place}
use Rattle.lef_tech.specs.declared.state.State.{State}

-- The place of the first unit: between sections.
abbrev pub first_place : Place
first_place = record { section = Top; back = Top; passing = Statement; name = []; left = 0; point = [] }

-- Nothing is known at first.
abbrev pub first_state : State
first_state = record { place = first_place; layers = []; routing = 0; cuts = 0; rules = [] }
