-- The layers that have been gathered.
use Rattle.std.specs.Prelude.{◌≡◌, ◌++◌, List, Option, length}
use Rattle.lef_tech.specs.declared.stack.AnyLayer.{AnyLayer}
use Rattle.lef_tech.specs.declared.stack.Stack.{Stack}
use Rattle.lef_tech.specs.Record.{wires_of, cuts_of, order_from, with_layer}

-- The layers of a list, in their order and by type.
pub record IsStack (all : List AnyLayer) (stack : Stack) : Type 0 where
  pub order : stack.order.items ≡ order_from 0 0 all
  pub wires : stack.wires.items ≡ wires_of all
  pub cuts : stack.cuts.items ≡ cuts_of all

-- With those that are still to come, they are the layers of the list.
pub record IsStackTo (all rest : List AnyLayer) (stack : Stack) : Type 0 where
  pub order : stack.order.items ++ order_from (length stack.wires.items) (length stack.cuts.items) rest ≡ order_from 0 0 all
  pub wires : stack.wires.items ++ wires_of rest ≡ wires_of all
  pub cuts : stack.cuts.items ++ cuts_of rest ≡ cuts_of all

-- One layer more, or none, has gone from those still to come to the others.
abbrev pub AddsLayer : Stack → Option AnyLayer → Stack → Type 0
AddsLayer old layer new =
    (all : List AnyLayer) (rest : List AnyLayer) → IsStackTo all (with_layer layer rest) old → IsStackTo all rest new
