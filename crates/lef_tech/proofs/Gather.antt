-- Layers that are gathered in a loop over statements.
use Rattle.std.proofs.Common.{◌≡◌, ℕ, ◌+◌, ◌<◌, List, ◌∷◌, length, get_or, drop, Option, ◌∙◌, ap, subst}
use Rattle.lef_tech.specs.declared.stack.AnyLayer.{AnyLayer}
use Rattle.lef_tech.specs.declared.stack.Stack.{Stack}
use Rattle.lef_tech.specs.declared.statement.Statement.{Statement}
use Rattle.lef_tech.specs.Record.{layers_of, with_layer}
use Rattle.lef_tech.specs.inside.Stack.{IsStackTo}
use Rattle.lef_tech.proofs.Steps.{step}

pub stack_step : (all : List AnyLayer) (xs : List Statement) (i : ℕ) (x : Statement) (layer : Option AnyLayer) (old : Stack) → i < length xs → x ≡ get_or xs i x →
    layers_of (x ∷ drop (i + 1) xs) ≡ with_layer layer (layers_of (drop (i + 1) xs)) → IsStackTo all (layers_of (drop i xs)) old →
    IsStackTo all (with_layer layer (layers_of (drop (i + 1) xs))) old
stack_step all xs i x layer old lt e is h = subst (λ z. IsStackTo all z old) (ap layers_of (step xs i x lt e) ∙ is) h
