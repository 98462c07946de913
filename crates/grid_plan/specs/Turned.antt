-- What the directions of layers refuse (LEF/DEF 5.8 Language Reference, DIRECTION).
use Rattle.std.specs.Prelude.{ℕ, Bool, true, false, ◌&&◌, if◌then◌else◌, List, Option, Some, None}
use Rattle.geom_rect.specs.declared.direction.Axis.{Axis}
use Rattle.geom_rect.specs.declared.direction.Axis.TheVariants.{X, Y}
use Rattle.lef_tech.specs.declared.tech.Tech.{Tech}
use Rattle.via_arrays.specs.Choice.{direction}
use Rattle.pdn_script.specs.declared.record.Connect.{Connect}
use Rattle.pdn_script.specs.declared.record.Ring.{Ring}
use Rattle.pdn_script.specs.declared.record.Stripe.{Stripe}
use Rattle.grid_plan.specs.Names.{Names, place_in}
use Rattle.grid_plan.specs.Order.{first_some, first_place}
use Rattle.grid_plan.specs.Resolved.{layer_at, is_upright}

abbrev pub same_axis : Axis → Axis → Bool
same_axis X X = true
same_axis X Y = false
same_axis Y X = false
same_axis Y Y = true

-- Two layers have one direction; one layer alone has.
abbrev pub are_parallel : Tech → Names → List (List ℕ) → Bool
are_parallel tech names layers =
    same_axis (direction tech (layer_at names layers 0)) (direction tech (layer_at names layers 1))

-- The first ring whose layers are so.
abbrev pub first_straight : Tech → Names → List Ring → Option ℕ
first_straight tech names rings = first_place (λ (r : Ring). are_parallel tech names r.layers) rings

-- The first connect whose layers are so.
abbrev pub first_parallel : Tech → Names → List Connect → Option ℕ
first_parallel tech names connects = first_place (λ (c : Connect). are_parallel tech names c.layers) connects

-- Rails lie on a layer that is not horizontal.
abbrev pub is_upended : Tech → Names → Stripe → Bool
is_upended tech names stripe = stripe.followpins && is_upright (direction tech (place_in names.layers stripe.layer))

abbrev pub upended_layer : Tech → Names → Stripe → Option ℕ
upended_layer tech names stripe =
    if is_upended tech names stripe then Some (place_in names.layers stripe.layer) else None

-- The layer of the first rails that do.
abbrev pub first_upended : Tech → Names → List Stripe → Option ℕ
first_upended tech names stripes = first_some (upended_layer tech names) stripes
