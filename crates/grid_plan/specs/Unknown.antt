-- The first name that is not known: those of the script's commands in the order of their places, then the sites of the
-- rows, then the cells of the components (OpenROAD PDN manual; LEF/DEF 5.8 Language Reference, ROW and COMPONENTS).
--
-- In one command names are asked in the order of the options. Each list of the script stands in the order of its commands,
-- so that the earliest of all is among the first of each list.
use Rattle.std.specs.Prelude.{ℕ, if◌then◌else◌, List, [], map, slice_index_or, Option, Some, None}
use Rattle.std.specs.Option.{is_some, option_or}
use Rattle.name_places.specs.Places.{place_of}
use Rattle.outside.specs.declared.place.Place.{Place}
use Rattle.def_design.specs.declared.record.Component.{Component}
use Rattle.def_design.specs.declared.record.Design.{Design}
use Rattle.def_design.specs.declared.record.Row.{Row}
use Rattle.pdn_script.specs.declared.record.Connect.{Connect}
use Rattle.pdn_script.specs.declared.record.Domain.{Domain}
use Rattle.pdn_script.specs.declared.record.GridRule.{GridRule}
use Rattle.pdn_script.specs.declared.record.Ring.{Ring}
use Rattle.pdn_script.specs.declared.record.Script.{Script}
use Rattle.pdn_script.specs.declared.record.Stripe.{Stripe}
use Rattle.grid_plan.specs.Names.{Names, domain_nets, place_in}
use Rattle.grid_plan.specs.Order.{first_some, placed, earlier, unplaced}

-- The name, where it is none of these.
abbrev pub unknown : List (List ℕ) → List ℕ → Option (List ℕ)
unknown names name = if is_some (place_of names name) then None else Some name

-- The domain of a grid, by its place.
abbrev pub domain_of : Names → Script → List ℕ → ℕ
domain_of names script grid =
    slice_index_or (map (λ (g : GridRule). place_in names.domains g.voltage_domains) script.grids)
    (place_in names.grids grid) 0

-- The power and the ground net of the domain of a grid.
abbrev pub grid_nets : Names → Script → List ℕ → List (List ℕ)
grid_nets names script grid = slice_index_or (map domain_nets script.domains) (domain_of names script grid) []

-- The first net that is stated and none of its domain.
abbrev pub unknown_net : List (List ℕ) → Option (List (List ℕ)) → Option (List ℕ)
unknown_net nets None = None
unknown_net nets (Some stated) = first_some (unknown nets) stated

-- The region that is stated, where it is none of these.
abbrev pub unknown_region : List (List ℕ) → Option (List ℕ) → Option (List ℕ)
unknown_region regions None = None
unknown_region regions (Some region) = unknown regions region

abbrev pub unknown_in_domain : Names → Domain → Option (List ℕ)
unknown_in_domain names domain = unknown_region names.regions domain.region

-- Rails are of the two nets of their domain, whatever is stated.
abbrev pub unknown_in_stripe : Names → Script → Stripe → Option (List ℕ)
unknown_in_stripe names script stripe = option_or (unknown names.layers stripe.layer)
    (if stripe.followpins then None else unknown_net (grid_nets names script stripe.grid) stripe.nets)

abbrev pub unknown_in_ring : Names → Script → Ring → Option (List ℕ)
unknown_in_ring names script ring = option_or (first_some (unknown names.layers) ring.layers)
    (unknown_net (grid_nets names script ring.grid) ring.nets)

abbrev pub unknown_in_connect : Names → Connect → Option (List ℕ)
unknown_in_connect names connect = first_some (unknown names.layers) connect.layers

-- The first unknown name of each list of commands.
abbrev pub unknown_of_domains : Names → List Domain → Option (Place × List ℕ)
unknown_of_domains names = first_some (λ (d : Domain). placed d.place (unknown_in_domain names d))

abbrev pub unknown_of_stripes : Names → Script → List Stripe → Option (Place × List ℕ)
unknown_of_stripes names script = first_some (λ (s : Stripe). placed s.place (unknown_in_stripe names script s))

abbrev pub unknown_of_rings : Names → Script → List Ring → Option (Place × List ℕ)
unknown_of_rings names script = first_some (λ (r : Ring). placed r.place (unknown_in_ring names script r))

abbrev pub unknown_of_connects : Names → List Connect → Option (Place × List ℕ)
unknown_of_connects names = first_some (λ (c : Connect). placed c.place (unknown_in_connect names c))

-- The first unknown name of a script.
abbrev pub unknown_in_script : Names → Script → Option (List ℕ)
unknown_in_script names script = unplaced
    (earlier (earlier (unknown_of_domains names script.domains) (unknown_of_stripes names script script.stripes))
    (earlier (unknown_of_rings names script script.rings) (unknown_of_connects names script.connects)))

-- The first unknown name of a design.
abbrev pub unknown_in_design : Names → Design → Option (List ℕ)
unknown_in_design names design = option_or (first_some (λ (row : Row). unknown names.sites row.site) design.rows)
    (first_some (λ (c : Component). unknown names.macros c.cell) design.components)

-- The first unknown name of all.
abbrev pub first_unknown : Names → Design → Script → Option (List ℕ)
first_unknown names design script = option_or (unknown_in_script names script) (unknown_in_design names design)
