-- The lengths that are no whole number of units, and the widths that are odd in units: those of the script's stripes and
-- rings in the order of their places, in one command in the order of its options, and then those of the rows' sites.
use Rattle.std.specs.Prelude.{ℕ, ◌*◌, ◌%◌, if◌then◌else◌, List, [], ◌∷◌, ◌++◌, Option, Some, None}
use Rattle.std.specs.Bool.{nat_eq}
use Rattle.std.specs.Option.{option_or, option_to_list}
use Rattle.lef_cells.specs.declared.record.Cells.{Cells}
use Rattle.def_design.specs.declared.record.Design.{Design}
use Rattle.def_design.specs.declared.record.Row.{Row}
use Rattle.pdn_script.specs.declared.record.Ring.{Ring}
use Rattle.pdn_script.specs.declared.record.Script.{Script}
use Rattle.pdn_script.specs.declared.record.Stripe.{Stripe}
use Rattle.via_arrays.specs.Lengths.{in_units}
use Rattle.grid_plan.specs.Names.{Names}
use Rattle.grid_plan.specs.Order.{first_some, placed, earlier, unplaced}
use Rattle.grid_plan.specs.Rows.{site_width, site_height}

-- The length, where it is no whole number of units.
abbrev pub off_grid : ℕ → ℕ → Option ℕ
off_grid units length = if nat_eq (length * units % 1000000) 0 then None else Some length

-- The width, where it is odd in units.
abbrev pub odd : ℕ → ℕ → Option ℕ
odd units width = if nat_eq (in_units units width % 2) 0 then None else Some width

-- The lengths of straps; rails have a width alone.
abbrev pub strap_lengths : Stripe → List ℕ
strap_lengths stripe =
    option_to_list stripe.pitch ++ option_to_list stripe.spacing ++ stripe.offset ∷ []

abbrev pub stripe_lengths : Stripe → List ℕ
stripe_lengths stripe = stripe.width ∷ (if stripe.followpins then [] else strap_lengths stripe)

abbrev pub ring_lengths : Ring → List ℕ
ring_lengths ring = ring.widths ++ ring.spacings ++ ring.core_offsets

abbrev pub row_lengths : Cells → Names → Row → List ℕ
row_lengths cells names row = site_width cells names row ∷ site_height cells names row ∷ []

-- The first of lengths that is off the grid.
abbrev pub first_off : ℕ → List ℕ → Option ℕ
first_off units = first_some (off_grid units)

-- The first length of a script that is.
abbrev pub off_in_script : ℕ → Script → Option ℕ
off_in_script units script = unplaced
    (earlier (first_some (λ (s : Stripe). placed s.place (first_off units (stripe_lengths s))) script.stripes)
    (first_some (λ (r : Ring). placed r.place (first_off units (ring_lengths r))) script.rings))

-- The first of all.
abbrev pub first_off_grid : Cells → Names → Design → Script → ℕ → Option ℕ
first_off_grid cells names design script units = option_or (off_in_script units script)
    (first_some (λ (row : Row). first_off units (row_lengths cells names row)) design.rows)

-- The first width that is odd.
abbrev pub first_odd : Script → ℕ → Option ℕ
first_odd script units = unplaced
    (earlier (first_some (λ (s : Stripe). placed s.place (odd units s.width)) script.stripes)
    (first_some (λ (r : Ring). placed r.place (first_some (odd units) r.widths)) script.rings))
