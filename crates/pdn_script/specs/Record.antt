-- What the commands of a script say.
use Rattle.std.specs.Prelude.{◌≡◌, Bool, true, false, ◌||◌, List, [], ◌∷◌, ◌++◌, Option, None, Some}
use Rattle.pdn_script.specs.declared.known.Known.{Known}
use Rattle.pdn_script.specs.declared.record.Connect.{Connect}
use Rattle.pdn_script.specs.declared.record.Domain.{Domain}
use Rattle.pdn_script.specs.declared.record.GridRule.{GridRule}
use Rattle.pdn_script.specs.declared.record.Ring.{Ring}
use Rattle.pdn_script.specs.declared.record.Script.{Script}
use Rattle.pdn_script.specs.declared.record.Stripe.{Stripe}
use Rattle.pdn_script.specs.declared.statement.Statement.{Statement}
use Rattle.pdn_script.specs.declared.statement.Statement.TheVariants as says
use Rattle.pdn_script.specs.Field.{maybe_start, start_or_ground, IsNames, IsMaybeNames, IsNumber, IsMaybeNumber, IsNumberOrZero, AreNumbers, AreMaybeNumbers}
use Rattle.pdn_script.specs.Given.{value, stands}
use Rattle.pdn_script.specs.Known.{nothing_known, or_empty, domain_name, or_last, known_after}
use Rattle.pdn_script.specs.Sort.{is_end}
use Rattle.reading.specs.Word.{Token}
use Rattle.script_options.specs.declared.command.Command.{Command}
use Rattle.script_options.specs.declared.command.Command.TheVariants.{SetVoltageDomain, DefinePdnGrid, AddPdnStripe, AddPdnRing, AddPdnConnect}
use Rattle.script_options.specs.declared.number.Quantity.TheVariants as quantities
use Rattle.script_options.specs.declared.option.ScriptOption.TheVariants as options
use Rattle.script_options.specs.Command.{command_named}

-- `set_voltage_domain`
pub record IsDomain (first : Token) (words : List Token) (domain : Domain) : Type 0 where
  pub name : domain.name ≡ domain_name words
  pub power : domain.power ≡ or_empty (value options.Power words)
  pub ground : domain.ground ≡ or_empty (value options.Ground words)
  pub region : domain.region ≡ value options.Region words
  pub place : domain.place ≡ first.place

-- `define_pdn_grid`, after the commands that have named this.
pub record IsGrid (known : Known) (first : Token) (words : List Token) (grid : GridRule) : Type 0 where
  pub name : grid.name ≡ or_empty (value options.Name words)
  pub voltage_domains : grid.voltage_domains ≡ or_last (value options.VoltageDomains words) known.last_domain
  pub starts_with : grid.starts_with ≡ start_or_ground (value options.StartsWith words)
  pub pins : IsMaybeNames (value options.Pins words) grid.pins
  pub macro_ : grid.macro_ ≡ stands options.Macro words
  pub orient : IsMaybeNames (value options.Orient words) grid.orient
  pub halo : AreMaybeNumbers (value options.Halo words) grid.halo
  pub cells : IsMaybeNames (value options.Cells words) grid.cells
  pub instances : IsMaybeNames (value options.Instances words) grid.instances
  pub default : grid.default ≡ stands options.Default words
  pub grid_over_boundary : grid.grid_over_boundary ≡ stands options.GridOverBoundary words
  pub grid_over_pg_pins : grid.grid_over_pg_pins ≡ stands options.GridOverPgPins words
  pub place : grid.place ≡ first.place

-- `add_pdn_stripe`, after the commands that have named this.
pub record IsStripe (known : Known) (first : Token) (words : List Token) (stripe : Stripe) : Type 0 where
  pub layer : stripe.layer ≡ or_empty (value options.Layer words)
  pub width : IsNumber quantities.Width (value options.Width words) stripe.width
  pub pitch : IsMaybeNumber quantities.Width (value options.Pitch words) stripe.pitch
  pub grid : stripe.grid ≡ or_last (value options.Grid words) known.last_grid
  pub spacing : IsMaybeNumber quantities.Length (value options.Spacing words) stripe.spacing
  pub offset : IsNumberOrZero (value options.Offset words) stripe.offset
  pub followpins : stripe.followpins ≡ stands options.Followpins words
  pub extend_to_core_ring : stripe.extend_to_core_ring ≡ stands options.ExtendToCoreRing words
  pub extend_to_boundary : stripe.extend_to_boundary ≡ stands options.ExtendToBoundary words
  pub number_of_straps : IsMaybeNumber quantities.Count (value options.NumberOfStraps words) stripe.number_of_straps
  pub starts_with : stripe.starts_with ≡ maybe_start (value options.StartsWith words)
  pub nets : IsMaybeNames (value options.Nets words) stripe.nets
  pub place : stripe.place ≡ first.place

-- `add_pdn_ring`, after the commands that have named this.
pub record IsRing (known : Known) (first : Token) (words : List Token) (ring : Ring) : Type 0 where
  pub layers : IsNames (value options.Layers words) ring.layers
  pub widths : AreNumbers quantities.Width (value options.Widths words) ring.widths
  pub spacings : AreNumbers quantities.Length (value options.Spacings words) ring.spacings
  pub core_offsets : AreNumbers quantities.Length (value options.CoreOffsets words) ring.core_offsets
  pub grid : ring.grid ≡ or_last (value options.Grid words) known.last_grid
  pub starts_with : ring.starts_with ≡ maybe_start (value options.StartsWith words)
  pub nets : IsMaybeNames (value options.Nets words) ring.nets
  pub add_connect : ring.add_connect ≡ stands options.AddConnect words
  pub place : ring.place ≡ first.place

-- `add_pdn_connect`, after the commands that have named this.
pub record IsConnect (known : Known) (first : Token) (words : List Token) (connect : Connect) : Type 0 where
  pub layers : IsNames (value options.Layers words) connect.layers
  pub grid : connect.grid ≡ or_last (value options.Grid words) known.last_grid
  pub max_rows : IsMaybeNumber quantities.Count (value options.MaxRows words) connect.max_rows
  pub max_columns : IsMaybeNumber quantities.Count (value options.MaxColumns words) connect.max_columns
  pub place : connect.place ≡ first.place

-- What a command says after the commands that have named this; other commands say nothing.
abbrev pub SaysCommand : Known → Token → List Token → Command → Option Statement → Type 0
SaysCommand known first words SetVoltageDomain told =
    (domain : Domain) × IsDomain first words domain × (told ≡ Some (says.Domain domain))
SaysCommand known first words DefinePdnGrid told =
    (grid : GridRule) × IsGrid known first words grid × (told ≡ Some (says.Grid grid))
SaysCommand known first words AddPdnStripe told =
    (stripe : Stripe) × IsStripe known first words stripe × (told ≡ Some (says.Stripe stripe))
SaysCommand known first words AddPdnRing told =
    (ring : Ring) × IsRing known first words ring × (told ≡ Some (says.Ring ring))
SaysCommand known first words AddPdnConnect told =
    (connect : Connect) × IsConnect known first words connect × (told ≡ Some (says.Connect connect))
SaysCommand known first words _ told = told ≡ None

abbrev pub SaysFirst : Known → Token → List Token → Option Statement → Type 0
SaysFirst known first words told = SaysCommand known first words (command_named first.text) told

-- What a unit says; one that is passed over, or an end alone, says nothing.
abbrev pub SaysUnless : Bool → Known → Token → List Token → Option Statement → Type 0
SaysUnless true known first words told = told ≡ None
SaysUnless false known first words told = SaysFirst known first words told

abbrev pub Says : Known → List Token → Option Statement → Type 0
Says known [] told = told ≡ None
Says known (first ∷ words) told = SaysUnless (known.passing || is_end first) known first words told

-- What each of the units says, after the commands that have named this.
abbrev pub Told : Known → List (List Token) → List (Option Statement) → Type 0
Told known [] [] = Unit {0}
Told known (unit ∷ units) (one ∷ told) = Says known unit one × Told (known_after known unit) units told
Told known _ _ = ⊥

-- The script with one more command.
abbrev pub with_statement : Script → Option Statement → Script
with_statement script None = script
with_statement script (Some (says.Domain domain)) = record script { domains = script.domains ++ domain ∷ [] }
with_statement script (Some (says.Grid grid)) = record script { grids = script.grids ++ grid ∷ [] }
with_statement script (Some (says.Stripe stripe)) = record script { stripes = script.stripes ++ stripe ∷ [] }
with_statement script (Some (says.Ring ring)) = record script { rings = script.rings ++ ring ∷ [] }
with_statement script (Some (says.Connect connect)) = record script { connects = script.connects ++ connect ∷ [] }

abbrev pub script_from : Script → List (Option Statement) → Script
script_from script [] = script
script_from script (one ∷ told) = script_from (with_statement script one) told

abbrev pub no_commands : Script
no_commands = record { domains = []; grids = []; stripes = []; rings = []; connects = [] }

-- The script of these units: each list has what its commands say, in their order.
abbrev pub IsScript : List (List Token) → Script → Type 0
IsScript units script =
    (told : List (Option Statement)) × Told nothing_known units told × (script ≡ script_from no_commands told)
