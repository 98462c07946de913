-- What every record of a script keeps: numbers are within their limits, names are names, domains and grids have distinct names, and
-- each domain and grid that a command names stands in it.
use Rattle.std.specs.Prelude.{◌≡◌, ◌<◌, ◌≤◌, ◌^◌, ℕ, List, length, map, All, Contains, Option, None, Some}
use Rattle.name_table.specs.Numbering.{AreDistinct}
use Rattle.pdn_script.specs.declared.record.Connect.{Connect}
use Rattle.pdn_script.specs.declared.record.Domain.{Domain}
use Rattle.pdn_script.specs.declared.record.GridRule.{GridRule}
use Rattle.pdn_script.specs.declared.record.Ring.{Ring}
use Rattle.pdn_script.specs.declared.record.Script.{Script}
use Rattle.pdn_script.specs.declared.record.Stripe.{Stripe}
use Rattle.text_lex.specs.Name.{IsName}

-- A length is at most 100 mm, in pm.
abbrev pub IsLength : ℕ → Type 0
IsLength length = length ≤ 10 ^ 11

-- A width or a pitch is above 0.
abbrev pub IsWidth : ℕ → Type 0
IsWidth length = (0 < length) × (length ≤ 10 ^ 11)

-- A count is from 1 to 10^6.
abbrev pub IsCount : ℕ → Type 0
IsCount count = (0 < count) × (count ≤ 10 ^ 6)

-- What is stated keeps this.
abbrev pub Keeps : {A : Type 0} → (A → Type 0) → Option A → Type 0
Keeps keeps None = Unit {0}
Keeps keeps (Some a) = keeps a

abbrev pub AreNames : List (List ℕ) → Type 0
AreNames names = All IsName names

pub record DomainKeeps (domain : Domain) : Type 0 where
  pub name : IsName domain.name
  pub power : IsName domain.power
  pub ground : IsName domain.ground
  pub region : Keeps IsName domain.region

-- The grid's domain is one of these.
pub record GridKeeps (domains : List (List ℕ)) (grid : GridRule) : Type 0 where
  pub name : IsName grid.name
  pub domain : Contains domains grid.voltage_domains
  pub pins : Keeps AreNames grid.pins
  pub orient : Keeps AreNames grid.orient
  pub halo : Keeps (All IsLength) grid.halo
  pub cells : Keeps AreNames grid.cells
  pub instances : Keeps AreNames grid.instances

-- The stripe's grid is one of these.
pub record StripeKeeps (grids : List (List ℕ)) (stripe : Stripe) : Type 0 where
  pub layer : IsName stripe.layer
  pub width : IsWidth stripe.width
  pub pitch : Keeps IsWidth stripe.pitch
  pub grid : Contains grids stripe.grid
  pub spacing : Keeps IsLength stripe.spacing
  pub offset : IsLength stripe.offset
  pub number_of_straps : Keeps IsCount stripe.number_of_straps
  pub nets : Keeps AreNames stripe.nets

-- The ring's grid is one of these.
pub record RingKeeps (grids : List (List ℕ)) (ring : Ring) : Type 0 where
  pub layers : length ring.layers ≡ 2
  pub layer_names : AreNames ring.layers
  pub widths : All IsWidth ring.widths
  pub spacings : All IsLength ring.spacings
  pub core_offsets : All IsLength ring.core_offsets
  pub grid : Contains grids ring.grid
  pub nets : Keeps AreNames ring.nets

-- The connect's grid is one of these.
pub record ConnectKeeps (grids : List (List ℕ)) (connect : Connect) : Type 0 where
  pub layers : length connect.layers ≡ 2
  pub layer_names : AreNames connect.layers
  pub grid : Contains grids connect.grid
  pub max_rows : Keeps IsCount connect.max_rows
  pub max_columns : Keeps IsCount connect.max_columns

-- Domains and grids have distinct names, and a grid has at most one ring.
pub record ScriptKeeps (script : Script) : Type 0 where
  pub domain_names : AreDistinct (map (λ (domain : Domain). domain.name) script.domains)
  pub grid_names : AreDistinct (map (λ (grid : GridRule). grid.name) script.grids)
  pub one_ring : AreDistinct (map (λ (ring : Ring). ring.grid) script.rings)
  pub domains : All DomainKeeps script.domains
  pub grids : All (GridKeeps (map (λ (domain : Domain). domain.name) script.domains)) script.grids
  pub stripes : All (StripeKeeps (map (λ (grid : GridRule). grid.name) script.grids)) script.stripes
  pub rings : All (RingKeeps (map (λ (grid : GridRule). grid.name) script.grids)) script.rings
  pub connects : All (ConnectKeeps (map (λ (grid : GridRule). grid.name) script.grids)) script.connects
