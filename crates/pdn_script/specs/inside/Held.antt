-- What the reader holds after whole units.
use Rattle.std.specs.Prelude.{◌≡◌, List, map, All, Contains, Option}
use Rattle.name_table.specs.Numbering.{AreDistinct}
use Rattle.pdn_script.specs.declared.held.Held.{Held}
use Rattle.pdn_script.specs.declared.held.Lists.{Lists}
use Rattle.pdn_script.specs.declared.known.Known.{Known}
use Rattle.pdn_script.specs.declared.record.Domain.{Domain}
use Rattle.pdn_script.specs.declared.record.GridRule.{GridRule}
use Rattle.pdn_script.specs.declared.record.Ring.{Ring}
use Rattle.pdn_script.specs.declared.record.Script.{Script}
use Rattle.pdn_script.specs.declared.statement.Statement.{Statement}
use Rattle.pdn_script.specs.Known.{nothing_known, known_of}
use Rattle.pdn_script.specs.Limits.{Keeps, DomainKeeps, GridKeeps, StripeKeeps, RingKeeps, ConnectKeeps}
use Rattle.pdn_script.specs.Record.{Told, no_commands, script_from}
use Rattle.reading.specs.Word.{Token}

-- The script of the lists.
abbrev pub script_in : Lists → Script
script_in lists = record {
  domains = lists.domains.items;
  grids = lists.grids.items;
  stripes = lists.stripes.items;
  rings = lists.rings.items;
  connects = lists.connects.items;
}

-- What the script so far keeps, with what its commands have named: these are its names, and its entries keep their limits.
pub record KeepsWith (known : Known) (script : Script) : Type 0 where
  pub domain_names : map (λ (domain : Domain). domain.name) script.domains ≡ known.domains
  pub grid_names : map (λ (grid : GridRule). grid.name) script.grids ≡ known.grids
  pub ring_grids : map (λ (ring : Ring). ring.grid) script.rings ≡ known.ringed
  pub distinct_domains : AreDistinct known.domains
  pub distinct_grids : AreDistinct known.grids
  pub one_ring : AreDistinct known.ringed
  pub last_domain : Keeps (Contains known.domains) known.last_domain
  pub last_grid : Keeps (Contains known.grids) known.last_grid
  pub domains : All DomainKeeps script.domains
  pub grids : All (GridKeeps known.domains) script.grids
  pub stripes : All (StripeKeeps known.grids) script.stripes
  pub rings : All (RingKeeps known.grids) script.rings
  pub connects : All (ConnectKeeps known.grids) script.connects

-- What the units have named, and the script that they say, which keeps its limits.
pub record Holds (units : List (List Token)) (held : Held) : Type 0 where
  pub known : held.known ≡ known_of units
  pub told : List (Option Statement)
  pub tells : Told nothing_known units told
  pub script : script_in held.lists ≡ script_from no_commands told
  pub kept : KeepsWith held.known (script_in held.lists)
