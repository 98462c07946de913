-- What the commands of a script have named: domains, nets, grids, and grids with rings.
use Rattle.std.specs.Prelude.{ℕ, Bool, true, false, not, ◌||◌, List, [], ◌∷◌, Option, None, Some, codes, if◌then◌else◌}
use Rattle.pdn_script.specs.declared.known.Known.{Known}
use Rattle.pdn_script.specs.Given.{value}
use Rattle.pdn_script.specs.Names.{with_name}
use Rattle.pdn_script.specs.Sort.{is_end}
use Rattle.reading.specs.Word.{Token}
use Rattle.script_options.specs.declared.command.Command.{Command}
use Rattle.script_options.specs.declared.command.Command.TheVariants.{SetVoltageDomain, DefinePdnGrid, AddPdnRing, Pdngen, PassedOver}
use Rattle.script_options.specs.declared.option.ScriptOption.TheVariants.{Name, Power, Ground, Region, Grid}
use Rattle.script_options.specs.Command.{command_named}

-- Before the first command.
abbrev pub nothing_known : Known
nothing_known = record {
  domains = [];
  powers = [];
  grounds = [];
  grids = [];
  ringed = [];
  last_domain = None;
  last_grid = None;
  regionless = false;
  ended = false;
  passing = false;
}

-- The value. A command that ends without a value that it needs is refused.
abbrev pub or_empty : Option (List ℕ) → List ℕ
or_empty None = []
or_empty (Some text) = text

abbrev pub region_or_core : Option (List ℕ) → List ℕ
region_or_core None = codes "Core"
region_or_core (Some region) = region

abbrev pub name_or_region : Option (List ℕ) → Option (List ℕ) → List ℕ
name_or_region None region = region_or_core region
name_or_region (Some name) region = name

-- The name of a domain: the stated one, or else that of its region, or else `Core`.
abbrev pub domain_name : List Token → List ℕ
domain_name words = name_or_region (value Name words) (value Region words)

-- A stated name, or else the last one.
abbrev pub or_last : Option (List ℕ) → Option (List ℕ) → List ℕ
or_last None last = or_empty last
or_last (Some name) last = name

abbrev pub is_none : Option (List ℕ) → Bool
is_none None = true
is_none (Some text) = false

-- After `set_voltage_domain`.
abbrev pub after_domain : Known → List Token → Known
after_domain known words = record known {
  domains = with_name known.domains (domain_name words);
  powers = with_name known.powers (or_empty (value Power words));
  grounds = with_name known.grounds (or_empty (value Ground words));
  last_domain = Some (domain_name words);
  regionless = is_none (value Region words) || known.regionless;
}

-- After `define_pdn_grid`.
abbrev pub after_grid : Known → List Token → Known
after_grid known words = record known {
  grids = with_name known.grids (or_empty (value Name words));
  last_grid = Some (or_empty (value Name words));
}

-- After `add_pdn_ring`, which is of the last grid where it states none.
abbrev pub after_ring : Known → List Token → Known
after_ring known words = record known { ringed = with_name known.ringed (or_last (value Grid words) known.last_grid) }

abbrev pub after_command : Known → Command → List Token → Known
after_command known SetVoltageDomain words = after_domain known words
after_command known DefinePdnGrid words = after_grid known words
after_command known AddPdnRing words = after_ring known words
after_command known Pdngen words = record known { ended = true }
after_command known PassedOver words = record known { passing = true }
after_command known _ words = known

-- After a unit, by its first word: in a command that is passed over its end alone matters.
abbrev pub after_first : Known → Token → List Token → Known
after_first known first words =
    if known.passing then record known { passing = not (is_end first) }
    else if is_end first then known
    else after_command known (command_named first.text) words

abbrev pub known_after : Known → List Token → Known
known_after known [] = known
known_after known (first ∷ words) = after_first known first words

abbrev pub known_from : Known → List (List Token) → Known
known_from known [] = known
known_from known (unit ∷ units) = known_from (known_after known unit) units

-- What these units have named.
abbrev pub known_of : List (List Token) → Known
known_of units = known_from nothing_known units
