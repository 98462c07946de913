-- The commands of a script, by the names that the manual of OpenROAD's PDN module gives them.
use Rattle.std.specs.Prelude.{ℕ, List, [], ◌∷◌, codes}
use Rattle.script_options.specs.declared.command.Command.{Command}
use Rattle.script_options.specs.declared.command.Command.TheVariants.{SetVoltageDomain, DefinePdnGrid, AddPdnStripe, AddPdnRing, AddPdnConnect, Pdngen, PassedOver, Unknown}
use Rattle.reading.specs.Keyword.{keyword_or}

-- The commands that are read, and the two that are passed over.
abbrev pub commands : List (List ℕ × Command)
commands =
    (codes "set_voltage_domain", SetVoltageDomain) ∷ (codes "define_pdn_grid", DefinePdnGrid)
    ∷ (codes "add_pdn_stripe", AddPdnStripe) ∷ (codes "add_pdn_ring", AddPdnRing)
    ∷ (codes "add_pdn_connect", AddPdnConnect) ∷ (codes "pdngen", Pdngen) ∷ (codes "add_global_connection", PassedOver)
    ∷ (codes "global_connect", PassedOver) ∷ []

-- The command of this name.
abbrev pub command_named : List ℕ → Command
command_named text = keyword_or commands Unknown text
