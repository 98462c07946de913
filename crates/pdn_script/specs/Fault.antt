-- The faults of a script: commands and options that are not known or stand in the wrong place, values that are refused, names
-- that stand twice or are not known, options that are missing.
use Rattle.std.specs.Prelude.{◌≡◌, ◌⊎◌, ◌+◌, ◌-◌, ◌<◌, ℕ, Bool, true, false, not, ◌&&◌, ◌||◌, List, [], ◌∷◌, ◌++◌, length, Option, None, Some, if◌then◌else◌}
use Rattle.std.specs.Str.{bytes_eq}
use Rattle.list_laws.specs.Among.{is_among}
use Rattle.number_place.specs.declared.place.Refused.{Refused}
use Rattle.number_place.specs.declared.place.Refused.TheVariants as refusals
use Rattle.pdn_script.specs.declared.error.ScriptKind.{ScriptKind}
use Rattle.pdn_script.specs.declared.error.ScriptKind.TheVariants as kinds
use Rattle.pdn_script.specs.declared.known.Known.{Known}
use Rattle.pdn_script.specs.Given.{option_of, waiting, value, stands, value_at, macro_at}
use Rattle.pdn_script.specs.Known.{or_empty, domain_name, is_none, known_of}
use Rattle.pdn_script.specs.Sort.{is_end}
use Rattle.reading.specs.declared.refusal.Found.{Found}
use Rattle.reading.specs.Word.{Token, last_of}
use Rattle.script_options.specs.declared.command.Command.{Command}
use Rattle.script_options.specs.declared.command.Command.TheVariants as commands
use Rattle.script_options.specs.declared.option.ScriptOption.{ScriptOption}
use Rattle.script_options.specs.declared.option.ScriptOption.TheVariants as options
use Rattle.script_options.specs.declared.table.Need.{Need}
use Rattle.script_options.specs.declared.table.Need.TheVariants.{Required, RequiredOfStraps}
use Rattle.script_options.specs.declared.table.Row.{Row}
use Rattle.script_options.specs.Command.{command_named}
use Rattle.script_options.specs.Table.{table, need_in, form_of}
use Rattle.script_options.specs.Value.{Refuses}

-- ## the first word

-- A command needs what its first word cannot name: a grid a domain, a stripe, a ring and a connect a grid.
abbrev pub none_kind : Option (List ℕ) → ScriptKind → Option ScriptKind
none_kind None kind = Some kind
none_kind (Some name) kind = None

abbrev pub first_command : Known → Command → Option ScriptKind
first_command known commands.Unknown = Some kinds.UnknownCommand
first_command known commands.DefinePdnGrid = none_kind known.last_domain kinds.UnknownDomain
first_command known commands.AddPdnStripe = none_kind known.last_grid kinds.UnknownGrid
first_command known commands.AddPdnRing = none_kind known.last_grid kinds.UnknownGrid
first_command known commands.AddPdnConnect = none_kind known.last_grid kinds.UnknownGrid
first_command known _ = None

-- Why the first word of a command is refused; a word that is passed over, or ends a command, never is.
abbrev pub first_kind : Known → Token → Option ScriptKind
first_kind known first =
    if known.passing || is_end first then None
    else if known.ended then Some kinds.AfterPdngen
    else first_command known (command_named first.text)

-- ## a word in the place of an option

abbrev pub option_need : Option Need → Bool → Option ScriptKind
option_need None again = Some kinds.UnknownOption
option_need (Some need) again = if again then Some kinds.Twice else None

-- Why a word in the place of an option is refused: it is left out of this profile, the command has no such option, or it
-- stands among the words before.
abbrev pub option_kind : Command → List Token → ScriptOption → Option ScriptKind
option_kind command before options.LeftOut = Some kinds.OutOfProfile
option_kind command before option = option_need (need_in (table command) option) (stands option before)

-- ## a value

abbrev pub refused_kind : Refused → ScriptKind
refused_kind refusals.Syntax = kinds.Syntax
refused_kind (refusals.Number error) = kinds.Number error

abbrev pub if_so : Bool → ScriptKind → Option ScriptKind
if_so true kind = Some kind
if_so false kind = None

-- The name of a domain or a grid stands again.
abbrev pub own_name_stands : Known → Command → List ℕ → Bool
own_name_stands known commands.SetVoltageDomain text = is_among known.domains text
own_name_stands known commands.DefinePdnGrid text = is_among known.grids text
own_name_stands known _ text = false

abbrev pub own_name : Known → Command → List ℕ → Option ScriptKind
own_name known command text = if_so (own_name_stands known command text) kinds.Twice

-- No command before has defined the domain.
abbrev pub known_domain : List (List ℕ) → List ℕ → Option ScriptKind
known_domain domains text = if is_among domains text then None else Some kinds.UnknownDomain

-- The grid of a new ring has one.
abbrev pub has_ring : Known → Command → List ℕ → Bool
has_ring known commands.AddPdnRing text = is_among known.ringed text
has_ring known _ text = false

-- A second ring of a grid, or a grid that no command before has defined.
abbrev pub known_grid : Known → Command → List ℕ → Option ScriptKind
known_grid known command text =
    if has_ring known command text then Some kinds.Twice
    else if is_among known.grids text then None else Some kinds.UnknownGrid

abbrev pub is_text : Option (List ℕ) → List ℕ → Bool
is_text None text = false
is_text (Some other) text = bytes_eq other text

-- The net has the other use, in a command before or in this one.
abbrev pub net_use : List (List ℕ) → Option (List ℕ) → List ℕ → Option ScriptKind
net_use others other text = if_so (is_among others text || is_text other text) kinds.NetUse

-- Why the name in a value is refused.
abbrev pub name_kind : Known → Command → List Token → ScriptOption → List ℕ → Option ScriptKind
name_kind known command before options.Name text = own_name known command text
name_kind known command before options.VoltageDomains text = known_domain known.domains text
name_kind known command before options.Grid text = known_grid known command text
name_kind known command before options.Power text = net_use known.grounds (value options.Ground before) text
name_kind known command before options.Ground text = net_use known.powers (value options.Power before) text
name_kind known command before _ text = None

-- Why the value of an option is refused: for its form, or else for the name in it.
abbrev pub ValueKind : Known → Command → List Token → ScriptOption → List ℕ → ScriptKind → Type 0
ValueKind known command before option text kind =
    ((refused : Refused) × Refuses (form_of option) text refused × (kind ≡ refused_kind refused))
    ⊎ (((refused : Refused) → ¬ Refuses (form_of option) text refused)
    × (name_kind known command before option text ≡ Some kind))

-- ## the end of a command

-- A command cannot end without the option.
abbrev pub needs : Need → Bool → Bool
needs Required rail = true
needs RequiredOfStraps rail = not rail
needs _ rail = false

abbrev pub is_missing : Need → Bool → ScriptOption → List Token → Bool
is_missing need rail option words = needs need rail && not (stands option words)

abbrev pub lacks_in : List Row → Bool → List Token → Bool
lacks_in [] rail words = false
lacks_in (row ∷ rows) rail words = is_missing row.need rail row.option words || lacks_in rows rail words

-- The command lacks an option that it needs; with `-followpins` it draws rails, which need no `-pitch`.
abbrev pub lacks : Command → List Token → Bool
lacks command words = lacks_in (table command) (stands options.Followpins words) words

abbrev pub missing_kind : Bool → Option ScriptKind
missing_kind missing = if_so missing kinds.MissingOption

-- A second domain `Core`, or a domain that lacks an option; only one domain may lack a region.
abbrev pub domain_end : Known → List Token → Option ScriptKind
domain_end known words =
    if is_none (value options.Region words) && is_none (value options.Name words) && is_among known.domains (domain_name words)
    then Some kinds.Twice
    else missing_kind ((is_none (value options.Region words) && known.regionless) || lacks commands.SetVoltageDomain words)

-- A second ring of the last grid, or a ring that lacks an option.
abbrev pub ring_end : Known → List Token → Option ScriptKind
ring_end known words =
    if is_none (value options.Grid words) && is_among known.ringed (or_empty known.last_grid) then Some kinds.Twice
    else missing_kind (lacks commands.AddPdnRing words)

-- Why the end of a command is refused.
abbrev pub end_kind : Known → Command → List Token → Option ScriptKind
end_kind known commands.SetVoltageDomain words = domain_end known words
end_kind known commands.AddPdnRing words = ring_end known words
end_kind known command words = missing_kind (lacks command words)

-- ## the last word

abbrev pub plain_kind : Known → Command → List Token → Token → Option ScriptKind
plain_kind known command before last =
    if is_end last then end_kind known command before else option_kind command before (option_of last)

abbrev pub AtRole : Known → Command → List Token → Token → Option ScriptOption → ScriptKind → Type 0
AtRole known command before last (Some option) kind = ValueKind known command before option last.text kind
AtRole known command before last None kind = plain_kind known command before last ≡ Some kind

-- Why a word after the first one is refused: as the value of the option that waits for it, as the end of the command, or as
-- an option.
abbrev pub AtWord : Known → Command → List Token → Token → ScriptKind → Type 0
AtWord known command before last kind = AtRole known command before last (waiting before) kind

-- All words but the last.
abbrev pub front_of : List Token → List Token
front_of [] = []
front_of (word ∷ []) = []
front_of (word ∷ next ∷ words) = word ∷ front_of (next ∷ words)

abbrev pub AtLastOf : Known → Token → List Token → Option Token → ScriptKind → Type 0
AtLastOf known first words None kind = first_kind known first ≡ Some kind
AtLastOf known first words (Some last) kind = AtWord known (command_named first.text) (front_of words) last kind

-- Why the last word of a command is refused, by its first word and those after it.
abbrev pub AtLast : Known → Token → List Token → ScriptKind → Type 0
AtLast known first words kind = AtLastOf known first words (last_of words) kind

-- Why the last of the words is refused.
abbrev pub LastKind : Known → List Token → ScriptKind → Type 0
LastKind known [] kind = ⊥
LastKind known (first ∷ words) kind = AtLast known first words kind

-- ## an earlier word

-- The fault at the word that has so many words after the first one before it.
abbrev pub late_at : Option ℕ → ScriptKind → Option (Found ScriptKind)
late_at None kind = None
late_at (Some before) kind = Some (record { at = before + 1; kind = kind })

-- The value of `-region` is a domain's name, where no other is stated, and stands again.
abbrev pub domain_late : Known → List Token → Option (Found ScriptKind)
domain_late known words =
    if is_none (value options.Name words) && is_among known.domains (or_empty (value options.Region words))
    then late_at (value_at options.Region words) kinds.Twice
    else None

-- An option of macro grids stands on a grid without `-macro`.
abbrev pub grid_late : List Token → Option (Found ScriptKind)
grid_late words = if stands options.Macro words then None else late_at (macro_at words) kinds.UnknownOption

-- The fault at an earlier word that the end of a command shows.
abbrev pub end_late : Known → Command → List Token → Option (Found ScriptKind)
end_late known commands.SetVoltageDomain words = domain_late known words
end_late known commands.DefinePdnGrid words = grid_late words
end_late known _ words = None

abbrev pub late_role : Known → Command → List Token → Token → Option ScriptOption → Option (Found ScriptKind)
late_role known command before last (Some option) = None
late_role known command before last None = if is_end last then end_late known command before else None

abbrev pub late_word : Known → Command → List Token → Token → Option (Found ScriptKind)
late_word known command before last = late_role known command before last (waiting before)

abbrev pub late_last_of : Known → Token → List Token → Option Token → Option (Found ScriptKind)
late_last_of known first words None = None
late_last_of known first words (Some last) = late_word known (command_named first.text) (front_of words) last

abbrev pub late_last : Known → Token → List Token → Option (Found ScriptKind)
late_last known first words = late_last_of known first words (last_of words)

-- The fault at an earlier word that the last of the words shows.
abbrev pub late_in : Known → List Token → Option (Found ScriptKind)
late_in known [] = None
late_in known (first ∷ words) = late_last known first words

-- ## all faults

-- The last of the words shows no fault.
abbrev pub ShowsNone : Known → List Token → Type 0
ShowsNone known part = (late_in known part ≡ None) × ((kind : ScriptKind) → ¬ LastKind known part kind)

-- No fewer words show a fault.
abbrev pub NoneFewer : Known → List Token → Type 0
NoneFewer known part = (front more : List Token) → part ≡ front ++ more → 0 < length more → ShowsNone known front

-- The fault that the last of the words shows: at an earlier word, where no fewer words show one, or at itself.
abbrev pub FaultIn : Known → List Token → Found ScriptKind → Type 0
FaultIn known part found =
    ((late_in known part ≡ Some found) × NoneFewer known part)
    ⊎ ((late_in known part ≡ None) × (found.at + 1 ≡ length part) × LastKind known part found.kind)

-- The fault of the open unit's words so far, after these units.
abbrev pub fault : List (List Token) → List Token → Found ScriptKind → Type 0
fault units part found = FaultIn (known_of units) part found

-- The fault that is found, or that there is none.
abbrev pub FindsFault : (Found ScriptKind → Type 0) → Option (Found ScriptKind) → Type 0
FindsFault Shows None = (found : Found ScriptKind) → ¬ Shows found
FindsFault Shows (Some found) = Shows found

-- The fault of this kind at the last of so many words.
abbrev pub at_last : ℕ → Option ScriptKind → Option (Found ScriptKind)
at_last count None = None
at_last count (Some kind) = Some (record { at = count - 1; kind = kind })
