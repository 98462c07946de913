-- The units of a script say one record.
use Rattle.std.proofs.Common.{◌≡◌, ℕ, Bool, true, false, ◌||◌, List, [], ◌∷◌, Option, None, Some, refl, sym, ◌∙◌, ap}
use Rattle.entry_list.specs.Laws.{in-turn-one}
use Rattle.pdn_script.specs.declared.known.Known.{Known}
use Rattle.pdn_script.specs.declared.record.Connect.{Connect}
use Rattle.pdn_script.specs.declared.record.Domain.{Domain}
use Rattle.pdn_script.specs.declared.record.GridRule.{GridRule}
use Rattle.pdn_script.specs.declared.record.Ring.{Ring}
use Rattle.pdn_script.specs.declared.record.Script.{Script}
use Rattle.pdn_script.specs.declared.record.Stripe.{Stripe}
use Rattle.pdn_script.specs.declared.statement.Statement.{Statement}
use Rattle.pdn_script.specs.declared.statement.Statement.TheVariants as says
use Rattle.pdn_script.specs.Field.{IsMaybeNumber, IsNumberOrZero, AreNumbers, AreMaybeNumbers}
use Rattle.pdn_script.specs.Given.{value}
use Rattle.pdn_script.specs.Known.{or_empty, known_after, nothing_known}
use Rattle.pdn_script.specs.Record.{IsDomain, IsGrid, IsStripe, IsRing, IsConnect, SaysCommand, SaysUnless, Says, Told, IsScript, script_from, no_commands}
use Rattle.pdn_script.specs.Sort.{is_end}
use Rattle.reading.specs.Word.{Token}
use Rattle.script_options.specs.declared.command.Command.{Command}
use Rattle.script_options.specs.declared.command.Command.TheVariants as commands
use Rattle.script_options.specs.declared.number.Quantity.{Quantity}
use Rattle.script_options.specs.declared.number.Quantity.TheVariants as quantities
use Rattle.script_options.specs.declared.option.ScriptOption.TheVariants as options
use Rattle.script_options.specs.Command.{command_named}
use Rattle.script_options.specs.ListWords.{words_of}
use Rattle.script_options.specs.Number.{IsNumberIn}

abbrev pub HasOneValue : Type 0
HasOneValue = (quantity : Quantity) (text : List ℕ) (a b : ℕ) → IsNumberIn quantity text a → IsNumberIn quantity text b → a ≡ b

-- ## fields

maybe_one : HasOneValue → (q : Quantity) (value : Option (List ℕ)) (a b : Option ℕ) → IsMaybeNumber q value a → IsMaybeNumber q value b → a ≡ b
maybe_one one q None None None h k = refl
maybe_one one q (Some text) (Some a) (Some b) h k = ap Some (one q text a b h k)
maybe_one one q None (Some a) b h k = absurd h
maybe_one one q None None (Some b) h k = absurd k
maybe_one one q (Some text) None b h k = absurd h
maybe_one one q (Some text) (Some a) None h k = absurd k

or_zero_one : HasOneValue → (value : Option (List ℕ)) (a b : ℕ) → IsNumberOrZero value a → IsNumberOrZero value b → a ≡ b
or_zero_one one None a b h k = h ∙ sym k
or_zero_one one (Some text) a b h k = one quantities.Length text a b h k

numbers_one : HasOneValue → (q : Quantity) (value : Option (List ℕ)) (a b : List ℕ) → AreNumbers q value a → AreNumbers q value b → a ≡ b
numbers_one one q value a b h k = in-turn-one (IsNumberIn q) (one q) (words_of (or_empty value)) a b h k

maybe_numbers_one : HasOneValue → (value : Option (List ℕ)) (a b : Option (List ℕ)) → AreMaybeNumbers value a → AreMaybeNumbers value b → a ≡ b
maybe_numbers_one one None None None h k = refl
maybe_numbers_one one (Some text) (Some a) (Some b) h k = ap Some (in-turn-one (IsNumberIn quantities.Length) (one quantities.Length) (words_of text) a b h k)
maybe_numbers_one one None (Some a) b h k = absurd h
maybe_numbers_one one None None (Some b) h k = absurd k
maybe_numbers_one one (Some text) None b h k = absurd h
maybe_numbers_one one (Some text) (Some a) None h k = absurd k

-- ## records

abbrev the_domain : Domain → Domain
the_domain a = a

one_domain : HasOneValue → (first : Token) (words : List Token) (a b : Domain) → IsDomain first words a → IsDomain first words b → a ≡ b
one_domain one first words a b h k =
    ap (λ z. the_domain (record { name = z; power = a.power; ground = a.ground; region = a.region; place = a.place })) (h.name ∙ sym k.name)
    ∙ ap (λ z. the_domain (record { name = b.name; power = z; ground = a.ground; region = a.region; place = a.place })) (h.power ∙ sym k.power)
    ∙ ap (λ z. the_domain (record { name = b.name; power = b.power; ground = z; region = a.region; place = a.place })) (h.ground ∙ sym k.ground)
    ∙ ap (λ z. the_domain (record { name = b.name; power = b.power; ground = b.ground; region = z; place = a.place })) (h.region ∙ sym k.region)
    ∙ ap (λ z. the_domain (record { name = b.name; power = b.power; ground = b.ground; region = b.region; place = z })) (h.place ∙ sym k.place)

abbrev the_grid : GridRule → GridRule
the_grid a = a

one_grid : HasOneValue → (known : Known) (first : Token) (words : List Token) (a b : GridRule) → IsGrid known first words a → IsGrid known first words b → a ≡ b
one_grid one known first words a b h k =
    ap (λ z. the_grid (record { name = z; voltage_domains = a.voltage_domains; starts_with = a.starts_with; pins = a.pins; macro_ = a.macro_; orient = a.orient; halo = a.halo; cells = a.cells; instances = a.instances; default = a.default; grid_over_boundary = a.grid_over_boundary; grid_over_pg_pins = a.grid_over_pg_pins; place = a.place })) (h.name ∙ sym k.name)
    ∙ ap (λ z. the_grid (record { name = b.name; voltage_domains = z; starts_with = a.starts_with; pins = a.pins; macro_ = a.macro_; orient = a.orient; halo = a.halo; cells = a.cells; instances = a.instances; default = a.default; grid_over_boundary = a.grid_over_boundary; grid_over_pg_pins = a.grid_over_pg_pins; place = a.place })) (h.voltage_domains ∙ sym k.voltage_domains)
    ∙ ap (λ z. the_grid (record { name = b.name; voltage_domains = b.voltage_domains; starts_with = z; pins = a.pins; macro_ = a.macro_; orient = a.orient; halo = a.halo; cells = a.cells; instances = a.instances; default = a.default; grid_over_boundary = a.grid_over_boundary; grid_over_pg_pins = a.grid_over_pg_pins; place = a.place })) (h.starts_with ∙ sym k.starts_with)
    ∙ ap (λ z. the_grid (record { name = b.name; voltage_domains = b.voltage_domains; starts_with = b.starts_with; pins = z; macro_ = a.macro_; orient = a.orient; halo = a.halo; cells = a.cells; instances = a.instances; default = a.default; grid_over_boundary = a.grid_over_boundary; grid_over_pg_pins = a.grid_over_pg_pins; place = a.place })) (h.pins ∙ sym k.pins)
    ∙ ap (λ z. the_grid (record { name = b.name; voltage_domains = b.voltage_domains; starts_with = b.starts_with; pins = b.pins; macro_ = z; orient = a.orient; halo = a.halo; cells = a.cells; instances = a.instances; default = a.default; grid_over_boundary = a.grid_over_boundary; grid_over_pg_pins = a.grid_over_pg_pins; place = a.place })) (h.macro_ ∙ sym k.macro_)
    ∙ ap (λ z. the_grid (record { name = b.name; voltage_domains = b.voltage_domains; starts_with = b.starts_with; pins = b.pins; macro_ = b.macro_; orient = z; halo = a.halo; cells = a.cells; instances = a.instances; default = a.default; grid_over_boundary = a.grid_over_boundary; grid_over_pg_pins = a.grid_over_pg_pins; place = a.place })) (h.orient ∙ sym k.orient)
    ∙ ap (λ z. the_grid (record { name = b.name; voltage_domains = b.voltage_domains; starts_with = b.starts_with; pins = b.pins; macro_ = b.macro_; orient = b.orient; halo = z; cells = a.cells; instances = a.instances; default = a.default; grid_over_boundary = a.grid_over_boundary; grid_over_pg_pins = a.grid_over_pg_pins; place = a.place })) (maybe_numbers_one one (value options.Halo words) a.halo b.halo h.halo k.halo)
    ∙ ap (λ z. the_grid (record { name = b.name; voltage_domains = b.voltage_domains; starts_with = b.starts_with; pins = b.pins; macro_ = b.macro_; orient = b.orient; halo = b.halo; cells = z; instances = a.instances; default = a.default; grid_over_boundary = a.grid_over_boundary; grid_over_pg_pins = a.grid_over_pg_pins; place = a.place })) (h.cells ∙ sym k.cells)
    ∙ ap (λ z. the_grid (record { name = b.name; voltage_domains = b.voltage_domains; starts_with = b.starts_with; pins = b.pins; macro_ = b.macro_; orient = b.orient; halo = b.halo; cells = b.cells; instances = z; default = a.default; grid_over_boundary = a.grid_over_boundary; grid_over_pg_pins = a.grid_over_pg_pins; place = a.place })) (h.instances ∙ sym k.instances)
    ∙ ap (λ z. the_grid (record { name = b.name; voltage_domains = b.voltage_domains; starts_with = b.starts_with; pins = b.pins; macro_ = b.macro_; orient = b.orient; halo = b.halo; cells = b.cells; instances = b.instances; default = z; grid_over_boundary = a.grid_over_boundary; grid_over_pg_pins = a.grid_over_pg_pins; place = a.place })) (h.default ∙ sym k.default)
    ∙ ap (λ z. the_grid (record { name = b.name; voltage_domains = b.voltage_domains; starts_with = b.starts_with; pins = b.pins; macro_ = b.macro_; orient = b.orient; halo = b.halo; cells = b.cells; instances = b.instances; default = b.default; grid_over_boundary = z; grid_over_pg_pins = a.grid_over_pg_pins; place = a.place })) (h.grid_over_boundary ∙ sym k.grid_over_boundary)
    ∙ ap (λ z. the_grid (record { name = b.name; voltage_domains = b.voltage_domains; starts_with = b.starts_with; pins = b.pins; macro_ = b.macro_; orient = b.orient; halo = b.halo; cells = b.cells; instances = b.instances; default = b.default; grid_over_boundary = b.grid_over_boundary; grid_over_pg_pins = z; place = a.place })) (h.grid_over_pg_pins ∙ sym k.grid_over_pg_pins)
    ∙ ap (λ z. the_grid (record { name = b.name; voltage_domains = b.voltage_domains; starts_with = b.starts_with; pins = b.pins; macro_ = b.macro_; orient = b.orient; halo = b.halo; cells = b.cells; instances = b.instances; default = b.default; grid_over_boundary = b.grid_over_boundary; grid_over_pg_pins = b.grid_over_pg_pins; place = z })) (h.place ∙ sym k.place)

abbrev the_stripe : Stripe → Stripe
the_stripe a = a

one_stripe : HasOneValue → (known : Known) (first : Token) (words : List Token) (a b : Stripe) → IsStripe known first words a → IsStripe known first words b → a ≡ b
one_stripe one known first words a b h k =
    ap (λ z. the_stripe (record { layer = z; width = a.width; pitch = a.pitch; grid = a.grid; spacing = a.spacing; offset = a.offset; followpins = a.followpins; extend_to_core_ring = a.extend_to_core_ring; extend_to_boundary = a.extend_to_boundary; number_of_straps = a.number_of_straps; starts_with = a.starts_with; nets = a.nets; place = a.place })) (h.layer ∙ sym k.layer)
    ∙ ap (λ z. the_stripe (record { layer = b.layer; width = z; pitch = a.pitch; grid = a.grid; spacing = a.spacing; offset = a.offset; followpins = a.followpins; extend_to_core_ring = a.extend_to_core_ring; extend_to_boundary = a.extend_to_boundary; number_of_straps = a.number_of_straps; starts_with = a.starts_with; nets = a.nets; place = a.place })) (one quantities.Width _ a.width b.width h.width k.width)
    ∙ ap (λ z. the_stripe (record { layer = b.layer; width = b.width; pitch = z; grid = a.grid; spacing = a.spacing; offset = a.offset; followpins = a.followpins; extend_to_core_ring = a.extend_to_core_ring; extend_to_boundary = a.extend_to_boundary; number_of_straps = a.number_of_straps; starts_with = a.starts_with; nets = a.nets; place = a.place })) (maybe_one one quantities.Width (value options.Pitch words) a.pitch b.pitch h.pitch k.pitch)
    ∙ ap (λ z. the_stripe (record { layer = b.layer; width = b.width; pitch = b.pitch; grid = z; spacing = a.spacing; offset = a.offset; followpins = a.followpins; extend_to_core_ring = a.extend_to_core_ring; extend_to_boundary = a.extend_to_boundary; number_of_straps = a.number_of_straps; starts_with = a.starts_with; nets = a.nets; place = a.place })) (h.grid ∙ sym k.grid)
    ∙ ap (λ z. the_stripe (record { layer = b.layer; width = b.width; pitch = b.pitch; grid = b.grid; spacing = z; offset = a.offset; followpins = a.followpins; extend_to_core_ring = a.extend_to_core_ring; extend_to_boundary = a.extend_to_boundary; number_of_straps = a.number_of_straps; starts_with = a.starts_with; nets = a.nets; place = a.place })) (maybe_one one quantities.Length (value options.Spacing words) a.spacing b.spacing h.spacing k.spacing)
    ∙ ap (λ z. the_stripe (record { layer = b.layer; width = b.width; pitch = b.pitch; grid = b.grid; spacing = b.spacing; offset = z; followpins = a.followpins; extend_to_core_ring = a.extend_to_core_ring; extend_to_boundary = a.extend_to_boundary; number_of_straps = a.number_of_straps; starts_with = a.starts_with; nets = a.nets; place = a.place })) (or_zero_one one (value options.Offset words) a.offset b.offset h.offset k.offset)
    ∙ ap (λ z. the_stripe (record { layer = b.layer; width = b.width; pitch = b.pitch; grid = b.grid; spacing = b.spacing; offset = b.offset; followpins = z; extend_to_core_ring = a.extend_to_core_ring; extend_to_boundary = a.extend_to_boundary; number_of_straps = a.number_of_straps; starts_with = a.starts_with; nets = a.nets; place = a.place })) (h.followpins ∙ sym k.followpins)
    ∙ ap (λ z. the_stripe (record { layer = b.layer; width = b.width; pitch = b.pitch; grid = b.grid; spacing = b.spacing; offset = b.offset; followpins = b.followpins; extend_to_core_ring = z; extend_to_boundary = a.extend_to_boundary; number_of_straps = a.number_of_straps; starts_with = a.starts_with; nets = a.nets; place = a.place })) (h.extend_to_core_ring ∙ sym k.extend_to_core_ring)
    ∙ ap (λ z. the_stripe (record { layer = b.layer; width = b.width; pitch = b.pitch; grid = b.grid; spacing = b.spacing; offset = b.offset; followpins = b.followpins; extend_to_core_ring = b.extend_to_core_ring; extend_to_boundary = z; number_of_straps = a.number_of_straps; starts_with = a.starts_with; nets = a.nets; place = a.place })) (h.extend_to_boundary ∙ sym k.extend_to_boundary)
    ∙ ap (λ z. the_stripe (record { layer = b.layer; width = b.width; pitch = b.pitch; grid = b.grid; spacing = b.spacing; offset = b.offset; followpins = b.followpins; extend_to_core_ring = b.extend_to_core_ring; extend_to_boundary = b.extend_to_boundary; number_of_straps = z; starts_with = a.starts_with; nets = a.nets; place = a.place })) (maybe_one one quantities.Count (value options.NumberOfStraps words) a.number_of_straps b.number_of_straps h.number_of_straps k.number_of_straps)
    ∙ ap (λ z. the_stripe (record { layer = b.layer; width = b.width; pitch = b.pitch; grid = b.grid; spacing = b.spacing; offset = b.offset; followpins = b.followpins; extend_to_core_ring = b.extend_to_core_ring; extend_to_boundary = b.extend_to_boundary; number_of_straps = b.number_of_straps; starts_with = z; nets = a.nets; place = a.place })) (h.starts_with ∙ sym k.starts_with)
    ∙ ap (λ z. the_stripe (record { layer = b.layer; width = b.width; pitch = b.pitch; grid = b.grid; spacing = b.spacing; offset = b.offset; followpins = b.followpins; extend_to_core_ring = b.extend_to_core_ring; extend_to_boundary = b.extend_to_boundary; number_of_straps = b.number_of_straps; starts_with = b.starts_with; nets = z; place = a.place })) (h.nets ∙ sym k.nets)
    ∙ ap (λ z. the_stripe (record { layer = b.layer; width = b.width; pitch = b.pitch; grid = b.grid; spacing = b.spacing; offset = b.offset; followpins = b.followpins; extend_to_core_ring = b.extend_to_core_ring; extend_to_boundary = b.extend_to_boundary; number_of_straps = b.number_of_straps; starts_with = b.starts_with; nets = b.nets; place = z })) (h.place ∙ sym k.place)

abbrev the_ring : Ring → Ring
the_ring a = a

one_ring : HasOneValue → (known : Known) (first : Token) (words : List Token) (a b : Ring) → IsRing known first words a → IsRing known first words b → a ≡ b
one_ring one known first words a b h k =
    ap (λ z. the_ring (record { layers = z; widths = a.widths; spacings = a.spacings; core_offsets = a.core_offsets; grid = a.grid; starts_with = a.starts_with; nets = a.nets; add_connect = a.add_connect; place = a.place })) (h.layers ∙ sym k.layers)
    ∙ ap (λ z. the_ring (record { layers = b.layers; widths = z; spacings = a.spacings; core_offsets = a.core_offsets; grid = a.grid; starts_with = a.starts_with; nets = a.nets; add_connect = a.add_connect; place = a.place })) (numbers_one one quantities.Width (value options.Widths words) a.widths b.widths h.widths k.widths)
    ∙ ap (λ z. the_ring (record { layers = b.layers; widths = b.widths; spacings = z; core_offsets = a.core_offsets; grid = a.grid; starts_with = a.starts_with; nets = a.nets; add_connect = a.add_connect; place = a.place })) (numbers_one one quantities.Length (value options.Spacings words) a.spacings b.spacings h.spacings k.spacings)
    ∙ ap (λ z. the_ring (record { layers = b.layers; widths = b.widths; spacings = b.spacings; core_offsets = z; grid = a.grid; starts_with = a.starts_with; nets = a.nets; add_connect = a.add_connect; place = a.place })) (numbers_one one quantities.Length (value options.CoreOffsets words) a.core_offsets b.core_offsets h.core_offsets k.core_offsets)
    ∙ ap (λ z. the_ring (record { layers = b.layers; widths = b.widths; spacings = b.spacings; core_offsets = b.core_offsets; grid = z; starts_with = a.starts_with; nets = a.nets; add_connect = a.add_connect; place = a.place })) (h.grid ∙ sym k.grid)
    ∙ ap (λ z. the_ring (record { layers = b.layers; widths = b.widths; spacings = b.spacings; core_offsets = b.core_offsets; grid = b.grid; starts_with = z; nets = a.nets; add_connect = a.add_connect; place = a.place })) (h.starts_with ∙ sym k.starts_with)
    ∙ ap (λ z. the_ring (record { layers = b.layers; widths = b.widths; spacings = b.spacings; core_offsets = b.core_offsets; grid = b.grid; starts_with = b.starts_with; nets = z; add_connect = a.add_connect; place = a.place })) (h.nets ∙ sym k.nets)
    ∙ ap (λ z. the_ring (record { layers = b.layers; widths = b.widths; spacings = b.spacings; core_offsets = b.core_offsets; grid = b.grid; starts_with = b.starts_with; nets = b.nets; add_connect = z; place = a.place })) (h.add_connect ∙ sym k.add_connect)
    ∙ ap (λ z. the_ring (record { layers = b.layers; widths = b.widths; spacings = b.spacings; core_offsets = b.core_offsets; grid = b.grid; starts_with = b.starts_with; nets = b.nets; add_connect = b.add_connect; place = z })) (h.place ∙ sym k.place)

abbrev the_connect : Connect → Connect
the_connect a = a

one_connect : HasOneValue → (known : Known) (first : Token) (words : List Token) (a b : Connect) → IsConnect known first words a → IsConnect known first words b → a ≡ b
one_connect one known first words a b h k =
    ap (λ z. the_connect (record { layers = z; grid = a.grid; max_rows = a.max_rows; max_columns = a.max_columns; place = a.place })) (h.layers ∙ sym k.layers)
    ∙ ap (λ z. the_connect (record { layers = b.layers; grid = z; max_rows = a.max_rows; max_columns = a.max_columns; place = a.place })) (h.grid ∙ sym k.grid)
    ∙ ap (λ z. the_connect (record { layers = b.layers; grid = b.grid; max_rows = z; max_columns = a.max_columns; place = a.place })) (maybe_one one quantities.Count (value options.MaxRows words) a.max_rows b.max_rows h.max_rows k.max_rows)
    ∙ ap (λ z. the_connect (record { layers = b.layers; grid = b.grid; max_rows = b.max_rows; max_columns = z; place = a.place })) (maybe_one one quantities.Count (value options.MaxColumns words) a.max_columns b.max_columns h.max_columns k.max_columns)
    ∙ ap (λ z. the_connect (record { layers = b.layers; grid = b.grid; max_rows = b.max_rows; max_columns = b.max_columns; place = z })) (h.place ∙ sym k.place)

-- ## commands

command_one : HasOneValue → (known : Known) (first : Token) (words : List Token) (command : Command) (a b : Option Statement) →
    SaysCommand known first words command a → SaysCommand known first words command b → a ≡ b
command_one one known first words commands.SetVoltageDomain a b h k = h.2 ∙ ap (λ z. Some (says.Domain z)) (one_domain one first words h.0 k.0 h.1 k.1) ∙ sym k.2
command_one one known first words commands.DefinePdnGrid a b h k = h.2 ∙ ap (λ z. Some (says.Grid z)) (one_grid one known first words h.0 k.0 h.1 k.1) ∙ sym k.2
command_one one known first words commands.AddPdnStripe a b h k = h.2 ∙ ap (λ z. Some (says.Stripe z)) (one_stripe one known first words h.0 k.0 h.1 k.1) ∙ sym k.2
command_one one known first words commands.AddPdnRing a b h k = h.2 ∙ ap (λ z. Some (says.Ring z)) (one_ring one known first words h.0 k.0 h.1 k.1) ∙ sym k.2
command_one one known first words commands.AddPdnConnect a b h k = h.2 ∙ ap (λ z. Some (says.Connect z)) (one_connect one known first words h.0 k.0 h.1 k.1) ∙ sym k.2
command_one one known first words command a b h k = h ∙ sym k

unless_one : HasOneValue → (passed : Bool) (known : Known) (first : Token) (words : List Token) (a b : Option Statement) →
    SaysUnless passed known first words a → SaysUnless passed known first words b → a ≡ b
unless_one one true known first words a b h k = h ∙ sym k
unless_one one false known first words a b h k = command_one one known first words (command_named first.text) a b h k

unit_one : HasOneValue → (known : Known) (unit : List Token) (a b : Option Statement) → Says known unit a → Says known unit b → a ≡ b
unit_one one known [] a b h k = h ∙ sym k
unit_one one known (first ∷ words) a b h k = unless_one one (known.passing || is_end first) known first words a b h k

told_one : HasOneValue → (known : Known) (units : List (List Token)) (a b : List (Option Statement)) → Told known units a → Told known units b → a ≡ b
told_one one known [] [] [] h k = refl
told_one one known (u ∷ units) (x ∷ a) (y ∷ b) h k =
    ap (λ z. z ∷ a) (unit_one one known u x y h.0 k.0) ∙ ap (λ z. y ∷ z) (told_one one (known_after known u) units a b h.1 k.1)
told_one one known [] (x ∷ a) b h k = absurd h
told_one one known [] [] (y ∷ b) h k = absurd k
told_one one known (u ∷ units) [] b h k = absurd h
told_one one known (u ∷ units) (x ∷ a) [] h k = absurd k

pub one_script : HasOneValue → (units : List (List Token)) (a b : Script) → IsScript units a → IsScript units b → a ≡ b
one_script one units a b h k = h.2 ∙ ap (script_from no_commands) (told_one one nothing_known units h.0 k.0 h.1 k.1) ∙ sym k.2
