-- One more command keeps what the script before it keeps.
use Rattle.std.proofs.Common.{◌≡◌, ◌≢◌, ℕ, ◌+◌, ◌<◌, suc, inl, inr, Bool, true, false, cond, not, ◌||◌, ◌⊎◌, List, [], ◌∷◌, ◌++◌, length, map, All, AllPairs, Contains, Option, None, Some, refl, sym, ◌∙◌, ap, subst, arith}
use Rattle.std.proofs.lemmas.List.{map-append}
use Rattle.std.proofs.lemmas.List.Elements.{All-nil, All-push, All-weaker, Contains-append_left, Contains-push}
use Rattle.std.proofs.lemmas.List.Kept.{AllPairs-cons}
use Rattle.list_laws.specs.Among.{is_among}
use Rattle.list_laws.specs.Laws.Among.{member}
use Rattle.name_table.specs.Laws.{member_head, member_tail}
use Rattle.name_table.specs.Numbering.{AreDistinct}
use Rattle.pdn_script.specs.declared.known.Known.{Known}
use Rattle.pdn_script.specs.declared.record.Connect.{Connect}
use Rattle.pdn_script.specs.declared.record.Domain.{Domain}
use Rattle.pdn_script.specs.declared.record.GridRule.{GridRule}
use Rattle.pdn_script.specs.declared.record.Ring.{Ring}
use Rattle.pdn_script.specs.declared.record.Script.{Script}
use Rattle.pdn_script.specs.declared.record.Stripe.{Stripe}
use Rattle.pdn_script.specs.declared.statement.Statement.{Statement}
use Rattle.pdn_script.specs.declared.statement.Statement.TheVariants as told
use Rattle.pdn_script.specs.declared.value.Value.{Value}
use Rattle.pdn_script.specs.Format.{format}
use Rattle.pdn_script.specs.Given.{value}
use Rattle.pdn_script.specs.Known.{nothing_known, or_empty, domain_name, or_last, after_domain, after_grid, after_ring, after_command, known_after, known_of}
use Rattle.pdn_script.specs.Limits.{Keeps, DomainKeeps, GridKeeps, StripeKeeps, RingKeeps, ConnectKeeps, ScriptKeeps}
use Rattle.pdn_script.specs.Names.{with_name}
use Rattle.pdn_script.specs.Record.{SaysCommand, SaysUnless, Says, with_statement, no_commands}
use Rattle.pdn_script.specs.Rule.{pattern}
use Rattle.pdn_script.specs.Section.{section_by}
use Rattle.pdn_script.specs.Sort.{sort_of, is_end}
use Rattle.pdn_script.specs.inside.Held.{KeepsWith}
use Rattle.pdn_script.specs.inside.Value.{says, AreSaid, IsWhole}
use Rattle.pdn_script.proofs.Hearing.{are_said}
use Rattle.pdn_script.proofs.Keeping.{Limits, domain_kept, grid_kept, stripe_kept, width_given, ring_kept, connect_kept}
use Rattle.pdn_script.proofs.Whole.{Ended, Fine, ended, fine}
use Rattle.reading.specs.declared.word.Heard.{Heard}
use Rattle.reading.specs.Grammar.{AreHeard, IsTaken}
use Rattle.reading.specs.Pattern.{Matches}
use Rattle.reading.specs.Word.{Token, heard_token}
use Rattle.script_options.specs.declared.command.Command.{Command}
use Rattle.script_options.specs.declared.command.Command.TheVariants as commands
use Rattle.script_options.specs.declared.option.ScriptOption.TheVariants as options
use Rattle.script_options.specs.Command.{command_named}

-- ## one more name

distinct_more : (names : List (List ℕ)) (name : List ℕ) → AreDistinct names → (Contains names name → ⊥) → AreDistinct (names ++ name ∷ [])
distinct_more [] name distinct none = AllPairs-cons (λ a b. a ≢ b) name [] (All-nil (λ b. name ≢ b)) (λ i j d lt within. absurd (omega arith))
distinct_more (x ∷ names) name distinct none =
    AllPairs-cons (λ a b. a ≢ b) x (names ++ name ∷ [])
    (All-push (λ b. x ≢ b) names name (λ k d within. distinct 0 (suc k) d (omega arith) (omega arith)) (λ e. none (subst (Contains (x ∷ names)) e (member_head x names))))
    (distinct_more names name (λ i j d lt within. distinct (suc i) (suc j) d (omega arith) (omega arith)) (λ c. none (member_tail x names name c)))

name_new : (names : List (List ℕ)) (name : List ℕ) (b : Bool) → is_among names name ≡ b → (Contains names name → ⊥) → cond b names (names ++ name ∷ []) ≡ names ++ name ∷ []
name_new names name true e none = absurd (none (member names name e))
name_new names name false e none = refl

with_new : (names : List (List ℕ)) (name : List ℕ) → (Contains names name → ⊥) → with_name names name ≡ names ++ name ∷ []
with_new names name none = name_new names name (is_among names name) refl none

wider : (names : List (List ℕ)) (name other : List ℕ) → (Contains names name → ⊥) → Contains names other → Contains (with_name names name) other
wider names name other none there = subst (λ z. Contains z other) (sym (with_new names name none)) (Contains-append_left names (name ∷ []) other there)

last_in : (names : List (List ℕ)) (name : List ℕ) → (Contains names name → ⊥) → Contains (with_name names name) name
last_in names name none = subst (λ z. Contains z name) (sym (with_new names name none)) (Contains-push names name)

names_more : {E : Type 0} (name : E → List ℕ) (entries : List E) (entry : E) (names : List (List ℕ)) (own : List ℕ) → map name entries ≡ names → name entry ≡ own → (Contains names own → ⊥) →
    map name (entries ++ entry ∷ []) ≡ with_name names own
names_more name entries entry names own h e none =
    map-append name entries (entry ∷ []) ∙ ap (λ z. z ++ name entry ∷ []) h ∙ ap (λ z. names ++ z ∷ []) e ∙ sym (with_new names own none)

distinct_with : (names : List (List ℕ)) (name : List ℕ) → AreDistinct names → (Contains names name → ⊥) → AreDistinct (with_name names name)
distinct_with names name h none = subst AreDistinct (sym (with_new names name none)) (distinct_more names name h none)

-- ## one more command

domain_more : (known : Known) (script : Script) (words : List Token) (domain : Domain) → KeepsWith known script → domain.name ≡ domain_name words → DomainKeeps domain →
    (Contains known.domains (domain_name words) → ⊥) → KeepsWith (after_domain known words) (with_statement script (Some (told.Domain domain)))
domain_more known script words domain h e kept none = record {
  domain_names = names_more (λ (d : Domain). d.name) script.domains domain known.domains (domain_name words) h.domain_names e none;
  grid_names = h.grid_names;
  ring_grids = h.ring_grids;
  distinct_domains = distinct_with known.domains (domain_name words) h.distinct_domains none;
  distinct_grids = h.distinct_grids;
  one_ring = h.one_ring;
  last_domain = last_in known.domains (domain_name words) none;
  last_grid = h.last_grid;
  domains = All-push DomainKeeps script.domains domain h.domains kept;
  grids = All-weaker (GridKeeps known.domains) (GridKeeps (with_name known.domains (domain_name words)))
      (λ g k. record { name = k.name; domain = wider known.domains (domain_name words) g.voltage_domains none k.domain; pins = k.pins; orient = k.orient; halo = k.halo; cells = k.cells; instances = k.instances })
      script.grids h.grids;
  stripes = h.stripes;
  rings = h.rings;
  connects = h.connects;
}

grid_more : (known : Known) (script : Script) (words : List Token) (grid : GridRule) → KeepsWith known script → grid.name ≡ or_empty (value options.Name words) → GridKeeps known.domains grid →
    (Contains known.grids (or_empty (value options.Name words)) → ⊥) → KeepsWith (after_grid known words) (with_statement script (Some (told.Grid grid)))
grid_more known script words grid h e kept none =
    let own = or_empty (value options.Name words) in record {
      domain_names = h.domain_names;
      grid_names = names_more (λ (g : GridRule). g.name) script.grids grid known.grids own h.grid_names e none;
      ring_grids = h.ring_grids;
      distinct_domains = h.distinct_domains;
      distinct_grids = distinct_with known.grids own h.distinct_grids none;
      one_ring = h.one_ring;
      last_domain = h.last_domain;
      last_grid = last_in known.grids own none;
      domains = h.domains;
      grids = All-push (GridKeeps known.domains) script.grids grid h.grids kept;
      stripes = All-weaker (StripeKeeps known.grids) (StripeKeeps (with_name known.grids own))
          (λ s k. record { layer = k.layer; width = k.width; pitch = k.pitch; grid = wider known.grids own s.grid none k.grid; spacing = k.spacing; offset = k.offset; number_of_straps = k.number_of_straps; nets = k.nets })
          script.stripes h.stripes;
      rings = All-weaker (RingKeeps known.grids) (RingKeeps (with_name known.grids own))
          (λ r k. record { layers = k.layers; layer_names = k.layer_names; widths = k.widths; spacings = k.spacings; core_offsets = k.core_offsets; grid = wider known.grids own r.grid none k.grid; nets = k.nets })
          script.rings h.rings;
      connects = All-weaker (ConnectKeeps known.grids) (ConnectKeeps (with_name known.grids own))
          (λ c k. record { layers = k.layers; layer_names = k.layer_names; grid = wider known.grids own c.grid none k.grid; max_rows = k.max_rows; max_columns = k.max_columns })
          script.connects h.connects;
    }

stripe_more : (known : Known) (script : Script) (stripe : Stripe) → KeepsWith known script → StripeKeeps known.grids stripe → KeepsWith known (with_statement script (Some (told.Stripe stripe)))
stripe_more known script stripe h kept = record {
  domain_names = h.domain_names;
  grid_names = h.grid_names;
  ring_grids = h.ring_grids;
  distinct_domains = h.distinct_domains;
  distinct_grids = h.distinct_grids;
  one_ring = h.one_ring;
  last_domain = h.last_domain;
  last_grid = h.last_grid;
  domains = h.domains;
  grids = h.grids;
  stripes = All-push (StripeKeeps known.grids) script.stripes stripe h.stripes kept;
  rings = h.rings;
  connects = h.connects;
}

connect_more : (known : Known) (script : Script) (connect : Connect) → KeepsWith known script → ConnectKeeps known.grids connect → KeepsWith known (with_statement script (Some (told.Connect connect)))
connect_more known script connect h kept = record {
  domain_names = h.domain_names;
  grid_names = h.grid_names;
  ring_grids = h.ring_grids;
  distinct_domains = h.distinct_domains;
  distinct_grids = h.distinct_grids;
  one_ring = h.one_ring;
  last_domain = h.last_domain;
  last_grid = h.last_grid;
  domains = h.domains;
  grids = h.grids;
  stripes = h.stripes;
  rings = h.rings;
  connects = All-push (ConnectKeeps known.grids) script.connects connect h.connects kept;
}

ring_more : (known : Known) (script : Script) (words : List Token) (ring : Ring) → KeepsWith known script → ring.grid ≡ or_last (value options.Grid words) known.last_grid → RingKeeps known.grids ring →
    (Contains known.ringed (or_last (value options.Grid words) known.last_grid) → ⊥) → KeepsWith (after_ring known words) (with_statement script (Some (told.Ring ring)))
ring_more known script words ring h e kept none =
    let own = or_last (value options.Grid words) known.last_grid in record {
      domain_names = h.domain_names;
      grid_names = h.grid_names;
      ring_grids = names_more (λ (r : Ring). r.grid) script.rings ring known.ringed own h.ring_grids e none;
      distinct_domains = h.distinct_domains;
      distinct_grids = h.distinct_grids;
      one_ring = distinct_with known.ringed own h.one_ring none;
      last_domain = h.last_domain;
      last_grid = h.last_grid;
      domains = h.domains;
      grids = h.grids;
      stripes = h.stripes;
      rings = All-push (RingKeeps known.grids) script.rings ring h.rings kept;
      connects = h.connects;
    }

-- A command that names nothing and says nothing: only whether the script has ended, and whether a command is passed over.
marked : (known : Known) (script : Script) (ended passing : Bool) → KeepsWith known script → KeepsWith (record known { ended = ended; passing = passing }) script
marked known script ended passing h = record {
  domain_names = h.domain_names;
  grid_names = h.grid_names;
  ring_grids = h.ring_grids;
  distinct_domains = h.distinct_domains;
  distinct_grids = h.distinct_grids;
  one_ring = h.one_ring;
  last_domain = h.last_domain;
  last_grid = h.last_grid;
  domains = h.domains;
  grids = h.grids;
  stripes = h.stripes;
  rings = h.rings;
  connects = h.connects;
}

untold : (known : Known) (script : Script) (one : Option Statement) → one ≡ None → KeepsWith known script → KeepsWith known (with_statement script one)
untold known script one e h = subst (λ z. KeepsWith known (with_statement script z)) (sym e) h

-- A command is whole: its words say their values, and it is passed over or it has ended without a fault.
pub record Command_fine (known : Known) (command : Command) (words : List (Heard Value)) : Type 0 where
  pub said : AreSaid known command [] words
  pub ended : Ended (map heard_token words)
  pub fine : Fine known command ended.before

command_more : Limits → (known : Known) (first : Token) (words : List (Heard Value)) (script : Script) (command : Command) (one : Option Statement) → KeepsWith known script →
    (command ≡ commands.PassedOver) ⊎ Command_fine known command words → SaysCommand known first (map heard_token words) command one →
    KeepsWith (after_command known command (map heard_token words)) (with_statement script one)
command_more l known first words script commands.SetVoltageDomain one h (inr w) says =
    let k = domain_kept known first words w.ended w.said w.fine says.0 says.1 in
    subst (λ z. KeepsWith (after_domain known (map heard_token words)) (with_statement script z)) (sym says.2) (domain_more known script (map heard_token words) says.0 h says.1.name k.0 k.1)
command_more l known first words script commands.DefinePdnGrid one h (inr w) says =
    let k = grid_kept l known first words w.ended w.said w.fine h.last_domain says.0 says.1 in
    subst (λ z. KeepsWith (after_grid known (map heard_token words)) (with_statement script z)) (sym says.2) (grid_more known script (map heard_token words) says.0 h says.1.name k.0 k.1)
command_more l known first words script commands.AddPdnStripe one h (inr w) says =
    subst (λ z. KeepsWith known (with_statement script z)) (sym says.2)
    (stripe_more known script says.0 h (stripe_kept l known first words w.ended w.said w.fine h.last_grid says.0 says.1))
command_more l known first words script commands.AddPdnRing one h (inr w) says =
    let k = ring_kept l known first words w.ended w.said w.fine h.last_grid says.0 says.1 in
    subst (λ z. KeepsWith (after_ring known (map heard_token words)) (with_statement script z)) (sym says.2) (ring_more known script (map heard_token words) says.0 h says.1.grid k.0 k.1)
command_more l known first words script commands.AddPdnConnect one h (inr w) says =
    subst (λ z. KeepsWith known (with_statement script z)) (sym says.2)
    (connect_more known script says.0 h (connect_kept l known first words w.ended w.said w.fine h.last_grid says.0 says.1))
command_more l known first words script commands.Pdngen one h w says = subst (λ z. KeepsWith (after_command known commands.Pdngen (map heard_token words)) (with_statement script z)) (sym says) (marked known script true known.passing h)
command_more l known first words script commands.PassedOver one h w says = subst (λ z. KeepsWith (after_command known commands.PassedOver (map heard_token words)) (with_statement script z)) (sym says) (marked known script known.ended true h)
command_more l known first words script commands.Unknown one h w says = untold known script one says h
command_more l known first words script commands.SetVoltageDomain one h (inl w) says = absurd (cc)
command_more l known first words script commands.DefinePdnGrid one h (inl w) says = absurd (cc)
command_more l known first words script commands.AddPdnStripe one h (inl w) says = absurd (cc)
command_more l known first words script commands.AddPdnRing one h (inl w) says = absurd (cc)
command_more l known first words script commands.AddPdnConnect one h (inl w) says = absurd (cc)

-- ## one more unit

pub command_fine : (units : List (List Token)) (first : Heard Value) (words : List (Heard Value)) → IsTaken format units (map heard_token (first ∷ words)) → AreHeard (says units) [] (first ∷ words) →
    (known_of units).passing ≡ false → is_end (heard_token first) ≡ false →
    (command_named (heard_token first).text ≡ commands.PassedOver) ⊎ Command_fine (known_of units) (command_named (heard_token first).text) words
command_fine units first words taken heard passing begins =
    let f = heard_token first in
    elim (ended f (map heard_token words) (subst (λ z. Matches sort_of (pattern (section_by z)) (map heard_token (first ∷ words))) passing taken.matches) begins) [
      | inl p ↦ inl p
      | inr e ↦ inr (record { said = are_said units f [] words heard.1; ended = e; fine = fine units first words heard passing begins e })
    ]

-- What is said of the words of a command.
pub whole : (units : List (List Token)) (first : Heard Value) (words : List (Heard Value)) → IsTaken format units (map heard_token (first ∷ words)) → AreHeard (says units) [] (first ∷ words) →
    (known_of units).passing ≡ false → is_end (heard_token first) ≡ false → IsWhole (known_of units) (command_named (heard_token first).text) words
whole units first words taken heard passing begins =
    let command = command_named (heard_token first).text in record {
      said = are_said units (heard_token first) [] words heard.1;
      width = λ stripe. elim (command_fine units first words taken heard passing begins) [
        | inl p ↦ absurd (let t : commands.PassedOver ≡ commands.AddPdnStripe = sym p ∙ stripe in cc)
        | inr w ↦ width_given (known_of units) words w.ended (subst (λ z. Fine (known_of units) z w.ended.before) stripe w.fine)
      ];
    }

by_first : Limits → (units : List (List Token)) (first : Heard Value) (words : List (Heard Value)) (script : Script) (one : Option Statement) (passing ends : Bool) → (known_of units).passing ≡ passing →
    is_end (heard_token first) ≡ ends → IsTaken format units (map heard_token (first ∷ words)) → AreHeard (says units) [] (first ∷ words) →
    SaysUnless (passing || ends) (known_of units) (heard_token first) (map heard_token words) one → KeepsWith (known_of units) script →
    KeepsWith (cond passing (record (known_of units) { passing = not (is_end (heard_token first)) })
    (cond ends (known_of units) (after_command (known_of units) (command_named (heard_token first).text) (map heard_token words)))) (with_statement script one)
by_first l units first words script one true ends p e taken heard says h = untold _ script one says (marked (known_of units) script (known_of units).ended _ h)
by_first l units first words script one false true p e taken heard says h = untold (known_of units) script one says h
by_first l units first words script one false false p e taken heard says h =
    command_more l (known_of units) (heard_token first) words script (command_named (heard_token first).text) one h (command_fine units first words taken heard p e) says

-- One more unit keeps what the script before it keeps.
pub unit_kept : Limits → (units : List (List Token)) (unit : List (Heard Value)) (script : Script) (one : Option Statement) → IsTaken format units (map heard_token unit) → AreHeard (says units) [] unit →
    Says (known_of units) (map heard_token unit) one → KeepsWith (known_of units) script → KeepsWith (known_after (known_of units) (map heard_token unit)) (with_statement script one)
unit_kept l units [] script one taken heard says h = untold (known_of units) script one says h
unit_kept l units (first ∷ words) script one taken heard says h =
    by_first l units first words script one (known_of units).passing (is_end (heard_token first)) refl refl taken heard says h

pub nothing_kept : KeepsWith nothing_known no_commands
nothing_kept = record {
  domain_names = refl;
  grid_names = refl;
  ring_grids = refl;
  distinct_domains = λ i j d lt within. absurd (omega arith);
  distinct_grids = λ i j d lt within. absurd (omega arith);
  one_ring = λ i j d lt within. absurd (omega arith);
  last_domain = tt;
  last_grid = tt;
  domains = All-nil DomainKeeps;
  grids = All-nil (GridKeeps []);
  stripes = All-nil (StripeKeeps []);
  rings = All-nil (RingKeeps []);
  connects = All-nil (ConnectKeeps []);
}

-- The script keeps its limits.
pub script_kept : (known : Known) (script : Script) → KeepsWith known script → ScriptKeeps script
script_kept known script h = record {
  domain_names = subst AreDistinct (sym h.domain_names) h.distinct_domains;
  grid_names = subst AreDistinct (sym h.grid_names) h.distinct_grids;
  one_ring = subst AreDistinct (sym h.ring_grids) h.one_ring;
  domains = h.domains;
  grids = subst (λ z. All (GridKeeps z) script.grids) (sym h.domain_names) h.grids;
  stripes = subst (λ z. All (StripeKeeps z) script.stripes) (sym h.grid_names) h.stripes;
  rings = subst (λ z. All (RingKeeps z) script.rings) (sym h.grid_names) h.rings;
  connects = subst (λ z. All (ConnectKeeps z) script.connects) (sym h.grid_names) h.connects;
}
