-- What the record of a command keeps, by what its words say.
use Rattle.std.proofs.Common.{◌≡◌, ◌≢◌, ℕ, ◌+◌, ◌<◌, ◌≤◌, ◌^◌, inl, inr, Bool, true, false, cond, not, ◌||◌, ◌&&◌, List, [], ◌∷◌, ◌++◌, length, map, All, Contains, Option, None, Some, codes, refl, sym, ◌∙◌, ap, subst, arith}
use Rattle.std.specs.Prelude.{◌==◌}
use Rattle.std.proofs.lemmas.List.Elements.{All-from_recursion}
use Rattle.entry_list.specs.InTurn.{InTurn}
use Rattle.entry_list.specs.Laws.{in-turn-all}
use Rattle.list_laws.specs.Among.{is_among}
use Rattle.list_laws.specs.Laws.Among.{among, member}
use Rattle.pdn_script.specs.declared.error.ScriptKind.{ScriptKind}
use Rattle.pdn_script.specs.declared.error.ScriptKind.TheVariants as kinds
use Rattle.pdn_script.specs.declared.known.Known.{Known}
use Rattle.pdn_script.specs.declared.record.Connect.{Connect}
use Rattle.pdn_script.specs.declared.record.Domain.{Domain}
use Rattle.pdn_script.specs.declared.record.GridRule.{GridRule}
use Rattle.pdn_script.specs.declared.record.Ring.{Ring}
use Rattle.pdn_script.specs.declared.record.Stripe.{Stripe}
use Rattle.pdn_script.specs.declared.value.Value.{Value}
use Rattle.pdn_script.specs.Fault.{none_kind, if_so, late_at, missing_kind, lacks}
use Rattle.pdn_script.specs.Field.{maybe_names, IsNames, IsMaybeNames, IsNumber, IsMaybeNumber, IsNumberOrZero, AreNumbers, AreMaybeNumbers}
use Rattle.pdn_script.specs.Given.{is_waiting, waits_after, value_from, value, stands, value_at_from, value_at}
use Rattle.pdn_script.specs.Known.{or_empty, region_or_core, name_or_region, domain_name, or_last, is_none}
use Rattle.pdn_script.specs.Limits.{IsLength, IsWidth, IsCount, Keeps, AreNames, DomainKeeps, GridKeeps, StripeKeeps, RingKeeps, ConnectKeeps}
use Rattle.pdn_script.specs.Record.{IsDomain, IsGrid, IsStripe, IsRing, IsConnect}
use Rattle.pdn_script.specs.inside.Value.{AreSaid, IsGiven}
use Rattle.pdn_script.proofs.Whole.{Ended, Fine, Stated, stated, given, value_front}
use Rattle.reading.specs.declared.refusal.Found.{Found}
use Rattle.reading.specs.declared.word.Heard.{Heard}
use Rattle.reading.specs.Word.{Token, heard_token}
use Rattle.script_options.specs.declared.command.Command.{Command}
use Rattle.script_options.specs.declared.command.Command.TheVariants as commands
use Rattle.script_options.specs.declared.number.Quantity.{Quantity}
use Rattle.script_options.specs.declared.number.Quantity.TheVariants as quantities
use Rattle.script_options.specs.declared.option.ScriptOption.{ScriptOption}
use Rattle.script_options.specs.declared.option.ScriptOption.TheVariants as options
use Rattle.script_options.specs.declared.table.Counts.TheVariants as counts
use Rattle.script_options.specs.declared.table.ValueForm.TheVariants as forms
use Rattle.script_options.specs.ListWords.{words_of}
use Rattle.script_options.specs.Number.{IsNumberIn}
use Rattle.script_options.specs.Table.{form_of}
use Rattle.script_options.specs.Value.{fits, Suits}
use Rattle.text_lex.specs.Name.{IsName}

-- The limits of numbers.
pub record Limits : Type 0 where
  pub lengths : (text : List ℕ) (value : ℕ) → IsNumberIn quantities.Length text value → value ≤ 10 ^ 11
  pub widths : (text : List ℕ) (value : ℕ) → IsNumberIn quantities.Width text value → (0 < value) × (value ≤ 10 ^ 11)
  pub counts : (text : List ℕ) (value : ℕ) → IsNumberIn quantities.Count text value → (0 < value) × (value ≤ 10 ^ 6)

no : false ≡ true → ⊥
no h = cc

some_none : (kind : ScriptKind) → ◌≡◌ {A = Option ScriptKind} (Some kind) None → ⊥
some_none kind h = cc

-- ## tests that do not hold

or_false : (a b : Bool) → (a || b) ≡ false → (a ≡ false) × (b ≡ false)
or_false true b h = absurd (no (sym h))
or_false false b h = (refl, h)

not_false : (a : Bool) → not a ≡ false → a ≡ true
not_false true h = refl
not_false false h = absurd (no (sym h))

not_so : (b : Bool) (kind : ScriptKind) → if_so b kind ≡ None → b ≡ false
not_so true kind h = absurd (some_none kind h)
not_so false kind h = refl

neither : (b : Bool) (kind : ScriptKind) (later : Option ScriptKind) → cond b (Some kind) later ≡ None → (b ≡ false) × (later ≡ None)
neither true kind later h = absurd (some_none kind h)
neither false kind later h = (refl, h)

is_so : (b : Bool) (kind : ScriptKind) → cond b None (Some kind) ≡ None → b ≡ true
is_so true kind h = refl
is_so false kind h = absurd (some_none kind h)

new_name : (names : List (List ℕ)) (name : List ℕ) → is_among names name ≡ false → Contains names name → ⊥
new_name names name h there = no (sym h ∙ among names name there)

-- ## values

pub name_given : (known : Known) (command : Command) (words : List (Heard Value)) (option : ScriptOption) → AreSaid known command [] words → form_of option ≡ forms.Name →
    IsGiven option (map heard_token words) → IsName (or_empty (value option (map heard_token words)))
name_given known command words option said form g =
    subst (λ z. IsName (or_empty z)) (sym g.1) (subst (λ z. Suits z g.0) form (stated known command words option g.0 said g.1).suits)

maybe_name : (known : Known) (command : Command) (words : List (Heard Value)) (option : ScriptOption) → AreSaid known command [] words → form_of option ≡ forms.Name →
    (v : Option (List ℕ)) → value option (map heard_token words) ≡ v → Keeps IsName v
maybe_name known command words option said form None e = tt
maybe_name known command words option said form (Some text) e = subst (λ z. Suits z text) form (stated known command words option text said e).suits

names_kept : (known : Known) (command : Command) (words : List (Heard Value)) (option : ScriptOption) → AreSaid known command [] words → form_of option ≡ forms.Names counts.Any →
    (v : Option (List ℕ)) → value option (map heard_token words) ≡ v → Keeps AreNames (maybe_names v)
names_kept known command words option said form None e = tt
names_kept known command words option said form (Some text) e =
    let s : Suits (forms.Names counts.Any) text = subst (λ z. Suits z text) form (stated known command words option text said e).suits in
    All-from_recursion IsName (words_of text) s.1

stated_names : (known : Known) (command : Command) (words : List (Heard Value)) (option : ScriptOption) → AreSaid known command [] words → form_of option ≡ forms.Names counts.Any →
    (names : Option (List (List ℕ))) → IsMaybeNames (value option (map heard_token words)) names → Keeps AreNames names
stated_names known command words option said form names e = subst (Keeps AreNames) (sym e) (names_kept known command words option said form _ refl)

two_is : (n : ℕ) → (n == 2) ≡ true → n ≡ 2
two_is n h = grind (arith, h)

-- The two layers of a ring or a connect.
two_layers : (known : Known) (command : Command) (words : List (Heard Value)) → AreSaid known command [] words → IsGiven options.Layers (map heard_token words) → (layers : List (List ℕ)) →
    IsNames (value options.Layers (map heard_token words)) layers → (length layers ≡ 2) × AreNames layers
two_layers known command words said g layers e =
    let s : Suits (forms.Names counts.Two) g.0 = (stated known command words options.Layers g.0 said g.1).suits in
    let is : layers ≡ words_of g.0 = e ∙ ap (λ z. words_of (or_empty z)) g.1 in
    (ap length is ∙ two_is (length (words_of g.0)) s.0, subst AreNames (sym is) (All-from_recursion IsName (words_of g.0) s.1))

maybe_kept : (q : Quantity) (keeps : ℕ → Type 0) → ((text : List ℕ) (value : ℕ) → IsNumberIn q text value → keeps value) → (v : Option (List ℕ)) (number : Option ℕ) → IsMaybeNumber q v number →
    Keeps keeps number
maybe_kept q keeps limit None None h = tt
maybe_kept q keeps limit (Some text) (Some number) h = limit text number h
maybe_kept q keeps limit None (Some number) h = absurd h
maybe_kept q keeps limit (Some text) None h = absurd h

or_zero_kept : Limits → (v : Option (List ℕ)) (number : ℕ) → IsNumberOrZero v number → IsLength number
or_zero_kept l None number h = omega (arith, h)
or_zero_kept l (Some text) number h = l.lengths text number h

lengths_kept : Limits → (v : Option (List ℕ)) (numbers : Option (List ℕ)) → AreMaybeNumbers v numbers → Keeps (All IsLength) numbers
lengths_kept l None None h = tt
lengths_kept l (Some text) (Some numbers) h = in-turn-all (IsNumberIn quantities.Length) IsLength l.lengths (words_of text) numbers h
lengths_kept l None (Some numbers) h = absurd h
lengths_kept l (Some text) None h = absurd h

-- ## names that are known

last_there : (names : List (List ℕ)) (last : Option (List ℕ)) (kind : ScriptKind) → none_kind last kind ≡ None → Keeps (Contains names) last → Contains names (or_empty last)
last_there names None kind h k = absurd (some_none kind h)
last_there names (Some name) kind h k = k

or_last_there : (names : List (List ℕ)) (v last : Option (List ℕ)) → ((text : List ℕ) → v ≡ Some text → Contains names text) → Contains names (or_empty last) → Contains names (or_last v last)
or_last_there names None last h k = k
or_last_there names (Some text) last h k = h text refl

-- ## a domain

core_name : IsName (codes "Core")
core_name = (record { some = omega arith; begins = refl; plain = refl; ends = refl }, λ h. (let t : length (codes "Core") ≡ length (codes ";") = ap length h in omega (arith, t)))

domain_named : (n r : Option (List ℕ)) → Keeps IsName n → Keeps IsName r → IsName (name_or_region n r)
domain_named (Some name) r h k = h
domain_named None (Some region) h k = k
domain_named None None h k = core_name

no_place : (t : List ℕ) → ◌≡◌ {A = Option (List ℕ)} None (Some t) → ⊥
no_place t h = cc

place_by : (b : Bool) (n : ℕ) (w t : List ℕ) (later : Option (List ℕ)) (places : Option ℕ) → cond b (Some w) later ≡ Some t → (later ≡ Some t → (k : ℕ) × (places ≡ Some k)) →
    (k : ℕ) × (cond b (Some n) places ≡ Some k)
place_by true n w t later places h rest = (n, refl)
place_by false n w t later places h rest = rest h

-- A value that stands has a place.
placed : (option : ScriptOption) (waits : Option ScriptOption) (n : ℕ) (words : List Token) (t : List ℕ) → value_from option waits words ≡ Some t → (k : ℕ) × (value_at_from option waits n words ≡ Some k)
placed option waits n [] t h = absurd (no_place t h)
placed option waits n (w ∷ words) t h =
    place_by (is_waiting option waits) n w.text t (value_from option (waits_after waits w) words) (value_at_from option (waits_after waits w) (n + 1) words) h
    (λ k. placed option (waits_after waits w) (n + 1) words t k)

found_none : (a : Found ScriptKind) → ◌≡◌ {A = Option (Found ScriptKind)} (Some a) None → ⊥
found_none a h = cc

not_late : (b : Bool) (place : Option ℕ) (k : ℕ) → place ≡ Some k → cond b (late_at place kinds.Twice) None ≡ None → b ≡ false
not_late true place k e h = absurd (found_none _ (subst (λ z. late_at z kinds.Twice ≡ None) e h))
not_late false place k e h = refl

-- The name of a new domain is none of those before.
domain_new : (domains : List (List ℕ)) (n r : Option (List ℕ)) (place : Option ℕ) → ((t : List ℕ) → n ≡ Some t → is_among domains t ≡ false) →
    ((t : List ℕ) → r ≡ Some t → (k : ℕ) × (place ≡ Some k)) → cond (is_none n && is_among domains (or_empty r)) (late_at place kinds.Twice) None ≡ None →
    (is_none r && is_none n && is_among domains (name_or_region n r)) ≡ false → is_among domains (name_or_region n r) ≡ false
domain_new domains (Some t) r place named at late end = named t refl
domain_new domains None (Some t) place named at late end = let p = at t refl in not_late (is_among domains t) place p.0 p.1 late
domain_new domains None None place named at late end = end

pub domain_kept : (known : Known) (first : Token) (words : List (Heard Value)) → (e : Ended (map heard_token words)) → AreSaid known commands.SetVoltageDomain [] words →
    Fine known commands.SetVoltageDomain e.before → (domain : Domain) → IsDomain first (map heard_token words) domain → DomainKeeps domain × (Contains known.domains (domain_name (map heard_token words)) → ⊥)
domain_kept known first words e said f domain is =
    let ws = map heard_token words in
    let command = commands.SetVoltageDomain in
    let ends = neither _ kinds.Twice (missing_kind _) f.end in
    let lacking = or_false _ (lacks command e.before) (not_so _ kinds.MissingOption ends.1) in
    let power = or_false (not (stands options.Power e.before)) _ lacking.1 in
    let ground = or_false (not (stands options.Ground e.before)) _ power.1 in
    let same_name = value_front options.Name ws e in
    let same_region = value_front options.Region ws e in (
      record {
        name = subst IsName (sym is.name) (domain_named _ _ (maybe_name known command words options.Name said refl _ refl) (maybe_name known command words options.Region said refl _ refl));
        power = subst IsName (sym is.power) (name_given known command words options.Power said refl (given options.Power ws e refl (not_false _ power.0)));
        ground = subst IsName (sym is.ground) (name_given known command words options.Ground said refl (given options.Ground ws e refl (not_false _ ground.0)));
        region = subst (Keeps IsName) (sym is.region) (maybe_name known command words options.Region said refl _ refl);
      },
      new_name known.domains (domain_name ws)
          (ap (λ z. is_among known.domains (name_or_region z (value options.Region ws))) same_name ∙ ap (λ z. is_among known.domains (name_or_region (value options.Name e.before) z)) same_region
          ∙ domain_new known.domains (value options.Name e.before) (value options.Region e.before) (value_at options.Region e.before)
          (λ t h. not_so (is_among known.domains t) kinds.Twice (stated known command words options.Name t said (same_name ∙ h)).named)
          (λ t h. placed options.Region None 0 e.before t h) f.late ends.0),
    )

-- ## a grid

pub grid_kept : Limits → (known : Known) (first : Token) (words : List (Heard Value)) → (e : Ended (map heard_token words)) → AreSaid known commands.DefinePdnGrid [] words →
    Fine known commands.DefinePdnGrid e.before → Keeps (Contains known.domains) known.last_domain → (grid : GridRule) → IsGrid known first (map heard_token words) grid →
    GridKeeps known.domains grid × (Contains known.grids (or_empty (value options.Name (map heard_token words))) → ⊥)
grid_kept l known first words e said f last grid is =
    let ws = map heard_token words in
    let command = commands.DefinePdnGrid in
    let lacking = or_false (not (stands options.Name e.before)) _ (not_so (lacks command e.before) kinds.MissingOption f.end) in
    let name = given options.Name ws e refl (not_false _ lacking.0) in (
      record {
        name = subst IsName (sym is.name) (name_given known command words options.Name said refl name);
        domain = subst (Contains known.domains) (sym is.voltage_domains) (or_last_there known.domains _ known.last_domain
            (λ t h. member known.domains t (is_so _ kinds.UnknownDomain (stated known command words options.VoltageDomains t said h).named))
            (last_there known.domains known.last_domain kinds.UnknownDomain f.first last));
        pins = stated_names known command words options.Pins said refl _ is.pins;
        orient = stated_names known command words options.Orient said refl _ is.orient;
        halo = lengths_kept l _ _ is.halo;
        cells = stated_names known command words options.Cells said refl _ is.cells;
        instances = stated_names known command words options.Instances said refl _ is.instances;
      },
      new_name known.grids _ (ap (λ z. is_among known.grids (or_empty z)) name.1
          ∙ not_so (is_among known.grids name.0) kinds.Twice (stated known command words options.Name name.0 said name.1).named),
    )

-- ## what is of a grid

-- A grid that a command states is known, or else the last one is.
grid_there : (known : Known) (command : Command) (words : List (Heard Value)) → ((t : List ℕ) → value options.Grid (map heard_token words) ≡ Some t → Contains known.grids t) →
    none_kind known.last_grid kinds.UnknownGrid ≡ None → Keeps (Contains known.grids) known.last_grid → Contains known.grids (or_last (value options.Grid (map heard_token words)) known.last_grid)
grid_there known command words there first last =
    or_last_there known.grids _ known.last_grid there (last_there known.grids known.last_grid kinds.UnknownGrid first last)

pub stripe_kept : Limits → (known : Known) (first : Token) (words : List (Heard Value)) → (e : Ended (map heard_token words)) → AreSaid known commands.AddPdnStripe [] words →
    Fine known commands.AddPdnStripe e.before → Keeps (Contains known.grids) known.last_grid → (stripe : Stripe) → IsStripe known first (map heard_token words) stripe → StripeKeeps known.grids stripe
stripe_kept l known first words e said f last stripe is =
    let ws = map heard_token words in
    let command = commands.AddPdnStripe in
    let layer = or_false (not (stands options.Layer e.before)) _ (not_so (lacks command e.before) kinds.MissingOption f.end) in
    record {
      layer = subst IsName (sym is.layer) (name_given known command words options.Layer said refl (given options.Layer ws e refl (not_false _ layer.0)));
      width = l.widths _ _ is.width;
      pitch = maybe_kept quantities.Width IsWidth l.widths _ _ is.pitch;
      grid = subst (Contains known.grids) (sym is.grid) (grid_there known command words
          (λ t h. member known.grids t (is_so _ kinds.UnknownGrid (stated known command words options.Grid t said h).named)) f.first last);
      spacing = maybe_kept quantities.Length IsLength l.lengths _ _ is.spacing;
      offset = or_zero_kept l _ _ is.offset;
      number_of_straps = maybe_kept quantities.Count IsCount l.counts _ _ is.number_of_straps;
      nets = stated_names known command words options.Nets said refl _ is.nets;
    }

-- The width of a stripe is stated.
pub width_given : (known : Known) (words : List (Heard Value)) → (e : Ended (map heard_token words)) → Fine known commands.AddPdnStripe e.before → IsGiven options.Width (map heard_token words)
width_given known words e f =
    let layer = or_false (not (stands options.Layer e.before)) _ (not_so (lacks commands.AddPdnStripe e.before) kinds.MissingOption f.end) in
    let width = or_false (not (stands options.Width e.before)) _ layer.1 in
    given options.Width (map heard_token words) e refl (not_false _ width.0)

ring_new : (ringed : List (List ℕ)) (v last : Option (List ℕ)) → ((t : List ℕ) → v ≡ Some t → is_among ringed t ≡ false) → (is_none v && is_among ringed (or_empty last)) ≡ false →
    is_among ringed (or_last v last) ≡ false
ring_new ringed (Some t) last h end = h t refl
ring_new ringed None last h end = end

pub ring_kept : Limits → (known : Known) (first : Token) (words : List (Heard Value)) → (e : Ended (map heard_token words)) → AreSaid known commands.AddPdnRing [] words →
    Fine known commands.AddPdnRing e.before → Keeps (Contains known.grids) known.last_grid → (ring : Ring) → IsRing known first (map heard_token words) ring →
    RingKeeps known.grids ring × (Contains known.ringed (or_last (value options.Grid (map heard_token words)) known.last_grid) → ⊥)
ring_kept l known first words e said f last ring is =
    let ws = map heard_token words in
    let command = commands.AddPdnRing in
    let ends = neither _ kinds.Twice (missing_kind (lacks command e.before)) f.end in
    let given_layers = or_false (not (stands options.Layers e.before)) _ (not_so (lacks command e.before) kinds.MissingOption ends.1) in
    let layers = two_layers known command words said (given options.Layers ws e refl (not_false _ given_layers.0)) ring.layers is.layers in
    let same_grid = value_front options.Grid ws e in (
      record {
        layers = layers.0;
        layer_names = layers.1;
        widths = in-turn-all (IsNumberIn quantities.Width) IsWidth l.widths _ ring.widths is.widths;
        spacings = in-turn-all (IsNumberIn quantities.Length) IsLength l.lengths _ ring.spacings is.spacings;
        core_offsets = in-turn-all (IsNumberIn quantities.Length) IsLength l.lengths _ ring.core_offsets is.core_offsets;
        grid = subst (Contains known.grids) (sym is.grid) (grid_there known command words
            (λ t h. member known.grids t (is_so _ kinds.UnknownGrid (neither (is_among known.ringed t) kinds.Twice _ (stated known command words options.Grid t said h).named).1)) f.first last);
        nets = stated_names known command words options.Nets said refl _ is.nets;
      },
      new_name known.ringed _ (ap (λ z. is_among known.ringed (or_last z known.last_grid)) same_grid
          ∙ ring_new known.ringed (value options.Grid e.before) known.last_grid
          (λ t h. (neither (is_among known.ringed t) kinds.Twice _ (stated known command words options.Grid t said (same_grid ∙ h)).named).0) ends.0),
    )

pub connect_kept : Limits → (known : Known) (first : Token) (words : List (Heard Value)) → (e : Ended (map heard_token words)) → AreSaid known commands.AddPdnConnect [] words →
    Fine known commands.AddPdnConnect e.before → Keeps (Contains known.grids) known.last_grid → (connect : Connect) → IsConnect known first (map heard_token words) connect → ConnectKeeps known.grids connect
connect_kept l known first words e said f last connect is =
    let ws = map heard_token words in
    let command = commands.AddPdnConnect in
    let given_layers = or_false (not (stands options.Layers e.before)) _ (not_so (lacks command e.before) kinds.MissingOption f.end) in
    let layers = two_layers known command words said (given options.Layers ws e refl (not_false _ given_layers.0)) connect.layers is.layers in
    record {
      layers = layers.0;
      layer_names = layers.1;
      grid = subst (Contains known.grids) (sym is.grid) (grid_there known command words
          (λ t h. member known.grids t (is_so _ kinds.UnknownGrid (stated known command words options.Grid t said h).named)) f.first last);
      max_rows = maybe_kept quantities.Count IsCount l.counts _ _ is.max_rows;
      max_columns = maybe_kept quantities.Count IsCount l.counts _ _ is.max_columns;
    }
