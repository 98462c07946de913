-- The power net of a domain that is read is not its ground net: the later of the two names would be refused.
use Rattle.std.proofs.Common.{◌≡◌, ◌⊎◌, inl, inr, ℕ, ◌<◌, Bool, true, false, Some, None, List, [], ◌∷◌, ◌++◌, length, refl, sym, ap, ◌∙◌, subst, Ok, arith}
use Rattle.std.specs.Prelude.{Contains, Option, ◌||◌}
use Rattle.std.proofs.lemmas.List.{append_assoc}
use Rattle.std.proofs.lemmas.List.Elements.{All-contains}
use Rattle.std.proofs.lemmas.Slice.Eq.{bytes_eq-Decides}
use Rattle.text_lex.specs.Name.{IsName}
use Rattle.list_laws.specs.Among.{is_among}
use Rattle.reading.specs.declared.refusal.Found.{Found}
use Rattle.reading.specs.Pattern.{joined}
use Rattle.reading.specs.Reading.{Follows}
use Rattle.reading.specs.Word.{Token}
use Rattle.script_options.specs.declared.option.ScriptOption.{ScriptOption}
use Rattle.script_options.specs.declared.option.ScriptOption.TheVariants.{Power, Ground}
use Rattle.script_options.specs.Command.{command_named}
use Rattle.pdn_script.specs.declared.error.ScriptKind.{ScriptKind}
use Rattle.pdn_script.specs.declared.error.ScriptKind.TheVariants.{NetUse}
use Rattle.pdn_script.specs.declared.record.Domain.{Domain}
use Rattle.pdn_script.specs.declared.record.Script.{Script}
use Rattle.pdn_script.specs.Fault.{is_text, if_so, AtRole, AtLastOf, late_role, late_last_of, late_in, LastKind, FaultIn}
use Rattle.pdn_script.specs.Format.{format, ReadsScript}
use Rattle.pdn_script.specs.Given.{waiting, value}
use Rattle.pdn_script.specs.Known.{nothing_known, known_of, or_empty}
use Rattle.pdn_script.specs.Limits.{DomainKeeps, ScriptKeeps}
use Rattle.pdn_script.specs.Record.{no_commands}
use Rattle.script_nets.proofs.Units.{Known, IsSaid, said, no_fault}
use Rattle.script_nets.proofs.Words.{HasValue, has_value, value_there, power_waits, ground_waits, one_waits, last_is, front_is, GoesOn, two_places}

-- ## the fault of the later name

or_true : (b c : Bool) → c ≡ true → (b || c) ≡ true
or_true true c is = refl
or_true false c is = is

net_used : (others : List (List ℕ)) (stated : Option (List ℕ)) (name text : List ℕ) → stated ≡ Some name → name ≡ text
    → if_so (is_among others text || is_text stated text) NetUse ≡ Some NetUse
net_used others stated name text is same =
    let equal : is_text stated text ≡ true = ap (λ (s : Option (List ℕ)). is_text s text) is ∙ (bytes_eq-Decides name text).1 same in
    ap (λ (b : Bool). if_so b NetUse) (or_true (is_among others text) (is_text stated text) equal)

-- The last word is refused as the value of the option that waits for it.
shown : (known : Known) (first : Token) (before : List Token) (w : Token) (option : ScriptOption) → waiting before ≡ Some option
    → AtRole known (command_named first.text) before w (Some option) NetUse
    → FaultIn known (first ∷ (before ++ w ∷ [])) (record { at = length (before ++ w ∷ []); kind = NetUse })
shown known first before w option waits role = inr (late, omega arith, last)
  where
    words : List Token
    words = before ++ w ∷ []

    late : late_in known (first ∷ (before ++ w ∷ [])) ≡ None
    late =
        ap (λ (o : Option Token). late_last_of known first (before ++ w ∷ []) o) (last_is before w)
        ∙ ap (λ (b : List Token). late_role known (command_named first.text) b w (waiting b)) (front_is before w)
        ∙ ap (λ (o : Option ScriptOption). late_role known (command_named first.text) before w o) waits

    last : LastKind known (first ∷ (before ++ w ∷ [])) NetUse
    last =
        subst (λ (o : Option Token). AtLastOf known first (before ++ w ∷ []) o NetUse) (sym (last_is before w))
        (subst (λ (b : List Token). AtRole known (command_named first.text) b w (waiting b) NetUse) (sym (front_is before w))
        (subst (λ (o : Option ScriptOption). AtRole known (command_named first.text) before w o NetUse) (sym waits) role))

-- ## one command

-- A name that is stated.
pub record IsStated (option : ScriptOption) (words : List Token) (name : List ℕ) : Type 0 where
  pub is : value option words ≡ Some name
  pub named : IsName name

no_name : (text : List ℕ) → text ≡ [] → IsName text → ⊥
no_name text e is =
    let some = is.0.some in
    let none : length text ≡ 0 = ap (λ (l : List ℕ). length l) e in
    absurd (omega (arith, some, none))

stated : (option : ScriptOption) (words : List Token) (name : List ℕ) → name ≡ or_empty (value option words) → IsName name → IsStated option words name
stated option words name is named = by (value option words) refl
  where
    by : (o : Option (List ℕ)) → value option words ≡ o → IsStated option words name
    by None e = absurd (no_name name (is ∙ ap or_empty e) named)
    by (Some text) e = record { is = e ∙ ap (λ (t : List ℕ). Some t) (sym (is ∙ ap or_empty e)); named = named }

module _ (known : Known) (first : Token) (words : List Token)
    (clean : (part more : List Token) → first ∷ words ≡ part ++ more → 0 < length part → (found : Found ScriptKind) → FaultIn known part found → ⊥) where
  -- no value of an option is refused
  not_refused : (option : ScriptOption) (before : List Token) (w : Token) (after : List Token) → words ≡ before ++ w ∷ after → waiting before ≡ Some option
      → AtRole known (command_named first.text) before w (Some option) NetUse → ⊥
  not_refused option before w after is waits role =
      clean (first ∷ (before ++ w ∷ [])) after (ap (λ (l : List Token). first ∷ l) (is ∙ sym (append_assoc before (w ∷ []) after))) (omega arith)
      (record { at = length (before ++ w ∷ []); kind = NetUse }) (shown known first before w option waits role)

  pub two_nets : (power ground : List ℕ) → IsStated Power words power → IsStated Ground words ground → power ≡ ground → ⊥
  two_nets power ground p_is g_is same = by (two_places p.before g.before p.word g.word p.after g.after (sym p.is ∙ g.is))
    where
      p : HasValue Power None words power
      p = has_value Power None words power p_is.is

      g : HasValue Ground None words ground
      g = has_value Ground None words ground g_is.is

      p_waits : waiting p.before ≡ Some Power
      p_waits = power_waits (waiting p.before) p.waiting

      g_waits : waiting g.before ≡ Some Ground
      g_waits = ground_waits (waiting g.before) g.waiting

      p_named : IsName p.word.text
      p_named = subst IsName (sym p.text_is) p_is.named

      g_named : IsName g.word.text
      g_named = subst IsName (sym g.text_is) g_is.named

      by : (p.before ≡ g.before) ⊎ (GoesOn p.before p.word g.before ⊎ GoesOn g.before g.word p.before) → ⊥
      by (inl one) = one_waits (waiting g.before) (ap (λ (l : List Token). waiting l) (sym one) ∙ p_waits) g_waits
      by (inr (inl (middle, is))) =
          let stands : value Power g.before ≡ Some p.word.text = ap (λ (l : List Token). value Power l) is ∙ value_there Power None p.before p.word middle p.none p.waiting in
          not_refused Ground g.before g.word g.after g.is g_waits
          (inr ((λ refused r. r.1 g_named), net_used known.powers (value Power g.before) p.word.text g.word.text stands (p.text_is ∙ same ∙ sym g.text_is)))
      by (inr (inr (middle, is))) =
          let stands : value Ground p.before ≡ Some g.word.text = ap (λ (l : List Token). value Ground l) is ∙ value_there Ground None g.before g.word middle g.none g.waiting in
          not_refused Power p.before p.word p.after p.is p_waits
          (inr ((λ refused r. r.1 p_named), net_used known.grounds (value Ground p.before) g.word.text p.word.text stands (g.text_is ∙ sym same ∙ sym p.text_is)))

-- ## a script

no_domain : (d : Domain) → Contains [] d → ⊥
no_domain d is = let within = is.1 in absurd (omega (arith, within))

pub distinct : (text : List ℕ) (script : Script) (domain : Domain) → ReadsScript text (Ok script) → ScriptKeeps script → Contains script.domains domain
    → domain.power ≡ domain.ground → ⊥
distinct text script domain (split, is_split, units, (heard, hears, read), (told, all, is)) keeps there same =
    by (said nothing_known units told no_commands domain all (subst (λ (s : Script). Contains s.domains domain) is there))
  where
    keep : DomainKeeps domain
    keep = All-contains DomainKeeps script.domains domain keeps.domains there

    by : Contains no_commands.domains domain ⊎ IsSaid units domain → ⊥
    by (inl none) = no_domain domain none
    by (inr s) =
        two_nets (known_of s.front) s.first s.words
        (λ part more unit some found shows.
        let here : units ≡ s.front ++ (part ++ more) ∷ s.after = s.is ∙ ap (λ (u : List Token). s.front ++ u ∷ s.after) unit in
        no_fault format heard s.front part more s.after (subst (λ (us : List (List Token)). Follows format [] us) here read.whole)
        (read.is ∙ ap (λ (us : List (List Token)). joined us) here) some read.clean found shows)
        domain.power domain.ground (stated Power s.words domain.power s.says.power keep.power) (stated Ground s.words domain.ground s.says.ground keep.ground) same
