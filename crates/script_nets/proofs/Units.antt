-- A domain of a script is said by one of its commands, and no first words of a command that is read show a fault.
use Rattle.std.proofs.Common.{◌≡◌, ◌⊎◌, inl, inr, ℕ, ◌+◌, ◌-◌, ◌<◌, Bool, true, false, List, [], ◌∷◌, ◌++◌, length, take, refl, sym, ap, ◌∙◌, subst, arith}
use Rattle.std.specs.Prelude.{Contains, ◌||◌}
use Rattle.std.proofs.lemmas.List.{append_assoc, append-nil, length-append}
use Rattle.std.proofs.lemmas.List.Elements.{Contains-push_cases}
use Rattle.std.proofs.Math.Seq.{take-append_seam}
use Rattle.reading.specs.declared.refusal.Cause.{Cause}
use Rattle.reading.specs.declared.refusal.Cause.TheVariants.{Fault}
use Rattle.reading.specs.declared.refusal.Found.{Found}
use Rattle.reading.specs.Pattern.{Matches, joined}
use Rattle.reading.specs.Reading.{Format, Text, Follows, CauseAt, HasFault}
use Rattle.reading.specs.Word.{Token}
use Rattle.script_options.specs.declared.command.Command.{Command}
use Rattle.script_options.specs.declared.command.Command.TheVariants.{SetVoltageDomain, DefinePdnGrid, AddPdnStripe, AddPdnRing, AddPdnConnect, Pdngen, PassedOver, Unknown}
use Rattle.script_options.specs.Command.{command_named}
use Rattle.pdn_script.specs.declared.record.Domain.{Domain}
use Rattle.pdn_script.specs.declared.record.Script.{Script}
use Rattle.pdn_script.specs.Known.{known_after, known_of}
use Rattle.pdn_script.specs.Record.{IsDomain, SaysCommand, SaysUnless, Says, Told, with_statement, script_from}
use Rattle.pdn_script.specs.Sort.{is_end}

-- ## types that are private to the reader of scripts, by definitions that have them

abbrev Gives : {A B : Type 0} → (A → B) → Type 0
Gives {A} {B} f = B

abbrev Second : {A B C : Type 0} → (A → B → C) → Type 0
Second {A} {B} {C} f = B

abbrev pub Known : Type 0
Known = Gives known_of

abbrev pub Said : Type 0
Said = Second with_statement

-- ## the command that says a domain

abbrev IsUnitOf : List Token → Domain → Type 0
IsUnitOf unit domain = (first : Token) × (words : List Token) × (unit ≡ first ∷ words) × IsDomain first words domain

module _ (known : Known) (first : Token) (words : List Token) (one : Said) (script : Script) (d : Domain) (there : Contains (with_statement script one).domains d) where
  same : (other : Said) → one ≡ other → Contains (with_statement script other).domains d
  same other e = subst (λ (t : Said). Contains (with_statement script t).domains d) e there

  by_command : (c : Command) → SaysCommand known first words c one → Contains script.domains d ⊎ IsDomain first words d
  by_command SetVoltageDomain (domain, is, e) = by (Contains-push_cases script.domains domain d (same _ e))
    where
      by : Contains script.domains d ⊎ (domain ≡ d) → Contains script.domains d ⊎ IsDomain first words d
      by (inl earlier) = inl earlier
      by (inr this) = inr (subst (IsDomain first words) this is)
  by_command DefinePdnGrid (grid, is, e) = inl (same _ e)
  by_command AddPdnStripe (stripe, is, e) = inl (same _ e)
  by_command AddPdnRing (ring, is, e) = inl (same _ e)
  by_command AddPdnConnect (connect, is, e) = inl (same _ e)
  by_command Pdngen e = inl (same _ e)
  by_command PassedOver e = inl (same _ e)
  by_command Unknown e = inl (same _ e)

  by_unit : (b : Bool) → SaysUnless b known first words one → Contains script.domains d ⊎ IsDomain first words d
  by_unit true e = inl (same _ e)
  by_unit false says = by_command (command_named first.text) says

one_unit : (known : Known) (unit : List Token) (one : Said) (script : Script) (d : Domain) → Says known unit one → Contains (with_statement script one).domains d
    → Contains script.domains d ⊎ IsUnitOf unit d
one_unit known [] one script d e there = inl (subst (λ (t : Said). Contains (with_statement script t).domains d) e there)
one_unit known (first ∷ words) one script d says there = by (by_unit known first words one script d there (known.passing || is_end first) says)
  where
    by : Contains script.domains d ⊎ IsDomain first words d → Contains script.domains d ⊎ IsUnitOf (first ∷ words) d
    by (inl earlier) = inl earlier
    by (inr is) = inr (first, words, refl, is)

-- One of the units says the domain.
pub record IsSaid (units : List (List Token)) (domain : Domain) : Type 0 where
  pub front : List (List Token)
  pub first : Token
  pub words : List Token
  pub after : List (List Token)
  pub is : units ≡ front ++ (first ∷ words) ∷ after
  pub says : IsDomain first words domain

pub said : (known : Known) (units : List (List Token)) (told : List Said) (script : Script) (d : Domain) → Told known units told
    → Contains (script_from script told).domains d → Contains script.domains d ⊎ IsSaid units d
said known [] [] script d all there = inl there
said known [] (one ∷ told) script d all there = absurd all
said known (unit ∷ units) [] script d all there = absurd all
said known (unit ∷ units) (one ∷ told) script d all there = by (said (known_after known unit) units told (with_statement script one) d all.1 there)
  where
    here : Contains script.domains d ⊎ IsUnitOf unit d → Contains script.domains d ⊎ IsSaid (unit ∷ units) d
    here (inl earlier) = inl earlier
    here (inr (first, words, is, says)) =
        inr (record { front = []; first = first; words = words; after = units; is = ap (λ (u : List Token). u ∷ units) is; says = says })

    by : Contains (with_statement script one).domains d ⊎ IsSaid units d → Contains script.domains d ⊎ IsSaid (unit ∷ units) d
    by (inl earlier) = here (one_unit known unit one script d all.0 earlier)
    by (inr later) = inr (record {
      front = unit ∷ later.front;
      first = later.first;
      words = later.words;
      after = later.after;
      is = ap (λ (l : List (List Token)). unit ∷ l) later.is;
      says = later.says;
    })

-- ## the first words of a unit

follows_at : {W S K : Type 0} (f : Format W S K) (before front : List (List W)) (unit : List W) (after : List (List W)) → Follows f before (front ++ unit ∷ after)
    → Follows f before front × Matches (f.sort (before ++ front)) (f.follow (before ++ front)) unit
follows_at {W} f before [] unit after all =
    (tt, subst (λ (b : List (List W)). Matches (f.sort b) (f.follow b) unit) (sym (append-nil before)) all.1)
follows_at {W} f before (x ∷ front) unit after all =
    let (whole, at) = follows_at f (before ++ x ∷ []) front unit after all.2 in
    ((all.0, all.1, whole), subst (λ (b : List (List W)). Matches (f.sort b) (f.follow b) unit) (append_assoc before (x ∷ []) front) at)

joined_at : {W : Type 0} (front : List (List W)) (unit : List W) (after : List (List W)) → joined (front ++ unit ∷ after) ≡ joined front ++ (unit ++ joined after)
joined_at [] unit after = refl
joined_at (x ∷ front) unit after = ap (λ l. x ++ l) (joined_at front unit after) ∙ sym (append_assoc x (joined front) (unit ++ joined after))

-- In a text that nothing refuses the first words of a unit show no fault.
pub no_fault : {W S K : Type 0} (f : Format W S K) (heard : Text W) (front : List (List W)) (part more : List W) (after : List (List W))
    → Follows f [] (front ++ (part ++ more) ∷ after) → heard.words ≡ joined (front ++ (part ++ more) ∷ after) → 0 < length part
    → ((n : ℕ) (cause : Cause K) → CauseAt f heard n cause → ⊥) → (found : Found K) → f.fault front part found → ⊥
no_fault {W} {S} {K} f heard front part more after follows is some clean found shows =
    clean (length (joined front) + found.at) (Fault found.kind) (m, within, subst (λ (ws : List W). HasFault f ws (length (joined front) + found.at) found.kind) (sym taken) has)
  where
    follows_both : Follows f [] front × Matches (f.sort front) (f.follow front) (part ++ more)
    follows_both = follows_at f [] front (part ++ more) after follows

    words : heard.words ≡ (joined front ++ part) ++ (more ++ joined after)
    words =
        is ∙ joined_at front (part ++ more) after ∙ ap (λ l. joined front ++ l) (append_assoc part more (joined after))
        ∙ sym (append_assoc (joined front) part (more ++ joined after))

    m : ℕ
    m = length (joined front ++ part) - 1

    long : m + 1 ≡ length (joined front ++ part)
    long = let both = length-append (joined front) part in omega (arith, both, some)

    within : m < length heard.words
    within =
        let all : length heard.words ≡ length ((joined front ++ part) ++ (more ++ joined after)) = ap (λ (l : List W). length l) words in
        let both = length-append (joined front ++ part) (more ++ joined after) in
        let up = long in
        omega (arith, all, both, up)

    taken : take (m + 1) heard.words ≡ joined front ++ part
    taken = (λ i. take (long i) (words i)) ∙ take-append_seam (joined front ++ part) (more ++ joined after)

    has : HasFault f (joined front ++ part) (length (joined front) + found.at) found.kind
    has = (
      record { units = front; part = part; whole = follows_both.0; begins = (more, follows_both.1); some = some; is = refl },
      found.at,
      shows,
      refl,
    )
