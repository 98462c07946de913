-- Units without a fault, and where they lead.
use Rattle.std.proofs.Common.{◌≡◌, ℕ, suc, ◌<◌, false, List, [], ◌∷◌, ◌++◌, length, refl, sym, ◌∙◌, ap, subst, append_assoc, arith}
use Rattle.std.specs.Prelude.{None}
use Rattle.std.proofs.lemmas.List.{append-nil}
use Rattle.outside.specs.declared.place.Place.{Place}
use Rattle.def_wiring.specs.declared.error.Shown.{Shown}
use Rattle.def_wiring.specs.declared.error.Shown.TheVariants.{Here, Earlier}
use Rattle.def_wiring.specs.declared.error.WiresKind.{WiresKind}
use Rattle.def_wiring.specs.declared.section.Section.{Section}
use Rattle.def_wiring.specs.declared.standing.Standing.{Standing}
use Rattle.def_wiring.specs.Fault.{AtWord, fault_in}
use Rattle.def_wiring.specs.Format.{format}
use Rattle.def_wiring.specs.Record.{Said, Heard, heard_after, heard_from, heard_of, nothing_said}
use Rattle.def_wiring.specs.Rule.{pattern}
use Rattle.def_wiring.specs.Section.{is_ended}
use Rattle.def_wiring.specs.Sort.{sort_of}
use Rattle.def_wiring.specs.Standing.{section_in, at_start}
use Rattle.reading.specs.declared.refusal.Found.{Found}
use Rattle.reading.specs.Pattern.{Matches, joined}
use Rattle.reading.specs.Grammar.{NoneShows}
use Rattle.reading.specs.Reading.{Follows}
use Rattle.reading.specs.Taken.{AreTaken}
use Rattle.reading.specs.Word.{Token}
use Rattle.written_words.specs.Spelled.{Written, tokens}

-- ## steps

-- None of the next words of the open unit, of which these are the first, shows a fault.
abbrev pub NoneFaulty : Heard → List Token → List Token → Type 0
NoneFaulty h before [] = Unit {0}
NoneFaulty h before (w ∷ ws) =
    ((a : Found Shown) → fault_in (section_in h.standing) h.standing h.said (before ++ w ∷ []) a → ⊥) × NoneFaulty h (before ++ w ∷ []) ws

heard-append : (h : Heard) (us vs : List (List Token)) → heard_from h (us ++ vs) ≡ heard_from (heard_from h us) vs
heard-append h [] vs = refl
heard-append h (u ∷ us) vs = heard-append (heard_after h u) us vs

abbrev pub start : Heard
start = record { standing = at_start; said = nothing_said }

none_shows : (units : List (List Token)) (h : Heard) → heard_of units ≡ h → (before ws : List Token) → NoneFaulty h before ws → NoneShows format units before ws
none_shows units h e before [] k = tt
none_shows units h e before (w ∷ ws) k = (
  λ a faulty. k.0 a (subst (λ z. fault_in (section_in z.standing) z.standing z.said (before ++ w ∷ []) a) e faulty),
  none_shows units h e (before ++ w ∷ []) ws k.1,
)

pub taken-append : (before us : List (List Token)) (u : List Token) → AreTaken format before us → AreTaken format (before ++ us) (u ∷ []) → AreTaken format before (us ++ u ∷ [])
taken-append before [] u h k = subst (λ z. AreTaken format z (u ∷ [])) (append-nil before) k
taken-append before (v ∷ us) u h k =
    (h.0, h.1, taken-append (before ++ v ∷ []) us u h.2 (subst (λ z. AreTaken format z (u ∷ [])) (sym (append_assoc before (v ∷ []) us)) k))

no_units : (next : List Token) (front back : List (List Token)) → [] ≡ front ++ next ∷ back → ⊥
no_units next [] back e = let n = ap length e in omega arith
no_units next (f ∷ front) back e = let n = ap length e in omega arith

-- ## faults

pub at_word : (shows : WiresKind → Type 0) → ((kind : WiresKind) → shows kind → ⊥) → (shown : Shown) → AtWord shows shown → ⊥
at_word shows none (Here kind) h = none kind h
at_word shows none (Earlier late) h = h

-- ## units of written words

abbrev pub past : List Written → (ℕ → Place) → ℕ → Place
past [] f = f
past (w ∷ ws) f = past ws (λ n. f (suc n))

pub tokens-append : (f : ℕ → Place) (xs ys : List Written) → tokens f (xs ++ ys) ≡ tokens f xs ++ tokens (past xs f) ys
tokens-append f [] ys = refl
tokens-append f (x ∷ xs) ys = ap (λ z. tokens f (x ∷ []) ++ z) (tokens-append (λ n. f (suc n)) xs ys)

-- The units of these words, each at its place.
abbrev pub units_of : (ℕ → Place) → List (List Written) → List (List Token)
units_of f [] = []
units_of f (u ∷ us) = tokens f u ∷ units_of (past u f) us

abbrev pub past_all : List (List Written) → (ℕ → Place) → ℕ → Place
past_all [] f = f
past_all (u ∷ us) f = past_all us (past u f)

pub joined-units : (f : ℕ → Place) (us : List (List Written)) → joined (units_of f us) ≡ tokens f (joined us)
joined-units f [] = refl
joined-units f (u ∷ us) = ap (λ z. tokens f u ++ z) (joined-units (past u f) us) ∙ sym (tokens-append f u (joined us))

units-append : (f : ℕ → Place) (us vs : List (List Written)) → units_of f (us ++ vs) ≡ units_of f us ++ units_of (past_all us f) vs
units-append f [] vs = refl
units-append f (u ∷ us) vs = ap (λ z. tokens f u ∷ z) (units-append (past u f) us vs)

-- Each word as a unit.
abbrev pub singles : List Written → List (List Written)
singles [] = []
singles (w ∷ ws) = (w ∷ []) ∷ singles ws

pub joined-singles : (ws : List Written) → joined (singles ws) ≡ ws
joined-singles [] = refl
joined-singles (w ∷ ws) = ap (λ z. w ∷ z) (joined-singles ws)

pub singles-append : (xs ys : List Written) → singles (xs ++ ys) ≡ singles xs ++ singles ys
singles-append [] ys = refl
singles-append (x ∷ xs) ys = ap (λ z. (x ∷ []) ∷ z) (singles-append xs ys)

-- ## states

-- Between units that are read in this section.
abbrev pub between : Section → Standing → Said → Heard
between section junk said = record { standing = record junk { section = section; passing = None }; said = said }

-- F says when no word shows a fault: what is asked of numbers and of names before is asked under it alone, and all else holds
-- without it.
module _ (F : Type 0) where
  -- The unit may follow here, shows no fault, and leads there.
  pub record Takes (h : Heard) (u : List Token) (k : Heard) : Type 0 where
    pub some : 0 < length u
    pub matches : Matches sort_of (pattern (section_in h.standing)) u
    pub fine : F → NoneFaulty h [] u
    pub goes_on : is_ended (section_in h.standing) ≡ false
    pub leads : heard_after h u ≡ k

  -- So do these units, one after the other.
  abbrev pub Leads : Heard → List (List Token) → Heard → Type 0
  Leads h [] k = h ≡ k
  Leads h (u ∷ us) k = (m : Heard) × Takes h u m × Leads m us k

  pub leads-append : (h k l : Heard) (us vs : List (List Token)) → Leads h us k → Leads k vs l → Leads h (us ++ vs) l
  leads-append h k l [] vs e b = subst (λ z. Leads z vs l) (sym e) b
  leads-append h k l (u ∷ us) vs (m, step, rest) b = (m, step, leads-append m k l us vs rest b)

  pub taken : F → (before us : List (List Token)) (h k : Heard) → heard_of before ≡ h → Leads h us k → AreTaken format before us
  taken ok before [] h k e l = tt
  taken ok before (u ∷ us) h k e (m, step, rest) = (
    step.some,
    record {
      matches = subst (λ z. Matches sort_of (pattern (section_in z.standing)) u) (sym e) step.matches;
      fine = none_shows before h e [] u (step.fine ok);
    },
    taken ok (before ++ u ∷ []) us m k (heard-append start before (u ∷ []) ∙ ap (λ z. heard_after z u) e ∙ step.leads) rest,
  )

  -- They follow one another.
  pub follow : (before us : List (List Token)) (h k : Heard) → heard_of before ≡ h → Leads h us k → Follows format before us
  follow before [] h k e l = tt
  follow before (u ∷ us) h k e (m, step, rest) = (
    step.some,
    subst (λ z. Matches sort_of (pattern (section_in z.standing)) u) (sym e) step.matches,
    follow (before ++ u ∷ []) us m k (heard-append start before (u ∷ []) ∙ ap (λ z. heard_after z u) e ∙ step.leads) rest,
  )

  pub leads-to : (h k : Heard) (us : List (List Token)) → Leads h us k → heard_from h us ≡ k
  leads-to h k [] e = e
  leads-to h k (u ∷ us) (m, step, rest) = ap (λ z. heard_from z us) step.leads ∙ leads-to m k us rest

  pub heard-end : (h k : Heard) (us : List (List Token)) (u : List Token) → Leads h us k → heard_from h (us ++ u ∷ []) ≡ heard_after k u
  heard-end h k us u l = heard-append h us (u ∷ []) ∙ ap (λ z. heard_after z u) (leads-to h k us l)

  -- No front of them ends the text.
  pub fronts_go_on : (h k : Heard) (us front : List (List Token)) (next : List Token) (back : List (List Token)) → Leads h us k → us ≡ front ++ next ∷ back →
      is_ended (section_in (heard_from h front).standing) ≡ false
  fronts_go_on h k [] front next back l e = absurd (no_units next front back e)
  fronts_go_on h k (u ∷ us) [] next back (m, step, rest) e = step.goes_on
  fronts_go_on h k (u ∷ us) (f ∷ front) next back (m, step, rest) e =
      let first : u ≡ f = (let t : u ∷ us ≡ f ∷ (front ++ next ∷ back) = e in cc) in
      let more : us ≡ front ++ next ∷ back = (let t : u ∷ us ≡ f ∷ (front ++ next ∷ back) = e in cc) in
      subst (λ z. is_ended (section_in (heard_from z front).standing) ≡ false) (sym step.leads ∙ ap (λ z. heard_after h z) first) (fronts_go_on m k us front next back rest more)

  -- Units, and then others.
  pub joins : (f : ℕ → Place) (h k l : Heard) (us vs : List (List Written)) → Leads h (units_of f us) k → Leads k (units_of (past_all us f) vs) l → Leads h (units_of f (us ++ vs)) l
  joins f h k l us vs a b =
      subst (λ z. Leads h z l) (sym (units-append f us vs)) (leads-append h k l (units_of f us) (units_of (past_all us f) vs) a b)

  -- Words that are units, and then others.
  pub joins_words : (f : ℕ → Place) (h k l : Heard) (xs ys : List Written) → Leads h (units_of f (singles xs)) k → Leads k (units_of (past_all (singles xs) f) (singles ys)) l →
      Leads h (units_of f (singles (xs ++ ys))) l
  joins_words f h k l xs ys a b =
      subst (λ z. Leads h (units_of f z) l) (sym (singles-append xs ys)) (joins f h k l (singles xs) (singles ys) a b)
