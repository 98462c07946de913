-- Which names are taken after each unit, and that a unit that begins a layer or a rule takes one that was free.
use Rattle.std.proofs.Common.{◌≡◌, ℕ, Bool, true, false, if◌then◌else◌, List, [], ◌∷◌, ◌++◌, map, Contains, get_or, Option, Some, None, refl, inl, inr, ◌⊎◌, sym, ap, subst, arith, rules}
use Rattle.std.specs.Prelude.{◌==◌}
use Rattle.std.proofs.lemmas.Bool.{cases_eq}
use Rattle.std.proofs.lemmas.List.{map-append}
use Rattle.std.proofs.lemmas.List.Elements.{Contains-append_left, Contains-push}
use Rattle.lef_tech.specs.declared.error.TechKind.TheVariants.{Twice}
use Rattle.lef_tech.specs.declared.layer.LayerRef.{LayerRef}
use Rattle.lef_tech.specs.Fault.{LastFault}
use Rattle.lef_tech.specs.Format.{format}
use Rattle.lef_tech.specs.Known.{name_of}
use Rattle.lef_tech.specs.Pattern.{the}
use Rattle.lef_tech.specs.Question.{ask_head, question_of}
use Rattle.lef_tech.specs.Section.{section_number, all_sections}
use Rattle.lef_tech.specs.Shape.{shape_in}
use Rattle.lef_tech.specs.Sort.{sort_of}
use Rattle.lef_tech.specs.Turn.{turn_of, turn_head, turned, named, layers_with, typed, learnt_start, ruled, learnt_top, learnt, state_by, state_after, state_of}
use Rattle.reading.specs.Reading.{IsFine}
use Rattle.reading.specs.Word.{Token, last_of}
use Rattle.tech_names.proofs.Apart.{TakesOne, Takes}
use Rattle.tech_names.proofs.Stated.{head_with, head_in}
use Rattle.tech_names.proofs.Types.{Sort, Section, State, Place, Known, by_sort, by_section, sort_is, section_is, top, layer_word, rule_word, by_shape}

-- A layer has the name: one of those before, or the open one, whose type follows.
abbrev IsNamed : List Known → Place → List ℕ → Type 0
IsNamed layers place name = Contains (map name_of layers) name ⊎ ((section_number place.section ≡ 2) × (name ≡ place.name))

abbrev pub IsTaken : State → List ℕ → Type 0
IsTaken state name = IsNamed state.layers state.place name

-- A rule has the name.
abbrev pub IsRuled : State → List ℕ → Type 0
IsRuled state name = Contains state.rules name

-- ## what is taken stays so

named_front : (layers more : List Known) (name : List ℕ) → Contains (map name_of layers) name → Contains (map name_of (layers ++ more)) name
named_front layers more name has = subst (λ z. Contains z name) (sym (map-append name_of layers more)) (Contains-append_left (map name_of layers) (map name_of more) name has)

named_last : (layers : List Known) (one : Known) → Contains (map name_of (layers ++ one ∷ [])) (name_of one)
named_last layers one = subst (λ z. Contains z (name_of one)) (sym (map-append name_of layers (one ∷ []))) (Contains-push (map name_of layers) (name_of one))

-- The layers with the open one have its name and those of before.
with_open : (state : State) (reference : Option LayerRef) (place : Place) (name : List ℕ) → IsTaken state name → IsNamed (layers_with state reference) place name
with_open state reference place name (inl has) = inl (named_front state.layers _ name has)
with_open state reference place name (inr waits) = inl (subst (Contains (map name_of (layers_with state reference))) (sym waits.1) (named_last state.layers _))

open_typed : (state : State) (type : Sort) (place : Place) (name : List ℕ) → IsTaken state name → IsNamed (typed state type).layers place name
open_typed state type place name taken = by_sort (λ s. IsNamed (typed state s).layers place name) (search (with_open, taken)) type

-- After a unit of a section with this last word a layer has the name.
abbrev NamedAfter : Section → State → Token → List Token → List ℕ → Type 0
NamedAfter section state last u name = IsNamed (learnt section state (shape_in u) last).layers (turned state.place last (turn_of section (named state u) (shape_in u))) name

-- The section in which the type of the open layer stands.
abbrev start : Section
start = get_or all_sections 2 top

start_kept : (state : State) (name : List ℕ) → IsTaken state name → (last : Token) (u : List Token) → NamedAfter start state last u name
start_kept state name taken last = by_shape (λ u. NamedAfter start state last u name) (search (with_open, open_typed, taken))

ruled_layers : (state : State) (a : Sort) (name : List ℕ) → (ruled state a name).layers ≡ state.layers
ruled_layers state a name = by_sort (λ s. (ruled state s name).layers ≡ state.layers) (search rules) a

top_layers : (state : State) (last : Token) (u : List Token) → (learnt_top state (shape_in u) last).layers ≡ state.layers
top_layers state last = by_shape (λ u. (learnt_top state (shape_in u) last).layers ≡ state.layers) (search ruled_layers)

not_two : (x y : List Known) → (section_number start ≡ section_number start → ⊥) → x ≡ y
not_two x y h = absurd (h refl)

layers_kept : (section : Section) → (section_number section ≡ 2 → ⊥) → (state : State) (last : Token) (u : List Token) → (learnt section state (shape_in u) last).layers ≡ state.layers
layers_kept =
    by_section (λ section. (section_number section ≡ 2 → ⊥) → (state : State) (last : Token) (u : List Token) → (learnt section state (shape_in u) last).layers ≡ state.layers)
    (search (top_layers, not_two))

kept_by : (state : State) (last : Token) (u : List Token) (name : List ℕ) → (section_number state.place.section ≡ 2) ⊎ (section_number state.place.section ≡ 2 → ⊥) → IsTaken state name
    → IsTaken (state_by state u (Some last)) name
kept_by state last u name (inl is) taken = subst (λ z. NamedAfter z state last u name) (sym (section_is state.place.section start is)) (start_kept state name taken last u)
kept_by state last u name (inr other) (inl has) = inl (subst (λ z. Contains (map name_of z) name) (sym (layers_kept state.place.section other state last u)) has)
kept_by state last u name (inr other) (inr waits) = absurd (other waits.0)

-- The same, if the unit has a last word.
kept_with : (state : State) (u : List Token) (last : Option Token) (name : List ℕ) → IsTaken state name → IsTaken (state_by state u last) name
kept_with state u None name taken = taken
kept_with state u (Some last) name taken = kept_by state last u name (cases_eq (section_number state.place.section) 2) taken

kept : (state : State) (u : List Token) (name : List ℕ) → IsTaken state name → IsTaken (state_after state u) name
kept state u = kept_with state u (last_of u)

ruled_kept : (state : State) (a : Sort) (own name : List ℕ) → Contains state.rules name → Contains (ruled state a own).rules name
ruled_kept state a own name has = by_sort (λ s. Contains (ruled state s own).rules name) (search (Contains-append_left, has)) a

typed_rules : (state : State) (a : Sort) → (typed state a).rules ≡ state.rules
typed_rules state a = by_sort (λ s. (typed state s).rules ≡ state.rules) (search rules) a

typed_kept : (state : State) (a : Sort) (name : List ℕ) → Contains state.rules name → Contains (typed state a).rules name
typed_kept state a name has = subst (λ z. Contains z name) (sym (typed_rules state a)) has

top_rules : (state : State) (name : List ℕ) → Contains state.rules name → (last : Token) (u : List Token) → Contains (learnt_top state (shape_in u) last).rules name
top_rules state name has last = by_shape (λ u. Contains (learnt_top state (shape_in u) last).rules name) (search (ruled_kept, has))

start_rules : (state : State) (name : List ℕ) → Contains state.rules name → (u : List Token) → Contains (learnt_start state (shape_in u)).rules name
start_rules state name has = by_shape (λ u. Contains (learnt_start state (shape_in u)).rules name) (search (typed_kept, has))

rules_kept : (section : Section) (state : State) (name : List ℕ) → Contains state.rules name → (last : Token) (u : List Token) → Contains (learnt section state (shape_in u) last).rules name
rules_kept =
    by_section (λ section. (state : State) (name : List ℕ) → Contains state.rules name → (last : Token) (u : List Token) → Contains (learnt section state (shape_in u) last).rules name)
    (search (top_rules, start_rules))

-- The same, if the unit has a last word.
rules_with : (state : State) (u : List Token) (last : Option Token) (name : List ℕ) → IsRuled state name → IsRuled (state_by state u last) name
rules_with state u None name has = has
rules_with state u (Some last) name has = rules_kept state.place.section state name has last u

-- ## a head takes a name that was free

is_top : (section : Section) → (section_number section == 0) ≡ true → section ≡ top
is_top section is = let none : section_number section ≡ 0 = grind (arith, is) in section_is section top none

module _ (before : List (List Token)) (w v : Token) (fine : IsFine format before (w ∷ v ∷ [])) (at_top : (state_of before).place.section ≡ top) where
  -- The state before this unit.
  abbrev now : State
  now = state_of before

  refused : (a : Sort) → sort_of w ≡ a → LastFault now v (ask_head a) Twice → ⊥
  refused a is twice =
      fine (record { at = 1; kind = Twice })
      (inl (refl, subst (λ z. LastFault now v (question_of z (shape_in (w ∷ v ∷ []))) Twice) (sym at_top) (subst (λ z. LastFault now v (ask_head z) Twice) (sym is) twice)))

  layer_new : (b : Bool) → the layer_word (sort_of w) ≡ b → TakesOne (IsTaken now) (IsTaken (state_after now (w ∷ v ∷ []))) (if b then Some v.text else None)
  layer_new false is = tt
  layer_new true is = (after, free)
    where
      word : sort_of w ≡ layer_word
      word = sort_is (sort_of w) layer_word is

      after : IsTaken (state_after now (w ∷ v ∷ [])) v.text
      after =
          subst (λ z. NamedAfter z now v (w ∷ v ∷ []) v.text) (sym at_top)
          (subst (λ z. IsNamed (ruled now z v.text).layers (turned now.place v (turn_head z)) v.text) (sym word) (inr (refl, refl)))

      free : IsTaken now v.text → ⊥
      free (inl has) = refused layer_word word (refl, has)
      free (inr waits) = let none : section_number now.place.section ≡ 0 = ap section_number at_top in omega (arith, waits.0)

  rule_new : (b : Bool) → the rule_word (sort_of w) ≡ b → TakesOne (IsRuled now) (IsRuled (state_after now (w ∷ v ∷ []))) (if b then Some v.text else None)
  rule_new false is = tt
  rule_new true is = (after, free)
    where
      word : sort_of w ≡ rule_word
      word = sort_is (sort_of w) rule_word is

      after : IsRuled (state_after now (w ∷ v ∷ [])) v.text
      after =
          subst (λ z. Contains (learnt z now (shape_in (w ∷ v ∷ [])) v).rules v.text) (sym at_top)
          (subst (λ z. Contains (ruled now z v.text).rules v.text) (sym word) (Contains-push now.rules v.text))

      free : IsRuled now v.text → ⊥
      free has = refused rule_word word (refl, has)

-- The two names that a unit may take, by its words.
record TakesBoth (before : List (List Token)) (b : Bool) (u : List Token) : Type 0 where
  layer : TakesOne (IsTaken (state_of before)) (IsTaken (state_after (state_of before) u)) (if b then head_with (the layer_word) u else None)
  rule : TakesOne (IsRuled (state_of before)) (IsRuled (state_after (state_of before) u)) (if b then head_with (the rule_word) u else None)

both_none : (before : List (List Token)) (b : Bool) (u : List Token) → head_with (the layer_word) u ≡ None → head_with (the rule_word) u ≡ None → TakesBoth before b u
both_none before false u layer rule = record { layer = tt; rule = tt }
both_none before true u layer rule = record {
  layer = subst (TakesOne (IsTaken (state_of before)) (IsTaken (state_after (state_of before) u))) (sym layer) tt;
  rule = subst (TakesOne (IsRuled (state_of before)) (IsRuled (state_after (state_of before) u))) (sym rule) tt;
}

both : (before : List (List Token)) (b : Bool) (u : List Token) → (section_number (state_of before).place.section == 0) ≡ b → IsFine format before u → TakesBoth before b u
both before false u is fine = record { layer = tt; rule = tt }
both before true (w ∷ v ∷ []) is fine =
    let at_top : (state_of before).place.section ≡ top = is_top (state_of before).place.section is in record {
      layer = layer_new before w v fine at_top (the layer_word (sort_of w)) refl;
      rule = rule_new before w v fine at_top (the rule_word (sort_of w)) refl;
    }
both before true [] is fine = both_none before true [] refl refl
both before true (w ∷ []) is fine = both_none before true (w ∷ []) refl refl
both before true (w ∷ v ∷ z ∷ u) is fine = both_none before true (w ∷ v ∷ z ∷ u) refl refl

pub takes_layer : (before : List (List Token)) (u : List Token) → IsFine format before u
    → Takes (IsTaken (state_of before)) (IsTaken (state_after (state_of before) u)) (head_in (the layer_word) (state_of before).place.section u)
takes_layer before u fine = record { kept = kept (state_of before) u; one = (both before _ u refl fine).layer }

pub takes_rule : (before : List (List Token)) (u : List Token) → IsFine format before u
    → Takes (IsRuled (state_of before)) (IsRuled (state_after (state_of before) u)) (head_in (the rule_word) (state_of before).place.section u)
takes_rule before u fine = record {
  kept = rules_with (state_of before) u (last_of u);
  one = (both before _ u refl fine).rule;
}
