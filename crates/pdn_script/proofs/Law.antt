-- The laws that the format owes.
use Rattle.std.proofs.Common.{◌≡◌, ℕ, ◌+◌, ◌<◌, ◌⊎◌, Bool, true, List, [], ◌∷◌, ◌++◌, length, codes, Option, None, Some, refl, sym, ◌∙◌, ap, inl, inr, arith}
use Rattle.number_place.specs.declared.place.Refused.{Refused}
use Rattle.pdn_script.specs.declared.error.ScriptKind.{ScriptKind}
use Rattle.pdn_script.specs.declared.known.Known.{Known}
use Rattle.pdn_script.specs.declared.section.Section.{Section}
use Rattle.pdn_script.specs.declared.section.Section.TheVariants.{Commands, Passing}
use Rattle.pdn_script.specs.declared.sort.Sort.{Sort}
use Rattle.pdn_script.specs.declared.sort.Sort.TheVariants.{Passed, Valued, Other, CommandEnd, TextEnd}
use Rattle.pdn_script.specs.Fault.{refused_kind, ValueKind, AtRole, front_of, AtLastOf, LastKind, late_in, fault}
use Rattle.pdn_script.specs.Format.{format}
use Rattle.pdn_script.specs.Given.{waiting}
use Rattle.pdn_script.specs.Known.{known_of}
use Rattle.pdn_script.specs.Rule.{pattern}
use Rattle.pdn_script.specs.Section.{section_by}
use Rattle.pdn_script.specs.Sort.{all_sorts, sort_of, sort_with}
use Rattle.pdn_script.proofs.Places.{late_stands}
use Rattle.reading.specs.declared.refusal.Found.{Found}
use Rattle.reading.specs.declared.word.Form.{Form}
use Rattle.reading.specs.declared.word.Form.TheVariants.{Bare, Break, End}
use Rattle.reading.specs.Grammar.{IsUnit, IsRegular}
use Rattle.reading.specs.Laws.{late}
use Rattle.reading.specs.Reading.{IsFine}
use Rattle.reading.specs.Word.{Token, last_of}
use Rattle.script_options.specs.declared.command.Command.{Command}
use Rattle.script_options.specs.declared.option.ScriptOption.{ScriptOption}
use Rattle.script_options.specs.declared.table.ValueForm.{ValueForm}
use Rattle.script_options.specs.Command.{command_named}
use Rattle.script_options.specs.Table.{form_of}
use Rattle.script_options.specs.Value.{Refuses}

word : List ℕ → Form → Token
word text form = record { text = text; place = record { line = 1; word = 1 }; form = form }

sample : (sort : Sort) → (w : Token) × (sort_of w ≡ sort)
unfolding word
sample Passed = (word (codes "global_connect") Bare, refl)
sample Valued = (word (codes "-name") Bare, refl)
sample Other = (word [] Bare, refl)
sample CommandEnd = (word [] Break, refl)
sample TextEnd = (word [] End, refl)

usable : Section → Sort → Bool
usable section sort = true

units_end : (section : Section) → IsUnit all_sorts (usable section) TextEnd (pattern section)
unfolding usable
units_end Commands = record { solid = inr refl; closes = refl; comes_last = refl }
units_end Passing = record { solid = inr refl; closes = refl; comes_last = refl }

-- ## where faults stand

none_is : (a : Found ScriptKind) → ◌≡◌ {A = Option (Found ScriptKind)} None (Some a) → ⊥
none_is a h = cc

found_is : (a b : Found ScriptKind) → ◌≡◌ {A = Option (Found ScriptKind)} (Some a) (Some b) → a ≡ b
found_is a b h = cc

near : (units : List (List Token)) (part : List Token) (a : Found ScriptKind) → fault units part a → a.at < length part
near units part a (inl h) = late_stands (known_of units) part a h.0
near units part a (inr h) = let e = h.1 in omega arith

fine : (units : List (List Token)) (front : List Token) → late_in (known_of units) front ≡ None → ((kind : ScriptKind) → LastKind (known_of units) front kind → ⊥) →
    IsFine format units front
fine units front none shows b (inl h) = none_is b (sym none ∙ h.0)
fine units front none shows b (inr h) = shows b.kind h.2

alone : (units : List (List Token)) (part : List Token) (a : Found ScriptKind) → fault units part a →
    (a.at + 1 ≡ length part) ⊎ ((front more : List Token) → part ≡ front ++ more → 0 < length more → IsFine format units front)
alone units part a (inl h) = inr (λ front more e some. let s = h.1 front more e some in fine units front s.0 s.1)
alone units part a (inr h) = inl h.1

-- ## one fault

abbrev pub HasOneRefusal : Type 0
HasOneRefusal = (form : ValueForm) (text : List ℕ) (a b : Refused) → Refuses form text a → Refuses form text b → a ≡ b

kind_is : (o : Option ScriptKind) (k l : ScriptKind) → o ≡ Some k → o ≡ Some l → l ≡ k
kind_is o k l h i = let t : ◌≡◌ {A = Option ScriptKind} (Some k) (Some l) = sym h ∙ i in cc

value_one : HasOneRefusal → (known : Known) (command : Command) (before : List Token) (option : ScriptOption) (text : List ℕ) (k l : ScriptKind) →
    ValueKind known command before option text k → ValueKind known command before option text l → l ≡ k
value_one one known command before option text k l (inl h) (inl i) = i.2 ∙ ap refused_kind (one (form_of option) text i.0 h.0 i.1 h.1) ∙ sym h.2
value_one one known command before option text k l (inl h) (inr i) = absurd (i.0 h.0 h.1)
value_one one known command before option text k l (inr h) (inl i) = absurd (h.0 i.0 i.1)
value_one one known command before option text k l (inr h) (inr i) = kind_is _ k l h.1 i.1

role_one : HasOneRefusal → (known : Known) (command : Command) (before : List Token) (last : Token) (waits : Option ScriptOption) (k l : ScriptKind) →
    AtRole known command before last waits k → AtRole known command before last waits l → l ≡ k
role_one one known command before last (Some option) k l h i = value_one one known command before option last.text k l h i
role_one one known command before last None k l h i = kind_is _ k l h i

last_one : HasOneRefusal → (known : Known) (first : Token) (words : List Token) (last : Option Token) (k l : ScriptKind) →
    AtLastOf known first words last k → AtLastOf known first words last l → l ≡ k
last_one one known first words None k l h i = kind_is _ k l h i
last_one one known first words (Some last) k l h i = role_one one known (command_named first.text) (front_of words) last (waiting (front_of words)) k l h i

part_one : HasOneRefusal → (known : Known) (part : List Token) (k l : ScriptKind) → LastKind known part k → LastKind known part l → l ≡ k
part_one one known [] k l h i = absurd h
part_one one known (first ∷ words) k l h i = last_one one known first words (last_of words) k l h i

one_fault : HasOneRefusal → (units : List (List Token)) (part : List Token) (a b : Found ScriptKind) → fault units part a → fault units part b → (b.at ≡ a.at) × (b.kind ≡ a.kind)
one_fault one units part a b (inl h) (inl i) =
    let e = found_is b a (sym i.0 ∙ h.0) in (ap (λ (z : Found ScriptKind). z.at) e, ap (λ (z : Found ScriptKind). z.kind) e)
one_fault one units part a b (inl h) (inr i) = absurd (none_is a (sym i.0 ∙ h.0))
one_fault one units part a b (inr h) (inl i) = absurd (none_is b (sym h.0 ∙ i.0))
one_fault one units part a b (inr h) (inr i) =
    let e = h.1 in let f = i.1 in
    ((let t : b.at ≡ a.at = omega arith in t), part_one one (known_of units) part a.kind b.kind h.2 i.2)

pub regular : HasOneRefusal → IsRegular all_sorts pattern format
regular one = record {
  usable = usable;
  place = λ units. section_by (known_of units).passing;
  follow = λ units. refl;
  samples = λ units sort h. sample sort;
  end = TextEnd;
  ends = λ units w e. ap (λ z. sort_with z w.text) e;
  begun = refl;
  units = units_end;
  orderly = late format (record { near = near; alone = alone; one = one_fault one });
}
