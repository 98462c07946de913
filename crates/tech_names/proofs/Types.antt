-- Many types of the statements of a technology are private to `lef_tech`; here they go by the definitions that have them.
use Rattle.std.proofs.Common.{◌≡◌, ℕ, true, List, [], ◌∷◌, codes, sym, ◌∙◌, ap, subst, arith}
use Rattle.std.specs.Prelude.{Some, slice_get}
use Rattle.std.specs.List.{AllByRecursion}
use Rattle.std.proofs.lemmas.List.Elements.{All-from_recursion}
use Rattle.std.proofs.lemmas.Option.{slice_get_within, get_or_from_slice_get}
use Rattle.lef_tech.specs.Known.{name_of}
use Rattle.lef_tech.specs.Number.{place_of}
use Rattle.lef_tech.specs.Pattern.{the}
use Rattle.lef_tech.specs.Record.{facts_of, is_head, layers_of, parts_of}
use Rattle.lef_tech.specs.Section.{section_number, all_sections, listed as section_listed}
use Rattle.lef_tech.specs.Sort.{number_of, all_sorts, listed, sort_of_text}
use Rattle.lef_tech.specs.State.{first_place}
use Rattle.lef_tech.specs.Turn.{state_of}
use Rattle.reading.specs.Word.{Token}

abbrev Given : {A B : Type 0} → (A → B) → Type 0
Given {A} {B} f = A

abbrev Gives : {A B : Type 0} → (A → B) → Type 0
Gives {A} {B} f = B

abbrev Item : {A : Type 0} → List A → Type 0
Item {A} xs = A

abbrev Kind : {A : Type 0} → A → Type 0
Kind {A} x = A

abbrev pub Sort : Type 0
Sort = Given number_of

abbrev pub Section : Type 0
Section = Given section_number

abbrev pub Quantity : Type 0
Quantity = Given place_of

abbrev pub Statement : Type 0
Statement = Given is_head

abbrev pub Facts : Type 0
Facts = Gives facts_of

abbrev pub Layer : Type 0
Layer = Item (layers_of [])

abbrev pub Part : Type 0
Part = Item (parts_of [])

abbrev pub State : Type 0
State = Gives state_of

abbrev pub Place : Type 0
Place = Kind first_place

abbrev pub Known : Type 0
Known = Given name_of

-- What holds of each of a list holds of one that stands in it.
in_list : {S : Type 0} (P : S → Type 0) (list : List S) → AllByRecursion P list → (n : ℕ) (s : S) → slice_get list n ≡ Some s → P s
in_list P list all n s at = subst P (get_or_from_slice_get list n s s at) (All-from_recursion P list all n s (slice_get_within list n s at))

pub by_sort : (P : Sort → Type 0) → AllByRecursion P all_sorts → (s : Sort) → P s
by_sort P all s = in_list P all_sorts all (number_of s) s (listed s)

pub by_section : (P : Section → Type 0) → AllByRecursion P all_sections → (s : Section) → P s
by_section P all s = in_list P all_sections all (section_number s) s (section_listed s)

pub sort_is : (s t : Sort) → the t s ≡ true → s ≡ t
sort_is s t h =
    let at : number_of s ≡ number_of t = grind (arith, h) in
    let same : Some s ≡ Some t = sym (listed s) ∙ ap (slice_get all_sorts) at ∙ listed t in
    cc

pub section_is : (s t : Section) → section_number s ≡ section_number t → s ≡ t
section_is s t at =
    let same : Some s ≡ Some t = sym (section_listed s) ∙ ap (slice_get all_sections) at ∙ section_listed t in
    cc

-- Between sections.
abbrev pub top : Section
top = first_place.section

abbrev pub layer_word : Sort
layer_word = sort_of_text (codes "LAYER")

abbrev pub rule_word : Sort
rule_word = sort_of_text (codes "VIARULE")

abbrev pub spacing_word : Sort
spacing_word = sort_of_text (codes "SPACING")

abbrev pub resistance_word : Sort
resistance_word = sort_of_text (codes "RESISTANCE")

abbrev pub current_word : Sort
current_word = sort_of_text (codes "DCCURRENTDENSITY")

-- What holds of no word, of each number of words up to six, and of more words, holds of all words.
pub record EachShape (P : List Token → Type 0) : Type 0 where
  pub none : P []
  pub one : (a : Token) → P (a ∷ [])
  pub two : (a b : Token) → P (a ∷ b ∷ [])
  pub three : (a b c : Token) → P (a ∷ b ∷ c ∷ [])
  pub four : (a b c d : Token) → P (a ∷ b ∷ c ∷ d ∷ [])
  pub five : (a b c d e : Token) → P (a ∷ b ∷ c ∷ d ∷ e ∷ [])
  pub six : (a b c d e f : Token) → P (a ∷ b ∷ c ∷ d ∷ e ∷ f ∷ [])
  pub more : (a b c d e f g : Token) (u : List Token) → P (a ∷ b ∷ c ∷ d ∷ e ∷ f ∷ g ∷ u)

pub by_shape : (P : List Token → Type 0) → EachShape P → (u : List Token) → P u
by_shape P each [] = each.none
by_shape P each (a ∷ []) = each.one a
by_shape P each (a ∷ b ∷ []) = each.two a b
by_shape P each (a ∷ b ∷ c ∷ []) = each.three a b c
by_shape P each (a ∷ b ∷ c ∷ d ∷ []) = each.four a b c d
by_shape P each (a ∷ b ∷ c ∷ d ∷ e ∷ []) = each.five a b c d e
by_shape P each (a ∷ b ∷ c ∷ d ∷ e ∷ f ∷ []) = each.six a b c d e f
by_shape P each (a ∷ b ∷ c ∷ d ∷ e ∷ f ∷ g ∷ u) = each.more a b c d e f g u
