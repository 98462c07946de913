-- The names of the layers and rules of a technology. Many types of its statements are private to `lef_tech`; here they go by
-- the definitions that have them.
use Rattle.std.proofs.Common.{◌≡◌, ◌⊎◌, ℕ, Bool, true, false, if◌then◌else◌, List, [], ◌∷◌, ◌++◌, length, codes, All, refl, sym, ◌∙◌, ap, subst, inl, inr, arith, Ok}
use Rattle.std.specs.Prelude.{◌||◌, not, nat_lt, Option, None, Some, slice_get}
use Rattle.std.specs.List.{AllByRecursion}
use Rattle.std.specs.Str.{bytes_eq}
use Rattle.std.proofs.lemmas.List.Elements.{All-nil, All-cons, All-from_recursion}
use Rattle.std.proofs.lemmas.Option.{slice_get_within, get_or_from_slice_get}
use Rattle.std.proofs.lemmas.Slice.Eq.{bytes_eq-Decides}
use Rattle.text_lex.specs.Name.{IsName}
use Rattle.geom_rect.specs.declared.direction.Axis.{Axis}
use Rattle.reading.specs.declared.word.Form.{Form}
use Rattle.reading.specs.declared.word.Form.TheVariants.{Bare, Quoted as QuotedForm, Braced, Break, Semicolon as SemicolonForm, End as EndForm}
use Rattle.reading.specs.Pattern.{Then, Matches, joined}
use Rattle.reading.specs.Reading.{Follows}
use Rattle.reading.specs.Word.{Token, seen_text}
use Rattle.lef_tech.specs.declared.layer.CutLayer.{CutLayer}
use Rattle.lef_tech.specs.declared.layer.Density.{Density}
use Rattle.lef_tech.specs.declared.layer.LayerRef.{LayerRef}
use Rattle.lef_tech.specs.declared.layer.LayerRef.TheVariants as references
use Rattle.lef_tech.specs.declared.layer.RoutingLayer.{RoutingLayer}
use Rattle.lef_tech.specs.declared.rule.ViaRule.{ViaRule}
use Rattle.lef_tech.specs.declared.tech.Tech.{Tech}
use Rattle.lef_tech.specs.Format.{format, ReadsTech}
use Rattle.lef_tech.specs.Number.{place_of}
use Rattle.lef_tech.specs.Pattern.{the, word as key, name, top, pattern}
use Rattle.lef_tech.specs.Record.{Told, stated_one, stated, no_facts, with_fact, facts_of, is_head, body_of, density_of, layer_by, layer_of, with_layer, layers_of, wires_of, cuts_of, parts_of, fits, rule_by, rule_with, rule_between, rule_across, rule_among, rule_of, with_rule, rules_of, tech_of}
use Rattle.lef_tech.specs.Section.{section_number, all_sections, listed as section_listed}
use Rattle.lef_tech.specs.Shape.{shape_of, shape_in, text_at}
use Rattle.lef_tech.specs.Sort.{number_of, all_sorts, listed, sort_of, sort_with, sort_of_text}
use Rattle.lef_tech.specs.State.{first_state}
use Rattle.lef_tech.specs.Statement.{Saying, Says, say_head, say_top, say_type, say_start, say_wire_three, say_wire_four, say_wire, say_cut_three, say_cut_four, say_cut, say_point, say_table, say_value, say_values, say_rule, say_wire_part, say_cut_part, saying}
use Rattle.lef_tech.specs.Statement.Saying.{Plain, Named as OfName, Of, Alone, OfTwo, OfCorners}
use Rattle.lef_tech.specs.Turn.{named, state_after, state_from, state_of}
use Rattle.read_names.specs.Laws.Words.{IsGood, AreGood, good-front, good-rest, good_split, good_heard}

-- ## types

abbrev Given : {A B : Type 0} → (A → B) → Type 0
Given {A} {B} f = A

abbrev Gives : {A B : Type 0} → (A → B) → Type 0
Gives {A} {B} f = B

abbrev Item : {A : Type 0} → List A → Type 0
Item {A} xs = A

abbrev Sort : Type 0
Sort = Given number_of

abbrev Section : Type 0
Section = Given section_number

abbrev Quantity : Type 0
Quantity = Given place_of

abbrev Statement : Type 0
Statement = Given is_head

abbrev Facts : Type 0
Facts = Gives facts_of

abbrev Layer : Type 0
Layer = Item (layers_of [])

abbrev Part : Type 0
Part = Item (parts_of [])

abbrev State : Type 0
State = Gives state_of

-- ## words

no_false : false ≡ true → ⊥
no_false h = cc

or_false : (b : Bool) → (b || false) ≡ true → b ≡ true
or_false true h = refl
or_false false h = absurd (no_false h)

-- What holds of each of a list holds of one that stands in it.
in_list : {S : Type 0} (P : S → Type 0) (list : List S) → AllByRecursion P list → (n : ℕ) (s : S) → slice_get list n ≡ Some s → P s
in_list P list all n s at = subst P (get_or_from_slice_get list n s s at) (All-from_recursion P list all n s (slice_get_within list n s at))

by_sort : (P : Sort → Type 0) → AllByRecursion P all_sorts → (s : Sort) → P s
by_sort P all s = in_list P all_sorts all (number_of s) s (listed s)

sort_is : (s t : Sort) → the t s ≡ true → s ≡ t
sort_is s t h =
    let at : number_of s ≡ number_of t = grind (arith, h) in
    let same : Some s ≡ Some t = sym (listed s) ∙ ap (slice_get all_sorts) at ∙ listed t in
    cc

by_section : (P : Section → Type 0) → AllByRecursion P all_sections → (s : Section) → P s
by_section P all s = in_list P all_sections all (section_number s) s (section_listed s)

abbrev semicolon : Sort
semicolon = sort_of_text (codes ";")

abbrev spacing_word : Sort
spacing_word = sort_of_text (codes "SPACING")

abbrev resistance_word : Sort
resistance_word = sort_of_text (codes "RESISTANCE")

abbrev current_word : Sort
current_word = sort_of_text (codes "DCCURRENTDENSITY")

abbrev layer_word : Sort
layer_word = sort_of_text (codes "LAYER")

abbrev routing_word : Sort
routing_word = sort_of_text (codes "ROUTING")

abbrev cut_word : Sort
cut_word = sort_of_text (codes "CUT")

abbrev rule_word : Sort
rule_word = sort_of_text (codes "VIARULE")

abbrev passed_word : Sort
passed_word = sort_of_text (codes "VIA")

abbrev end_word : Sort
end_word = sort_of_text (codes "END")

abbrev library_word : Sort
library_word = sort_of_text (codes "LIBRARY")

-- A name's sort is that of a bare word other than `;`.
abbrev is_name : Sort → Bool
is_name sort = not (the semicolon sort || (the (sort_with QuotedForm []) sort || (the (sort_with EndForm []) sort || false)))

name_text_by : (text : List ℕ) (b : Bool) → bytes_eq text (codes ";") ≡ b → is_name (sort_of_text text) ≡ true → text ≡ codes ";" → ⊥
name_text_by text true e h same = no_false (sym (ap (λ z. is_name (sort_of_text z)) same) ∙ h)
name_text_by text false e h same = no_false (sym e ∙ (bytes_eq-Decides text (codes ";")).1 same)

name_of : (w : Token) (form : Form) → w.form ≡ form → is_name (sort_with form w.text) ≡ true → IsGood w → IsName w.text
name_of w Bare e h good = (good e, name_text_by w.text (bytes_eq w.text (codes ";")) refl h)
name_of w QuotedForm e h good = absurd (no_false h)
name_of w Braced e h good = absurd (no_false h)
name_of w Break e h good = absurd (no_false h)
name_of w SemicolonForm e h good = absurd (no_false h)
name_of w EndForm e h good = absurd (no_false h)

-- ## layers and rules

abbrev AreNamed : List Layer → Type 0
AreNamed all = All (λ (l : RoutingLayer). IsName l.name) (wires_of all) × All (λ (l : CutLayer). IsName l.name) (cuts_of all)

-- The layer has a name, or there is none.
abbrev IfNamed : Option Layer → Type 0
IfNamed layer = (others : List Layer) → AreNamed others → AreNamed (with_layer layer others)

-- A layer of this type has the name that it is given.
abbrev KindNames : Facts → Type 0
KindNames kind = (text : List ℕ) (direction : Option Axis) (facts : Facts) (density : Density) → IsName text → IfNamed (layer_by text kind.kind direction facts density)

abbrev IfRule : Option ViaRule → Type 0
IfRule None = Unit {0}
IfRule (Some rule) = IsName rule.name

abbrev RulesNamed : List ViaRule → Type 0
RulesNamed rules = All (λ (r : ViaRule). IsName r.name) rules

rule_if : (b : Bool) (x y : Option ViaRule) → IfRule x → IfRule y → IfRule (if b then x else y)
rule_if true x y h k = h
rule_if false x y h k = k

rule_stated : (text : List ℕ) (lower : ℕ) (low : Facts) (upper : ℕ) (high : Facts) (cut : ℕ) (facts : Facts) (a b extent pitch : Option (ℕ × ℕ)) → IsName text →
    IfRule (rule_by text lower low upper high cut facts a b extent pitch)
rule_stated text lower low upper high cut facts (Some a) (Some b) (Some extent) (Some pitch) h = rule_if (fits extent pitch) (Some _) None h tt
rule_stated text lower low upper high cut facts _ _ _ _ h = tt

rule_ordered : (text : List ℕ) (lower : ℕ) (low : Facts) (upper : ℕ) (high : Facts) (cut : ℕ) (facts : Facts) → IsName text →
    IfRule (rule_with text lower low upper high cut facts)
rule_ordered text lower low upper high cut facts h = rule_stated text lower low upper high cut facts low.enclosure high.enclosure facts.extent facts.pitch h

between : (text : List ℕ) (i : ℕ) (first : Facts) (j : ℕ) (second : Facts) (cut : ℕ) (facts : Facts) → IsName text → IfRule (rule_between text i first j second cut facts)
between text i first j second cut facts h =
    rule_if (nat_lt i j) (rule_with text i first j second cut facts) _ (rule_ordered text i first j second cut facts h)
    (rule_if (nat_lt j i) (rule_with text j second i first cut facts) None (rule_ordered text j second i first cut facts h) tt)

across : (text : List ℕ) (cut : ℕ) (facts : Facts) (a b : Part) (x y : Option LayerRef) → IsName text → IfRule (rule_across text cut facts a b x y)
across text cut facts a b (Some (references.Routing i)) (Some (references.Routing j)) h = between text i a.facts j b.facts cut facts h
across text cut facts a b _ _ h = tt

of_three : (text : List ℕ) (a b c : Part) (x y z : Option LayerRef) → IsName text → IfRule (rule_among text a b c x y z)
of_three text a b c (Some (references.Cut k)) y z h = across text k a.facts b c b.reference c.reference h
of_three text a b c _ (Some (references.Cut k)) z h = across text k b.facts a c a.reference c.reference h
of_three text a b c _ _ (Some (references.Cut k)) h = across text k c.facts a b a.reference b.reference h
of_three text a b c _ _ _ h = tt

of_parts : (text : List ℕ) (parts : List Part) → IsName text → IfRule (rule_of text parts)
of_parts text (a ∷ b ∷ c ∷ []) h = of_three text a b c a.reference b.reference c.reference h
of_parts text _ h = tt

with_named : (rule : Option ViaRule) (others : List ViaRule) → IfRule rule → RulesNamed others → RulesNamed (with_rule rule others)
with_named None others h k = k
with_named (Some rule) others h k = All-cons (λ (r : ViaRule). IsName r.name) rule others h k

-- ## statements

-- Where a statement stands before others, it names no layer and no rule but by names of LEF.
record Names (s : Statement) : Type 0 where
  layers : (others : List Statement) → KindNames (facts_of (body_of others)) → AreNamed (layers_of others) → AreNamed (layers_of (s ∷ others))
  facts : (facts : Facts) → KindNames facts → KindNames (with_fact s facts)
  rules : (others : List Statement) → RulesNamed (rules_of others) → RulesNamed (rules_of (s ∷ others))

-- One that begins no layer and no rule, and says no type.
plain : (s : Statement) → ((others : List Statement) → layers_of (s ∷ others) ≡ layers_of others) → ((facts : Facts) → (with_fact s facts).kind ≡ facts.kind)
    → ((others : List Statement) → rules_of (s ∷ others) ≡ rules_of others) → Names s
plain s layers kind rules = record {
  layers = λ others q h. subst AreNamed (sym (layers others)) h;
  facts = λ facts q text direction more density h. subst (λ z. IfNamed (layer_by text z direction more density)) (sym (kind facts)) (q text direction more density h);
  rules = λ others h. subst RulesNamed (sym (rules others)) h;
}

abbrev Says-names : Option Statement → Type 0
Says-names None = Unit {0}
Says-names (Some s) = Names s

-- What is said names so, whatever its numbers are.
abbrev Tells : List Token → Saying → Type 0
Tells u (Plain told) = Says-names told
Tells u (OfName make) = Names (make (text_at u 1))
Tells u (Of quantity at make) = (v : ℕ) → Names (make v)
Tells u (Alone quantity at make) = (v : ℕ) → Names (make v)
Tells u (OfTwo quantity a b make) = (v w : ℕ) → Names (make v w)
Tells u OfCorners = Unit {0}

-- One that says the type of a layer.
typed : (s : Statement) → ((others : List Statement) → layers_of (s ∷ others) ≡ layers_of others) → ((others : List Statement) → rules_of (s ∷ others) ≡ rules_of others)
    → ((facts more : Facts) (text : List ℕ) (axis : Axis) (density : Density) → IsName text → IfNamed (layer_by text (with_fact s facts).kind (Some axis) more density))
    → ((facts more : Facts) (text : List ℕ) (density : Density) → IsName text → IfNamed (layer_by text (with_fact s facts).kind None more density)) → Names s
typed s layers rules along none = record {
  layers = λ others q h. subst AreNamed (sym (layers others)) h;
  facts = by_direction;
  rules = λ others h. subst RulesNamed (sym (rules others)) h;
}
  where
    by_direction : (facts : Facts) → KindNames facts → KindNames (with_fact s facts)
    by_direction facts q text None more density h = none facts more text density h
    by_direction facts q text (Some axis) more density h = along facts more text axis density h

-- One that begins a layer.
layer_named : (s : Statement) (text : List ℕ) → ((others : List Statement) → layers_of (s ∷ others) ≡ with_layer (layer_of text (body_of others)) (layers_of others))
    → ((facts : Facts) → (with_fact s facts).kind ≡ facts.kind) → ((others : List Statement) → rules_of (s ∷ others) ≡ rules_of others) → IsName text → Names s
layer_named s text layers kind rules h = record {
  layers = λ others q k. subst AreNamed (sym (layers others))
      (q text (facts_of (body_of others)).direction (facts_of (body_of others)) (density_of (body_of others)) h (layers_of others) k);
  facts = λ facts q other direction more density k. subst (λ z. IfNamed (layer_by other z direction more density)) (sym (kind facts)) (q other direction more density k);
  rules = λ others k. subst RulesNamed (sym (rules others)) k;
}

-- One that begins a rule.
rule_named : (s : Statement) (text : List ℕ) → ((others : List Statement) → layers_of (s ∷ others) ≡ layers_of others)
    → ((facts : Facts) → (with_fact s facts).kind ≡ facts.kind) → ((others : List Statement) → rules_of (s ∷ others) ≡ with_rule (rule_of text (parts_of others)) (rules_of others))
    → IsName text → Names s
rule_named s text layers kind rules h = record {
  layers = λ others q k. subst AreNamed (sym (layers others)) k;
  facts = λ facts q other direction more density k. subst (λ z. IfNamed (layer_by other z direction more density)) (sym (kind facts)) (q other direction more density k);
  rules = λ others k. subst RulesNamed (sym (rules others)) (with_named (rule_of text (parts_of others)) (rules_of others) (of_parts text (parts_of others) h) k);
}

-- ## what units say

told_names : (u : List Token) (s : Saying) (told : Option Statement) → Tells u s → Says u s told → Says-names told
told_names u (Plain statement) told h e = subst Says-names (sym e) h
told_names u (OfName make) told h e = subst Says-names (sym e) h
told_names u (Of quantity at make) told h (v, is, e) = subst Says-names (sym e) (h v)
told_names u (Alone quantity at make) told h (v, is, e) = subst Says-names (sym e) (h v)
told_names u (OfTwo quantity a b make) told h (v, w, is, also, e) = subst Says-names (sym e) (h v w)
told_names u OfCorners told h (x, y, is, also, e) = subst Says-names (sym e) (plain _ (λ o. refl) (λ f. refl) (λ o. refl))

spacing : (u : List Token) (second last : Sort) → Tells u (say_wire_three spacing_word second last)
spacing u second last = by_sort (λ s. Tells u (say_wire_three spacing_word second s)) (search plain) last

wire_three : (u : List Token) (a second last : Sort) → Tells u (say_wire_three a second last)
wire_three u a second last = by_sort (λ s. Tells u (say_wire_three s second last)) (search (plain, spacing)) a

wire_resistance : (u : List Token) (third last : Sort) → Tells u (say_wire_four resistance_word third last)
wire_resistance u third last = by_sort (λ s. Tells u (say_wire_four resistance_word third s)) (search plain) last

wire_current : (u : List Token) (third last : Sort) → Tells u (say_wire_four current_word third last)
wire_current u third last = by_sort (λ s. Tells u (say_wire_four current_word s last)) (search plain) third

wire_four : (u : List Token) (a third last : Sort) → Tells u (say_wire_four a third last)
wire_four u a third last = by_sort (λ s. Tells u (say_wire_four s third last)) (search (plain, wire_resistance, wire_current)) a

wire : (u : List Token) → Tells u (say_wire (shape_in u))
wire (word ∷ second ∷ last ∷ []) = wire_three (word ∷ second ∷ last ∷ []) (sort_of word) (sort_of second) (sort_of last)
wire (word ∷ second ∷ third ∷ last ∷ []) = wire_four (word ∷ second ∷ third ∷ last ∷ []) (sort_of word) (sort_of third) (sort_of last)
wire [] = tt
wire (a ∷ []) = tt
wire (a ∷ b ∷ []) = tt
wire (a ∷ b ∷ c ∷ d ∷ e ∷ []) = tt
wire (a ∷ b ∷ c ∷ d ∷ e ∷ f ∷ []) = tt
wire (a ∷ b ∷ c ∷ d ∷ e ∷ f ∷ g ∷ u) = tt

cut_resistance : (u : List Token) (last : Sort) → Tells u (say_cut_three resistance_word last)
cut_resistance u last = by_sort (λ s. Tells u (say_cut_three resistance_word s)) (search plain) last

cut_three : (u : List Token) (a last : Sort) → Tells u (say_cut_three a last)
cut_three u a last = by_sort (λ s. Tells u (say_cut_three s last)) (search (plain, cut_resistance)) a

cut_current : (u : List Token) (third : Sort) → Tells u (say_cut_four current_word third)
cut_current u third = by_sort (λ s. Tells u (say_cut_four current_word s)) (search plain) third

cut_four : (u : List Token) (a third : Sort) → Tells u (say_cut_four a third)
cut_four u a third = by_sort (λ s. Tells u (say_cut_four s third)) (search (plain, cut_current)) a

cut : (u : List Token) → Tells u (say_cut (shape_in u))
cut (word ∷ second ∷ last ∷ []) = cut_three (word ∷ second ∷ last ∷ []) (sort_of word) (sort_of last)
cut (word ∷ second ∷ third ∷ last ∷ []) = cut_four (word ∷ second ∷ third ∷ last ∷ []) (sort_of word) (sort_of third)
cut [] = tt
cut (a ∷ []) = tt
cut (a ∷ b ∷ []) = tt
cut (a ∷ b ∷ c ∷ d ∷ e ∷ []) = tt
cut (a ∷ b ∷ c ∷ d ∷ e ∷ f ∷ []) = tt
cut (a ∷ b ∷ c ∷ d ∷ e ∷ f ∷ g ∷ u) = tt

point : (u : List Token) (points : Quantity) (a : Sort) → Tells u (say_point points a)
point u points a = by_sort (λ s. Tells u (say_point points s)) (search plain) a

table : (points values : Quantity) (u : List Token) → Tells u (say_table points values (shape_in u))
table points values (word ∷ []) = point (word ∷ []) points (sort_of word)
table points values (stop ∷ word ∷ value ∷ []) = λ v. plain _ (λ o. refl) (λ f. refl) (λ o. refl)
table points values [] = tt
table points values (a ∷ b ∷ []) = tt
table points values (a ∷ b ∷ c ∷ d ∷ []) = tt
table points values (a ∷ b ∷ c ∷ d ∷ e ∷ []) = tt
table points values (a ∷ b ∷ c ∷ d ∷ e ∷ f ∷ []) = tt
table points values (a ∷ b ∷ c ∷ d ∷ e ∷ f ∷ g ∷ u) = tt

entry : (u : List Token) (values : Quantity) (a : Sort) → Tells u (say_value values a)
entry u values a = by_sort (λ s. Tells u (say_value values s)) (search plain) a

entries : (values : Quantity) (u : List Token) → Tells u (say_values values (shape_in u))
entries values (word ∷ []) = entry (word ∷ []) values (sort_of word)
entries values [] = tt
entries values (a ∷ b ∷ []) = tt
entries values (a ∷ b ∷ c ∷ []) = tt
entries values (a ∷ b ∷ c ∷ d ∷ []) = tt
entries values (a ∷ b ∷ c ∷ d ∷ e ∷ []) = tt
entries values (a ∷ b ∷ c ∷ d ∷ e ∷ f ∷ []) = tt
entries values (a ∷ b ∷ c ∷ d ∷ e ∷ f ∷ g ∷ u) = tt

part : (reference : Option LayerRef) (u : List Token) → Tells u (say_rule reference (shape_in u))
part reference (word ∷ layer ∷ stop ∷ []) = plain _ (λ o. refl) (λ f. refl) (λ o. refl)
part reference [] = tt
part reference (a ∷ []) = tt
part reference (a ∷ b ∷ []) = tt
part reference (a ∷ b ∷ c ∷ d ∷ []) = tt
part reference (a ∷ b ∷ c ∷ d ∷ e ∷ []) = tt
part reference (a ∷ b ∷ c ∷ d ∷ e ∷ f ∷ []) = tt
part reference (a ∷ b ∷ c ∷ d ∷ e ∷ f ∷ g ∷ u) = tt

wire_part_four : (u : List Token) (reference : Option LayerRef) (a b c d : Sort) → Tells u (say_wire_part reference (shape_of (a ∷ b ∷ c ∷ d ∷ [])))
wire_part_four u reference a b c d = by_sort (λ s. Tells u (say_wire_part reference (shape_of (s ∷ b ∷ c ∷ d ∷ [])))) (search plain) a

wire_part_five : (u : List Token) (reference : Option LayerRef) (a b c d e : Sort) → Tells u (say_wire_part reference (shape_of (a ∷ b ∷ c ∷ d ∷ e ∷ [])))
wire_part_five u reference a b c d e = by_sort (λ s. Tells u (say_wire_part reference (shape_of (s ∷ b ∷ c ∷ d ∷ e ∷ [])))) (search plain) a

wire_part : (reference : Option LayerRef) (u : List Token) → Tells u (say_wire_part reference (shape_in u))
wire_part reference (word ∷ layer ∷ stop ∷ []) = plain _ (λ o. refl) (λ f. refl) (λ o. refl)
wire_part reference (a ∷ b ∷ c ∷ d ∷ []) = wire_part_four (a ∷ b ∷ c ∷ d ∷ []) reference (sort_of a) (sort_of b) (sort_of c) (sort_of d)
wire_part reference (a ∷ b ∷ c ∷ d ∷ e ∷ []) = wire_part_five (a ∷ b ∷ c ∷ d ∷ e ∷ []) reference (sort_of a) (sort_of b) (sort_of c) (sort_of d) (sort_of e)
wire_part reference [] = tt
wire_part reference (a ∷ []) = tt
wire_part reference (a ∷ b ∷ []) = tt
wire_part reference (a ∷ b ∷ c ∷ d ∷ e ∷ f ∷ []) = tt
wire_part reference (a ∷ b ∷ c ∷ d ∷ e ∷ f ∷ g ∷ u) = tt

cut_part_three : (u : List Token) (reference : Option LayerRef) (a b c : Sort) → Tells u (say_cut_part reference (shape_of (a ∷ b ∷ c ∷ [])))
cut_part_three u reference a b c = by_sort (λ s. Tells u (say_cut_part reference (shape_of (s ∷ b ∷ c ∷ [])))) (search plain) a

cut_part_five : (u : List Token) (reference : Option LayerRef) (a b c d e : Sort) → Tells u (say_cut_part reference (shape_of (a ∷ b ∷ c ∷ d ∷ e ∷ [])))
cut_part_five u reference a b c d e = by_sort (λ s. Tells u (say_cut_part reference (shape_of (s ∷ b ∷ c ∷ d ∷ e ∷ [])))) (search plain) a

cut_part_six : (u : List Token) (reference : Option LayerRef) (a b c d e f : Sort) → Tells u (say_cut_part reference (shape_of (a ∷ b ∷ c ∷ d ∷ e ∷ f ∷ [])))
cut_part_six u reference a b c d e f = by_sort (λ s. Tells u (say_cut_part reference (shape_of (s ∷ b ∷ c ∷ d ∷ e ∷ f ∷ [])))) (search plain) a

cut_part : (reference : Option LayerRef) (u : List Token) → Tells u (say_cut_part reference (shape_in u))
cut_part reference (a ∷ b ∷ c ∷ []) = cut_part_three (a ∷ b ∷ c ∷ []) reference (sort_of a) (sort_of b) (sort_of c)
cut_part reference (a ∷ b ∷ c ∷ d ∷ e ∷ []) = cut_part_five (a ∷ b ∷ c ∷ d ∷ e ∷ []) reference (sort_of a) (sort_of b) (sort_of c) (sort_of d) (sort_of e)
cut_part reference (a ∷ b ∷ c ∷ d ∷ e ∷ f ∷ []) = cut_part_six (a ∷ b ∷ c ∷ d ∷ e ∷ f ∷ []) reference (sort_of a) (sort_of b) (sort_of c) (sort_of d) (sort_of e) (sort_of f)
cut_part reference [] = tt
cut_part reference (a ∷ []) = tt
cut_part reference (a ∷ b ∷ []) = tt
cut_part reference (a ∷ b ∷ c ∷ d ∷ []) = tt
cut_part reference (a ∷ b ∷ c ∷ d ∷ e ∷ f ∷ g ∷ u) = tt

wires : Says-names (say_type routing_word)
wires = typed _ (λ o. refl) (λ o. refl)
    (λ f m t x d h o k. (All-cons (λ (l : RoutingLayer). IsName l.name) _ (wires_of o) h k.0, k.1)) (λ f m t d h o k. k)

cuts : Says-names (say_type cut_word)
cuts = typed _ (λ o. refl) (λ o. refl)
    (λ f m t x d h o k. (k.0, All-cons (λ (l : CutLayer). IsName l.name) _ (cuts_of o) h k.1))
    (λ f m t d h o k. (k.0, All-cons (λ (l : CutLayer). IsName l.name) _ (cuts_of o) h k.1))

-- A type is `ROUTING` or `CUT`, or nothing is said.
type_is : (a : Sort) → (a ≡ routing_word) ⊎ ((a ≡ cut_word) ⊎ (say_type a ≡ None))
type_is a = by_sort (λ s. (s ≡ routing_word) ⊎ ((s ≡ cut_word) ⊎ (say_type s ≡ None))) (search (inl, inr)) a

kind : (a : Sort) → Says-names (say_type a)
kind a = elim (type_is a) [
  | inl is ↦ subst (λ s. Says-names (say_type s)) (sym is) wires
  | inr (inl is) ↦ subst (λ s. Says-names (say_type s)) (sym is) cuts
  | inr (inr none) ↦ subst Says-names (sym none) tt
]

start : (u : List Token) → Tells u (say_start (shape_in u))
start (word ∷ type ∷ stop ∷ []) = kind (sort_of type)
start [] = tt
start (a ∷ []) = tt
start (a ∷ b ∷ []) = tt
start (a ∷ b ∷ c ∷ d ∷ []) = tt
start (a ∷ b ∷ c ∷ d ∷ e ∷ []) = tt
start (a ∷ b ∷ c ∷ d ∷ e ∷ f ∷ []) = tt
start (a ∷ b ∷ c ∷ d ∷ e ∷ f ∷ g ∷ u) = tt

-- At the top the second word of `LAYER name` and of `VIARULE name` is a name.
head : (u : List Token) (a : Sort) → IsName (text_at u 1) → Tells u (say_head a)
head u a h = by_sort (λ s. Tells u (say_head s)) (search (layer_named, rule_named, h)) a

headed : (first : Sort) (u : List Token) → Matches sort_of (Then (key first) name) u → AreGood u → Tells u (say_top (shape_in u))
headed first u (x, y, (w, is, same), (v, also, same'), whole) good =
    let all : u ≡ w ∷ v ∷ [] = whole ∙ ap (λ z. z ++ y) same ∙ ap (λ z. w ∷ z) same' in
    let g : AreGood (w ∷ v ∷ []) = subst AreGood all good in
    subst (λ z. Tells z (say_top (shape_in z))) (sym all) (head (w ∷ v ∷ []) (sort_of w) (name_of v v.form refl also g.1.0))

ended : (u : List Token) → Matches sort_of (Then (key end_word) (key library_word)) u → Tells u (say_top (shape_in u))
ended u (x, y, (w, is, same), (v, also, same'), whole) =
    let all : u ≡ w ∷ v ∷ [] = whole ∙ ap (λ z. z ++ y) same ∙ ap (λ z. w ∷ z) same' in
    subst (λ z. Tells z (say_top (shape_in z))) (sym all) (subst (λ s. Tells (w ∷ v ∷ []) (say_head s)) (sym (sort_is (sort_of w) end_word (or_false (the end_word (sort_of w)) is))) tt)

at_top : (u : List Token) → Matches sort_of top u → AreGood u → Tells u (say_top (shape_in u))
at_top u (inl m) good = headed layer_word u m good
at_top u (inr (inl m)) good = headed rule_word u m good
at_top u (inr (inr (inl m))) good = headed passed_word u m good
at_top u (inr (inr (inr (inl m)))) good = ended u m
at_top u (inr (inr (inr (inr (w, is, same))))) good = subst (λ z. Tells z (say_top (shape_in z))) (sym same) tt

tells : (section : Section) (reference : Option LayerRef) (u : List Token) → Matches sort_of (pattern section) u → AreGood u → Tells u (saying section reference (shape_in u))
tells = by_section (λ section. (reference : Option LayerRef) (u : List Token) → Matches sort_of (pattern section) u → AreGood u → Tells u (saying section reference (shape_in u))) (
  λ r u m g. at_top u m g,
  (
    λ r u m g. tt,
    (
      λ r u m g. start u,
      (
        λ r u m g. wire u,
        (
          λ r u m g. wire u,
          (
            λ r u m g. cut u,
            (
              λ r u m g. table _ _ u,
              (
                λ r u m g. entries _ u,
                (
                  λ r u m g. table _ _ u,
                  (
                    λ r u m g. entries _ u,
                    (
                      λ r u m g. tt,
                      (λ r u m g. part r u, (λ r u m g. part r u, (λ r u m g. wire_part r u, (λ r u m g. cut_part r u, (λ r u m g. tt, (λ r u m g. tt, tt)))))),
                    ),
                  ),
                ),
              ),
            ),
          ),
        ),
      ),
    ),
  ),
)

-- ## all statements of a text

abbrev AllName : List Statement → Type 0
AllName [] = Unit {0}
AllName (s ∷ more) = Names s × AllName more

more_units : (state : State) (units : List (List Token)) (unit : List Token) → state_from state (units ++ unit ∷ []) ≡ state_after (state_from state units) unit
more_units state [] unit = refl
more_units state (u ∷ units) unit = more_units (state_after state u) units unit

with_one : (told : Option Statement) (others : List Statement) → Says-names told → AllName others → AllName (stated_one told ++ others)
with_one None others h k = k
with_one (Some s) others h k = (h, k)

all_name : (before units : List (List Token)) (told : List (Option Statement)) → Follows format before units → AreGood (joined units) → Told (state_of before) units told → AllName (stated told)
all_name before [] [] follows good h = tt
all_name before [] (t ∷ told) follows good h = absurd h
all_name before (u ∷ units) [] follows good h = absurd h
all_name before (u ∷ units) (t ∷ told) follows good h =
    let state : State = state_of before in
    with_one t (stated told)
    (told_names u (saying state.place.section (named state u) (shape_in u)) t
    (tells state.place.section (named state u) u follows.1 (good-front u (joined units) good)) h.0)
    (all_name (before ++ u ∷ []) units told follows.2 (good-rest u (joined units) good)
    (subst (λ z. Told z units told) (sym (more_units first_state before u)) h.1))

-- ## the technology

-- What statements name, and the type that they say first.
record NameAll (statements : List Statement) : Type 0 where
  layers : AreNamed (layers_of statements)
  kind : KindNames (facts_of (body_of statements))
  rules : RulesNamed (rules_of statements)

no_kind : KindNames no_facts
no_kind text direction facts density h others k = k

kind_by : (b : Bool) (s : Statement) (body : List Statement) → Names s → KindNames (facts_of body) → KindNames (facts_of (if b then [] else s ∷ body))
kind_by true s body h k = no_kind
kind_by false s body h k = h.facts (facts_of body) k

name_all : (statements : List Statement) → AllName statements → NameAll statements
name_all [] h = record {
  layers = (All-nil (λ (l : RoutingLayer). IsName l.name), All-nil (λ (l : CutLayer). IsName l.name));
  kind = no_kind;
  rules = All-nil (λ (r : ViaRule). IsName r.name);
}
name_all (s ∷ statements) h =
    let rest : NameAll statements = name_all statements h.1 in
    record {
      layers = h.0.layers statements rest.kind rest.layers;
      kind = kind_by (is_head s) s (body_of statements) h.0 rest.kind;
      rules = h.0.rules statements rest.rules;
    }

pub record Named (tech : Tech) : Type 0 where
  pub routing : All (λ (l : RoutingLayer). IsName l.name) tech.routing
  pub cuts : All (λ (l : CutLayer). IsName l.name) tech.cuts
  pub rules : All (λ (r : ViaRule). IsName r.name) tech.rules

named_tech : (statements : List Statement) → NameAll statements → Named (tech_of statements)
named_tech statements h = record { routing = h.layers.0; cuts = h.layers.1; rules = h.rules }

pub names_are : (text : List ℕ) (tech : Tech) → ReadsTech text (Ok tech) → Named tech
names_are text tech (split, is, units, (heard, hears, read), (told, says, same)) =
    let good : AreGood heard.words = good_heard format (seen_text split) heard (length heard.words) hears (good_split text split is) in
    subst Named (sym same) (named_tech (stated told) (name_all (stated told) (all_name [] units told read.whole (subst AreGood read.is good) says)))
