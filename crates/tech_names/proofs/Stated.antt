-- What units of a technology say names a layer or a rule only between sections.
use Rattle.std.proofs.Common.{◌≡◌, ℕ, Bool, true, false, if◌then◌else◌, List, [], ◌∷◌, ◌++◌, map, Option, Some, None, refl, inl, inr, subst, sym, ap}
use Rattle.std.specs.Prelude.{◌==◌, nat_lt}
use Rattle.geom_rect.specs.declared.direction.Axis.{Axis}
use Rattle.reading.specs.Word.{Token}
use Rattle.lef_tech.specs.declared.layer.CutLayer.{CutLayer}
use Rattle.lef_tech.specs.declared.layer.Density.{Density}
use Rattle.lef_tech.specs.declared.layer.LayerRef.{LayerRef}
use Rattle.lef_tech.specs.declared.layer.LayerRef.TheVariants as references
use Rattle.lef_tech.specs.declared.layer.RoutingLayer.{RoutingLayer}
use Rattle.lef_tech.specs.declared.rule.ViaRule.{ViaRule}
use Rattle.lef_tech.specs.Pattern.{the}
use Rattle.lef_tech.specs.Record.{stated_one, no_facts, with_fact, facts_of, is_head, body_of, density_of, layer_by, layer_of, with_layer, layers_of, wires_of, cuts_of, parts_of, fits, rule_by, rule_with, rule_between, rule_across, rule_among, rule_of, with_rule, rules_of}
use Rattle.lef_tech.specs.Section.{section_number}
use Rattle.lef_tech.specs.Shape.{shape_in, shape_of, text_at}
use Rattle.lef_tech.specs.Sort.{sort_of}
use Rattle.lef_tech.specs.Statement.{Saying, Says, say_head, say_top, say_type, say_start, say_wire_three, say_wire_four, say_wire, say_cut_three, say_cut_four, say_cut, say_point, say_table, say_value, say_values, say_rule, say_wire_part, say_cut_part, saying}
use Rattle.lef_tech.specs.Statement.Saying.{Plain, Named, Of, Alone, OfTwo, OfCorners}
use Rattle.tech_names.proofs.Apart.{AddsTo, Takes, AreApart, apart_none, apart_less, apart_more}
use Rattle.tech_names.proofs.Types.{Sort, Section, Quantity, Statement, Facts, Layer, Part, by_sort, by_section, layer_word, rule_word, spacing_word, resistance_word, current_word, by_shape}

-- ## layers and rules

abbrev pub wire_names : List Layer → List (List ℕ)
wire_names layers = map (λ (l : RoutingLayer). l.name) (wires_of layers)

abbrev pub cut_names : List Layer → List (List ℕ)
cut_names layers = map (λ (l : CutLayer). l.name) (cuts_of layers)

abbrev pub rule_names : List ViaRule → List (List ℕ)
rule_names rules = map (λ (r : ViaRule). r.name) rules

-- The layer has this name, or there is none.
pub record IfNamed (name : List ℕ) (layer : Option Layer) : Type 0 where
  pub wires : (others : List Layer) → AddsTo (wire_names others) name (wire_names (with_layer layer others))
  pub cuts : (others : List Layer) → AddsTo (cut_names others) name (cut_names (with_layer layer others))

-- A layer of this type has the name that it is given.
abbrev pub KindNames : Facts → Type 0
KindNames kind = (name : List ℕ) (direction : Option Axis) (facts : Facts) (density : Density) → IfNamed name (layer_by name kind.kind direction facts density)

named_none : (name : List ℕ) (layer : Option Layer) → ((others : List Layer) → with_layer layer others ≡ others) → IfNamed name layer
named_none name layer is = record { wires = λ others. inl (ap wire_names (is others)); cuts = λ others. inl (ap cut_names (is others)) }

named_wire : (name : List ℕ) (layer : Option Layer) → ((others : List Layer) → wire_names (with_layer layer others) ≡ name ∷ wire_names others)
    → ((others : List Layer) → cut_names (with_layer layer others) ≡ cut_names others) → IfNamed name layer
named_wire name layer wires cuts = record { wires = λ others. inr (wires others); cuts = λ others. inl (cuts others) }

named_cut : (name : List ℕ) (layer : Option Layer) → ((others : List Layer) → wire_names (with_layer layer others) ≡ wire_names others)
    → ((others : List Layer) → cut_names (with_layer layer others) ≡ name ∷ cut_names others) → IfNamed name layer
named_cut name layer wires cuts = record { wires = λ others. inl (wires others); cuts = λ others. inr (cuts others) }

no_kind : KindNames no_facts
no_kind name direction facts density = named_none name None (λ others. refl)

-- The rule has this name, or there is none.
abbrev IfRule : List ℕ → Option ViaRule → Type 0
IfRule name None = Unit {0}
IfRule name (Some rule) = rule.name ≡ name

rule_if : (b : Bool) (name : List ℕ) (x y : Option ViaRule) → IfRule name x → IfRule name y → IfRule name (if b then x else y)
rule_if true name x y h k = h
rule_if false name x y h k = k

rule_stated : (name : List ℕ) (lower : ℕ) (low : Facts) (upper : ℕ) (high : Facts) (cut : ℕ) (facts : Facts) (a b extent pitch : Option (ℕ × ℕ)) →
    IfRule name (rule_by name lower low upper high cut facts a b extent pitch)
rule_stated name lower low upper high cut facts (Some a) (Some b) (Some extent) (Some pitch) = rule_if (fits extent pitch) name (Some _) None refl tt
rule_stated name lower low upper high cut facts _ _ _ _ = tt

between : (name : List ℕ) (i : ℕ) (first : Facts) (j : ℕ) (second : Facts) (cut : ℕ) (facts : Facts) → IfRule name (rule_between name i first j second cut facts)
between name i first j second cut facts =
    rule_if (nat_lt i j) name (rule_with name i first j second cut facts) _ (rule_stated name i first j second cut facts first.enclosure second.enclosure facts.extent facts.pitch)
    (rule_if (nat_lt j i) name (rule_with name j second i first cut facts) None (rule_stated name j second i first cut facts second.enclosure first.enclosure facts.extent facts.pitch) tt)

across : (name : List ℕ) (cut : ℕ) (facts : Facts) (a b : Part) (x y : Option LayerRef) → IfRule name (rule_across name cut facts a b x y)
across name cut facts a b (Some (references.Routing i)) (Some (references.Routing j)) = between name i a.facts j b.facts cut facts
across name cut facts a b _ _ = tt

among : (name : List ℕ) (a b c : Part) (x y z : Option LayerRef) → IfRule name (rule_among name a b c x y z)
among name a b c (Some (references.Cut k)) y z = across name k a.facts b c b.reference c.reference
among name a b c _ (Some (references.Cut k)) z = across name k b.facts a c a.reference c.reference
among name a b c _ _ (Some (references.Cut k)) = across name k c.facts a b a.reference b.reference
among name a b c _ _ _ = tt

of_parts : (name : List ℕ) (parts : List Part) → IfRule name (rule_of name parts)
of_parts name (a ∷ b ∷ c ∷ []) = among name a b c a.reference b.reference c.reference
of_parts name _ = tt

with_named : (name : List ℕ) (rule : Option ViaRule) (others : List ViaRule) → IfRule name rule → AddsTo (rule_names others) name (rule_names (with_rule rule others))
with_named name None others h = inl refl
with_named name (Some rule) others h = inr (ap (λ z. z ∷ rule_names others) h)

-- ## statements

-- What a statement that begins a layer or a rule of this name, or none, puts before what others say.
abbrev pub with_new_layer : Option (List ℕ) → List Statement → List Layer
with_new_layer None others = layers_of others
with_new_layer (Some name) others = with_layer (layer_of name (body_of others)) (layers_of others)

abbrev pub with_new_rule : Option (List ℕ) → List Statement → List ViaRule
with_new_rule None others = rules_of others
with_new_rule (Some name) others = with_rule (rule_of name (parts_of others)) (rules_of others)

-- The statement begins a layer of this name or none, and a rule of this name or none.
pub record Begins (layer rule : Option (List ℕ)) (s : Statement) : Type 0 where
  pub layers : (others : List Statement) → layers_of (s ∷ others) ≡ with_new_layer layer others
  pub rules : (others : List Statement) → rules_of (s ∷ others) ≡ with_new_rule rule others
  pub kind : (facts : Facts) → KindNames facts → KindNames (with_fact s facts)

abbrev pub SaysOf : Option (List ℕ) → Option (List ℕ) → Option Statement → Type 0
SaysOf layer rule None = Unit {0}
SaysOf layer rule (Some s) = Begins layer rule s

-- What is said of a unit begins such a layer and such a rule, whatever its numbers are.
abbrev Tells : Option (List ℕ) → Option (List ℕ) → List Token → Saying → Type 0
Tells layer rule u (Plain told) = SaysOf layer rule told
Tells layer rule u (Named make) = Begins layer rule (make (text_at u 1))
Tells layer rule u (Of quantity at make) = (v : ℕ) → Begins layer rule (make v)
Tells layer rule u (Alone quantity at make) = (v : ℕ) → Begins layer rule (make v)
Tells layer rule u (OfTwo quantity a b make) = (v w : ℕ) → Begins layer rule (make v w)
Tells layer rule u OfCorners = (layer ≡ None) × (rule ≡ None)

-- One that says no type of a layer.
begins : (layer rule : Option (List ℕ)) (s : Statement) → ((others : List Statement) → layers_of (s ∷ others) ≡ with_new_layer layer others)
    → ((others : List Statement) → rules_of (s ∷ others) ≡ with_new_rule rule others) → ((facts : Facts) → (with_fact s facts).kind ≡ facts.kind) → Begins layer rule s
begins layer rule s layers rules kind = record {
  layers = layers;
  rules = rules;
  kind = λ facts names name direction more density. subst (λ z. IfNamed name (layer_by name z direction more density)) (sym (kind facts)) (names name direction more density);
}

plain : (s : Statement) → ((others : List Statement) → layers_of (s ∷ others) ≡ layers_of others) → ((others : List Statement) → rules_of (s ∷ others) ≡ rules_of others)
    → ((facts : Facts) → (with_fact s facts).kind ≡ facts.kind) → Begins None None s
plain s layers rules kind = begins None None s layers rules kind

-- One that says the type of a layer.
typed : (s : Statement) → ((others : List Statement) → layers_of (s ∷ others) ≡ layers_of others) → ((others : List Statement) → rules_of (s ∷ others) ≡ rules_of others)
    → ((facts more : Facts) (name : List ℕ) (axis : Axis) (density : Density) → IfNamed name (layer_by name (with_fact s facts).kind (Some axis) more density))
    → ((facts more : Facts) (name : List ℕ) (density : Density) → IfNamed name (layer_by name (with_fact s facts).kind None more density)) → Begins None None s
typed s layers rules along none = record { layers = layers; rules = rules; kind = by_direction }
  where
    by_direction : (facts : Facts) → KindNames facts → KindNames (with_fact s facts)
    by_direction facts names name None more density = none facts more name density
    by_direction facts names name (Some axis) more density = along facts more name axis density

told_begins : (layer rule : Option (List ℕ)) (u : List Token) (s : Saying) (told : Option Statement) → Tells layer rule u s → Says u s told → SaysOf layer rule told
told_begins layer rule u (Plain statement) told h e = subst (SaysOf layer rule) (sym e) h
told_begins layer rule u (Named make) told h e = subst (SaysOf layer rule) (sym e) h
told_begins layer rule u (Of quantity at make) told h (v, is, e) = subst (SaysOf layer rule) (sym e) (h v)
told_begins layer rule u (Alone quantity at make) told h (v, is, e) = subst (SaysOf layer rule) (sym e) (h v)
told_begins layer rule u (OfTwo quantity a b make) told h (v, w, is, also, e) = subst (SaysOf layer rule) (sym e) (h v w)
told_begins layer rule u OfCorners told h (x, y, is, also, e) =
    subst (λ z. SaysOf z rule told) (sym h.0) (subst (λ z. SaysOf None z told) (sym h.1) (subst (SaysOf None None) (sym e) (plain _ (λ o. refl) (λ o. refl) (λ f. refl))))

-- ## units outside of the top

start_three : (a : Sort) → SaysOf None None (say_type a)
start_three a = by_sort (λ s. SaysOf None None (say_type s)) (search (plain, typed, named_none, named_wire, named_cut)) a

-- `SPACING s ;` of a routing layer.
wire_spacing : (u : List Token) (second last : Sort) → Tells None None u (say_wire_three spacing_word second last)
wire_spacing u second last = by_sort (λ s. Tells None None u (say_wire_three spacing_word second s)) (search plain) last

wire_three : (u : List Token) (a second last : Sort) → Tells None None u (say_wire_three a second last)
wire_three u a second last = by_sort (λ s. Tells None None u (say_wire_three s second last)) (search (plain, wire_spacing)) a

-- `RESISTANCE RPERSQ v ;` of a routing layer.
wire_resistance : (u : List Token) (third last : Sort) → Tells None None u (say_wire_four resistance_word third last)
wire_resistance u third last = by_sort (λ s. Tells None None u (say_wire_four resistance_word third s)) (search plain) last

-- `DCCURRENTDENSITY AVERAGE` of a routing layer.
wire_current : (u : List Token) (third last : Sort) → Tells None None u (say_wire_four current_word third last)
wire_current u third last = by_sort (λ s. Tells None None u (say_wire_four current_word s last)) (search plain) third

wire_four : (u : List Token) (a third last : Sort) → Tells None None u (say_wire_four a third last)
wire_four u a third last = by_sort (λ s. Tells None None u (say_wire_four s third last)) (search (wire_resistance, wire_current)) a

-- `RESISTANCE v ;` of a cut layer.
cut_resistance : (u : List Token) (last : Sort) → Tells None None u (say_cut_three resistance_word last)
cut_resistance u last = by_sort (λ s. Tells None None u (say_cut_three resistance_word s)) (search plain) last

cut_three : (u : List Token) (a last : Sort) → Tells None None u (say_cut_three a last)
cut_three u a last = by_sort (λ s. Tells None None u (say_cut_three s last)) (search cut_resistance) a

-- `DCCURRENTDENSITY AVERAGE` of a cut layer.
cut_current : (u : List Token) (third : Sort) → Tells None None u (say_cut_four current_word third)
cut_current u third = by_sort (λ s. Tells None None u (say_cut_four current_word s)) (search plain) third

cut_four : (u : List Token) (a third : Sort) → Tells None None u (say_cut_four a third)
cut_four u a third = by_sort (λ s. Tells None None u (say_cut_four s third)) (search cut_current) a

point : (points : Quantity) (u : List Token) (a : Sort) → Tells None None u (say_point points a)
point points u a = by_sort (λ s. Tells None None u (say_point points s)) (search plain) a

value : (values : Quantity) (u : List Token) (a : Sort) → Tells None None u (say_value values a)
value values u a = by_sort (λ s. Tells None None u (say_value values s)) (search plain) a

start : (u : List Token) → Tells None None u (say_start (shape_in u))
start = by_shape (λ u. Tells None None u (say_start (shape_in u))) (search start_three)

wire : (u : List Token) → Tells None None u (say_wire (shape_in u))
wire = by_shape (λ u. Tells None None u (say_wire (shape_in u))) (search (wire_three, wire_four))

cut : (u : List Token) → Tells None None u (say_cut (shape_in u))
cut = by_shape (λ u. Tells None None u (say_cut (shape_in u))) (search (cut_three, cut_four))

table : (points values : Quantity) (u : List Token) → Tells None None u (say_table points values (shape_in u))
table points values = by_shape (λ u. Tells None None u (say_table points values (shape_in u))) (search (plain, point))

entries : (values : Quantity) (u : List Token) → Tells None None u (say_values values (shape_in u))
entries values = by_shape (λ u. Tells None None u (say_values values (shape_in u))) (search value)

part : (reference : Option LayerRef) (u : List Token) → Tells None None u (say_rule reference (shape_in u))
part reference = by_shape (λ u. Tells None None u (say_rule reference (shape_in u))) (search plain)

wire_part_four : (reference : Option LayerRef) (u : List Token) (a b c d : Sort) → Tells None None u (say_wire_part reference (shape_of (a ∷ b ∷ c ∷ d ∷ [])))
wire_part_four reference u a b c d = by_sort (λ s. Tells None None u (say_wire_part reference (shape_of (s ∷ b ∷ c ∷ d ∷ [])))) (search plain) a

wire_part_five : (reference : Option LayerRef) (u : List Token) (a b c d e : Sort) → Tells None None u (say_wire_part reference (shape_of (a ∷ b ∷ c ∷ d ∷ e ∷ [])))
wire_part_five reference u a b c d e = by_sort (λ s. Tells None None u (say_wire_part reference (shape_of (s ∷ b ∷ c ∷ d ∷ e ∷ [])))) (search plain) a

wire_part : (reference : Option LayerRef) (u : List Token) → Tells None None u (say_wire_part reference (shape_in u))
wire_part reference = by_shape (λ u. Tells None None u (say_wire_part reference (shape_in u))) (search (plain, wire_part_four, wire_part_five))

cut_part_three : (reference : Option LayerRef) (u : List Token) (a b c : Sort) → Tells None None u (say_cut_part reference (shape_of (a ∷ b ∷ c ∷ [])))
cut_part_three reference u a b c = by_sort (λ s. Tells None None u (say_cut_part reference (shape_of (s ∷ b ∷ c ∷ [])))) (search plain) a

cut_part_five : (reference : Option LayerRef) (u : List Token) (a b c d e : Sort) → Tells None None u (say_cut_part reference (shape_of (a ∷ b ∷ c ∷ d ∷ e ∷ [])))
cut_part_five reference u a b c d e = by_sort (λ s. Tells None None u (say_cut_part reference (shape_of (s ∷ b ∷ c ∷ d ∷ e ∷ [])))) (search plain) a

cut_part_six : (reference : Option LayerRef) (u : List Token) (a b c d e f : Sort) → Tells None None u (say_cut_part reference (shape_of (a ∷ b ∷ c ∷ d ∷ e ∷ f ∷ [])))
cut_part_six reference u a b c d e f = by_sort (λ s. Tells None None u (say_cut_part reference (shape_of (s ∷ b ∷ c ∷ d ∷ e ∷ f ∷ [])))) (search refl) a

cut_part : (reference : Option LayerRef) (u : List Token) → Tells None None u (say_cut_part reference (shape_in u))
cut_part reference = by_shape (λ u. Tells None None u (say_cut_part reference (shape_in u))) (search (cut_part_three, cut_part_five, cut_part_six))

-- ## units at the top

-- The name of a head of this sort, if these words are one.
abbrev pub head_with : (Sort → Bool) → List Token → Option (List ℕ)
head_with first (word ∷ name ∷ []) = if first (sort_of word) then Some name.text else None
head_with first _ = None

-- The same of a unit of this section: heads stand at the top.
abbrev pub head_in : (Sort → Bool) → Section → List Token → Option (List ℕ)
head_in first section u = if section_number section == 0 then head_with first u else None

layer_begins : (s : Statement) (name : List ℕ) → ((others : List Statement) → layers_of (s ∷ others) ≡ with_layer (layer_of name (body_of others)) (layers_of others))
    → ((others : List Statement) → rules_of (s ∷ others) ≡ rules_of others) → ((facts : Facts) → (with_fact s facts).kind ≡ facts.kind) → Begins (Some name) None s
layer_begins s name layers rules kind = begins (Some name) None s layers rules kind

rule_begins : (s : Statement) (name : List ℕ) → ((others : List Statement) → layers_of (s ∷ others) ≡ layers_of others)
    → ((others : List Statement) → rules_of (s ∷ others) ≡ with_rule (rule_of name (parts_of others)) (rules_of others)) → ((facts : Facts) → (with_fact s facts).kind ≡ facts.kind)
    → Begins None (Some name) s
rule_begins s name layers rules kind = begins None (Some name) s layers rules kind

-- A unit that says no statement says nothing of a name.
head : (w v : Token) (a : Sort) → Tells (if the layer_word a then Some v.text else None) (if the rule_word a then Some v.text else None) (w ∷ v ∷ []) (say_head a)
head w v a =
    by_sort (λ s. Tells (if the layer_word s then Some v.text else None) (if the rule_word s then Some v.text else None) (w ∷ v ∷ []) (say_head s)) (search (layer_begins, rule_begins)) a

at_top : (u : List Token) → Tells (head_with (the layer_word) u) (head_with (the rule_word) u) u (say_top (shape_in u))
at_top = by_shape (λ u. Tells (head_with (the layer_word) u) (head_with (the rule_word) u) u (say_top (shape_in u))) (search head)

tells : (section : Section) (reference : Option LayerRef) (u : List Token) → Tells (head_in (the layer_word) section u) (head_in (the rule_word) section u) u (saying section reference (shape_in u))
tells = by_section (λ section. (reference : Option LayerRef) (u : List Token) → Tells (head_in (the layer_word) section u) (head_in (the rule_word) section u) u (saying section reference (shape_in u)))
    (search (at_top, start, wire, cut, table, entries, part, wire_part, cut_part))

-- What a unit says begins the layer or the rule of which it is the head, and no other.
pub says : (section : Section) (reference : Option LayerRef) (u : List Token) (told : Option Statement) → Says u (saying section reference (shape_in u)) told
    → SaysOf (head_in (the layer_word) section u) (head_in (the rule_word) section u) told
says section reference u told is = told_begins _ _ u (saying section reference (shape_in u)) told (tells section reference u) is

-- ## all statements

-- The names of layers and of rules that the statements say differ, and none of them is taken; what type they say first.
pub record AreOwn (IsTaken IsRuled : List ℕ → Type 0) (statements : List Statement) : Type 0 where
  pub kind : KindNames (facts_of (body_of statements))
  pub wires : AreApart IsTaken (wire_names (layers_of statements))
  pub cuts : AreApart IsTaken (cut_names (layers_of statements))
  pub rules : AreApart IsRuled (rule_names (rules_of statements))

pub own_none : (IsTaken IsRuled : List ℕ → Type 0) → AreOwn IsTaken IsRuled []
own_none IsTaken IsRuled = record { kind = no_kind; wires = apart_none IsTaken; cuts = apart_none IsTaken; rules = apart_none IsRuled }

kind_by : (b : Bool) (s : Statement) (body : List Statement) → ((facts : Facts) → KindNames facts → KindNames (with_fact s facts)) → KindNames (facts_of body)
    → KindNames (facts_of (if b then [] else s ∷ body))
kind_by true s body keeps h = no_kind
kind_by false s body keeps h = keeps (facts_of body) h

wires_own : (IsTaken Then : List ℕ → Type 0) (layer : Option (List ℕ)) (others : List Statement) → Takes IsTaken Then layer → KindNames (facts_of (body_of others))
    → AreApart Then (wire_names (layers_of others)) → AreApart IsTaken (wire_names (with_new_layer layer others))
wires_own IsTaken Then None others takes kind apart = apart_less IsTaken Then (wire_names (layers_of others)) takes.kept apart
wires_own IsTaken Then (Some name) others takes kind apart =
    apart_more IsTaken Then name (wire_names (layers_of others)) _ takes
    ((kind name (facts_of (body_of others)).direction (facts_of (body_of others)) (density_of (body_of others))).wires (layers_of others)) apart

cuts_own : (IsTaken Then : List ℕ → Type 0) (layer : Option (List ℕ)) (others : List Statement) → Takes IsTaken Then layer → KindNames (facts_of (body_of others))
    → AreApart Then (cut_names (layers_of others)) → AreApart IsTaken (cut_names (with_new_layer layer others))
cuts_own IsTaken Then None others takes kind apart = apart_less IsTaken Then (cut_names (layers_of others)) takes.kept apart
cuts_own IsTaken Then (Some name) others takes kind apart =
    apart_more IsTaken Then name (cut_names (layers_of others)) _ takes
    ((kind name (facts_of (body_of others)).direction (facts_of (body_of others)) (density_of (body_of others))).cuts (layers_of others)) apart

rules_own : (IsRuled Then : List ℕ → Type 0) (rule : Option (List ℕ)) (others : List Statement) → Takes IsRuled Then rule → AreApart Then (rule_names (rules_of others))
    → AreApart IsRuled (rule_names (with_new_rule rule others))
rules_own IsRuled Then None others takes apart = apart_less IsRuled Then (rule_names (rules_of others)) takes.kept apart
rules_own IsRuled Then (Some name) others takes apart =
    apart_more IsRuled Then name (rule_names (rules_of others)) _ takes (with_named name (rule_of name (parts_of others)) (rules_of others) (of_parts name (parts_of others))) apart

pub own_more : (IsTaken Then IsRuled ThenRuled : List ℕ → Type 0) (layer rule : Option (List ℕ)) (told : Option Statement) (others : List Statement) → SaysOf layer rule told
    → Takes IsTaken Then layer → Takes IsRuled ThenRuled rule → AreOwn Then ThenRuled others → AreOwn IsTaken IsRuled (stated_one told ++ others)
own_more IsTaken Then IsRuled ThenRuled layer rule None others is takes rules own = record {
  kind = own.kind;
  wires = apart_less IsTaken Then (wire_names (layers_of others)) takes.kept own.wires;
  cuts = apart_less IsTaken Then (cut_names (layers_of others)) takes.kept own.cuts;
  rules = apart_less IsRuled ThenRuled (rule_names (rules_of others)) rules.kept own.rules;
}
own_more IsTaken Then IsRuled ThenRuled layer rule (Some s) others is takes rules own = record {
  kind = kind_by (is_head s) s (body_of others) is.kind own.kind;
  wires = subst (λ z. AreApart IsTaken (wire_names z)) (sym (is.layers others)) (wires_own IsTaken Then layer others takes own.kind own.wires);
  cuts = subst (λ z. AreApart IsTaken (cut_names z)) (sym (is.layers others)) (cuts_own IsTaken Then layer others takes own.kind own.cuts);
  rules = subst (λ z. AreApart IsRuled (rule_names z)) (sym (is.rules others)) (rules_own IsRuled ThenRuled rule others rules own.rules);
}
