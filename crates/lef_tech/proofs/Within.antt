-- What the statements keep, by what they say.
use Rattle.std.proofs.Common.{◌≡◌, ℕ, ◌<◌, ◌≤◌, Bool, true, false, ◌&&◌, if◌then◌else◌, ℤ, pos, List, [], ◌∷◌, ◌++◌, length, Option, Some, None, Ok, refl, sym, subst, arith}
use Rattle.std.specs.Prelude.{unsigned_abs, nat_lt, nat_le}
use Rattle.std.specs.List.{AllByRecursion}
use Rattle.std.proofs.lemmas.Bool.Decides.{nat_tests}
use Rattle.geom_rect.specs.declared.direction.Axis.{Axis}
use Rattle.lef_tech.specs.declared.facts.Facts.{Facts}
use Rattle.lef_tech.specs.declared.facts.LayerKind.{LayerKind}
use Rattle.lef_tech.specs.declared.facts.LayerKind.TheVariants.{OfWires, OfCuts}
use Rattle.lef_tech.specs.declared.facts.PartFacts.{PartFacts}
use Rattle.lef_tech.specs.declared.layer.CutLayer.{CutLayer}
use Rattle.lef_tech.specs.declared.layer.Density.{Density as DensityRecord}
use Rattle.lef_tech.specs.declared.layer.LayerRef.{LayerRef}
use Rattle.lef_tech.specs.declared.layer.LayerRef.TheVariants as references
use Rattle.lef_tech.specs.declared.layer.RoutingLayer.{RoutingLayer}
use Rattle.lef_tech.specs.declared.number.Quantity.{Quantity}
use Rattle.lef_tech.specs.declared.rule.ViaRule.{ViaRule}
use Rattle.lef_tech.specs.declared.section.Section.{Section}
use Rattle.lef_tech.specs.declared.section.Section.TheVariants as sections
use Rattle.lef_tech.specs.declared.shape.Shape.{Shape}
use Rattle.lef_tech.specs.declared.shape.Shape.TheVariants.{One, Two, Three, Four, Five, Six}
use Rattle.lef_tech.specs.declared.sort.Sort.{Sort}
use Rattle.lef_tech.specs.declared.sort.Sort.TheVariants as sorts
use Rattle.lef_tech.specs.declared.stack.AnyLayer.{AnyLayer}
use Rattle.lef_tech.specs.declared.stack.AnyLayer.TheVariants as layers
use Rattle.lef_tech.specs.declared.state.State.{State}
use Rattle.lef_tech.specs.declared.statement.Statement.{Statement}
use Rattle.lef_tech.specs.declared.statement.Statement.TheVariants.{Layer, Rule, Part, Wires, Cuts, Along, Spacing, Resistance, Enclosure, Widths, Extent, Pitch}
use Rattle.lef_tech.specs.inside.Looks.{StatementKeeps, StatementsKeep}
use Rattle.lef_tech.specs.Limits.{IsLength, IsOhms, AreLengths, Keeps}
use Rattle.lef_tech.specs.Number.{place_of}
use Rattle.lef_tech.specs.Record.{Told, stated_one, stated, with_fact, facts_of, is_head, body_of, or_zero, layer_by, layer_of, with_layer, layers_of, wires_of, cuts_of, parts_of, fits, rule_by, rule_between, rule_across, rule_among, rule_of, with_rule, rules_of}
use Rattle.lef_tech.specs.Shape.{shape_in}
use Rattle.lef_tech.specs.Statement.{Saying, Plain, Named, Of, Alone, OfTwo, OfCorners, say_head, say_type, say_wire, say_cut, say_table, say_values, say_rule, say_wire_part, say_cut_part, saying, Says}
use Rattle.lef_tech.specs.Turn.{named, state_after}
use Rattle.number_place.specs.declared.place.NumberPlace.{NumberPlace}
use Rattle.number_place.specs.Place.{IsNumberAt}
use Rattle.reading.specs.Word.{Token}

-- A value is within the limit of its place.
abbrev pub Limited : Type 0
Limited = (place : NumberPlace) (text : List ℕ) (value : ℤ) → IsNumberAt place text (Ok value) → unsigned_abs value ≤ place.limit

-- ## statements

abbrev SaidKeeps : Option Statement → Type 0
SaidKeeps None = Unit {0}
SaidKeeps (Some statement) = StatementKeeps statement

-- What a unit says keeps them, whatever its numbers are.
abbrev MakesKept : Saying → Type 0
MakesKept (Plain told) = SaidKeeps told
MakesKept (Named make) = (name : List ℕ) → StatementKeeps (make name)
MakesKept (Of quantity at make) = (v : ℕ) → v ≤ (place_of quantity).limit → StatementKeeps (make v)
MakesKept (Alone quantity at make) = (v : ℕ) → v ≤ (place_of quantity).limit → StatementKeeps (make v)
MakesKept (OfTwo quantity a b make) = (v w : ℕ) → v ≤ (place_of quantity).limit → w ≤ (place_of quantity).limit → StatementKeeps (make v w)
MakesKept OfCorners = Unit {0}

says_kept : Limited → (unit : List Token) (says : Saying) (told : Option Statement) → MakesKept says → Says unit says told → SaidKeeps told
says_kept l unit (Plain statement) told m h = subst SaidKeeps (sym h) m
says_kept l unit (Named make) told m h = subst SaidKeeps (sym h) (m _)
says_kept l unit (Of quantity at make) told m h = subst SaidKeeps (sym h.2) (m h.0 (l (place_of quantity) _ (pos h.0) h.1))
says_kept l unit (Alone quantity at make) told m h = subst SaidKeeps (sym h.2) (m h.0 (l (place_of quantity) _ (pos h.0) h.1))
says_kept l unit (OfTwo quantity a b make) told m h =
    subst SaidKeeps (sym h.4) (m h.0 h.1 (l (place_of quantity) _ (pos h.0) h.2) (l (place_of quantity) _ (pos h.1) h.3))
says_kept l unit OfCorners told m h = subst SaidKeeps (sym h.4) tt

head_makes : (s : Sort) → MakesKept (say_head s)
head_makes sorts.Layer = λ name. tt
head_makes sorts.ViaRule = λ name. tt
head_makes s = tt

top_makes : (reference : Option LayerRef) (shape : Shape) → MakesKept (saying sections.Top reference shape)
top_makes reference (Two s t) = head_makes s
top_makes reference shape = tt

type_makes : (s : Sort) → SaidKeeps (say_type s)
type_makes sorts.Routing = tt
type_makes sorts.Cut = tt
type_makes s = tt

start_makes : (reference : Option LayerRef) (shape : Shape) → MakesKept (saying sections.LayerStart reference shape)
start_makes reference (Three s t p) = type_makes t
start_makes reference shape = tt

wire_makes : (shape : Shape) → MakesKept (say_wire shape)
wire_makes (Three sorts.Direction t p) = tt
wire_makes (Three sorts.Spacing t sorts.Semicolon) = λ v h. h
wire_makes (Three sorts.Spacing t p) = tt
wire_makes (Three s t p) = tt
wire_makes (Four sorts.Resistance t p sorts.Semicolon) = λ v h. h
wire_makes (Four sorts.Resistance t p q) = tt
wire_makes (Four sorts.Current t sorts.Width q) = λ v h. tt
wire_makes (Four sorts.Current t p q) = λ v h. tt
wire_makes (Four s t p q) = tt
wire_makes shape = tt

cut_makes : (shape : Shape) → MakesKept (say_cut shape)
cut_makes (Three sorts.Resistance t sorts.Semicolon) = λ v h. h
cut_makes (Three sorts.Resistance t p) = tt
cut_makes (Three s t p) = tt
cut_makes (Four sorts.Current t sorts.CutArea q) = λ v h. tt
cut_makes (Four sorts.Current t p q) = λ v h. tt
cut_makes (Four s t p q) = tt
cut_makes shape = tt

table_makes : (points values : Quantity) (shape : Shape) → MakesKept (say_table points values shape)
table_makes points values (One sorts.Semicolon) = tt
table_makes points values (One s) = λ v h. tt
table_makes points values (Three s t p) = λ v h. tt
table_makes points values shape = tt

values_make : (values : Quantity) (shape : Shape) → MakesKept (say_values values shape)
values_make values (One sorts.Semicolon) = tt
values_make values (One s) = λ v h. tt
values_make values shape = tt

rule_makes : (reference : Option LayerRef) (shape : Shape) → MakesKept (say_rule reference shape)
rule_makes reference (Three s t p) = tt
rule_makes reference shape = tt

wire_part_makes : (reference : Option LayerRef) (shape : Shape) → MakesKept (say_wire_part reference shape)
wire_part_makes reference (Three s t p) = tt
wire_part_makes reference (Four sorts.Enclosure t p q) = λ v w h k. (h, k)
wire_part_makes reference (Four s t p q) = tt
wire_part_makes reference (Five sorts.Width t p q r) = λ v w h k. (h, k)
wire_part_makes reference (Five s t p q r) = tt
wire_part_makes reference shape = tt

cut_part_makes : (reference : Option LayerRef) (shape : Shape) → MakesKept (say_cut_part reference shape)
cut_part_makes reference (Three sorts.Layer t p) = tt
cut_part_makes reference (Three sorts.Resistance t p) = λ v h. h
cut_part_makes reference (Three s t p) = tt
cut_part_makes reference (Five sorts.Spacing t p q r) = λ v w h k. (h, k)
cut_part_makes reference (Five s t p q r) = tt
cut_part_makes reference (Six sorts.Rect t p q r u) = tt
cut_part_makes reference (Six s t p q r u) = tt
cut_part_makes reference shape = tt

makes : (section : Section) (reference : Option LayerRef) (shape : Shape) → MakesKept (saying section reference shape)
makes sections.Top reference shape = top_makes reference shape
makes sections.LayerStart reference shape = start_makes reference shape
makes sections.Undirected reference shape = wire_makes shape
makes sections.Directed reference shape = wire_makes shape
makes sections.Cut reference shape = cut_makes shape
makes sections.WireTable reference shape = table_makes _ _ shape
makes sections.CutTable reference shape = table_makes _ _ shape
makes sections.WireValues reference shape = values_make _ shape
makes sections.CutValues reference shape = values_make _ shape
makes sections.RuleHead reference shape = rule_makes reference shape
makes sections.Rule reference shape = rule_makes reference shape
makes sections.WirePart reference shape = wire_part_makes reference shape
makes sections.CutPart reference shape = cut_part_makes reference shape
makes section reference shape = tt

push_kept : (told : Option Statement) (statements : List Statement) → SaidKeeps told → StatementsKeep statements → StatementsKeep (stated_one told ++ statements)
push_kept None statements h k = k
push_kept (Some statement) statements h k = (h, k)

pub told_kept : Limited → (state : State) (units : List (List Token)) (told : List (Option Statement)) → Told state units told → StatementsKeep (stated told)
told_kept l state [] [] h = tt
told_kept l state (unit ∷ units) (t ∷ told) h =
    push_kept t (stated told)
    (says_kept l unit (saying state.place.section (named state unit) (shape_in unit)) t (makes state.place.section (named state unit) (shape_in unit)) h.0)
    (told_kept l (state_after state unit) units told h.1)
told_kept l state [] (t ∷ told) h = absurd h
told_kept l state (unit ∷ units) [] h = absurd h

-- ## what they say of a layer or of a rule's layer

abbrev FactsKeep : Facts → Type 0
FactsKeep facts =
    Keeps IsLength facts.spacing × Keeps IsOhms facts.resistance × Keeps AreLengths facts.enclosure × Keeps AreLengths facts.widths
    × Keeps AreLengths facts.pitch

fact_kept : (statement : Statement) (facts : Facts) → StatementKeeps statement → FactsKeep facts → FactsKeep (with_fact statement facts)
fact_kept Wires facts k h = h
fact_kept Cuts facts k h = h
fact_kept (Along axis) facts k h = h
fact_kept (Spacing length) facts k h = (k, h.1, h.2, h.3, h.4)
fact_kept (Resistance value) facts k h = (h.0, k, h.2, h.3, h.4)
fact_kept (Enclosure a b) facts k h = (h.0, h.1, k, h.3, h.4)
fact_kept (Widths a b) facts k h = (h.0, h.1, h.2, k, h.4)
fact_kept (Extent a b) facts k h = h
fact_kept (Pitch a b) facts k h = (h.0, h.1, h.2, h.3, k)
fact_kept statement facts k h = h

facts_kept : (body : List Statement) → StatementsKeep body → FactsKeep (facts_of body)
facts_kept [] h = (tt, tt, tt, tt, tt)
facts_kept (statement ∷ body) h = fact_kept statement (facts_of body) h.0 (facts_kept body h.1)

if_kept : (b : Bool) (x y : List Statement) → StatementsKeep x → StatementsKeep y → StatementsKeep (if b then x else y)
if_kept true x y h k = h
if_kept false x y h k = k

body_kept : (statements : List Statement) → StatementsKeep statements → StatementsKeep (body_of statements)
body_kept [] h = tt
body_kept (statement ∷ others) h = if_kept (is_head statement) [] (statement ∷ body_of others) tt (h.0, body_kept others h.1)

-- ## layers

abbrev pub WireKeeps : RoutingLayer → Type 0
WireKeeps layer = IsLength layer.spacing × Keeps IsOhms layer.sheet

abbrev pub HoleKeeps : CutLayer → Type 0
HoleKeeps layer = Keeps IsOhms layer.per_cut

abbrev AnyKeeps : Option AnyLayer → Type 0
AnyKeeps None = Unit {0}
AnyKeeps (Some (layers.Wire layer)) = WireKeeps layer
AnyKeeps (Some (layers.Hole layer)) = HoleKeeps layer

abbrev LayersKeep : List AnyLayer → Type 0
LayersKeep [] = Unit {0}
LayersKeep (layer ∷ others) = AnyKeeps (Some layer) × LayersKeep others

zero_kept : (spacing : Option ℕ) → Keeps IsLength spacing → IsLength (or_zero spacing)
zero_kept None h = omega arith
zero_kept (Some spacing) h = h

layer_kept : (name : List ℕ) (kind : Option LayerKind) (direction : Option Axis) (facts : Facts) (density : DensityRecord) → FactsKeep facts →
    AnyKeeps (layer_by name kind direction facts density)
layer_kept name (Some OfWires) (Some axis) facts density h = (zero_kept facts.spacing h.0, h.1)
layer_kept name (Some OfWires) None facts density h = tt
layer_kept name (Some OfCuts) direction facts density h = h.1
layer_kept name None direction facts density h = tt

one_more : (layer : Option AnyLayer) (others : List AnyLayer) → AnyKeeps layer → LayersKeep others → LayersKeep (with_layer layer others)
one_more None others h k = k
one_more (Some layer) others h k = (h, k)

layers_kept : (statements : List Statement) → StatementsKeep statements → LayersKeep (layers_of statements)
layers_kept [] h = tt
layers_kept (Layer name ∷ others) h =
    one_more (layer_of name (body_of others)) (layers_of others) (layer_kept name _ _ (facts_of (body_of others)) _ (facts_kept (body_of others) (body_kept others h.1)))
    (layers_kept others h.1)
layers_kept (statement ∷ others) h = layers_kept others h.1

wires_kept : (all : List AnyLayer) → LayersKeep all → AllByRecursion WireKeeps (wires_of all)
wires_kept [] h = tt
wires_kept (layers.Wire layer ∷ all) h = (h.0, wires_kept all h.1)
wires_kept (layers.Hole layer ∷ all) h = wires_kept all h.1

cuts_kept : (all : List AnyLayer) → LayersKeep all → AllByRecursion HoleKeeps (cuts_of all)
cuts_kept [] h = tt
cuts_kept (layers.Wire layer ∷ all) h = cuts_kept all h.1
cuts_kept (layers.Hole layer ∷ all) h = (h.0, cuts_kept all h.1)

pub statement_wires : (statements : List Statement) → StatementsKeep statements → AllByRecursion WireKeeps (wires_of (layers_of statements))
statement_wires statements h = wires_kept (layers_of statements) (layers_kept statements h)

pub statement_cuts : (statements : List Statement) → StatementsKeep statements → AllByRecursion HoleKeeps (cuts_of (layers_of statements))
statement_cuts statements h = cuts_kept (layers_of statements) (layers_kept statements h)

-- ## rules

-- What a rule keeps by itself.
pub record RuleStands (rule : ViaRule) : Type 0 where
  pub below : rule.lower < rule.upper
  pub lower_enclosure : AreLengths rule.lower_enclosure
  pub upper_enclosure : AreLengths rule.upper_enclosure
  pub lower_widths : Keeps AreLengths rule.lower_widths
  pub upper_widths : Keeps AreLengths rule.upper_widths
  pub some_x : 0 < rule.cut_x
  pub some_y : 0 < rule.cut_y
  pub cut_x : rule.cut_x ≤ rule.pitch_x
  pub cut_y : rule.cut_y ≤ rule.pitch_y
  pub pitch_x : IsLength rule.pitch_x
  pub pitch_y : IsLength rule.pitch_y
  pub per_cut : Keeps IsOhms rule.per_cut

abbrev AnyRule : Option ViaRule → Type 0
AnyRule None = Unit {0}
AnyRule (Some rule) = RuleStands rule

if_rule : (b : Bool) (x y : Option ViaRule) → (b ≡ true → AnyRule x) → (b ≡ false → AnyRule y) → AnyRule (if b then x else y)
if_rule true x y h k = h refl
if_rule false x y h k = k refl

both_true : (a b : Bool) → (a && b) ≡ true → (a ≡ true) × (b ≡ true)
both_true true b h = (refl, h)
both_true false b h = absurd (let no : false ≡ true = h in cc)

less : (a b : ℕ) → nat_lt a b ≡ true → a < b
less a b h = grind (arith, nat_tests)

at_most : (a b : ℕ) → nat_le a b ≡ true → a ≤ b
at_most a b h = grind (arith, nat_tests)

-- A cut that fits its pitch.
fits_so : (extent pitch : ℕ × ℕ) → fits extent pitch ≡ true → (0 < extent.0) × (0 < extent.1) × (extent.0 ≤ pitch.0) × (extent.1 ≤ pitch.1)
fits_so extent pitch t =
    let x = both_true (nat_lt 0 extent.0 && nat_lt 0 extent.1 && nat_le extent.0 pitch.0) (nat_le extent.1 pitch.1) t in
    let y = both_true (nat_lt 0 extent.0 && nat_lt 0 extent.1) (nat_le extent.0 pitch.0) x.0 in
    let z = both_true (nat_lt 0 extent.0) (nat_lt 0 extent.1) y.0 in
    (less 0 extent.0 z.0, less 0 extent.1 z.1, at_most extent.0 pitch.0 y.1, at_most extent.1 pitch.1 x.1)

by_kept : (name : List ℕ) (i : ℕ) (low : Facts) (j : ℕ) (high : Facts) (k : ℕ) (facts : Facts) (a b extent pitch : Option (ℕ × ℕ)) → i < j → FactsKeep low → FactsKeep high → FactsKeep facts →
    Keeps AreLengths a → Keeps AreLengths b → Keeps AreLengths pitch → AnyRule (rule_by name i low j high k facts a b extent pitch)
by_kept name i low j high k facts (Some a) (Some b) (Some extent) (Some pitch) lt l h f ka kb kp = if_rule (fits extent pitch) _ None
    (λ t.
    let so = fits_so extent pitch t in
    record {
      below = lt;
      lower_enclosure = ka;
      upper_enclosure = kb;
      lower_widths = l.3;
      upper_widths = h.3;
      some_x = so.0;
      some_y = so.1;
      cut_x = so.2;
      cut_y = so.3;
      pitch_x = kp.0;
      pitch_y = kp.1;
      per_cut = f.1;
    }) (λ t. tt)
by_kept name i low j high k facts a b extent pitch lt l h f ka kb kp = tt

between_kept : (name : List ℕ) (i : ℕ) (first : Facts) (j : ℕ) (second : Facts) (k : ℕ) (facts : Facts) → FactsKeep first → FactsKeep second → FactsKeep facts →
    AnyRule (rule_between name i first j second k facts)
between_kept name i first j second k facts h l f = if_rule (nat_lt i j) _ _
    (λ t. by_kept name i first j second k facts first.enclosure second.enclosure facts.extent facts.pitch (less i j t) h l f h.2 l.2 f.4)
    (λ t. if_rule (nat_lt j i) _ None
    (λ u. by_kept name j second i first k facts second.enclosure first.enclosure facts.extent facts.pitch (less j i u) l h f l.2 h.2 f.4) (λ u. tt))

across_kept : (name : List ℕ) (k : ℕ) (facts : Facts) (a b : PartFacts) (x y : Option LayerRef) → FactsKeep facts → FactsKeep a.facts → FactsKeep b.facts →
    AnyRule (rule_across name k facts a b x y)
across_kept name k facts a b (Some (references.Routing i)) (Some (references.Routing j)) f h l = between_kept name i a.facts j b.facts k facts h l f
across_kept name k facts a b x y f h l = tt

among_kept : (name : List ℕ) (a b c : PartFacts) (x y z : Option LayerRef) → FactsKeep a.facts → FactsKeep b.facts → FactsKeep c.facts → AnyRule (rule_among name a b c x y z)
among_kept name a b c (Some (references.Cut k)) y z p q r = across_kept name k a.facts b c b.reference c.reference p q r
among_kept name a b c x (Some (references.Cut k)) z p q r = across_kept name k b.facts a c a.reference c.reference q p r
among_kept name a b c x y (Some (references.Cut k)) p q r = across_kept name k c.facts a b a.reference b.reference r p q
among_kept name a b c x y z p q r = tt

abbrev PartsKeep : List PartFacts → Type 0
PartsKeep [] = Unit {0}
PartsKeep (part ∷ others) = FactsKeep part.facts × PartsKeep others

parts_kept : (statements : List Statement) → StatementsKeep statements → PartsKeep (parts_of statements)
parts_kept [] h = tt
parts_kept (Layer name ∷ others) h = tt
parts_kept (Rule name ∷ others) h = tt
parts_kept (Part reference ∷ others) h = (facts_kept (body_of others) (body_kept others h.1), parts_kept others h.1)
parts_kept (statement ∷ others) h = parts_kept others h.1

rule_kept : (name : List ℕ) (parts : List PartFacts) → PartsKeep parts → AnyRule (rule_of name parts)
rule_kept name (a ∷ b ∷ c ∷ []) h = among_kept name a b c a.reference b.reference c.reference h.0 h.1.0 h.1.1.0
rule_kept name parts h = tt

more_rules : (rule : Option ViaRule) (others : List ViaRule) → AnyRule rule → AllByRecursion RuleStands others → AllByRecursion RuleStands (with_rule rule others)
more_rules None others h k = k
more_rules (Some rule) others h k = (h, k)

pub statement_rules : (statements : List Statement) → StatementsKeep statements → AllByRecursion RuleStands (rules_of statements)
statement_rules [] h = tt
statement_rules (Rule name ∷ others) h =
    more_rules (rule_of name (parts_of others)) (rules_of others) (rule_kept name (parts_of others) (parts_kept others h.1)) (statement_rules others h.1)
statement_rules (statement ∷ others) h = statement_rules others h.1
