-- What a technology says: its layers and rules, by their statements.
use Rattle.std.specs.Prelude.{◌≡◌, ℕ, ◌+◌, ◌&&◌, Bool, true, false, nat_lt, nat_le, List, [], ◌∷◌, ◌++◌, Option, Some, None, if◌then◌else◌}
use Rattle.std.specs.List.{zip}
use Rattle.geom_rect.specs.declared.direction.Axis.{Axis}
use Rattle.lef_tech.specs.declared.facts.Facts.{Facts}
use Rattle.lef_tech.specs.declared.facts.LayerKind.{LayerKind}
use Rattle.lef_tech.specs.declared.facts.LayerKind.TheVariants.{OfWires, OfCuts}
use Rattle.lef_tech.specs.declared.facts.PartFacts.{PartFacts}
use Rattle.lef_tech.specs.declared.layer.CutLayer.{CutLayer}
use Rattle.lef_tech.specs.declared.layer.Density.{Density as DensityRecord}
use Rattle.lef_tech.specs.declared.layer.Density.TheVariants as densities
use Rattle.lef_tech.specs.declared.layer.LayerRef.{LayerRef}
use Rattle.lef_tech.specs.declared.layer.LayerRef.TheVariants as references
use Rattle.lef_tech.specs.declared.layer.RoutingLayer.{RoutingLayer}
use Rattle.lef_tech.specs.declared.rule.ViaRule.{ViaRule}
use Rattle.lef_tech.specs.declared.stack.AnyLayer.{AnyLayer}
use Rattle.lef_tech.specs.declared.stack.AnyLayer.TheVariants as layers
use Rattle.lef_tech.specs.declared.state.State.{State}
use Rattle.lef_tech.specs.declared.statement.Statement.{Statement}
use Rattle.lef_tech.specs.declared.statement.Statement.TheVariants.{Layer, Rule, Part, Wires, Cuts, Along, Spacing, Resistance, Density, Table, Point, Value, Enclosure, Widths, Extent, Pitch}
use Rattle.lef_tech.specs.declared.tech.Tech.{Tech}
use Rattle.lef_tech.specs.Shape.{shape_in}
use Rattle.lef_tech.specs.State.{first_state}
use Rattle.lef_tech.specs.Statement.{saying, Says}
use Rattle.lef_tech.specs.Turn.{named, state_after}
use Rattle.reading.specs.Word.{Token}

-- ## the statements of a text

-- What each of the units says, in their order, where this is known before them.
abbrev pub Told : State → List (List Token) → List (Option Statement) → Type 0
Told state [] [] = Unit {0}
Told state (unit ∷ units) (told ∷ others) =
    Says unit (saying state.place.section (named state unit) (shape_in unit)) told
    × Told (state_after state unit) units others
Told state _ _ = ⊥

-- The statement that a unit says, if it says one.
abbrev pub stated_one : Option Statement → List Statement
stated_one None = []
stated_one (Some statement) = statement ∷ []

-- The statements that the units say.
abbrev pub stated : List (Option Statement) → List Statement
stated [] = []
stated (told ∷ others) = stated_one told ++ stated others

-- ## what the statements of a layer or of a rule's layer say

-- Nothing is said.
abbrev pub no_facts : Facts
no_facts = record {
  kind = None;
  direction = None;
  spacing = None;
  resistance = None;
  enclosure = None;
  widths = None;
  extent = None;
  pitch = None;
}

-- One more statement before others. It counts, also where a later one says the same again.
abbrev pub with_fact : Statement → Facts → Facts
with_fact Wires facts = record facts { kind = Some OfWires }
with_fact Cuts facts = record facts { kind = Some OfCuts }
with_fact (Along axis) facts = record facts { direction = Some axis }
with_fact (Spacing length) facts = record facts { spacing = Some length }
with_fact (Resistance value) facts = record facts { resistance = Some value }
with_fact (Enclosure a b) facts = record facts { enclosure = Some (a, b) }
with_fact (Widths a b) facts = record facts { widths = Some (a, b) }
with_fact (Extent a b) facts = record facts { extent = Some (a, b) }
with_fact (Pitch a b) facts = record facts { pitch = Some (a, b) }
with_fact _ facts = facts

-- What the statements say; of two that say the same the first counts.
abbrev pub facts_of : List Statement → Facts
facts_of [] = no_facts
facts_of (statement ∷ others) = with_fact statement (facts_of others)

-- The statement begins a layer, a rule, or the part of a rule for one of its layers.
abbrev pub is_head : Statement → Bool
is_head (Layer name) = true
is_head (Rule name) = true
is_head (Part reference) = true
is_head _ = false

-- The statements up to the next head.
abbrev pub body_of : List Statement → List Statement
body_of [] = []
body_of (statement ∷ others) = if is_head statement then [] else (statement ∷ body_of others)

-- ## densities

-- The points of a table after its first one.
abbrev pub points_of : List Statement → List ℕ
points_of (Point point ∷ others) = point ∷ points_of others
points_of _ = []

-- The entries of a table, after its points.
abbrev pub values_of : List Statement → List ℕ
values_of (Point point ∷ others) = values_of others
values_of (Value value ∷ others) = value ∷ values_of others
values_of _ = []

-- The first density that is stated: one for all, or the points of a table with their entries.
abbrev pub density_of : List Statement → DensityRecord
density_of [] = densities.Unlimited
density_of (Density value ∷ others) = densities.One value
density_of (Table point ∷ others) = densities.Table (zip (point ∷ points_of others) (values_of others))
density_of (_ ∷ others) = density_of others

-- ## layers

-- What is not stated is 0.
abbrev pub or_zero : Option ℕ → ℕ
or_zero None = 0
or_zero (Some value) = value

-- A layer of this type and direction. A layer of another type is none.
abbrev pub layer_by : List ℕ → Option LayerKind → Option Axis → Facts → DensityRecord → Option AnyLayer
layer_by name (Some OfWires) (Some axis) facts density = Some (layers.Wire (record {
  name = name;
  direction = axis;
  spacing = or_zero facts.spacing;
  sheet = facts.resistance;
  density = density;
}))
layer_by name (Some OfCuts) direction facts density = Some (layers.Hole (record {
  name = name;
  per_cut = facts.resistance;
  density = density;
}))
layer_by name _ direction facts density = None

-- The layer with this name and these statements.
abbrev pub layer_of : List ℕ → List Statement → Option AnyLayer
layer_of name body = layer_by name (facts_of body).kind (facts_of body).direction (facts_of body) (density_of body)

-- A layer before others, if it is one.
abbrev pub with_layer : Option AnyLayer → List AnyLayer → List AnyLayer
with_layer None others = others
with_layer (Some layer) others = layer ∷ others

-- The routing and cut layers of the statements.
abbrev pub layers_of : List Statement → List AnyLayer
layers_of [] = []
layers_of (Layer name ∷ others) = with_layer (layer_of name (body_of others)) (layers_of others)
layers_of (_ ∷ others) = layers_of others

-- The routing layers among them.
abbrev pub wires_of : List AnyLayer → List RoutingLayer
wires_of [] = []
wires_of (layers.Wire layer ∷ others) = layer ∷ wires_of others
wires_of (layers.Hole layer ∷ others) = wires_of others

-- The cut layers among them.
abbrev pub cuts_of : List AnyLayer → List CutLayer
cuts_of [] = []
cuts_of (layers.Wire layer ∷ others) = cuts_of others
cuts_of (layers.Hole layer ∷ others) = layer ∷ cuts_of others

-- Each layer by its type and its place among those of its type, after so many routing and so many cut layers.
abbrev pub order_from : ℕ → ℕ → List AnyLayer → List LayerRef
order_from wires cuts [] = []
order_from wires cuts (layers.Wire layer ∷ others) = references.Routing wires ∷ order_from (wires + 1) cuts others
order_from wires cuts (layers.Hole layer ∷ others) = references.Cut cuts ∷ order_from wires (cuts + 1) others

-- ## rules

-- The parts of a rule for its layers, up to the next layer or rule.
abbrev pub parts_of : List Statement → List PartFacts
parts_of [] = []
parts_of (Layer name ∷ others) = []
parts_of (Rule name ∷ others) = []
parts_of (Part reference ∷ others) =
    record { reference = reference; facts = facts_of (body_of others) } ∷ parts_of others
parts_of (_ ∷ others) = parts_of others

-- A cut of this extent has an area, and is at most its pitch in x and in y.
abbrev pub fits : ℕ × ℕ → ℕ × ℕ → Bool
fits extent pitch =
    nat_lt 0 extent.0 && nat_lt 0 extent.1 && nat_le extent.0 pitch.0 && nat_le extent.1 pitch.1

-- A rule that states both enclosures, the extent of a cut and the pitch.
abbrev pub rule_by : List ℕ → ℕ → Facts → ℕ → Facts → ℕ → Facts →
    Option (ℕ × ℕ) → Option (ℕ × ℕ) → Option (ℕ × ℕ) → Option (ℕ × ℕ) → Option ViaRule
rule_by name lower low upper high cut facts (Some a) (Some b) (Some extent) (Some pitch) =
    if fits extent pitch then Some (record {
      name = name;
      lower = lower;
      upper = upper;
      cut = cut;
      lower_enclosure = a;
      upper_enclosure = b;
      lower_widths = low.widths;
      upper_widths = high.widths;
      cut_x = extent.0;
      cut_y = extent.1;
      pitch_x = pitch.0;
      pitch_y = pitch.1;
      per_cut = facts.resistance;
    }) else None
rule_by name lower low upper high cut facts _ _ _ _ = None

-- The rule of a lower and an upper routing layer and a cut layer with these facts; it is passed over where it lacks one.
abbrev pub rule_with : List ℕ → ℕ → Facts → ℕ → Facts → ℕ → Facts → Option ViaRule
rule_with name lower low upper high cut facts =
    rule_by name lower low upper high cut facts low.enclosure high.enclosure facts.extent facts.pitch

-- The rule of two routing layers, of which the lower one stands earlier.
abbrev pub rule_between : List ℕ → ℕ → Facts → ℕ → Facts → ℕ → Facts → Option ViaRule
rule_between name i first j second cut facts =
    if nat_lt i j then rule_with name i first j second cut facts
    else (if nat_lt j i then rule_with name j second i first cut facts else None)

-- The rule of a cut layer and two other layers, which have to be routing layers.
abbrev pub rule_across : List ℕ → ℕ → Facts → PartFacts → PartFacts → Option LayerRef → Option LayerRef → Option ViaRule
rule_across name cut facts a b (Some (references.Routing i)) (Some (references.Routing j)) =
    rule_between name i a.facts j b.facts cut facts
rule_across name cut facts a b _ _ = None

-- The rule of three layers, of which one is the cut layer.
abbrev pub rule_among : List ℕ → PartFacts → PartFacts → PartFacts →
    Option LayerRef → Option LayerRef → Option LayerRef → Option ViaRule
rule_among name a b c (Some (references.Cut k)) _ _ = rule_across name k a.facts b c b.reference c.reference
rule_among name a b c _ (Some (references.Cut k)) _ = rule_across name k b.facts a c a.reference c.reference
rule_among name a b c _ _ (Some (references.Cut k)) = rule_across name k c.facts a b a.reference b.reference
rule_among name a b c _ _ _ = None

-- The rule with this name and these parts. One that has not three is passed over.
abbrev pub rule_of : List ℕ → List PartFacts → Option ViaRule
rule_of name (a ∷ b ∷ c ∷ []) = rule_among name a b c a.reference b.reference c.reference
rule_of name _ = None

-- A rule before others, if it is not passed over.
abbrev pub with_rule : Option ViaRule → List ViaRule → List ViaRule
with_rule None others = others
with_rule (Some rule) others = rule ∷ others

-- The rules of the statements.
abbrev pub rules_of : List Statement → List ViaRule
rules_of [] = []
rules_of (Rule name ∷ others) = with_rule (rule_of name (parts_of others)) (rules_of others)
rules_of (_ ∷ others) = rules_of others

-- ## the technology

-- The technology of the statements.
abbrev pub tech_of : List Statement → Tech
tech_of statements = record {
  order = order_from 0 0 (layers_of statements);
  routing = wires_of (layers_of statements);
  cuts = cuts_of (layers_of statements);
  rules = rules_of statements;
}

-- The technology of these whole units: that of the statements that they say.
abbrev pub IsTech : List (List Token) → Tech → Type 0
IsTech units tech = (told : List (Option Statement)) × Told first_state units told × (tech ≡ tech_of (stated told))
