-- What every state keeps.
use Rattle.std.proofs.Common.{◌≡◌, ℕ, ◌+◌, ◌≤◌, Bool, true, false, if◌then◌else◌, List, [], ◌∷◌, ◌++◌, length, map, Contains, Option, Some, None, refl, sym, ◌∙◌, ap, subst, arith, length-append, inl}
use Rattle.lef_statements.specs.declared.passing.Passing.{Passing}
use Rattle.lef_statements.specs.Passing.{passing_after}
use Rattle.lef_tech.specs.declared.error.TechKind.{TechKind}
use Rattle.lef_tech.specs.declared.error.TechKind.TheVariants.{Twice}
use Rattle.lef_tech.specs.declared.known.Known.{Known}
use Rattle.lef_tech.specs.declared.layer.LayerRef.{LayerRef}
use Rattle.lef_tech.specs.declared.layer.LayerRef.TheVariants as references
use Rattle.lef_tech.specs.declared.section.Section.{Section}
use Rattle.lef_tech.specs.declared.section.Section.TheVariants as sections
use Rattle.lef_tech.specs.declared.shape.Shape.{Shape}
use Rattle.lef_tech.specs.declared.shape.Shape.TheVariants.{One, Two, Three, Four}
use Rattle.lef_tech.specs.declared.sort.Sort.{Sort}
use Rattle.lef_tech.specs.declared.sort.Sort.TheVariants as sorts
use Rattle.lef_tech.specs.declared.state.Place.{Place}
use Rattle.lef_tech.specs.declared.state.State.{State}
use Rattle.lef_tech.specs.declared.turn.Turn.{Turn}
use Rattle.lef_tech.specs.declared.turn.Turn.TheVariants.{Stay, Go, Open, Skip, SkipSection, SkipExtension, SkipOpen, Word, Table, Point, Values, Value, Back}
use Rattle.lef_tech.specs.Fault.{LastFault}
use Rattle.lef_tech.specs.Format.{format}
use Rattle.lef_tech.specs.Known.{name_of}
use Rattle.lef_tech.specs.Pattern.{the}
use Rattle.lef_tech.specs.Question.{question_of}
use Rattle.lef_tech.specs.Shape.{shape_in}
use Rattle.lef_tech.specs.Sort.{sort_of}
use Rattle.lef_tech.specs.State.{first_state}
use Rattle.lef_tech.specs.Turn.{turn_word, turn_head, turn_type, turn_other, turn_layer, turn_table, turn_values, turn_rule_word, part_section, turn_part, turn_rule_head, turn_passing, turn_of, passed_to, turned, typed, ruled, learnt, moved, state_by, state_after, state_from, state_of}
use Rattle.lef_tech.specs.inside.Held.{is_start, Sound, IsNewName}
use Rattle.reading.specs.Grammar.{IsTaken}
use Rattle.reading.specs.Word.{Token, last_of}

-- ## where a turn leads

-- The turn leads to no start of a layer.
abbrev Calm : Turn → Type 0
Calm (Go section) = is_start section ≡ false
Calm (Open section) = ⊥
Calm (Skip section) = is_start section ≡ false
Calm (Table section) = is_start section ≡ false
Calm (Values section) = is_start section ≡ false
Calm _ = Unit {0}

if_calm : (b : Bool) (x y : Turn) → Calm x → Calm y → Calm (if b then x else y)
if_calm true x y h k = h
if_calm false x y h k = k

other_calm : (same : Section) (s : Sort) → is_start same ≡ false → Calm (turn_other same s)
other_calm same s h = if_calm (the sorts.Semicolon s) Stay (Skip same) tt h

layer_calm : (same : Section) (by : Sort) (table : Section) (shape : Shape) → is_start same ≡ false → is_start table ≡ false → Calm (turn_layer same by table shape)
layer_calm same by table (One a) h k = h
layer_calm same by table (Two a b) h k = if_calm (the sorts.End a) (Go sections.Top) (turn_other same b) refl (other_calm same b h)
layer_calm same by table (Three a b c) h k = if_calm (the sorts.Direction a) (Go sections.Directed) (turn_other same c) refl (other_calm same c h)
layer_calm same by table (Four a b c d) h k = if_calm _ (Table table) (turn_other same d) k (other_calm same d h)
layer_calm same by table shape h k = tt

table_calm : (values : Section) (shape : Shape) → is_start values ≡ false → Calm (turn_table values shape)
table_calm values (One a) h = tt
table_calm values shape h = h

values_calm : (shape : Shape) → Calm (turn_values shape)
values_calm (One a) = if_calm (the sorts.Semicolon a) Back Value tt tt
values_calm shape = tt

word_calm : (s : Sort) → Calm (turn_rule_word s)
word_calm sorts.Generate = refl
word_calm sorts.End = tt
word_calm s = tt

part_start : (reference : Option LayerRef) → is_start (part_section reference) ≡ false
part_start None = refl
part_start (Some (references.Routing place)) = refl
part_start (Some (references.Cut place)) = refl

part_calm : (same : Section) (reference : Option LayerRef) (shape : Shape) → is_start same ≡ false → Calm (turn_part same reference shape)
part_calm same reference (One a) h = h
part_calm same reference (Two a b) h = refl
part_calm same reference (Three a b c) h = if_calm (the sorts.Layer a) (Go (part_section reference)) Stay (part_start reference) tt
part_calm same reference shape h = tt

head_calm : (reference : Option LayerRef) (shape : Shape) → Calm (turn_rule_head reference shape)
head_calm reference (One a) = if_calm (the sorts.Default a) (Go sections.Rule) (Skip sections.Rule) refl refl
head_calm reference shape = part_calm sections.Rule reference shape refl

start_calm : (shape : Shape) → Calm (turn_of sections.RuleStart None shape)
start_calm (One a) = word_calm a
start_calm shape = tt

passing_calm : (shape : Shape) → Calm (turn_passing shape)
passing_calm (One a) = tt
passing_calm shape = tt

-- Neither between sections nor at the start of a layer.
abbrev is_within : Section → Bool
is_within sections.Top = false
is_within sections.LayerStart = false
is_within _ = true

never : false ≡ true → ⊥
never h = cc

within_calm : (section : Section) (reference : Option LayerRef) (shape : Shape) → is_within section ≡ true → Calm (turn_of section reference shape)
within_calm sections.Top reference shape h = absurd (never h)
within_calm sections.LayerStart reference shape h = absurd (never h)
within_calm sections.Passing reference shape h = passing_calm shape
within_calm sections.Undirected reference shape h = layer_calm sections.Undirected sorts.Width sections.WireTable shape refl refl
within_calm sections.Directed reference shape h = layer_calm sections.Directed sorts.Width sections.WireTable shape refl refl
within_calm sections.Cut reference shape h = layer_calm sections.Cut sorts.CutArea sections.CutTable shape refl refl
within_calm sections.WireTable reference shape h = table_calm sections.WireValues shape refl
within_calm sections.WireValues reference shape h = values_calm shape
within_calm sections.CutTable reference shape h = table_calm sections.CutValues shape refl
within_calm sections.CutValues reference shape h = values_calm shape
within_calm sections.RuleStart reference shape h = start_calm shape
within_calm sections.RuleHead reference shape h = head_calm reference shape
within_calm sections.Rule reference shape h = part_calm sections.Rule reference shape refl
within_calm sections.WirePart reference shape h = part_calm sections.WirePart reference shape refl
within_calm sections.CutPart reference shape h = part_calm sections.CutPart reference shape refl
within_calm sections.Units reference shape h = part_calm sections.Units reference shape refl
within_calm sections.Ended reference shape h = refl

within_other : (section : Section) → is_within section ≡ true → is_start section ≡ false
within_other sections.LayerStart h = absurd (never h)
within_other section h = refl

-- ## the place after a turn

passed_back : (place : Place) (o : Option Passing) → (passed_to place o).back ≡ place.back
passed_back place None = refl
passed_back place (Some passing) = refl

passed_section : (place : Place) (o : Option Passing) → is_start place.section ≡ false → is_start place.back ≡ false → is_start (passed_to place o).section ≡ false
passed_section place None h k = k
passed_section place (Some passing) h k = h

passed_left : (place : Place) (o : Option Passing) → (passed_to place o).left ≡ place.left
passed_left place None = refl
passed_left place (Some passing) = refl

calm_back : (place : Place) (last : Token) (turn : Turn) → Calm turn → is_start place.section ≡ false → is_start place.back ≡ false → is_start (turned place last turn).back ≡ false
calm_back place last Stay c h k = k
calm_back place last (Go section) c h k = k
calm_back place last (Open section) c h k = absurd c
calm_back place last (Skip section) c h k = c
calm_back place last SkipSection c h k = refl
calm_back place last SkipExtension c h k = refl
calm_back place last (SkipOpen ended) c h k = refl
calm_back place last Word c h k = ap is_start (passed_back place (passing_after place.passing last)) ∙ k
calm_back place last (Table section) c h k = h
calm_back place last Point c h k = k
calm_back place last (Values section) c h k = k
calm_back place last Value c h k = k
calm_back place last Back c h k = k

calm_section : (place : Place) (last : Token) (turn : Turn) → Calm turn → is_start place.section ≡ false → is_start place.back ≡ false → is_start (turned place last turn).section ≡ false
calm_section place last Stay c h k = h
calm_section place last (Go section) c h k = c
calm_section place last (Open section) c h k = absurd c
calm_section place last (Skip section) c h k = refl
calm_section place last SkipSection c h k = refl
calm_section place last SkipExtension c h k = refl
calm_section place last (SkipOpen ended) c h k = refl
calm_section place last Word c h k = passed_section place (passing_after place.passing last) h k
calm_section place last (Table section) c h k = c
calm_section place last Point c h k = h
calm_section place last (Values section) c h k = c
calm_section place last Value c h k = h
calm_section place last Back c h k = k

turned_left : (place : Place) (last : Token) (turn : Turn) → (turned place last turn).left ≤ place.left + 1
turned_left place last Stay = omega arith
turned_left place last (Go section) = omega arith
turned_left place last (Open section) = omega arith
turned_left place last (Skip section) = omega arith
turned_left place last SkipSection = omega arith
turned_left place last SkipExtension = omega arith
turned_left place last (SkipOpen ended) = omega arith
turned_left place last Word = omega (arith, passed_left place (passing_after place.passing last))
turned_left place last (Table section) = omega arith
turned_left place last Point = omega arith
turned_left place last (Values section) = omega arith
turned_left place last Value = omega arith
turned_left place last Back = omega arith

-- ## one more unit

word_back : (place : Place) (last : Token) (s : Sort) → is_start place.back ≡ false → is_start (turned place last (turn_word s)).back ≡ false
word_back place last sorts.Units h = h
word_back place last sorts.Definitions h = refl
word_back place last sorts.Spacing h = refl
word_back place last sorts.Extension h = refl
word_back place last sorts.TextEnd h = h
word_back place last s h = refl

head_back : (place : Place) (last : Token) (s : Sort) → is_start place.back ≡ false → is_start (turned place last (turn_head s)).back ≡ false
head_back place last sorts.Layer h = h
head_back place last sorts.ViaRule h = h
head_back place last sorts.End h = h
head_back place last s h = refl

type_back : (place : Place) (last : Token) (s : Sort) → is_start place.back ≡ false → is_start (turned place last (turn_type s)).back ≡ false
type_back place last sorts.Routing h = h
type_back place last s h = h

back_in : (section : Section) (place : Place) (last : Token) (reference : Option LayerRef) (shape : Shape) → place.section ≡ section → is_start place.back ≡ false →
    is_start (turned place last (turn_of section reference shape)).back ≡ false
back_in sections.Top place last reference (One a) e h = word_back place last a h
back_in sections.Top place last reference (Two a b) e h = head_back place last a h
back_in sections.Top place last reference shape e h = h
back_in sections.LayerStart place last reference (Two a b) e h = refl
back_in sections.LayerStart place last reference (Three a b c) e h = type_back place last b h
back_in sections.LayerStart place last reference shape e h = h
back_in section place last reference shape e h =
    calm_back place last (turn_of section reference shape) (within_calm section reference shape refl) (ap is_start e) h

-- The name of a layer whose type comes next.
abbrev IsFresh : List Known → Place → Type 0
IsFresh layers place = is_start place.section ≡ true → Contains (map name_of layers) place.name → ⊥

word_fresh : (layers : List Known) (place : Place) (last : Token) (s : Sort) → is_start place.section ≡ false → IsFresh layers (turned place last (turn_word s))
word_fresh layers place last sorts.Units h = λ k. absurd (never k)
word_fresh layers place last sorts.Definitions h = λ k. absurd (never k)
word_fresh layers place last sorts.Spacing h = λ k. absurd (never k)
word_fresh layers place last sorts.Extension h = λ k. absurd (never k)
word_fresh layers place last sorts.TextEnd h = λ k. absurd (never (sym h ∙ k))
word_fresh layers place last s h = λ k. absurd (never k)

head_fresh : (state : State) (place : Place) (last : Token) (s t : Sort) → IsNewName state (Two s t) sections.Top last → IsFresh (ruled state s last.text).layers (turned place last (turn_head s))
head_fresh state place last sorts.Layer t n = λ k. n
head_fresh state place last sorts.ViaRule t n = λ k. absurd (never k)
head_fresh state place last sorts.End t n = λ k. absurd (never k)
head_fresh state place last s t n = λ k. absurd (never k)

type_fresh : (layers : List Known) (place : Place) (last : Token) (s : Sort) → IsFresh layers (turned place last (turn_type s))
type_fresh layers place last sorts.Routing = λ k. absurd (never k)
type_fresh layers place last s = λ k. absurd (never k)

fresh_in : (section : Section) (state : State) (last : Token) (reference : Option LayerRef) (shape : Shape) → state.place.section ≡ section → Sound state → IsNewName state shape section last →
    IsFresh (learnt section state shape last).layers (turned state.place last (turn_of section reference shape))
fresh_in sections.Top state last reference (One a) e h n = word_fresh state.layers state.place last a (ap is_start e)
fresh_in sections.Top state last reference (Two a b) e h n = head_fresh state state.place last a b n
fresh_in sections.Top state last reference shape e h n = λ k. absurd (never (sym (ap is_start e) ∙ k))
fresh_in sections.LayerStart state last reference (Two a b) e h n = λ k. absurd (never k)
fresh_in sections.LayerStart state last reference (Three a b c) e h n = type_fresh (typed state b).layers state.place last b
fresh_in sections.LayerStart state last reference shape e h n = h.fresh
fresh_in section state last reference shape e h n =
    λ k. absurd (never (sym (calm_section state.place last (turn_of section reference shape) (within_calm section reference shape refl) (ap is_start e) h.back) ∙ k))

ruled_count : (state : State) (s : Sort) (name : List ℕ) → state.routing + state.cuts ≤ length state.layers → (ruled state s name).routing + (ruled state s name).cuts ≤ length (ruled state s name).layers
ruled_count state sorts.ViaRule name h = h
ruled_count state s name h = h

one_layer : (layers : List Known) (known : Known) → length (layers ++ known ∷ []) ≡ length layers + 1
one_layer layers known = length-append layers (known ∷ [])

typed_count : (state : State) (s : Sort) → state.routing + state.cuts ≤ length state.layers → (typed state s).routing + (typed state s).cuts ≤ length (typed state s).layers
typed_count state sorts.Routing h = omega (arith, one_layer state.layers (record { name = state.place.name; reference = Some (references.Routing state.routing) }))
typed_count state s h = omega (arith, one_layer state.layers (record { name = state.place.name; reference = Some (references.Cut state.cuts) }))

count_in : (section : Section) (state : State) (shape : Shape) (last : Token) → state.routing + state.cuts ≤ length state.layers →
    (learnt section state shape last).routing + (learnt section state shape last).cuts ≤ length (learnt section state shape last).layers
count_in sections.Top state (Two a b) last h = ruled_count state a last.text h
count_in sections.Top state shape last h = h
count_in sections.LayerStart state (Two a b) last h = omega (arith, one_layer state.layers (record { name = state.place.name; reference = None }))
count_in sections.LayerStart state (Three a b c) last h = typed_count state b h
count_in sections.LayerStart state shape last h = h
count_in section state shape last h = h

pub sound_after : (state : State) (shape : Shape) (reference : Option LayerRef) (last : Token) → Sound state → IsNewName state shape state.place.section last → Sound (moved state shape reference last)
sound_after state shape reference last h n = record {
  back = back_in state.place.section state.place last reference shape refl h.back;
  fresh = fresh_in state.place.section state last reference shape refl h n;
  count = count_in state.place.section state shape last h.count;
}

pub sound_first : Sound first_state
sound_first = record { back = refl; fresh = λ k. absurd (never k); count = omega arith }

-- ## names

name_new : (state : State) (s t : Sort) (section : Section) (b : Token) → ((kind : TechKind) → LastFault state b (question_of section (Two s t)) kind → ⊥) → IsNewName state (Two s t) section b
name_new state sorts.Layer t sections.Top b fine = λ there. fine Twice (refl, there)
name_new state sorts.ViaRule t sections.Top b fine = λ there. fine Twice (refl, there)
name_new state s t section b fine = tt

-- A whole unit that has shown no fault names a new layer or rule, if it names one.
pub names_new : (units : List (List Token)) (unit : List Token) (last : Token) → last_of unit ≡ Some last → IsTaken format units unit →
    IsNewName (state_of units) (shape_in unit) (state_of units).place.section last
names_new units [] last e taken = tt
names_new units (a ∷ []) last e taken = tt
names_new units (a ∷ b ∷ []) last e taken =
    let same : b ≡ last = cc in
    subst (λ z. IsNewName (state_of units) (Two (sort_of a) (sort_of b)) (state_of units).place.section z) same
    (name_new (state_of units) (sort_of a) (sort_of b) (state_of units).place.section b (λ kind fault. taken.fine.1.0 (record { at = 1; kind = kind }) (inl (refl, fault))))
names_new units (a ∷ b ∷ c ∷ []) last e taken = tt
names_new units (a ∷ b ∷ c ∷ d ∷ []) last e taken = tt
names_new units (a ∷ b ∷ c ∷ d ∷ f ∷ []) last e taken = tt
names_new units (a ∷ b ∷ c ∷ d ∷ f ∷ g ∷ []) last e taken = tt
names_new units (a ∷ b ∷ c ∷ d ∷ f ∷ g ∷ h ∷ unit) last e taken = tt

-- ## points without entries

by_left : (state : State) (unit : List Token) (last : Option Token) → (state_by state unit last).place.left ≤ state.place.left + 1
by_left state unit None = omega arith
by_left state unit (Some last) = turned_left state.place last _

from_left : (state : State) (units : List (List Token)) → (state_from state units).place.left ≤ state.place.left + length units
from_left state [] = omega arith
from_left state (unit ∷ units) = omega (arith, from_left (state_after state unit) units, by_left state unit (last_of unit))

-- A table has at most as many points without entries as there are units.
pub few_left : (units : List (List Token)) → (state_of units).place.left ≤ length units
few_left units = let h : (state_of units).place.left ≤ 0 + length units = from_left first_state units in omega arith
