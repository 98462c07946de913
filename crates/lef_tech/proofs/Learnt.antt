-- What is learnt of a unit leaves the place.
use Rattle.std.proofs.Common.{◌≡◌, ℕ, ◌+◌, ◌≤◌, List, [], ◌∷◌, ◌++◌, length, map, Contains, None, Result, Ok, Err, OnOk, refl, sym, ◌∙◌, ap, subst}
use Rattle.std.specs.declared.alloc.AllocError.{AllocError}
use Rattle.lef_tech.specs.declared.known.Known.{Known}
use Rattle.lef_tech.specs.declared.section.Section.{Section}
use Rattle.lef_tech.specs.declared.section.Section.TheVariants as sections
use Rattle.lef_tech.specs.declared.sort.Sort.{Sort}
use Rattle.lef_tech.specs.declared.sort.Sort.TheVariants as sorts
use Rattle.lef_tech.specs.declared.state.State.{State}
use Rattle.lef_tech.specs.declared.shape.Shape.{Shape}
use Rattle.lef_tech.specs.declared.shape.Shape.TheVariants.{Two, Three}
use Rattle.lef_tech.specs.Known.{name_of}
use Rattle.lef_tech.specs.inside.Held.{is_start, IsNewName, IsNewRule, IsReady}
use Rattle.lef_tech.specs.Turn.{typed, learnt_start, ruled, learnt_top, learnt}
use Rattle.reading.specs.Word.{Token}

typed_place : (state : State) (sort : Sort) → (typed state sort).place ≡ state.place
typed_place state sorts.Routing = refl
typed_place state sort = refl

ruled_place : (state : State) (sort : Sort) (name : List ℕ) → (ruled state sort name).place ≡ state.place
ruled_place state sorts.ViaRule name = refl
ruled_place state sort name = refl

start_place : (state : State) (shape : Shape) → (learnt_start state shape).place ≡ state.place
start_place state (Two word type) = refl
start_place state (Three word type stop) = typed_place state type
start_place state shape = refl

top_place : (state : State) (shape : Shape) (last : Token) → (learnt_top state shape last).place ≡ state.place
top_place state (Two word name) last = ruled_place state word last.text
top_place state shape last = refl

pub learnt_place : (section : Section) (state : State) (shape : Shape) (last : Token) → (learnt section state shape last).place ≡ state.place
learnt_place sections.Top state shape last = top_place state shape last
learnt_place sections.LayerStart state shape last = start_place state shape
learnt_place section state shape last = refl

-- ## what is learnt of a unit

new_rule : (state : State) (s t : Sort) (last : Token) → IsNewName state (Two s t) sections.Top last → IsNewRule s state.rules last.text
new_rule state sorts.ViaRule t last h = h
new_rule state s t last h = tt

learnt_at : (old : State) (section : Section) (shape was : Shape) (last : Token) → old.place.section ≡ section → shape ≡ was → learnt section old was last ≡ learnt old.place.section old shape last
learnt_at old section shape was last e f = sym (ap (λ z. learnt z old shape last) e ∙ ap (λ z. learnt section old z last) f)

pub learnt_rule : (r : Result (Unit {0}) AllocError) (old new : State) (shape : Shape) (s t : Sort) (last : Token) → old.place.section ≡ sections.Top → shape ≡ Two s t →
    OnOk r (IsNewRule s old.rules last.text → new ≡ ruled old s last.text) → OnOk r (IsReady old shape last → new ≡ learnt old.place.section old shape last)
learnt_rule (Err e) old new shape s t last top is h = tt
learnt_rule (Ok x) old new shape s t last top is h = λ ready.
    h (new_rule old s t last (subst (λ z. IsNewName old z sections.Top last) is (subst (λ z. IsNewName old shape z last) top ready.name)))
    ∙ learnt_at old sections.Top shape (Two s t) last top is

abbrev with_known : State → List Known → State
with_known state layers = record state { layers = layers }

pub learnt_name : (r : Result (Unit {0}) AllocError) (old : State) (layers : List Known) (shape : Shape) (s t : Sort) (name : List ℕ) (last : Token) → old.place.section ≡ sections.LayerStart → shape ≡ Two s t →
    name ≡ old.place.name → OnOk r ((Contains (map name_of old.layers) name → ⊥) → layers ≡ old.layers ++ record { name = name; reference = None } ∷ []) →
    OnOk r (IsReady old shape last → with_known old layers ≡ learnt old.place.section old shape last)
learnt_name (Err e) old layers shape s t name last start is named h = tt
learnt_name (Ok x) old layers shape s t name last start is named h = λ ready.
    let known = subst (λ z. (Contains (map name_of old.layers) z → ⊥) → layers ≡ old.layers ++ record { name = z; reference = None } ∷ []) named h in
    ap (λ z. with_known old z) (known (ready.sound.fresh (ap is_start start))) ∙ learnt_at old sections.LayerStart shape (Two s t) last start is

pub learnt_type : (r : Result (Unit {0}) AllocError) (old new : State) (shape : Shape) (s t u : Sort) (last : Token) → old.place.section ≡ sections.LayerStart → shape ≡ Three s t u →
    OnOk r ((Contains (map name_of old.layers) old.place.name → ⊥) → old.routing + old.cuts ≤ length old.layers → new ≡ typed old t) →
    OnOk r (IsReady old shape last → new ≡ learnt old.place.section old shape last)
learnt_type (Err e) old new shape s t u last start is h = tt
learnt_type (Ok x) old new shape s t u last start is h = λ ready.
    h (ready.sound.fresh (ap is_start start)) ready.sound.count ∙ learnt_at old sections.LayerStart shape (Three s t u) last start is
