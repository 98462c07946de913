-- One more unit is taken.
use Rattle.std.proofs.Common.{◌≡◌, ◌≤◌, ◌<◌, ◌-◌, ◌^◌, List, [], ◌∷◌, ◌++◌, length, map, Option, Some, None, Result, Ok, Err, OnOk, refl, sym, ◌∙◌, ap, subst, arith}
use Rattle.std.proofs.lemmas.List.{append-nil}
use Rattle.std.specs.declared.alloc.AllocError.{AllocError}
use Rattle.lef_tech.specs.declared.held.Held.{Held}
use Rattle.lef_tech.specs.declared.layer.LayerRef.{LayerRef}
use Rattle.lef_tech.specs.declared.section.Section.{Section}
use Rattle.lef_tech.specs.declared.section.Section.TheVariants as sections
use Rattle.lef_tech.specs.declared.shape.Shape.{Shape}
use Rattle.lef_tech.specs.declared.shape.Shape.TheVariants.{Other}
use Rattle.lef_tech.specs.declared.state.Place.{Place}
use Rattle.lef_tech.specs.declared.state.State.{State}
use Rattle.lef_tech.specs.declared.statement.Statement.{Statement}
use Rattle.lef_tech.specs.declared.turn.Turn.{Turn}
use Rattle.lef_tech.specs.declared.value.Value.{Value}
use Rattle.lef_tech.specs.Format.{format}
use Rattle.lef_tech.specs.Record.{stated_one, stated}
use Rattle.lef_tech.specs.Shape.{shape_of, shape_in}
use Rattle.lef_tech.specs.State.{first_state}
use Rattle.lef_tech.specs.Statement.{saying, Says}
use Rattle.lef_tech.specs.Turn.{turn_of, turned, named_by, named, learnt, moved, state_by, state_of}
use Rattle.lef_tech.specs.inside.Held.{Sound, IsNewName, IsReady, Holds}
use Rattle.lef_tech.specs.inside.Value.{says, told_by, value_sort}
use Rattle.lef_tech.proofs.Hearing.{sorts_heard}
use Rattle.lef_tech.proofs.Learnt.{learnt_place}
use Rattle.lef_tech.proofs.Said.{Signed, unit_said}
use Rattle.lef_tech.proofs.Sound.{sound_after, names_new, few_left}
use Rattle.lef_tech.proofs.Taking.{state_more, told_more, stated_more}
use Rattle.reading.specs.declared.word.Heard.{Heard}
use Rattle.reading.specs.Grammar.{AreHeard, IsTaken}
use Rattle.reading.specs.Word.{Token, heard_token, last_of}

abbrev with_place : State → Place → State
with_place state place = record state { place = place }

-- What is learnt and the turn are what is known after the unit.
pub moves_on : (old mid : State) (place : Place) (next : Turn) (shape : Shape) (reference : Option LayerRef) (last : Token) →
    next ≡ turn_of old.place.section reference shape → (IsReady old shape last → mid ≡ learnt old.place.section old shape last) →
    (mid.place.left < 2 ^ 64 - 1 → place ≡ turned mid.place last next) → IsReady old shape last → with_place mid place ≡ moved old shape reference last
moves_on old mid place next shape reference last turns learns goes ready =
    let known = learns ready in
    let same : mid.place ≡ old.place = ap (λ (z : State). z.place) known ∙ learnt_place old.place.section old shape last in
    let left = subst (λ (z : Place). z.left < 2 ^ 64 - 1) (sym same) ready.left in
    ap (λ z. with_place mid z) (goes left ∙ ap (λ z. turned z last next) same ∙ ap (λ z. turned old.place last z) turns)
    ∙ ap (λ z. with_place z (turned old.place last (turn_of old.place.section reference shape))) known

pub taken : Signed → (r : Result (Unit {0}) AllocError) (old new : Held) (mid : State) (xs : List (Heard Value)) (last : Token) (shape : Shape) (reference : Option LayerRef) (told : Option Statement) →
    last_of (map heard_token xs) ≡ Some last → shape ≡ shape_of (map value_sort xs) → mid ≡ old.state → reference ≡ named_by old.state shape (map heard_token xs) →
    told ≡ told_by xs (saying old.state.place.section reference shape) → new.statements.items ≡ old.statements.items ++ stated_one told →
    OnOk r (IsReady mid shape last → new.state ≡ moved mid shape reference last) →
    OnOk r ((units : List (List Token)) → length units ≤ 2 ^ 63 → Holds units old → IsTaken format units (map heard_token xs) → AreHeard (says units) [] xs → Holds (units ++ map heard_token xs ∷ []) new)
taken signed (Err x) old new mid xs last shape reference told l s m is says_it adds moves = tt
taken signed (Ok x) old new mid xs last shape reference told l s m is says_it adds moves = λ units few h t heard.
    let unit = map heard_token xs in
    let state = state_of units in
    let section = state.place.section in
    let begun : mid ≡ state = m ∙ h.state in
    let sorts : shape ≡ shape_in unit = s ∙ sorts_heard section xs heard in
    let named_is : reference ≡ named state unit = is ∙ ap (λ z. named_by z shape unit) h.state ∙ ap (λ z. named_by state z unit) sorts in
    let new_name : IsNewName state (shape_in unit) section last = names_new units unit last l t in
    let left : state.place.left ≤ length units = few_left units in
    let ready : IsReady state (shape_in unit) last = record { sound = h.sound; name = new_name; left = omega (arith, left, few) } in
    let here : IsReady mid shape last = subst (λ z. IsReady z shape last) (sym begun) (subst (λ z. IsReady state z last) (sym sorts) ready) in
    let moved_is : new.state ≡ moved state (shape_in unit) (named state unit) last =
    moves here ∙ ap (λ z. moved z shape reference last) begun ∙ ap (λ z. moved state z reference last) sorts ∙ ap (λ z. moved state (shape_in unit) z last) named_is in
    let after : moved state (shape_in unit) (named state unit) last ≡ state_of (units ++ unit ∷ []) =
    sym (ap (λ z. state_by state unit z) l) ∙ sym (state_more first_state units unit) in
    let said : told ≡ told_by xs (saying section (named state unit) (shape_in unit)) =
    says_it ∙ ap (λ (z : State). told_by xs (saying z.place.section reference shape)) h.state ∙ ap (λ z. told_by xs (saying section z shape)) named_is
    ∙ ap (λ z. told_by xs (saying section (named state unit) z)) sorts in
    record {
      state = moved_is ∙ after;
      sound = subst Sound after (sound_after state (shape_in unit) (named state unit) last h.sound new_name);
      told = h.told ++ told ∷ [];
      tells = told_more first_state units unit h.told told h.tells
          (subst (λ z. Says unit (saying section (named state unit) (shape_in unit)) z) (sym said) (unit_said signed section (named state unit) xs heard));
      statements = adds ∙ ap (λ z. z ++ stated_one told) h.statements ∙ sym (stated_more h.told told);
    }

no_statement : (section : Section) (reference : Option LayerRef) → Says [] (saying section reference Other) None
no_statement sections.Top reference = refl
no_statement section reference = refl

-- A unit without words leaves what is held.
pub none_taken : (old : Held) (xs : List (Heard Value)) → map heard_token xs ≡ [] →
    (units : List (List Token)) → Holds units old → Holds (units ++ map heard_token xs ∷ []) old
none_taken old xs none units h = subst (λ z. Holds (units ++ z ∷ []) old) (sym none) (record {
  state = h.state ∙ sym (state_more first_state units []);
  sound = subst Sound (sym (state_more first_state units [])) h.sound;
  told = h.told ++ None ∷ [];
  tells = told_more first_state units [] h.told None h.tells (no_statement (state_of units).place.section (named (state_of units) []));
  statements = h.statements ∙ sym (append-nil (stated h.told)) ∙ sym (stated_more h.told None);
})
