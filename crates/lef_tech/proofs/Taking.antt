-- One more unit.
use Rattle.std.proofs.Common.{◌≡◌, List, [], ◌∷◌, ◌++◌, Option, refl, sym, ◌∙◌, ap, append_assoc}
use Rattle.std.proofs.lemmas.List.{append-nil}
use Rattle.lef_tech.specs.declared.state.State.{State}
use Rattle.lef_tech.specs.declared.statement.Statement.{Statement}
use Rattle.lef_tech.specs.Record.{Told, stated_one, stated}
use Rattle.lef_tech.specs.Shape.{shape_in}
use Rattle.lef_tech.specs.Statement.{saying, Says}
use Rattle.lef_tech.specs.Turn.{named, state_after, state_from}
use Rattle.reading.specs.Word.{Token}

pub state_more : (state : State) (units : List (List Token)) (unit : List Token) →
    state_from state (units ++ unit ∷ []) ≡ state_after (state_from state units) unit
state_more state [] unit = refl
state_more state (u ∷ units) unit = state_more (state_after state u) units unit

-- What a unit says after this.
abbrev pub SaysThen : State → List Token → Option Statement → Type 0
SaysThen state unit told = Says unit (saying state.place.section (named state unit) (shape_in unit)) told

pub told_more : (state : State) (units : List (List Token)) (unit : List Token) (told : List (Option Statement)) (one : Option Statement) →
    Told state units told → SaysThen (state_from state units) unit one → Told state (units ++ unit ∷ []) (told ++ one ∷ [])
told_more state [] unit [] one h s = (s, tt)
told_more state (u ∷ units) unit (t ∷ told) one h s = (h.0, told_more (state_after state u) units unit told one h.1 s)
told_more state [] unit (t ∷ told) one h s = absurd h
told_more state (u ∷ units) unit [] one h s = absurd h

pub stated_more : (told : List (Option Statement)) (one : Option Statement) → stated (told ++ one ∷ []) ≡ stated told ++ stated_one one
stated_more [] one = append-nil (stated_one one)
stated_more (t ∷ told) one = ap (λ z. stated_one t ++ z) (stated_more told one) ∙ sym (append_assoc (stated_one t) (stated told) (stated_one one))
