-- The names of the layers and rules of a technology that is read differ.
use Rattle.std.proofs.Common.{◌≡◌, ℕ, List, [], ◌∷◌, ◌++◌, map, Option, Ok, refl, sym, subst}
use Rattle.name_table.specs.Numbering.{AreDistinct}
use Rattle.lef_tech.specs.declared.layer.CutLayer.{CutLayer}
use Rattle.lef_tech.specs.declared.layer.RoutingLayer.{RoutingLayer}
use Rattle.lef_tech.specs.declared.rule.ViaRule.{ViaRule}
use Rattle.lef_tech.specs.declared.tech.Tech.{Tech}
use Rattle.lef_tech.specs.Format.{format, ReadsTech}
use Rattle.lef_tech.specs.Record.{Told, stated, tech_of}
use Rattle.lef_tech.specs.State.{first_state}
use Rattle.lef_tech.specs.Turn.{named, state_after, state_from, state_of}
use Rattle.reading.specs.Word.{Token}
use Rattle.tech_names.proofs.Fine.{AreFine, fine}
use Rattle.tech_names.proofs.Stated.{says, AreOwn, own_none, own_more}
use Rattle.tech_names.proofs.Taken.{IsTaken, IsRuled, takes_layer, takes_rule}
use Rattle.tech_names.proofs.Types.{State, Statement}

more_units : (state : State) (units : List (List Token)) (unit : List Token) → state_from state (units ++ unit ∷ []) ≡ state_after (state_from state units) unit
more_units state [] unit = refl
more_units state (u ∷ units) unit = more_units (state_after state u) units unit

all_own : (before units : List (List Token)) (told : List (Option Statement)) → AreFine format before units → Told (state_of before) units told
    → AreOwn (IsTaken (state_of before)) (IsRuled (state_of before)) (stated told)
all_own before [] [] fine are = own_none (IsTaken (state_of before)) (IsRuled (state_of before))
all_own before [] (t ∷ told) fine are = absurd are
all_own before (u ∷ units) [] fine are = absurd are
all_own before (u ∷ units) (t ∷ told) fine are =
    let more : state_of (before ++ u ∷ []) ≡ state_after (state_of before) u = more_units first_state before u in
    own_more (IsTaken (state_of before)) (IsTaken (state_after (state_of before) u)) (IsRuled (state_of before)) (IsRuled (state_after (state_of before) u)) _ _ t (stated told)
    (says (state_of before).place.section (named (state_of before) u) u t are.0) (takes_layer before u fine.0) (takes_rule before u fine.0)
    (subst (λ z. AreOwn (IsTaken z) (IsRuled z) (stated told)) more (all_own (before ++ u ∷ []) units told fine.1 (subst (λ z. Told z units told) (sym more) are.1)))

pub record HasOwn (tech : Tech) : Type 0 where
  pub routing : AreDistinct (map (λ (l : RoutingLayer). l.name) tech.routing)
  pub cuts : AreDistinct (map (λ (l : CutLayer). l.name) tech.cuts)
  pub rules : AreDistinct (map (λ (r : ViaRule). r.name) tech.rules)

own_of : (IsTaken IsRuled : List ℕ → Type 0) (statements : List Statement) → AreOwn IsTaken IsRuled statements → HasOwn (tech_of statements)
own_of IsTaken IsRuled statements own = record { routing = own.wires.differ; cuts = own.cuts.differ; rules = own.rules.differ }

pub has_own : (text : List ℕ) (tech : Tech) → ReadsTech text (Ok tech) → HasOwn tech
has_own text tech (split, is, units, (heard, hears, read), (told, says, same)) =
    subst HasOwn (sym same) (own_of (IsTaken first_state) (IsRuled first_state) (stated told) (all_own [] units told (fine format heard units read) says))
