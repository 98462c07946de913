-- What the first unit of a kind says, after one more unit.
use Rattle.std.proofs.Common.{◌≡◌, Bool, true, false, cond, List, [], ◌∷◌, ◌++◌, Option, Some, None, refl, sym, ◌∙◌, ap, subst}
use Rattle.std.specs.Prelude.{is_some}
use Rattle.def_design.specs.Record.{Stated}
use Rattle.def_design.specs.inside.Held.{FirstSays, Leads}
use Rattle.lef_statements.specs.First.{first_with}
use Rattle.lef_statements.specs.Laws.{first-stays, first-more, first-same}
use Rattle.reading.specs.Word.{Token}

-- The first one.
first_by : {E : Type 0} (is : List Token → Bool) (says : List Token → E → Type 0) (units : List (List Token)) (unit : List Token) (e : E)
    (o : Option (List Token)) → first_with is units ≡ o → is unit ≡ true → says unit e → Stated says o None → Stated says (first_with is (units ++ unit ∷ [])) (Some e)
first_by is says units unit e None none one s h =
    subst (λ z. Stated says z (Some e)) (sym (first-more is units unit none ∙ ap (λ z. cond z (Some unit) None) one)) s
first_by is says units unit e (Some x) some one s h = absurd h

pub first_taken : {E : Type 0} (is : List Token → Bool) (says : List Token → E → Type 0) (units : List (List Token)) (unit : List Token) (e : E) →
    is unit ≡ true → says unit e → Stated says (first_with is units) None → Stated says (first_with is (units ++ unit ∷ [])) (Some e)
first_taken is says units unit e one s h = first_by is says units unit e (first_with is units) refl one s h

-- A later one counts not.
there_by : {E : Type 0} (is : List Token → Bool) (says : List Token → E → Type 0) (units : List (List Token)) (unit : List Token) (e : E)
    (o : Option (List Token)) → first_with is units ≡ o → Stated says o (Some e) → Stated says (first_with is (units ++ unit ∷ [])) (Some e)
there_by is says units unit e None none h = absurd h
there_by is says units unit e (Some x) some h = subst (λ z. Stated says z (Some e)) (sym (first-stays is units unit x some)) h

pub first_there : {E : Type 0} (is : List Token → Bool) (says : List Token → E → Type 0) (units : List (List Token)) (unit : List Token) (e : E) →
    Stated says (first_with is units) (Some e) → Stated says (first_with is (units ++ unit ∷ [])) (Some e)
first_there is says units unit e h = there_by is says units unit e (first_with is units) refl h

-- Another unit.
pub first_other : {E : Type 0} (is : List Token → Bool) (says : List Token → E → Type 0) (units : List (List Token)) (unit : List Token) (value : Option E) →
    is unit ≡ false → Stated says (first_with is units) value → Stated says (first_with is (units ++ unit ∷ [])) value
first_other is says units unit value other h = subst (λ z. Stated says z value) (sym (first-same is units unit other)) h

-- ## what is held of it

pub leads_taken : {E : Type 0} (is : List Token → Bool) (says : List Token → E → Type 0) (unit : List Token) (old : Option E) (e : E) →
    is unit ≡ true → is_some old ≡ false → says unit e → Leads (FirstSays is says) unit old (Some e)
leads_taken is says unit None e one none s = λ units h. first_taken is says units unit e one s h
leads_taken is says unit (Some d) e one none s = absurd (let t : true ≡ false = none in cc)

pub leads_there : {E : Type 0} (is : List Token → Bool) (says : List Token → E → Type 0) (unit : List Token) (old : Option E) →
    is_some old ≡ true → Leads (FirstSays is says) unit old old
leads_there is says unit None some = absurd (let t : false ≡ true = some in cc)
leads_there is says unit (Some d) some = λ units h. first_there is says units unit d h

pub leads_other : {E : Type 0} (is : List Token → Bool) (says : List Token → E → Type 0) (unit : List Token) (old : Option E) →
    is unit ≡ false → Leads (FirstSays is says) unit old old
leads_other is says unit old other = λ units h. first_other is says units unit old other h
