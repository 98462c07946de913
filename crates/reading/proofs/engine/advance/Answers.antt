use Rattle.std.proofs.Common.{rules, ◌≡◌, ◌<◌, [], ◌∷◌, ◌++◌, Some, None, sym, ◌∙◌, ap, subst, length, map, arith, length-append}
use Rattle.std.proofs.lemmas.List.{length-map}
use Rattle.reading.specs.Grammar.{AreHeard}
use Rattle.reading.specs.Reading.{IsFine}
use Rattle.reading.specs.Word.{token, heard_token, place_in}
use Rattle.reading.specs.inside.Engine.{HoldsHeard}
use Rattle.reading.specs.declared.patterns.Standing.TheVariants.{Nowhere, Open}
use Rattle.reading.proofs.Standing.{never-by, some-by, goes_on-by, whole-by}
use Rattle.reading.proofs.Stepping.{before, step-syntax, step-begins}
use Rattle.reading.proofs.Stepping.{step-fault, fault-within, step-open, step-whole, heard-more, take-heard, with-seen}
use Rattle.reading.proofs.engine.advance.Goals as goal

pub returns-then-eq-clause-takes : goal.returns-then-eq-clause-takes
returns-then-eq-clause-takes g c = λ units few a.
    step-syntax g.G.Sort.Numbered.number g.G.Sort.Numbered.all g.G.Grammar.pattern (g.G.Grammar.format c.args.grammar.now) (HoldsHeard (g.G.Grammar.holds c.args.grammar.now c.args.said.now) (g.G.Grammar.says c.args.grammar.now) c.args.unit.now.items) _ _ _ _ units (map heard_token c.args.unit.now.items) (token c.args.word) (before g.G.Sort.Numbered.number g.G.Sort.Numbered.all g.G.Grammar.pattern (g.G.Grammar.format c.args.grammar.now) (HoldsHeard (g.G.Grammar.holds c.args.grammar.now c.args.said.now) (g.G.Grammar.says c.args.grammar.now) c.args.unit.now.items) _ _ _ _ units (map heard_token c.args.unit.now.items) (token c.args.word) _ g.met.G.Sort.Numbered.listed c.regular.ensures (c.sort-sort.ensures units a.held.0) a c.in-Ok.ensures.is)
    (λ p d. never-by p (let e : c.in-Ok.rest.standing ≡ Nowhere = search rules in sym e ∙ c.in-Ok.ensures.stands p d))

pub place_at-place-requires : goal.place_at-place-requires
place_at-place-requires g c =
    let units = c.requires.stands.0 in
    let a = c.requires.stands.1 in
    let b = (before g.G.Sort.Numbered.number g.G.Sort.Numbered.all g.G.Grammar.pattern (g.G.Grammar.format c.args.grammar.now) (HoldsHeard (g.G.Grammar.holds c.args.grammar.now c.args.said.now) (g.G.Grammar.says c.args.grammar.now) c.args.unit.now.items) _ _ _ _ units (map heard_token c.args.unit.now.items) (token c.args.word) _ g.met.G.Sort.Numbered.listed c.regular.ensures (c.sort-sort.ensures units a.held.0) a c.in-Ok.ensures.is) in
    let told = with-seen c.as_slice.result.now c.args.unit.now.items (λ z. AreHeard (g.G.Grammar.says c.args.grammar.now units) [] z) (λ z. (g.G.Grammar.format c.args.grammar.now).fault units (map heard_token z ++ (token c.args.word) ∷ []) c.in-Err-hear.found)
    c.as_slice.ensures.value a.held.1 (λ h. c.in-Err-hear.ensures units a.held.0 h (c.sort-sort.ensures units a.held.0)) in
    let lt : c.in-Err-hear.found.at < length ((map heard_token c.args.unit.now.items) ++ (token c.args.word) ∷ []) =
    fault-within g.G.Sort.Numbered.number g.G.Sort.Numbered.all g.G.Grammar.pattern (g.G.Grammar.format c.args.grammar.now) (HoldsHeard (g.G.Grammar.holds c.args.grammar.now c.args.said.now) (g.G.Grammar.says c.args.grammar.now) c.args.unit.now.items) _ _ _ _ units (map heard_token c.args.unit.now.items) (token c.args.word) c.in-Err-hear.found b
    (step-begins g.G.Sort.Numbered.number g.G.Sort.Numbered.all g.G.Grammar.pattern (g.G.Grammar.format c.args.grammar.now) (HoldsHeard (g.G.Grammar.holds c.args.grammar.now c.args.said.now) (g.G.Grammar.says c.args.grammar.now) c.args.unit.now.items) _ _ _ _ units (map heard_token c.args.unit.now.items) (token c.args.word) b (λ p d. some-by p c.in-Ok.rest.standing (c.in-Ok.ensures.stands p d) (λ e. search rules))) told in
    let seen : length c.as_slice-in-Err-hear.result.now ≡ length c.args.unit.now.items = ap length c.as_slice-in-Err-hear.ensures.value in
    omega (arith, length-map c.args.unit.now.items heard_token, length-append (map heard_token c.args.unit.now.items) ((token c.args.word) ∷ []))

pub returns-in-Err-hear-clause-takes : goal.returns-in-Err-hear-clause-takes
returns-in-Err-hear-clause-takes g c = λ units few a.
    let told = with-seen c.as_slice.result.now c.args.unit.now.items (λ z. AreHeard (g.G.Grammar.says c.args.grammar.now units) [] z) (λ z. (g.G.Grammar.format c.args.grammar.now).fault units (map heard_token z ++ (token c.args.word) ∷ []) c.in-Err-hear.found)
    c.as_slice.ensures.value a.held.1 (λ h. c.in-Err-hear.ensures units a.held.0 h (c.sort-sort.ensures units a.held.0)) in
    let there = subst (λ z. place_in (map heard_token z ++ (token c.args.word) ∷ []) None c.in-Err-hear.found.at ≡ Some c.place_at-place.result) c.as_slice-in-Err-hear.ensures.value c.place_at-place.ensures in
    step-fault (g.G.Grammar.format c.args.grammar.now) units (map heard_token c.args.unit.now.items) (token c.args.word) c.in-Err-hear.found _
    (step-begins g.G.Sort.Numbered.number g.G.Sort.Numbered.all g.G.Grammar.pattern (g.G.Grammar.format c.args.grammar.now) (HoldsHeard (g.G.Grammar.holds c.args.grammar.now c.args.said.now) (g.G.Grammar.says c.args.grammar.now) c.args.unit.now.items) _ _ _ _ units (map heard_token c.args.unit.now.items) (token c.args.word) (before g.G.Sort.Numbered.number g.G.Sort.Numbered.all g.G.Grammar.pattern (g.G.Grammar.format c.args.grammar.now) (HoldsHeard (g.G.Grammar.holds c.args.grammar.now c.args.said.now) (g.G.Grammar.says c.args.grammar.now) c.args.unit.now.items) _ _ _ _ units (map heard_token c.args.unit.now.items) (token c.args.word) _ g.met.G.Sort.Numbered.listed c.regular.ensures (c.sort-sort.ensures units a.held.0) a c.in-Ok.ensures.is) (λ p d. some-by p c.in-Ok.rest.standing (c.in-Ok.ensures.stands p d) (λ e. search rules))) told there

pub returns-then-eq-2-clause-takes : goal.returns-then-eq-2-clause-takes
returns-then-eq-2-clause-takes g c = λ units few a.
    let told = with-seen c.as_slice.result.now c.args.unit.now.items (λ z. AreHeard (g.G.Grammar.says c.args.grammar.now units) [] z) (λ z. IsFine (g.G.Grammar.format c.args.grammar.now) units (map heard_token z ++ (token c.args.word) ∷ []) × (g.G.Grammar.says c.args.grammar.now units) (map heard_token z ++ (token c.args.word) ∷ []) c.in-Ok-hear.value)
    c.as_slice.ensures.value a.held.1 (λ h. c.in-Ok-hear.ensures units a.held.0 h (c.sort-sort.ensures units a.held.0)) in
    step-open g.G.Sort.Numbered.number g.G.Sort.Numbered.all g.G.Grammar.pattern (g.G.Grammar.format c.args.grammar.now) (HoldsHeard (g.G.Grammar.holds c.args.grammar.now c.args.said.now) (g.G.Grammar.says c.args.grammar.now) c.args.unit.now.items) _ _ _ _ units (map heard_token c.args.unit.now.items) (token c.args.word) _ (before g.G.Sort.Numbered.number g.G.Sort.Numbered.all g.G.Grammar.pattern (g.G.Grammar.format c.args.grammar.now) (HoldsHeard (g.G.Grammar.holds c.args.grammar.now c.args.said.now) (g.G.Grammar.says c.args.grammar.now) c.args.unit.now.items) _ _ _ _ units (map heard_token c.args.unit.now.items) (token c.args.word) _ g.met.G.Sort.Numbered.listed c.regular.ensures (c.sort-sort.ensures units a.held.0) a c.in-Ok.ensures.is) (λ p d. some-by p c.in-Ok.rest.standing (c.in-Ok.ensures.stands p d) (λ e. search rules))
    (λ p d. goes_on-by p (let e : c.in-Ok.rest.standing ≡ Open = search rules in sym e ∙ c.in-Ok.ensures.stands p d)) told.0
    (a.held.0, subst (λ z. AreHeard (g.G.Grammar.says c.args.grammar.now units) [] z) (sym c.in-Ok-push.ensures.items) (heard-more (g.G.Grammar.says c.args.grammar.now units) [] c.args.unit.now.items (record { word = c.args.word; value = c.in-Ok-hear.value }) a.held.1 told.1))

pub returns-clause-takes : goal.returns-clause-takes
returns-clause-takes g c = λ units few a.
    let told = with-seen c.as_slice.result.now c.args.unit.now.items (λ z. AreHeard (g.G.Grammar.says c.args.grammar.now units) [] z) (λ z. IsFine (g.G.Grammar.format c.args.grammar.now) units (map heard_token z ++ (token c.args.word) ∷ []) × (g.G.Grammar.says c.args.grammar.now units) (map heard_token z ++ (token c.args.word) ∷ []) c.in-Ok-hear.value)
    c.as_slice.ensures.value a.held.1 (λ h. c.in-Ok-hear.ensures units a.held.0 h (c.sort-sort.ensures units a.held.0)) in
    step-whole g.G.Sort.Numbered.number g.G.Sort.Numbered.all g.G.Grammar.pattern (g.G.Grammar.format c.args.grammar.now) (HoldsHeard (g.G.Grammar.holds c.args.grammar.now c.args.said.now) (g.G.Grammar.says c.args.grammar.now) c.args.unit.now.items) _ _ _ _ units (map heard_token c.args.unit.now.items) (token c.args.word) _ _ _ (before g.G.Sort.Numbered.number g.G.Sort.Numbered.all g.G.Grammar.pattern (g.G.Grammar.format c.args.grammar.now) (HoldsHeard (g.G.Grammar.holds c.args.grammar.now c.args.said.now) (g.G.Grammar.says c.args.grammar.now) c.args.unit.now.items) _ _ _ _ units (map heard_token c.args.unit.now.items) (token c.args.word) _ g.met.G.Sort.Numbered.listed c.regular.ensures (c.sort-sort.ensures units a.held.0) a c.in-Ok.ensures.is)
    (λ p d. whole-by p c.in-Ok.rest.standing (c.in-Ok.ensures.stands p d) (λ e. search rules) (λ e. search rules)) told.0
    (λ taken. (
      take-heard (g.G.Grammar.format c.args.grammar.now) (g.G.Grammar.says c.args.grammar.now units) units c.args.unit.now.items c.as_slice-2.result.now (record { word = c.args.word; value = c.in-Ok-hear.value })
          (g.G.Grammar.holds c.args.grammar.now c.take.new.said) (c.as_slice-2.ensures.value ∙ c.in-Ok-push.ensures.items) a.held.1 told.1 (c.in-Ok-take.ensures units few a.held.0) taken,
      subst (λ z. AreHeard (g.G.Grammar.says c.args.grammar.now (units ++ ((map heard_token c.args.unit.now.items) ++ (token c.args.word) ∷ []) ∷ [])) [] z) (sym c.clear.ensures.items) tt,
    ))
    (λ us h. c.in-Ok-start.ensures.is us h.0)
