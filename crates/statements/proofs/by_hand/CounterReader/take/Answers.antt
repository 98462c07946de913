use Rattle.std.proofs.Common.{◌≡◌, true, subst, sym, ◌∙◌, arith}
use Rattle.reading.specs.Word.{token}
use Rattle.reading.specs.Reader.{Closes}
use Rattle.statements.specs.Rule.{is_name, is_number}
use Rattle.statements.specs.Format.{statements_format}
use Rattle.statements.specs.inside.ByHand.{IsSeen, Stands}
use Rattle.statements.proofs.Arms.{keyword, name, number, fault, statement, end}
use Rattle.statements.proofs.by_hand.CounterReader.take.Goals as goal

pub returns-in-Nothing-TextEnd : goal.returns-in-Nothing-TextEnd
returns-in-Nothing-TextEnd c = λ units part there.
    let w = token c.args.word.now in
    let is = c.in-Nothing-TextEnd in
    subst (λ z. Closes statements_format (Stands (record { count = c.args.self.now.count; seen = z })) units part w) (sym is.is-0)
    (end _ units part w there.0 (subst (λ z. IsSeen z part) is.is-0 there.1) (sym c.sort_of.ensures ∙ is.is-1))

pub returns-in-Nothing-Set : goal.returns-in-Nothing-Set
returns-in-Nothing-Set c = λ units part there.
    keyword _ units part _ there.0 (subst (λ z. IsSeen z part) c.in-Nothing-Set.is-0 there.1) (sym c.sort_of.ensures ∙ c.in-Nothing-Set.is-1)

pub returns-in-Keyword-Set : goal.returns-in-Keyword-Set
returns-in-Keyword-Set c = λ units part there.
    name _ units part _ there.0 (subst (λ z. IsSeen z part) c.in-Keyword-Set.is-0 there.1) (subst (λ s. is_name s ≡ true) c.sort_of.ensures (grind arith))

pub returns-then-not-is_whole : goal.returns-then-not-is_whole
returns-then-not-is_whole c = λ units part there.
    fault units part _ (subst (λ z. IsSeen z part) c.in-Name-Set.is-0 there.1) (subst (λ s. is_number s ≡ true) c.sort_of.ensures (grind arith))
    (sym c.is_whole.ensures ∙ c.if-not-is_whole.true)

pub returns-else-not-is_whole : goal.returns-else-not-is_whole
returns-else-not-is_whole c = λ units part there.
    number _ units part _ there.0 (subst (λ z. IsSeen z part) c.in-Name-Set.is-0 there.1) (subst (λ s. is_number s ≡ true) c.sort_of.ensures (grind arith))
    (sym c.is_whole.ensures ∙ c.if-not-is_whole.false)

pub returns-in-Some : goal.returns-in-Some
returns-in-Some c = λ units part there.
    statement _ _ units part _ there.0 (omega (arith, c.in-Some.ensures)) (subst (λ z. IsSeen z part) c.in-Number-Semicolon.is-0 there.1)
    (sym c.sort_of.ensures ∙ c.in-Number-Semicolon.is-1)
