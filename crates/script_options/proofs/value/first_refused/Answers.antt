use Rattle.std.proofs.Common.{◌≡◌, ◌↔◌, Option, Some, IfNone, sym, subst}
use Rattle.std.specs.List.{AllByRecursion}
use Rattle.number_place.specs.declared.place.Refused.{Refused}
use Rattle.script_options.specs.ListWords.{words_of}
use Rattle.script_options.specs.Number.{RefusesNumber, HasNumber}
use Rattle.script_options.proofs.Refusals.{first_more, first_here}
use Rattle.script_options.proofs.value.first_refused.Goals as goal

pub loop-part-preserved : goal.loop-part-preserved
loop-part-preserved c = record {
  is = first_more c.args.quantity (words_of c.loop-part.rest.now) (words_of c.in-Some.part.rest.now) (words_of c.args.text.now) c.in-Some.part.word.now c.in-Some.ensures.some
      (subst (λ (z : Option Refused). (other : Refused) → (z ≡ Some other) ↔ RefusesNumber c.args.quantity c.in-Some.part.word.now other) c.in_default-number_refused.is c.number_refused.ensures.is) c.loop-part.invariant.is;
  fine = λ h. c.loop-part.invariant.fine (subst (AllByRecursion (HasNumber c.args.quantity)) (sym c.in-Some.ensures.some)
      (subst (λ (z : Option Refused). IfNone z (HasNumber c.args.quantity c.in-Some.part.word.now)) c.in_default-number_refused.is c.number_refused.ensures.fine, h));
}

pub returns-in-Some-number_refused-clause-is : goal.returns-in-Some-number_refused-clause-is
returns-in-Some-number_refused-clause-is c = first_here c.args.quantity (words_of c.loop-part.rest.now) (words_of c.in-Some.part.rest.now) (words_of c.args.text.now) c.in-Some.part.word.now c.in-Some-number_refused.refused c.in-Some.ensures.some
    (subst (λ (z : Option Refused). (other : Refused) → (z ≡ Some other) ↔ RefusesNumber c.args.quantity c.in-Some.part.word.now other) c.in-Some-number_refused.is c.number_refused.ensures.is) c.loop-part.invariant.is
