use Rattle.std.proofs.Common.{◌≡◌, ℕ, List, refl, ◌∙◌, ap, subst}
use Rattle.outside.specs.declared.calls.Tally.{Tally}
use Rattle.outside.specs.Calls.{CallsInMemory, IsUncounted, no_calls, tally_under}
use Rattle.outside.specs.inside.Entries.{IsAbsent}
use Rattle.outside.proofs.Tallies.{tally_under-push, uncounted}
use Rattle.outside.proofs.calls.Calls.place.Goals as goal

pub returns-clause-uncounted : goal.returns-clause-uncounted
returns-clause-uncounted c =
    let inside = c.self.inside in
    let none : IsAbsent inside.tallies.items c.args.name.now = subst (λ (l : List (List ℕ × Tally)). IsAbsent l c.args.name.now) c.deref.ensures.value (subst (λ (n : List ℕ). IsAbsent c.deref.result.now n) c.as_bytes.ensures.value c.in_default.ensures.absent) in
    let named = c.in_ok-new.ensures ∙ c.as_bytes-2.ensures.value in
    let added : tally_under c.push.new.self.items ≡ tally_under inside.tallies.items = ap tally_under c.in_ok-push.ensures.items ∙ tally_under-push inside.tallies.items c.args.name.now (c.in_ok-new.field-0, no_calls) none named refl in
    let before : CallsInMemory = record { failing = inside.failing.items; tallies = inside.tallies.items; faults = inside.faults } in
    let after : CallsInMemory = record { failing = inside.failing.items; tallies = c.push.new.self.items; faults = inside.faults } in
    subst (λ (calls : CallsInMemory). IsUncounted calls after) c.self.view_is (uncounted before after refl added refl)
