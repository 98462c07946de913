use Rattle.std.proofs.Common.{◌≡◌, ◌<◌, ◌-◌, true, false, Some, None, length, slice_get, subst, arith}
use Rattle.std.specs.Option.{option_copied}
use Rattle.std.proofs.Math.Dec.{ltb}
use Rattle.wave_file.proofs.Lines.{below_told, none_below, last_some, last_none}
use Rattle.wave_file.proofs.fault.is_below_last.Goals as goal

pub returns-in-Some : goal.returns-in-Some
returns-in-Some c = λ names units text h is.
    let changes = c.args.held.now.changes.items in
    let change = c.in-Some.change in
    let there = subst (λ z. option_copied z ≡ slice_get c.deref.result.now (length c.deref.result.now - 1)) c.in-Some.is c.last.ensures.value in
    let last = last_some changes change (subst (λ z. option_copied (Some change) ≡ slice_get z (length z - 1)) c.deref.ensures.value there) in
    below_told c.texts_have_one_number.ensures names units c.args.held.now text c.args.step change.now (ltb c.args.step change.now.step) h last is
    ((λ (t : ltb c.args.step change.now.step ≡ true). grind (arith, t)), (λ (t : c.args.step < change.now.step). grind (arith, t)))

pub returns-in-None : goal.returns-in-None
returns-in-None c = λ names units text h is.
    let changes = c.args.held.now.changes.items in
    let there = subst (λ z. option_copied z ≡ slice_get c.deref.result.now (length c.deref.result.now - 1)) c.in-None.is c.last.ensures.value in
    let none = last_none changes (subst (λ z. option_copied None ≡ slice_get z (length z - 1)) c.deref.ensures.value there) in
    ((λ t. absurd (let f : false ≡ true = t in cc)), (λ f. absurd (none_below names units c.args.held.now text h none f)))
