use Rattle.std.proofs.Common.{ℕ, List, subst, sym, arith}
use Rattle.std.proofs.lemmas.Grind.{common_steps}
use Rattle.wire_chains.specs.declared.via.ViaAt.{ViaAt}
use Rattle.wire_stacks.specs.declared.made.Made.{Made}
use Rattle.wire_stacks.specs.inside.Made.{IsMade}
use Rattle.wire_stacks.proofs.Lists.{indexed_more}
use Rattle.wire_stacks.proofs.made.all_made.Goals as goal

pub loop-place-preserved : goal.loop-place-preserved
loop-place-preserved c =
    let tech = c.args.tech.now in
    let vias = c.args.vias.now in
    let chains = c.args.chains.now in
    let i = c.loop-place.place in
    let R : ℕ → List ViaAt → Made → Type 0 = λ n vs m. IsMade tech vias vs n m in
    let chain = c.index-chains-place.result in
    let one = c.in_ok-one_made.field-0 in
    let old = c.loop-place.made.items in
    let is : IsMade tech vias chain i one = subst (λ n. IsMade tech vias chain n one) c.in_ok-number.ensures
    (subst (λ (vs : List ViaAt). IsMade tech vias vs c.in_ok-number.field-0 one) c.vias.ensures c.in_ok-one_made.ensures) in (
      grind (arith, common_steps),
      rw c.in_ok-push.ensures.items (indexed_more R chains old i chain one (sym c.loop-place.invariant.0) c.index-chains-place.is is c.loop-place.invariant.1),
    )
