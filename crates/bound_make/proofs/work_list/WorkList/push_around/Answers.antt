use Rattle.std.proofs.Common.{◌<◌, sym, length, ℕ, subst, List, All, arith, ap}
use Rattle.grid_net.specs.declared.part.Resistor.{Resistor}
use Rattle.grid_net.specs.Laws.Flows.{places_are_places}
use Rattle.bound_make.proofs.work_list.WorkList.push_around.Goals as goal

abbrev ArePlaces : List Resistor → List ℕ → Type 0
ArePlaces rs ks = All (λ p. p < length rs) ks

pub bounds-resistors-place : goal.bounds-resistors-place
bounds-resistors-place c =
    let rs = c.args.net.now.resistors in
    let all = subst (ArePlaces rs) (sym c.around-around.ensures) (places_are_places rs c.args.node) in
    let here = all c.loop-place.place-index 0 c.loop-place-test.true in
    omega (arith, here, ap length c.resistors-resistors.ensures)
