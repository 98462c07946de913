use Rattle.std.proofs.Common.{◌≡◌, ℕ, ◌+◌, ◌-◌, pos, List, get_or, sym, subst, arith}
use Rattle.std.specs.Prelude.{◌<ℤ◌}
use Rattle.std.proofs.lemmas.Int.{ints}
use Rattle.grid_network.specs.declared.junction.Junction.{Junction}
use Rattle.grid_network.proofs.Junctions.{rises}
use Rattle.grid_network.proofs.row.wire_to.Goals as goal

none : Junction
none = record { piece = 0; along = pos 0 }

pub wire_between-requires-clause-rising : goal.wire_between-requires-clause-rising
unfolding none
wire_between-requires-clause-rising c =
    let js : List Junction = c.args.junctions.now in
    let i : ℕ = c.args.i in
    let next : i ≡ (i - 1) + 1 = omega arith in
    let one : (get_or js (i - 1) none).piece ≡ (get_or js ((i - 1) + 1) none).piece = subst (λ (m : ℕ). (get_or js (i - 1) none).piece ≡ (get_or js m none).piece) next c.if-near-far.false in
    let below = rises js (i - 1) none c.requires.junctions.in_order (omega (arith, c.requires.within)) one in
    let up : (get_or js (i - 1) none).along <ℤ (get_or js i none).along = subst (λ (m : ℕ). (get_or js (i - 1) none).along <ℤ (get_or js m none).along) (sym next) below in
    omega (arith, ints, up)
