use Rattle.std.proofs.Common.{pos, ◌≤ℤ◌, ◌<ℤ◌, get_or, SFits, w64, arith, rules}
use Rattle.std.proofs.lemmas.Int.{ints, to_z-of_z}
use Rattle.grid_pieces.specs.declared.metal.Metal.{Metal}
use Rattle.grid_pieces.specs.inside.Sweep.{IsLastUpTo}
use Rattle.grid_pieces.proofs.Sweeping.{none_beside, it_beside, none_after}
use Rattle.grid_pieces.proofs.open.beside.Goals as goal

nothing : Metal
nothing = record { layer = 0; rect = record { x1 = pos 0; y1 = pos 0; x2 = pos 0; y2 = pos 0 }; net = 0 }

pub returns-in_err-edge : goal.returns-in_err-edge
unfolding nothing
returns-in_err-edge c =
    let all = c.args.metal.now in
    let upper : SFits w64 (get_or all c.args.at nothing).rect.y2 = search rules in
    rw c.from_residual.ensures (none_after all c.args.lying.now c.args.at nothing c.requires.are c.requires.within (simp to_z-of_z at c.in_err-edge.ensures))

pub returns-then-metal-place : goal.returns-then-metal-place
unfolding nothing
returns-then-metal-place c =
    let all = c.args.metal.now in
    let at = c.args.at in
    let upper : SFits w64 (get_or all at nothing).rect.y2 = search rules in
    let lower : SFits w64 (get_or all at nothing).rect.y1 = search rules in
    let other : SFits w64 (get_or all c.in_ok-edge.place nothing).rect.y2 = search rules in
    let last : IsLastUpTo c.args.lying.now (get_or all at nothing).rect.y2 (c.in_ok-edge.edge, c.in_ok-edge.place) = simp to_z-of_z at c.in_ok-edge.ensures in
    let below : (get_or all c.in_ok-edge.place nothing).rect.y2 <ℤ (get_or all at nothing).rect.y1 = omega (arith, ints, c.if-metal-place.true) in
    none_beside all c.args.lying.now at c.in_ok-edge.edge c.in_ok-edge.place nothing c.requires.swept c.requires.are c.requires.within last below

pub returns : goal.returns
unfolding nothing
returns c =
    let all = c.args.metal.now in
    let at = c.args.at in
    let upper : SFits w64 (get_or all at nothing).rect.y2 = search rules in
    let lower : SFits w64 (get_or all at nothing).rect.y1 = search rules in
    let other : SFits w64 (get_or all c.in_ok-edge.place nothing).rect.y2 = search rules in
    let edge_fits : SFits w64 c.in_ok-edge.edge = search rules in
    let last : IsLastUpTo c.args.lying.now (get_or all at nothing).rect.y2 (c.in_ok-edge.edge, c.in_ok-edge.place) = simp to_z-of_z at c.in_ok-edge.ensures in
    let over : (get_or all at nothing).rect.y1 ≤ℤ (get_or all c.in_ok-edge.place nothing).rect.y2 = omega (arith, ints, c.if-metal-place.false) in
    simp to_z-of_z (it_beside all c.args.lying.now at c.in_ok-edge.edge c.in_ok-edge.place nothing c.requires.are c.requires.within last over)
