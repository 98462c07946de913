use Rattle.std.proofs.Common.{◌≡◌, ◌<◌, pos, length, Some, SFits, w64, sym, ◌∙◌, arith, rules}
use Rattle.std.proofs.lemmas.Bool.{false≢true}
use Rattle.std.proofs.lemmas.Int.{to_z-of_z}
use Rattle.grid_pieces.specs.declared.metal.Metal.{Metal}
use Rattle.grid_pieces.proofs.Sweeping.{IsRemoved, not_at, taken, dropped, touch_any}
use Rattle.grid_pieces.proofs.place.close.Goals as goal

nothing : Metal
nothing = record { layer = 0; rect = record { x1 = pos 0; y1 = pos 0; x2 = pos 0; y2 = pos 0 }; net = 0 }

pub loop-edge-smaller : goal.loop-edge-smaller
loop-edge-smaller c =
    let edge : SFits w64 c.in-Some.edge = search rules in
    let found : c.remove.result ≡ Some c.in-Some.place = simp to_z-of_z at c.remove.ensures.value ∙ c.in-Some.ensures.is in
    let shorter = rw found at c.remove.ensures.len in
    omega (arith, shorter)

pub loop-edge-smaller-then-touch : goal.loop-edge-smaller-then-touch
loop-edge-smaller-then-touch c =
    let edge : SFits w64 c.in-Some.edge = search rules in
    let found : c.remove.result ≡ Some c.in-Some.place = simp to_z-of_z at c.remove.ensures.value ∙ c.in-Some.ensures.is in
    let shorter = rw found at c.remove.ensures.len in
    omega (arith, shorter)

pub loop-edge-preserved : goal.loop-edge-preserved
unfolding nothing
loop-edge-preserved c =
    let all = c.args.metal.now in
    let at = c.args.at in
    let place = c.in-Some.place in
    let fits : SFits w64 c.in-Some.edge = search rules in
    let updates = simp to_z-of_z at c.remove.ensures.updates in
    let removed : IsRemoved c.loop-edge.lying c.remove.new.self c.in-Some.edge = record { gone = updates.1; others = λ q differ. updates.2 q (not_at c.in-Some.edge q differ) } in
    let before : place < at = c.loop-edge.invariant.are.places c.in-Some.edge place c.in-Some.ensures.is in
    let within : at < length all = c.requires.within in
    dropped all c.loop-edge.lying c.remove.new.self c.in-Some.edge place c.loop-edge.first at c.requires.swept c.loop-edge.invariant removed c.in-Some.ensures within
    (λ d touch. false≢true (sym c.if-touch.false ∙ c.touch.ensures.1 (touch_any all place at d nothing (omega arith) within touch)))

pub loop-edge-preserved-then-touch : goal.loop-edge-preserved-then-touch
unfolding nothing
loop-edge-preserved-then-touch c =
    let all = c.args.metal.now in
    let at = c.args.at in
    let place = c.in-Some.place in
    let fits : SFits w64 c.in-Some.edge = search rules in
    let updates = simp to_z-of_z at c.remove.ensures.updates in
    let removed : IsRemoved c.loop-edge.lying c.remove.new.self c.in-Some.edge = record { gone = updates.1; others = λ q differ. updates.2 q (not_at c.in-Some.edge q differ) } in
    let before : place < at = c.loop-edge.invariant.are.places c.in-Some.edge place c.in-Some.ensures.is in
    let within : at < length all = c.requires.within in
    taken all c.loop-edge.lying c.remove.new.self c.in-Some.edge place c.loop-edge.first c.min-first.result at c.loop-edge.invariant removed c.in-Some.ensures within c.min-first.ensures
    (λ d. touch_any all place at nothing d (omega arith) within (c.touch.ensures.0 c.if-touch.true))
