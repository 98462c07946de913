use Rattle.std.proofs.Common.{◌<◌, pos, length, get_or, SFits, w64, subst, arith, rules}
use Rattle.std.proofs.lemmas.Int.{to_z-of_z}
use Rattle.std.proofs.lemmas.List.{get_or_default}
use Rattle.grid_pieces.specs.declared.metal.Metal.{Metal}
use Rattle.grid_pieces.proofs.Sweeping.{IsPutIn, not_at, put_in, seen}
use Rattle.grid_pieces.proofs.place.first_place.Goals as goal
use Rattle.grid_pieces.proofs.place.first_place.Goals.{then-first-metal+in_ok-insert, else-first-metal}

nothing : Metal
nothing = record { layer = 0; rect = record { x1 = pos 0; y1 = pos 0; x2 = pos 0; y2 = pos 0 }; net = 0 }

pub loop-at-preserved : goal.loop-at-preserved
unfolding nothing
loop-at-preserved c =
    let all = c.args.metal.now in
    let at = c.loop-at.at in
    let within : at < length all = omega arith in
    let state = c.close-first.ensures.state in
    let clear = c.close-first.ensures.clear in
    elim c.if-first-metal.branch [
      | then-first-metal+in_ok-insert w ↦
          let fits : SFits w64 (get_or all at nothing).rect.y1 = search rules in
          let updates = simp to_z-of_z at w.in_ok-insert.ensures.updates in
          let puts : IsPutIn c.close-first.new.lying w.insert.new.self (get_or all at nothing).rect.y1 at =
          record { there = updates.1; others = λ q differ. updates.2 q (not_at (get_or all at nothing).rect.y1 q differ) } in
          rw w.lying-is
          (put_in all c.close-first.new.lying w.insert.new.self c.close-first.result at c.requires state clear within
          (λ d. subst (λ (m : Metal). IsPutIn c.close-first.new.lying w.insert.new.self m.rect.y1 at) (get_or_default all at nothing d within) puts))
      | else-first-metal w ↦ rw w.lying-is (seen all c.close-first.new.lying c.close-first.result at state clear within w.if-first-metal.false)
    ]
