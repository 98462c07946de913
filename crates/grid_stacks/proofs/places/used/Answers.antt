use Rattle.std.proofs.Common.{◌≡◌, ◌<◌, None, length, get_or, subst, sym, ◌∙◌, List, true, false}
use Rattle.std.proofs.lemmas.Bool.{false≢true}
use Rattle.grid_stacks.specs.declared.connect.Connect.{Connect}
use Rattle.grid_pieces.specs.Piece.{Among}
use Rattle.grid_stacks.specs.inside.Standing.{HasLayers}
use Rattle.grid_stacks.proofs.RunSteps.{at_get}
use Rattle.grid_stacks.proofs.Bridge.{used_more, used_kept}
use Rattle.grid_stacks.proofs.places.used.Goals as goal
use Rattle.grid_stacks.proofs.places.used.Goals.{then-not-is_joined+in_ok-push, else-not-is_joined}

nothing : Connect
nothing = record { from = 0; to = 0; max_columns = None; max_rows = None }

pub loop-connect-preserved : goal.loop-connect-preserved
unfolding nothing
loop-connect-preserved c =
    let connects = c.args.connects.now in
    let i = c.loop-connect.connect-index in
    let used = c.loop-connect.used.items in
    let connect = get_or connects i nothing in
    elim c.if-not-is_joined.branch [
      | then-not-is_joined+in_ok-push w ↦
          rw w.used-is
          (rw w.in_ok-push.ensures.items
          (used_more connects i connect used (at_get connects i nothing c.loop-connect-test.true) c.loop-connect.invariant
          (λ among. false≢true (sym w.if-not-is_joined.true ∙ c.is_joined.ensures.1 (subst (Among (HasLayers connect)) (sym c.deref.ensures.value) among)))))
      | else-not-is_joined w ↦
          rw w.used-is
          (used_kept connects i connect used (at_get connects i nothing c.loop-connect-test.true) c.loop-connect.invariant
          (subst (Among (HasLayers connect)) c.deref.ensures.value (c.is_joined.ensures.0 w.if-not-is_joined.false)))
    ]
