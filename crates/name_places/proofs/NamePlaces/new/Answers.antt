use Rattle.name_places.proofs.NamePlaces.new.Goals as goal
use Rattle.name_places.proofs.Pushed.{place_more}

pub loop-place-preserved : goal.loop-place-preserved
loop-place-preserved c = λ name. place_more c.deref-name-items.result.now c.loop-place.place _ name _ _ c.loop-place-test.true (c.loop-place.invariant name) (c.in_ok-add.ensures name)
