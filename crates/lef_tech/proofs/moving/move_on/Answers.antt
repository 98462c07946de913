use Rattle.lef_tech.proofs.Taken.{moves_on}
use Rattle.reading.specs.Word.{token}
use Rattle.lef_tech.proofs.moving.move_on.Goals as goal

pub returns : goal.returns
returns c =
    moves_on c.args.state.now c.learn.new.state c.turn.new.place c.turn_of-next.result c.args.shape c.args.reference (token c.args.last.now)
    c.turn_of-next.ensures c.in_ok-learn.ensures c.turn.ensures
