use Rattle.std.proofs.Common.{map}
use Rattle.def_design.proofs.Taking.{blockages_taken}
use Rattle.reading.specs.Word.{heard_token}
use Rattle.def_design.proofs.blockages.Blockages.take.Goals as goal

pub returns : goal.returns
returns c = λ units w.
    blockages_taken (map heard_token c.args.unit.now) c.args.self.now c.add.new.self c.take.new.self c.add.ensures.open (c.in_ok-add.ensures.items units w) (c.take.ensures units w)
