use Rattle.std.proofs.Common.{refl}
use Rattle.wire_names.proofs.Ordered.{before_if_less, before_if_greater}
use Rattle.wire_names.proofs.pair.comes_first.Goals as goal

pub returns-in-Less : goal.returns-in-Less
returns-in-Less c = before_if_less c.args.one.now c.args.other.now c.args.one.now c.args.other.now c.in-Less.ensures refl refl

pub returns-in-Greater : goal.returns-in-Greater
returns-in-Greater c = before_if_greater c.args.one.now c.args.other.now c.args.one.now c.args.other.now c.in-Greater.ensures refl refl
