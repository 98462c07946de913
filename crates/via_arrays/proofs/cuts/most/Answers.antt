use Rattle.std.proofs.Common.{arith, max, subst}
use Rattle.via_arrays.specs.Cuts.{IsMost}
use Rattle.via_arrays.proofs.Rows.{most_is, none_is}
use Rattle.via_arrays.proofs.cuts.most.Goals as goal

pub returns-then-extent-least : goal.returns-then-extent-least
returns-then-extent-least c =
    none_is c.args.limit c.args.extent c.args.along.cut c.args.along.pitch (max c.args.along.lower c.args.along.upper)
    (omega (arith, c.if-extent-least.true, c.max.ensures))

pub returns : goal.returns
returns c =
    subst (λ enclosure. IsMost c.args.limit c.args.extent c.args.along.cut c.args.along.pitch enclosure c.min.result) c.max.ensures
    (most_is c.args.limit c.args.extent c.args.along.cut c.args.along.pitch c.max.result c.min.result c.requires.pitch c.if-extent-least.false
    (omega (arith, c.min.ensures)))
