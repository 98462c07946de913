use Rattle.std.proofs.Common.{map, refl}
use Rattle.grid_taps.proofs.Unknown.{none_same}
use Rattle.grid_taps.proofs.line.first_naming_none.Goals as goal

pub returns : goal.returns
returns g c =
    none_same g.T.Line.line_of g.T.Named.name_of (map g.N.Named.name_of c.args.items.now) c.in_ok-names.names c.args.lines.now c.args.lines.now c.first_unknown.result
    c.in_ok-names.ensures.names refl c.first_unknown.ensures
