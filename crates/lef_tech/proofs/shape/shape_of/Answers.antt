use Rattle.std.proofs.Common.{map, sym, ap}
use Rattle.lef_tech.specs.Shape.{shape_of}
use Rattle.lef_tech.specs.inside.Value.{value_sort}
use Rattle.lef_tech.proofs.Hearing.{no_word}
use Rattle.reading.specs.Laws.{six-items}
use Rattle.lef_tech.proofs.shape.shape_of.Goals as goal

pub returns-in-len6 : goal.returns-in-len6
returns-in-len6 c = sym (ap (λ z. shape_of (map value_sort z)) (six-items no_word c.args.unit.now c.in-len6.len_at_least c.in-len6.len_below))
