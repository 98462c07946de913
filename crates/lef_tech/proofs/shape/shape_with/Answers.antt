use Rattle.std.proofs.Common.{map, ◌++◌, ◌∷◌, [], sym, ap}
use Rattle.lef_tech.specs.Shape.{shape_of}
use Rattle.lef_tech.specs.inside.Value.{value_sort}
use Rattle.lef_tech.proofs.Hearing.{no_word, long_shape}
use Rattle.reading.specs.Laws.{five-items}
use Rattle.lef_tech.proofs.shape.shape_with.Goals as goal

pub returns-in-len5 : goal.returns-in-len5
returns-in-len5 c =
    sym (ap (λ z. shape_of (map value_sort z ++ c.args.last ∷ [])) (five-items no_word c.args.before.now c.in-len5.len_at_least c.in-len5.len_below))

pub returns-in_default : goal.returns-in_default
returns-in_default c = long_shape c.args.before.now c.args.last c.in_default.len_at_least
