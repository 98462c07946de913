use Rattle.std.proofs.Common.{refl}
use Rattle.wiring_file.proofs.laws.whole_wirings_are_read.Goals as goal

pub returns : goal.returns
returns c = λ text split units wiring is whole words taken says.
    (split, is, units, c.whole_units_are_read.ensures.read_as (λ units. refl) _ units taken words whole, says)
