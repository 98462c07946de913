use Rattle.def_wiring.proofs.Faults.{part_shows}
use Rattle.def_wiring.proofs.fault.via_part_fault.Goals as goal

pub returns-then-has_numbers : goal.returns-then-has_numbers
returns-then-has_numbers c = λ vias asked h.
    part_shows vias asked c.args.late c.args.words.now c.in_default.is h (c.has_numbers.ensures.0 c.if-has_numbers.true)
