use Rattle.def_wiring.proofs.Faults.{end_fine}
use Rattle.def_wiring.proofs.fault.via_end_fault.Goals as goal

pub returns-then-has_numbers : goal.returns-then-has_numbers
returns-then-has_numbers c = λ vias asked h.
    end_fine vias asked c.args.late c.args.words.now c.in_default.is h (c.has_numbers.ensures.0 c.if-has_numbers.true)
