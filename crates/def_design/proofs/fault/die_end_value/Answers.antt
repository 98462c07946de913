use Rattle.std.proofs.Common.{sym, ◌∙◌}
use Rattle.std.proofs.lemmas.Bool.{false≢true}
use Rattle.def_design.proofs.Numbers.{die_ends, die_fine}
use Rattle.def_design.proofs.fault.die_end_value.Goals as goal

pub returns-then-has_no_area : goal.returns-then-has_no_area
returns-then-has_no_area c = λ unit corners.
    die_ends unit c.args.last c.in_default.not-Open ((c.has_no_area.ensures unit corners).0 c.if-has_no_area.true)

pub returns-else-has_no_area : goal.returns-else-has_no_area
returns-else-has_no_area c = λ unit corners.
    (die_fine unit c.args.last c.in_default.not-Open (λ h. false≢true (sym c.if-has_no_area.false ∙ (c.has_no_area.ensures unit corners).1 h)), tt)
