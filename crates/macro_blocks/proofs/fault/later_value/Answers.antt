use Rattle.std.proofs.Common.{sym, subst}
use Rattle.macro_blocks.specs.declared.section.Section.{Section}
use Rattle.macro_blocks.specs.Fault.{CornerFault, LaterFault}
use Rattle.macro_blocks.specs.inside.Value.{SaysPlace, SaysLater}
use Rattle.reading.specs.Fault.{FindsValue}
use Rattle.reading.specs.Word.{token}
use Rattle.macro_blocks.proofs.fault.later_value.Goals as goal

pub returns-in-Layered : goal.returns-in-Layered
returns-in-Layered c = λ same.
    let word = token c.args.later.now in
    subst (λ (z : Section). FindsValue (LaterFault z c.args.standing.now word) (SaysLater z word) c.corner_value.result) (sym c.in-Layered.is)
    (subst (λ z. FindsValue (CornerFault z word) (SaysPlace word) c.corner_value.result) c.is_known.ensures (c.corner_value.ensures same))
