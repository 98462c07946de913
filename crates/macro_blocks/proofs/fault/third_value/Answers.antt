use Rattle.std.proofs.Common.{sym, subst}
use Rattle.macro_blocks.specs.declared.section.Section.{Section}
use Rattle.macro_blocks.specs.declared.section.Section.TheVariants.{Macro}
use Rattle.macro_blocks.specs.declared.value.Value.TheVariants.{Nothing}
use Rattle.macro_blocks.specs.Fault.{CornerFault, ThirdFault}
use Rattle.macro_blocks.specs.inside.Value.{SaysPlace, SaysLater}
use Rattle.macro_blocks.proofs.Numbered.{or_value}
use Rattle.reading.specs.Fault.{FindsValue}
use Rattle.reading.specs.Word.{token}
use Rattle.macro_blocks.proofs.fault.third_value.Goals as goal

pub returns-in-Layered : goal.returns-in-Layered
returns-in-Layered c = λ same.
    let word = token c.args.third.now in
    subst (λ (z : Section). FindsValue (ThirdFault z c.args.standing.now word) (SaysLater z word) c.corner_value.result) (sym c.in-Layered.is)
    (subst (λ z. FindsValue (CornerFault z word) (SaysPlace word) c.corner_value.result) c.is_known.ensures (c.corner_value.ensures same))

pub returns-in-Macro : goal.returns-in-Macro
returns-in-Macro c = λ same.
    let word = token c.args.third.now in
    subst (λ (z : Section). FindsValue (ThirdFault z c.args.standing.now word) (SaysLater z word) c.value_or.result) (sym c.in-Macro.is)
    (or_value (ThirdFault Macro c.args.standing.now word) (SaysLater Macro word) Nothing c.origin_fault.result c.value_or.result c.value_or.ensures tt c.origin_fault.ensures)
