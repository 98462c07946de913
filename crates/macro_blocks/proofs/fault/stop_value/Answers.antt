use Rattle.std.proofs.Common.{sym, ap, subst, ◌∙◌}
use Rattle.macro_blocks.specs.declared.section.Section.{Section}
use Rattle.macro_blocks.specs.declared.section.Section.TheVariants.{Layered}
use Rattle.macro_blocks.specs.declared.sort.Sort.TheVariants.{Semicolon}
use Rattle.macro_blocks.specs.declared.value.Value.TheVariants.{Nothing}
use Rattle.macro_blocks.specs.Fault.{Misplaced, StopFault}
use Rattle.macro_blocks.specs.Sort.{the, sort_of}
use Rattle.macro_blocks.proofs.Numbered.{or_value}
use Rattle.reading.specs.Fault.{Finds, FindsValue}
use Rattle.macro_blocks.proofs.fault.stop_value.Goals as goal

pub returns-in-Layered : goal.returns-in-Layered
returns-in-Layered c = λ stop same.
    subst (λ (z : Section). FindsValue (StopFault z c.args.standing.now stop) (λ value. Unit {0}) c.value_or.result) (sym c.in-Layered.is)
    (or_value (StopFault Layered c.args.standing.now stop) (λ value. Unit {0}) Nothing c.misplaced.result c.value_or.result c.value_or.ensures tt
    (subst (λ z. Finds (Misplaced z (the Semicolon (sort_of stop))) c.misplaced.result) c.is_known.ensures
    (subst (λ z. Finds (Misplaced c.is_known.result z) c.misplaced.result) (c.is_stop.ensures ∙ ap (the Semicolon) same) c.misplaced.ensures)))
