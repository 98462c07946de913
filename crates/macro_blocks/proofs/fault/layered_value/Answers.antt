use Rattle.std.proofs.Common.{sym, ap, subst, ◌∙◌}
use Rattle.macro_blocks.specs.declared.section.Section.TheVariants.{Layered}
use Rattle.macro_blocks.specs.declared.sort.Sort.{Sort}
use Rattle.macro_blocks.specs.declared.sort.Sort.TheVariants as sorts
use Rattle.macro_blocks.specs.declared.value.Value.TheVariants.{Nothing}
use Rattle.macro_blocks.specs.Fault.{Misplaced, CornerFault, SecondFault}
use Rattle.macro_blocks.specs.Rule.{is_name}
use Rattle.macro_blocks.specs.Sort.{sort_of}
use Rattle.macro_blocks.specs.Standing.{is_known}
use Rattle.macro_blocks.specs.inside.Value.{SaysPlace, SaysSecond}
use Rattle.macro_blocks.proofs.Numbered.{or_value}
use Rattle.reading.specs.Fault.{Finds, FindsValue}
use Rattle.reading.specs.Word.{token}
use Rattle.macro_blocks.proofs.fault.layered_value.Goals as goal

pub returns-in-Layer : goal.returns-in-Layer
returns-in-Layer c = λ numbers same.
    let second = token c.args.second.now in
    subst (λ (z : Sort). FindsValue (SecondFault Layered c.args.standing.now numbers z second) (SaysSecond Layered z second) c.value_or.result) (sym c.in-Layer.is)
    (or_value (Misplaced (is_known c.args.standing.now.pin) (is_name (sort_of second))) (SaysSecond Layered sorts.Layer second) Nothing c.misplaced.result
    c.value_or.result c.value_or.ensures tt
    (subst (λ z. Finds (Misplaced z (is_name (sort_of second))) c.misplaced.result) c.is_known-known.ensures
    (subst (λ z. Finds (Misplaced c.is_known-known.result z) c.misplaced.result) (c.is_name.ensures ∙ ap is_name same) c.misplaced.ensures)))

pub returns-in-Rect : goal.returns-in-Rect
returns-in-Rect c = λ numbers same.
    let second = token c.args.second.now in
    subst (λ (z : Sort). FindsValue (SecondFault Layered c.args.standing.now numbers z second) (SaysSecond Layered z second) c.corner_value.result) (sym c.in-Rect.is)
    (subst (λ z. FindsValue (CornerFault z second) (SaysPlace second) c.corner_value.result) c.is_known-known.ensures (c.corner_value.ensures same))
