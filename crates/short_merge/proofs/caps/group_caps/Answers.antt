use Rattle.std.proofs.Common.{◌≡◌, ◌∙◌, ◌<◌, ap, length, get_or, arith, pos}
use Rattle.std.specs.Prelude.{slice_set}
use Rattle.std.proofs.lemmas.List.{get_or_default}
use Rattle.std.proofs.lemmas.List.Edits.{map_over_more}
use Rattle.capacitors.specs.declared.End.TheVariants.{Node}
use Rattle.capacitors.specs.declared.Cap.{Cap}
use Rattle.short_merge.specs.Merged.{merged_cap}
use Rattle.short_merge.proofs.caps.group_caps.Goals as goal

pub loop-cap-preserved : goal.loop-cap-preserved
loop-cap-preserved c =
    let i = c.loop-cap.cap-index in
    let none : Cap = record { a = Node 0; b = Node 0; farads = pos 0 } in
    let here : Cap = get_or c.loop-cap.caps i none in
    let within : i < length c.args.caps.now = omega arith in
    let within_now : i < length c.loop-cap.caps = omega arith in
    let given : record { a = c.group_end-cap.result; b = c.group_end-cap-in-loop-cap.result; farads = here.farads } ≡ merged_cap c.args.group.now here =
    (λ t. record { a = c.group_end-cap.ensures t; b = c.group_end-cap-in-loop-cap.ensures t; farads = here.farads }) in
    ap (λ (cap : Cap). slice_set c.loop-cap.caps i cap) given
    ∙ map_over_more (merged_cap c.args.group.now) c.args.caps.now c.loop-cap.caps i here within c.loop-cap.invariant (get_or_default c.loop-cap.caps i none here within_now)
