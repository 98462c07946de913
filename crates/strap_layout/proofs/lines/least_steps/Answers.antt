use Rattle.std.proofs.Common.{◌≡◌, ◌<ℤ◌, ◌≤ℤ◌, ◌-ℤ◌, ap, ◌∙◌, arith, SFits, w64}
use Rattle.std.specs.Int.{div_ceil, w128}
use Rattle.std.specs.Int.RustNames.{unsigned_abs}
use Rattle.std.proofs.lemmas.Int.{ints, to_z-of_z}
use Rattle.strap_layout.proofs.Steps.{least_steps_reach, no_step_reaches}
use Rattle.strap_layout.proofs.lines.least_steps.Goals as goal

pub returns-then-at-start : goal.returns-then-at-start
returns-then-at-start c =
    let before : c.args.at ≤ℤ c.args.start = omega (arith, ints) in
    λ k. no_step_reaches c.args.start c.args.pitch c.args.at k c.requires before

pub returns : goal.returns
returns c =
    let start_fits : SFits w128 c.args.start = c.ranges.start in
    let at_fits : SFits w128 c.args.at = c.ranges.at in
    let pitch_fits : SFits w64 c.args.pitch = c.ranges.pitch in
    let before : c.args.start <ℤ c.args.at = omega (arith, ints) in
    let gap : c.abs_diff.result ≡ unsigned_abs (c.args.at -ℤ c.args.start) = simp to_z-of_z at c.abs_diff.ensures in
    let pitch : c.from.result ≡ unsigned_abs c.args.pitch = c.from.ensures ∙ (simp to_z-of_z at c.unsigned_abs.ensures.value) in
    let is : c.div_ceil.result ≡ div_ceil (unsigned_abs (c.args.at -ℤ c.args.start)) (unsigned_abs c.args.pitch) =
    c.div_ceil.ensures ∙ ap (λ n. div_ceil n c.from.result) gap ∙ ap (λ n. div_ceil (unsigned_abs (c.args.at -ℤ c.args.start)) n) pitch in
    λ k. least_steps_reach c.args.start c.args.pitch c.args.at k c.div_ceil.result c.requires before is
