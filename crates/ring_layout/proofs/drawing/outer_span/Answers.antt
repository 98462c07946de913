use Rattle.std.proofs.Common.{◌≡◌, ◌+ℤ◌, ◌-ℤ◌, rules, arith, SFits, w64}
use Rattle.std.specs.Int.{w128}
use Rattle.std.proofs.lemmas.Int.{ints, to_z-of_z}
use Rattle.ring_layout.specs.Rings.{taken}
use Rattle.ring_layout.proofs.drawing.outer_span.Goals as goal

pub taken-taken-requires : goal.taken-taken-requires
taken-taken-requires c =
    let core_low : SFits w64 c.args.core.from = search rules in
    let low_offset : SFits w64 c.args.offsets.0 = search rules in
    let width : SFits w64 c.args.width = search rules in
    let spacing : SFits w64 c.args.spacing = search rules in
    let low = c.requires.low.0 in
    let high = c.requires.low.1 in
    simp to_z-of_z (omega (arith, ints), omega (arith, ints))

pub overflow_sub-from : goal.overflow_sub-from
overflow_sub-from c =
    let core_low : SFits w64 c.args.core.from = search rules in
    let core_high : SFits w64 c.args.core.to = search rules in
    let low_offset : SFits w64 c.args.offsets.0 = search rules in
    let high_offset : SFits w64 c.args.offsets.1 = search rules in
    let width : SFits w64 c.args.width = search rules in
    let spacing : SFits w64 c.args.spacing = search rules in
    let a : c.from.result ≡ c.args.core.from = simp to_z-of_z at c.from.ensures in
    let b : c.from-2.result ≡ c.args.offsets.0 = simp to_z-of_z at c.from-2.ensures in
    let a_fits : SFits w128 c.from.result = search rules in
    let b_fits : SFits w128 c.from-2.result = search rules in
    simp to_z-of_z (omega (arith, ints))

pub overflow_sub-from-2 : goal.overflow_sub-from-2
overflow_sub-from-2 c =
    let core_low : SFits w64 c.args.core.from = search rules in
    let core_high : SFits w64 c.args.core.to = search rules in
    let low_offset : SFits w64 c.args.offsets.0 = search rules in
    let high_offset : SFits w64 c.args.offsets.1 = search rules in
    let width : SFits w64 c.args.width = search rules in
    let spacing : SFits w64 c.args.spacing = search rules in
    let way : c.taken-taken.result ≡ taken c.args.place c.args.width c.args.spacing = simp to_z-of_z at c.taken-taken.ensures in
    let a : c.from.result ≡ c.args.core.from = simp to_z-of_z at c.from.ensures in
    let b : c.from-2.result ≡ c.args.offsets.0 = simp to_z-of_z at c.from-2.ensures in
    let a_fits : SFits w128 c.from.result = search rules in
    let b_fits : SFits w128 c.from-2.result = search rules in
    let way_fits : SFits w128 c.taken-taken.result = search rules in
    let low = c.requires.low.0 in
    let high = c.requires.low.1 in
    let both_fit : SFits w128 (c.from.result -ℤ c.from-2.result) = omega (arith, ints) in
    simp to_z-of_z (omega (arith, ints))

pub overflow_add-to-2 : goal.overflow_add-to-2
overflow_add-to-2 c =
    let core_low : SFits w64 c.args.core.from = search rules in
    let core_high : SFits w64 c.args.core.to = search rules in
    let low_offset : SFits w64 c.args.offsets.0 = search rules in
    let high_offset : SFits w64 c.args.offsets.1 = search rules in
    let width : SFits w64 c.args.width = search rules in
    let spacing : SFits w64 c.args.spacing = search rules in
    let way : c.taken-taken.result ≡ taken c.args.place c.args.width c.args.spacing = simp to_z-of_z at c.taken-taken.ensures in
    let a : c.from-3.result ≡ c.args.core.to = simp to_z-of_z at c.from-3.ensures in
    let b : c.from-4.result ≡ c.args.offsets.1 = simp to_z-of_z at c.from-4.ensures in
    let a_fits : SFits w128 c.from-3.result = search rules in
    let b_fits : SFits w128 c.from-4.result = search rules in
    let way_fits : SFits w128 c.taken-taken.result = search rules in
    let low = c.requires.high.0 in
    let high = c.requires.high.1 in
    let both_fit : SFits w128 (c.from-3.result +ℤ c.from-4.result) = omega (arith, ints) in
    simp to_z-of_z (omega (arith, ints))

pub overflow_cast-result : goal.overflow_cast-result
overflow_cast-result c =
    let core_low : SFits w64 c.args.core.from = search rules in
    let core_high : SFits w64 c.args.core.to = search rules in
    let low_offset : SFits w64 c.args.offsets.0 = search rules in
    let high_offset : SFits w64 c.args.offsets.1 = search rules in
    let width : SFits w64 c.args.width = search rules in
    let spacing : SFits w64 c.args.spacing = search rules in
    let way : c.taken-taken.result ≡ taken c.args.place c.args.width c.args.spacing = simp to_z-of_z at c.taken-taken.ensures in
    let a : c.from.result ≡ c.args.core.from = simp to_z-of_z at c.from.ensures in
    let b : c.from-2.result ≡ c.args.offsets.0 = simp to_z-of_z at c.from-2.ensures in
    let a_fits : SFits w128 c.from.result = search rules in
    let b_fits : SFits w128 c.from-2.result = search rules in
    let way_fits : SFits w128 c.taken-taken.result = search rules in
    let low = c.requires.low.0 in
    let high = c.requires.low.1 in
    let both_fit : SFits w128 (c.from.result -ℤ c.from-2.result) = omega (arith, ints) in
    let all_fit : SFits w128 ((c.from.result -ℤ c.from-2.result) -ℤ c.taken-taken.result) = omega (arith, ints) in
    let all_small : SFits w64 ((c.from.result -ℤ c.from-2.result) -ℤ c.taken-taken.result) = omega (arith, ints) in
    simp to_z-of_z all_small

pub overflow_cast-result-2 : goal.overflow_cast-result-2
overflow_cast-result-2 c =
    let core_low : SFits w64 c.args.core.from = search rules in
    let core_high : SFits w64 c.args.core.to = search rules in
    let low_offset : SFits w64 c.args.offsets.0 = search rules in
    let high_offset : SFits w64 c.args.offsets.1 = search rules in
    let width : SFits w64 c.args.width = search rules in
    let spacing : SFits w64 c.args.spacing = search rules in
    let way : c.taken-taken.result ≡ taken c.args.place c.args.width c.args.spacing = simp to_z-of_z at c.taken-taken.ensures in
    let a : c.from-3.result ≡ c.args.core.to = simp to_z-of_z at c.from-3.ensures in
    let b : c.from-4.result ≡ c.args.offsets.1 = simp to_z-of_z at c.from-4.ensures in
    let a_fits : SFits w128 c.from-3.result = search rules in
    let b_fits : SFits w128 c.from-4.result = search rules in
    let way_fits : SFits w128 c.taken-taken.result = search rules in
    let low = c.requires.high.0 in
    let high = c.requires.high.1 in
    let both_fit : SFits w128 (c.from-3.result +ℤ c.from-4.result) = omega (arith, ints) in
    let all_fit : SFits w128 ((c.from-3.result +ℤ c.from-4.result) +ℤ c.taken-taken.result) = omega (arith, ints) in
    let all_small : SFits w64 ((c.from-3.result +ℤ c.from-4.result) +ℤ c.taken-taken.result) = omega (arith, ints) in
    simp to_z-of_z all_small

pub returns-clause-from : goal.returns-clause-from
returns-clause-from c =
    let core_low : SFits w64 c.args.core.from = search rules in
    let core_high : SFits w64 c.args.core.to = search rules in
    let low_offset : SFits w64 c.args.offsets.0 = search rules in
    let high_offset : SFits w64 c.args.offsets.1 = search rules in
    let width : SFits w64 c.args.width = search rules in
    let spacing : SFits w64 c.args.spacing = search rules in
    let way : c.taken-taken.result ≡ taken c.args.place c.args.width c.args.spacing = simp to_z-of_z at c.taken-taken.ensures in
    let a : c.from.result ≡ c.args.core.from = simp to_z-of_z at c.from.ensures in
    let b : c.from-2.result ≡ c.args.offsets.0 = simp to_z-of_z at c.from-2.ensures in
    let a_fits : SFits w128 c.from.result = search rules in
    let b_fits : SFits w128 c.from-2.result = search rules in
    let way_fits : SFits w128 c.taken-taken.result = search rules in
    let low = c.requires.low.0 in
    let high = c.requires.low.1 in
    let both_fit : SFits w128 (c.from.result -ℤ c.from-2.result) = omega (arith, ints) in
    let all_fit : SFits w128 ((c.from.result -ℤ c.from-2.result) -ℤ c.taken-taken.result) = omega (arith, ints) in
    let all_small : SFits w64 ((c.from.result -ℤ c.from-2.result) -ℤ c.taken-taken.result) = omega (arith, ints) in
    simp to_z-of_z (omega (arith, ints))

pub returns-clause-to : goal.returns-clause-to
returns-clause-to c =
    let core_low : SFits w64 c.args.core.from = search rules in
    let core_high : SFits w64 c.args.core.to = search rules in
    let low_offset : SFits w64 c.args.offsets.0 = search rules in
    let high_offset : SFits w64 c.args.offsets.1 = search rules in
    let width : SFits w64 c.args.width = search rules in
    let spacing : SFits w64 c.args.spacing = search rules in
    let way : c.taken-taken.result ≡ taken c.args.place c.args.width c.args.spacing = simp to_z-of_z at c.taken-taken.ensures in
    let a : c.from-3.result ≡ c.args.core.to = simp to_z-of_z at c.from-3.ensures in
    let b : c.from-4.result ≡ c.args.offsets.1 = simp to_z-of_z at c.from-4.ensures in
    let a_fits : SFits w128 c.from-3.result = search rules in
    let b_fits : SFits w128 c.from-4.result = search rules in
    let way_fits : SFits w128 c.taken-taken.result = search rules in
    let low = c.requires.high.0 in
    let high = c.requires.high.1 in
    let both_fit : SFits w128 (c.from-3.result +ℤ c.from-4.result) = omega (arith, ints) in
    let all_fit : SFits w128 ((c.from-3.result +ℤ c.from-4.result) +ℤ c.taken-taken.result) = omega (arith, ints) in
    let all_small : SFits w64 ((c.from-3.result +ℤ c.from-4.result) +ℤ c.taken-taken.result) = omega (arith, ints) in
    simp to_z-of_z (omega (arith, ints))
