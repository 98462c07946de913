use Rattle.std.proofs.Common.{rules, Ok, FitsSigned, to_z, of_z, ◌∙◌}
use Rattle.std.specs.Int.{w64, w128}
use Rattle.std.proofs.lemmas.Int.{to_z-of_z}
use Rattle.fixed_decimal.specs.Spice.{IsSpice}
use Rattle.fixed_decimal.specs.Value.{IsAnswer}
use Rattle.fixed_decimal.proofs.Answered.{answers_value, answers_not_number, answers_vanishes, answers_range, answers_only}
use Rattle.fixed_decimal.proofs.Few.{spice_reads_wider}
use Rattle.fixed_decimal.proofs.TextLaws.{spice_unique}
use Rattle.fixed_decimal.proofs.reader.read_spice.Goals as goal
use Rattle.fixed_decimal.proofs.reader.read_spice.Goals.{After-from}

answered : (c : After-from) → IsAnswer IsSpice c.args.places c.args.limit c.args.text.now (Ok (to_z w128 (of_z w128 c.from.result)))
answered c =
    let fits : FitsSigned w128 c.from.result = search rules in
    let few : FitsSigned w64 c.in-Some.value = search rules in
    spice_reads_wider c.args.places c.small_limit.result c.args.limit c.args.text.now c.in-Some.value (to_z w128 (of_z w128 c.from.result)) c.small_limit.ensures.within
    (to_z-of_z w128 c.from.result fits ∙ (c.from.ensures ∙ to_z-of_z w64 c.in-Some.value few)) c.in-Some.ensures

pub returns-in-Some-clause-answer : goal.returns-in-Some-clause-answer
returns-in-Some-clause-answer c = answered c

pub returns-in-Some-clause-value : goal.returns-in-Some-clause-value
returns-in-Some-clause-value c = answers_value IsSpice c.args.places c.args.limit c.args.text.now (spice_unique c.args.text.now) _ (answered c)

pub returns-in-None-clause-value : goal.returns-in-None-clause-value
returns-in-None-clause-value c = answers_value IsSpice c.args.places c.args.limit c.args.text.now (spice_unique c.args.text.now) c.read_scaled_in_full.result c.read_scaled_in_full.ensures

pub returns-in-Some-clause-not_number : goal.returns-in-Some-clause-not_number
returns-in-Some-clause-not_number c = answers_not_number IsSpice c.args.places c.args.limit c.args.text.now (spice_unique c.args.text.now) _ (answered c)

pub returns-in-None-clause-not_number : goal.returns-in-None-clause-not_number
returns-in-None-clause-not_number c = answers_not_number IsSpice c.args.places c.args.limit c.args.text.now (spice_unique c.args.text.now) c.read_scaled_in_full.result c.read_scaled_in_full.ensures

pub returns-in-Some-clause-vanishes : goal.returns-in-Some-clause-vanishes
returns-in-Some-clause-vanishes c = answers_vanishes IsSpice c.args.places c.args.limit c.args.text.now (spice_unique c.args.text.now) _ (answered c)

pub returns-in-None-clause-vanishes : goal.returns-in-None-clause-vanishes
returns-in-None-clause-vanishes c = answers_vanishes IsSpice c.args.places c.args.limit c.args.text.now (spice_unique c.args.text.now) c.read_scaled_in_full.result c.read_scaled_in_full.ensures

pub returns-in-Some-clause-range : goal.returns-in-Some-clause-range
returns-in-Some-clause-range c = answers_range IsSpice c.args.places c.args.limit c.args.text.now (spice_unique c.args.text.now) _ (answered c)

pub returns-in-None-clause-range : goal.returns-in-None-clause-range
returns-in-None-clause-range c = answers_range IsSpice c.args.places c.args.limit c.args.text.now (spice_unique c.args.text.now) c.read_scaled_in_full.result c.read_scaled_in_full.ensures

pub returns-in-Some-clause-only : goal.returns-in-Some-clause-only
returns-in-Some-clause-only c = answers_only IsSpice c.args.places c.args.limit c.args.text.now (spice_unique c.args.text.now) _ (answered c)

pub returns-in-None-clause-only : goal.returns-in-None-clause-only
returns-in-None-clause-only c = answers_only IsSpice c.args.places c.args.limit c.args.text.now (spice_unique c.args.text.now) c.read_scaled_in_full.result c.read_scaled_in_full.ensures
