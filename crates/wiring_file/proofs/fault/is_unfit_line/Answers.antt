use Rattle.std.proofs.Common.{◌≡◌, ◌≢◌, ◌⊎◌, ◌<◌, true, false, ℤ, pos, List, [], ◌∷◌, ◌++◌, map, Some, refl, sym, ◌∙◌, subst, arith, length, to_z, of_z}
use Rattle.std.specs.Prelude.{IsTrue, ◌↔◌}
use Rattle.std.specs.Int.{w64}
use Rattle.reading.specs.Word.{Token, heard_token}
use Rattle.wiring_file.specs.declared.number.Quantity.TheVariants.{NotNegative}
use Rattle.wiring_file.specs.declared.section.Section.TheVariants.{Line}
use Rattle.wiring_file.specs.declared.sort.Sort.{Sort}
use Rattle.wiring_file.specs.declared.sort.Sort.TheVariants.{Stripe, Open}
use Rattle.wiring_file.specs.Sort.{the}
use Rattle.wiring_file.proofs.Heard.{compose, words_more, width_last, sort_last, width_before, kept, unfit_width, unfit_shape, unfit_end}
use Rattle.wiring_file.proofs.fault.is_unfit_line.Goals as goal

pub returns-in-1 : goal.returns-in-1
returns-in-1 c = λ heard word same says.
    let before = c.args.before.now in
    let part : List Token = map heard_token before ++ word ∷ [] in
    let one : length before ≡ 1 = c.in-1.is in
    let width = kept NotNegative 1 part _ (width_last before word c.args.value one says) in
    compose c.has_late_width.ensures (unfit_width c.texts_have_one_number.ensures part _ width c.args.placed (omega (arith, words_more before word)))

pub returns-in-4 : goal.returns-in-4
returns-in-4 c = λ heard word same says.
    let before = c.args.before.now in
    let part : List Token = map heard_token before ++ word ∷ [] in
    let four : length before ≡ 4 = c.in-4.is in
    let v : ℤ = to_z w64 (of_z w64 c.value_at.result) in
    let width = width_before before word _ (omega arith) (c.value_at.ensures Line NotNegative heard refl (omega arith)) in
    compose (subst (λ (z : Sort). IsTrue c.has_other_shape.result ↔ ((v ≡ pos 0) × (the Stripe z ≡ false))) (same ∙ sym (sort_last before word 4 four)) c.has_other_shape.ensures)
    (unfit_shape c.texts_have_one_number.ensures part v width c.args.placed (omega (arith, words_more before word)))

pub returns-in-9 : goal.returns-in-9
returns-in-9 c = λ heard word same says.
    let before = c.args.before.now in
    let part : List Token = map heard_token before ++ word ∷ [] in
    let nine : length before ≡ 9 = c.in-9.is in
    let v : ℤ = to_z w64 (of_z w64 c.value_at-in-9.result) in
    let width = width_before before word _ (omega arith) (c.value_at-in-9.ensures Line NotNegative heard refl (omega arith)) in
    compose
    (subst (λ (z : Sort). IsTrue c.has_other_end.result ↔ (((v ≡ pos 0) × (the Open z ≡ true)) ⊎ ((v ≢ pos 0) × (the Open z ≡ false)))) (same ∙ sym (sort_last before word 9 nine)) c.has_other_end.ensures)
    (unfit_end c.texts_have_one_number.ensures part v width c.args.placed (omega (arith, words_more before word)))
