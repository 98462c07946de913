use Rattle.std.proofs.Common.{◌≡◌, ℤ, pos, negsuc, List, map, sym, subst, refl, ap, ◌∙◌, arith, to_z, of_z, rules}
use Rattle.std.specs.Prelude.{unsigned_abs, ◌≤ℤ◌}
use Rattle.std.specs.Int.{w64}
use Rattle.std.proofs.lemmas.Int.{ints}
use Rattle.reading.specs.Word.{Token, heard_token}
use Rattle.wiring_file.specs.declared.number.Quantity.TheVariants.{NotNegative}
use Rattle.wiring_file.specs.Fault.{Says}
use Rattle.wiring_file.specs.Number.{place_of}
use Rattle.wiring_file.specs.Unit.{text_at}
use Rattle.wiring_file.proofs.taking.count.Goals as goal

not_below : (v : ℤ) → pos 0 ≤ℤ v → pos (unsigned_abs v) ≡ v
not_below (pos n) h = refl
not_below (negsuc n) h = absurd (omega (arith, ints))

pub returns : goal.returns
returns c = λ section there heard long.
    let v : ℤ = c.value_at.result in
    let unit : List Token = map heard_token c.args.unit.now in
    let said : Says NotNegative 1 unit v = c.value_at.ensures section NotNegative heard there long in
    let from : pos 0 ≤ℤ v = c.values_fit_their_places.ensures.sign (place_of NotNegative) (text_at 1 unit) v said in
    let kept : to_z w64 (of_z w64 v) ≡ v = search rules in
    let same : pos c.unsigned_abs.result ≡ v = ap pos (c.unsigned_abs.ensures.value ∙ ap unsigned_abs kept) ∙ not_below v from in
    subst (Says NotNegative 1 unit) (sym same) said
