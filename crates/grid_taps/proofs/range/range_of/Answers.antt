use Rattle.std.proofs.Common.{◌≡◌, inl, inr, ℕ, ℤ, List, refl, subst}
use Rattle.bias_file.specs.declared.record.Amps.{Amps}
use Rattle.grid_taps.specs.Taps.{IsLine, HasNoLine}
use Rattle.grid_taps.proofs.range.range_of.Goals as goal

no_line : (lines lines' : List Amps) (name name' : List ℕ) → lines ≡ lines' → name ≡ name' → HasNoLine lines name → HasNoLine lines' name'
no_line lines lines' name name' are is none = subst (λ (ls : List Amps). HasNoLine ls name') are (subst (λ (n : List ℕ). HasNoLine lines n) is none)

line_of : (lines lines' : List Amps) (name name' : List ℕ) (low high : ℤ) → lines ≡ lines' → name ≡ name' → IsLine lines name low high → IsLine lines' name' low high
line_of lines lines' name name' low high are is line =
    subst (λ (ls : List Amps). IsLine ls name' low high) are (subst (λ (n : List ℕ). IsLine lines n low high) is line)

pub returns-in-Some-range_on-clause-range : goal.returns-in-Some-range_on-clause-range
returns-in-Some-range_on-clause-range c =
    inr (inl (
      no_line c.as_slice.result.now c.args.bias.now.instances c.bytes.result.now c.args.component.now.name c.as_slice.ensures c.bytes.ensures c.in_default.ensures.range,
      line_of c.as_slice-2.result.now c.args.bias.now.cells c.bytes-2.result.now c.args.component.now.cell c.in-Some-range_on.range.low c.in-Some-range_on.range.high c.as_slice-2.ensures c.bytes-2.ensures c.in-Some-range_on.ensures.range,
    ))

pub returns-in-None-clause-range : goal.returns-in-None-clause-range
returns-in-None-clause-range c =
    inr (inr (
      no_line c.as_slice.result.now c.args.bias.now.instances c.bytes.result.now c.args.component.now.name c.as_slice.ensures c.bytes.ensures c.in_default.ensures.range,
      no_line c.as_slice-2.result.now c.args.bias.now.cells c.bytes-2.result.now c.args.component.now.cell c.as_slice-2.ensures c.bytes-2.ensures c.in-None.ensures.range,
      refl,
      refl,
    ))
