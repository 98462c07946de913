use Rattle.std.proofs.Common.{◌≡◌, ℕ, ℤ, List, refl, ap, ◌∙◌, rules, to_z, of_z}
use Rattle.std.specs.Int.{w64, w128}
use Rattle.fixed_decimal.specs.Printed.{printed}
use Rattle.spice_grid.specs.Named.{ground}
use Rattle.spice_grid.specs.Written.{numbered_card}
use Rattle.spice_grid.proofs.LineLemmas.{grown_twice, whole_card}
use Rattle.spice_grid.proofs.written.append_load.Goals as goal

pub returns : goal.returns
returns c =
    let number = c.args.number in
    let name : List ℕ = c.args.name.now in
    let end = c.end_on_card.result in
    let kept : to_z w128 (of_z w128 (to_z w64 (of_z w64 end))) ≡ end = search rules in
    let value = ap (λ (z : ℤ). numbered_card 73 number name ground (printed z 15)) (kept ∙ c.end_on_card.ensures) in
    let card = grown_twice _ _ _ _ _ _ c.in_ok-append_head.ensures c.in_ok-append_value.ensures (whole_card 73 number name ground _ ∙ value) in
    grown_twice _ _ _ _ _ _ card c.in_ok-append_range.ensures refl
