use Rattle.std.proofs.Common.{◌≡◌, ◌≤◌, pos, length, [], ◌∷◌, ap, subst, sym, ◌∙◌, arith}
use Rattle.std.proofs.lemmas.Int.{ints}
use Rattle.geom_rect.specs.declared.rect.Rect.{Rect}
use Rattle.ring_layout.specs.declared.rule.RingRule.{RingRule}
use Rattle.ring_layout.specs.Rings.{FitDrawing}
use Rattle.drawing_tests.proofs.Rings.{FourLie, two_fit}
use Rattle.drawing_tests.proofs.ring_layout_tests.ring_sides.Goals as goal

pub rings-requires-clause-within : goal.rings-requires-clause-within
rings-requires-clause-within g c =
    let rule : RingRule = record { vertical = 3; horizontal = 6; nets = c.new.result; width_v = pos 4000; width_h = pos 4000; spacing_v = pos 4000; spacing_h = pos 4000; left = pos 4000; bottom = pos 4000; right = pos 4000; top = pos 4000 } in
    let core : Rect = record { x1 = pos 0; y1 = pos 0; x2 = pos 200000; y2 = pos 200000 } in
    let nets : c.new.result ≡ 9 ∷ 4 ∷ [] = c.new.ensures ∙ c.in_ok-vec.ensures.items in
    let few : length c.new.result ≤ 2 = omega (arith, ap length nets) in
    let inner : FourLie rule core 0 = record { left = ((omega (arith, ints), omega (arith, ints)), (omega (arith, ints), omega (arith, ints)), (omega (arith, ints), omega (arith, ints)), (omega (arith, ints), omega (arith, ints))); bottom = ((omega (arith, ints), omega (arith, ints)), (omega (arith, ints), omega (arith, ints)), (omega (arith, ints), omega (arith, ints)), (omega (arith, ints), omega (arith, ints))); right = ((omega (arith, ints), omega (arith, ints)), (omega (arith, ints), omega (arith, ints)), (omega (arith, ints), omega (arith, ints)), (omega (arith, ints), omega (arith, ints))); top = ((omega (arith, ints), omega (arith, ints)), (omega (arith, ints), omega (arith, ints)), (omega (arith, ints), omega (arith, ints)), (omega (arith, ints), omega (arith, ints))) } in
    let outer : FourLie rule core 1 = record { left = ((omega (arith, ints), omega (arith, ints)), (omega (arith, ints), omega (arith, ints)), (omega (arith, ints), omega (arith, ints)), (omega (arith, ints), omega (arith, ints))); bottom = ((omega (arith, ints), omega (arith, ints)), (omega (arith, ints), omega (arith, ints)), (omega (arith, ints), omega (arith, ints)), (omega (arith, ints), omega (arith, ints))); right = ((omega (arith, ints), omega (arith, ints)), (omega (arith, ints), omega (arith, ints)), (omega (arith, ints), omega (arith, ints)), (omega (arith, ints), omega (arith, ints))); top = ((omega (arith, ints), omega (arith, ints)), (omega (arith, ints), omega (arith, ints)), (omega (arith, ints), omega (arith, ints)), (omega (arith, ints), omega (arith, ints))) } in
    subst (λ (made : RingRule). FitDrawing made core) (sym c.even-rule.ensures) (two_fit rule core few inner outer)
