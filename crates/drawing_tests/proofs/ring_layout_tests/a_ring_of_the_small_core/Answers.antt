use Rattle.std.proofs.Common.{◌≡◌, ◌≤◌, pos, length, [], ◌∷◌, ap, subst, sym, ◌∙◌, arith}
use Rattle.std.proofs.lemmas.Int.{ints}
use Rattle.geom_rect.specs.declared.rect.Rect.{Rect}
use Rattle.ring_layout.specs.declared.rule.RingRule.{RingRule}
use Rattle.ring_layout.specs.Rings.{FitDrawing}
use Rattle.drawing_tests.proofs.Rings.{FourLie, two_fit}
use Rattle.drawing_tests.proofs.ring_layout_tests.a_ring_of_the_small_core.Goals as goal

pub rings-requires-clause-within : goal.rings-requires-clause-within
rings-requires-clause-within g c =
    let rule : RingRule = record { vertical = 3; horizontal = 6; nets = c.new.result; width_v = pos 2000; width_h = pos 2000; spacing_v = pos 2000; spacing_h = pos 2000; left = pos 2000; bottom = pos 2000; right = pos 2000; top = pos 2000 } in
    let core : Rect = record { x1 = pos 0; y1 = pos 0; x2 = pos 8000; y2 = pos 2800 } in
    let nets : c.new.result ≡ 0 ∷ 1 ∷ [] = c.new.ensures ∙ c.in_ok-vec.ensures.items in
    let few : length c.new.result ≤ 2 = omega (arith, ap length nets) in
    let inner : FourLie rule core 0 = record { left = ((omega (arith, ints), omega (arith, ints)), (omega (arith, ints), omega (arith, ints)), (omega (arith, ints), omega (arith, ints)), (omega (arith, ints), omega (arith, ints))); bottom = ((omega (arith, ints), omega (arith, ints)), (omega (arith, ints), omega (arith, ints)), (omega (arith, ints), omega (arith, ints)), (omega (arith, ints), omega (arith, ints))); right = ((omega (arith, ints), omega (arith, ints)), (omega (arith, ints), omega (arith, ints)), (omega (arith, ints), omega (arith, ints)), (omega (arith, ints), omega (arith, ints))); top = ((omega (arith, ints), omega (arith, ints)), (omega (arith, ints), omega (arith, ints)), (omega (arith, ints), omega (arith, ints)), (omega (arith, ints), omega (arith, ints))) } in
    let outer : FourLie rule core 1 = record { left = ((omega (arith, ints), omega (arith, ints)), (omega (arith, ints), omega (arith, ints)), (omega (arith, ints), omega (arith, ints)), (omega (arith, ints), omega (arith, ints))); bottom = ((omega (arith, ints), omega (arith, ints)), (omega (arith, ints), omega (arith, ints)), (omega (arith, ints), omega (arith, ints)), (omega (arith, ints), omega (arith, ints))); right = ((omega (arith, ints), omega (arith, ints)), (omega (arith, ints), omega (arith, ints)), (omega (arith, ints), omega (arith, ints)), (omega (arith, ints), omega (arith, ints))); top = ((omega (arith, ints), omega (arith, ints)), (omega (arith, ints), omega (arith, ints)), (omega (arith, ints), omega (arith, ints)), (omega (arith, ints), omega (arith, ints))) } in
    subst (λ (made : RingRule). FitDrawing made core) (sym c.even-rule.ensures) (two_fit rule core few inner outer)
