use Rattle.std.proofs.Common.{◌≡◌, ◌≤◌, pos, negsuc, length, [], ◌∷◌, ap, ◌∙◌, arith}
use Rattle.std.proofs.lemmas.Int.{ints}
use Rattle.geom_rect.specs.declared.rect.Rect.{Rect}
use Rattle.ring_layout.specs.declared.rule.RingRule.{RingRule}
use Rattle.drawing_tests.proofs.Rings.{FourLie, two_fit}
use Rattle.drawing_tests.proofs.ring_layout_tests.a_ring_of_unequal_lengths.Goals as goal

pub rings-requires-clause-within : goal.rings-requires-clause-within
rings-requires-clause-within g c =
    let rule : RingRule = record { vertical = 3; horizontal = 6; nets = c.new.result; width_v = pos 200; width_h = pos 60; spacing_v = pos 7; spacing_h = pos 9; left = pos 10; bottom = pos 3; right = negsuc 999; top = pos 5 } in
    let core : Rect = record { x1 = pos 0; y1 = pos 0; x2 = pos 8000; y2 = pos 2800 } in
    let nets : c.new.result ≡ 0 ∷ [] = c.new.ensures ∙ c.in_ok-vec.ensures.items in
    let few : length c.new.result ≤ 2 = omega (arith, ap length nets) in
    let inner : FourLie rule core 0 = record { left = ((omega (arith, ints), omega (arith, ints)), (omega (arith, ints), omega (arith, ints)), (omega (arith, ints), omega (arith, ints)), (omega (arith, ints), omega (arith, ints))); bottom = ((omega (arith, ints), omega (arith, ints)), (omega (arith, ints), omega (arith, ints)), (omega (arith, ints), omega (arith, ints)), (omega (arith, ints), omega (arith, ints))); right = ((omega (arith, ints), omega (arith, ints)), (omega (arith, ints), omega (arith, ints)), (omega (arith, ints), omega (arith, ints)), (omega (arith, ints), omega (arith, ints))); top = ((omega (arith, ints), omega (arith, ints)), (omega (arith, ints), omega (arith, ints)), (omega (arith, ints), omega (arith, ints)), (omega (arith, ints), omega (arith, ints))) } in
    let outer : FourLie rule core 1 = record { left = ((omega (arith, ints), omega (arith, ints)), (omega (arith, ints), omega (arith, ints)), (omega (arith, ints), omega (arith, ints)), (omega (arith, ints), omega (arith, ints))); bottom = ((omega (arith, ints), omega (arith, ints)), (omega (arith, ints), omega (arith, ints)), (omega (arith, ints), omega (arith, ints)), (omega (arith, ints), omega (arith, ints))); right = ((omega (arith, ints), omega (arith, ints)), (omega (arith, ints), omega (arith, ints)), (omega (arith, ints), omega (arith, ints)), (omega (arith, ints), omega (arith, ints))); top = ((omega (arith, ints), omega (arith, ints)), (omega (arith, ints), omega (arith, ints)), (omega (arith, ints), omega (arith, ints)), (omega (arith, ints), omega (arith, ints))) } in
    two_fit rule core few inner outer
