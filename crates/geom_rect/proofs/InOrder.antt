-- A rectangle that grows outward stays in order.
use Rattle.std.proofs.Common.{ℤ, pos, ◌≤ℤ◌, arith}
use Rattle.std.proofs.lemmas.Int.{ints}
use Rattle.geom_rect.specs.declared.rect.Rect.{Rect}
use Rattle.geom_rect.specs.Rect.{IsInOrder, grown_by}

pub IsInOrder-grown_by : (a : Rect) (by : ℤ) → IsInOrder a → pos 0 ≤ℤ by → IsInOrder (grown_by a by)
IsInOrder-grown_by a by in_order up =
    let in_x = in_order.0 in let in_y = in_order.1 in (omega (arith, ints), omega (arith, ints))
