-- Two rectangles share a square exactly where their intervals on both axes share its side.
use Rattle.std.proofs.Common.{◌≡◌, Bool, false, ◌↔◌, IsTrue, ℤ, pos, ◌-ℤ◌, ◌≤ℤ◌, SFits, w64, sym, ◌∙◌, arith}
use Rattle.std.proofs.lemmas.Bool.{false≢true}
use Rattle.std.proofs.lemmas.Int.{ints, clamps}
use Rattle.std.specs.Int.{int_max, int_min}
use Rattle.std.specs.Int.Signed.{le_z}
use Rattle.geom_rect.specs.declared.rect.Rect.{Rect}
use Rattle.geom_rect.specs.Rect.{SharePoint}
use Rattle.geom_rect.specs.inside.Rect.{ShareLength, ShareSquare}

-- both ends are between those of each interval exactly where the first is between the greater start and the last place for it
pub ShareLength-decides : (a1 a2 b1 b2 length low high last : ℤ) → pos 0 ≤ℤ length → low ≡ int_max a1 b1 → high ≡ int_min a2 b2 → last ≡ high -ℤ length
    → IsTrue (le_z low last) ↔ ShareLength a1 a2 b1 b2 length
ShareLength-decides a1 a2 b1 b2 length low high last some is_low is_high is_last = (
  λ t. (
    low,
    (
      ((omega (arith, ints, clamps), omega (arith, ints, clamps)), (omega (arith, ints, clamps), omega (arith, ints, clamps))),
      ((omega (arith, ints, clamps), omega (arith, ints, clamps)), (omega (arith, ints, clamps), omega (arith, ints, clamps))),
    ),
  ),
  λ w. let a = w.1.0 in let b = w.1.1 in sym (omega (arith, ints, clamps)),
)

-- the last place for it is a number of the machine
pub ShareLength-fits : (a1 a2 b1 b2 length high : ℤ) → pos 0 ≤ℤ length → SFits w64 a1 → SFits w64 high → high ≡ int_min a2 b2 → ShareLength a1 a2 b1 b2 length → SFits w64 (high -ℤ length)
ShareLength-fits a1 a2 b1 b2 length high some a1_fits high_fits is_high w =
    let a = w.1.0 in let b = w.1.1 in omega (arith, ints, clamps)

-- where the first test passed, the second decides
pub then_decides : (P Q R : Type 0) (r : Bool) → R ↔ (P × Q) → P → IsTrue r ↔ Q → IsTrue r ↔ R
then_decides P Q R r both p decides = (λ t. both.1 (p, decides.0 t), λ w. decides.1 ((both.0 w).1))

-- where it failed, nothing is shared
pub else_decides : (P Q R : Type 0) (r : Bool) → R ↔ (P × Q) → IsTrue r ↔ P → r ≡ false → IsTrue r ↔ R
else_decides P Q R r both decides not_so =
    (λ t. absurd (false≢true (sym not_so ∙ t)), λ w. decides.1 ((both.0 w).0))

pub ShareSquare-decides : (a b : Rect) (side : ℤ) → ShareSquare a b side ↔ (ShareLength a.x1 a.x2 b.x1 b.x2 side × ShareLength a.y1 a.y2 b.y1 b.y2 side)
ShareSquare-decides a b side = (
  λ w. let p = w.2.0 in let q = w.2.1 in
      ((w.0, ((p.0.0, p.1.0), (q.0.0, q.1.0))), (w.1, ((p.0.1, p.1.1), (q.0.1, q.1.1)))),
  λ w. let p = w.0.1 in let q = w.1.1 in
      (w.0.0, w.1.0, (((p.0.0, q.0.0), (p.0.1, q.0.1)), ((p.1.0, q.1.0), (p.1.1, q.1.1)))),
)

-- a point is a square of side 0
pub SharePoint-square : (a b : Rect) → ShareSquare a b (pos 0) ↔ SharePoint a b
SharePoint-square a b = (
  λ w. (w.0, w.1, (w.2.0.0, w.2.1.0)),
  λ w. (
    w.0,
    w.1,
    (
      (w.2.0, ((omega (arith, ints, w.2.0.0.0), omega (arith, ints, w.2.0.0.1)), (omega (arith, ints, w.2.0.1.0), omega (arith, ints, w.2.0.1.1)))),
      (w.2.1, ((omega (arith, ints, w.2.1.0.0), omega (arith, ints, w.2.1.0.1)), (omega (arith, ints, w.2.1.1.0), omega (arith, ints, w.2.1.1.1)))),
    ),
  ),
)
