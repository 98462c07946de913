-- When an entry of an index is found.
use Rattle.std.proofs.Common.{◌≡◌, ◌↔◌, IsTrue, Bool, true, false, ◌&&◌, ◌==◌, ℕ, ◌<ℤ◌, refl, sym, arith}
use Rattle.std.specs.Int.{int_max, int_min}
use Rattle.std.proofs.lemmas.Bool.{false≢true}
use Rattle.std.proofs.lemmas.Int.{ints, clamps}
use Rattle.geom_rect.specs.declared.run.Run.{Run}
use Rattle.run_index.specs.Entry.{share_cell}

pub and_both : (a b : Bool) → IsTrue (a && b) → IsTrue a × IsTrue b
and_both true b h = (refl, h)
and_both false b h = absurd (false≢true h)

pub and_of : (a b : Bool) → IsTrue a → IsTrue b → IsTrue (a && b)
and_of true b a_is b_is = b_is
and_of false b a_is b_is = absurd (false≢true a_is)

-- the entry's cells across and those of the window share one
pub wide_iff : (a w : Run) → IsTrue (share_cell a w) ↔ (int_max w.from a.from <ℤ int_min w.to a.to)
wide_iff a w = (λ h. omega (arith, ints, clamps), λ h. sym (omega (arith, ints, clamps)))

pub place_of_true : (k l : ℕ) → IsTrue (k == l) → k ≡ l
place_of_true k l h = grind arith
