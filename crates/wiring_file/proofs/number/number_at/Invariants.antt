use Rattle.std.proofs.Common.{◌≡◌, drop}
use Rattle.wiring_file.specs.Number.{quantity_at, numbers_in}
use Rattle.wiring_file.proofs.number.number_at.Given as goal

-- None of the numbers before this one stands at the place.
abbrev pub invariant-loop-place : goal.invariant-loop-place
invariant-loop-place l = quantity_at l.n (drop l.place-index l.place-items) ≡ quantity_at l.n (numbers_in l.fn.section)
