use Rattle.std.proofs.Common.{◌≡◌, ℕ, ◌++◌, length, map, take}
use Rattle.std.specs.List.{enumerate_from}
use Rattle.load_shares.specs.Shares.{share_at}
use Rattle.pin_taps.specs.Taps.{tap_on}
use Rattle.pin_taps.proofs.blocks.share.Given as goal

abbrev pub invariant-loop-place : goal.invariant-loop-place
invariant-loop-place l = l.taps.items
    ≡ l.fn.taps.items ++ map (λ (at : ℕ × ℕ). tap_on l.pieces at.1 (share_at l.fn.load (length l.numbers) at.0)) (take l.place (enumerate_from 0 l.numbers))
