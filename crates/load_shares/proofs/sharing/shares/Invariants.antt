use Rattle.std.proofs.Common.{◌≡◌, map}
use Rattle.std.specs.List.{range_with_len}
use Rattle.load_shares.specs.Shares.{share_at}
use Rattle.load_shares.proofs.sharing.shares.Given as goal

abbrev pub invariant-loop-place : goal.invariant-loop-place
invariant-loop-place l = l.shares.items ≡ map (share_at l.load l.count) (range_with_len 0 l.place)
