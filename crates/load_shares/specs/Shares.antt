-- The shares of a load over pieces (this project).
use Rattle.std.specs.Prelude.{ℕ, ◌+◌, ◌/◌, ◌%◌, ℤ, pos, negsuc, neg_ℤ, ◌+ℤ◌, unsigned_abs, nat_lt, if◌then◌else◌, List, map}
use Rattle.std.specs.List.{fold, range_with_len}
use Rattle.load_shares.specs.declared.share.Share.{Share}

-- The magnitude of the share at a place, from 0: the equal part, rounded down, and one more at each of the first places, as
-- many as units remain.
abbrev pub share_size : ℕ → ℕ → ℕ → ℕ
share_size whole count place = whole / count + (if nat_lt place (whole % count) then 1 else 0)

-- A magnitude with the sign of a number.
abbrev pub with_sign_of : ℤ → ℕ → ℤ
with_sign_of (pos whole) size = pos size
with_sign_of (negsuc whole) size = neg_ℤ (pos size)

-- The share of one end of a load: it has the sign of the end.
abbrev pub end_share : ℤ → ℕ → ℕ → ℤ
end_share whole count place = with_sign_of whole (share_size (unsigned_abs whole) count place)

-- The share of both ends.
abbrev pub share_at : Share → ℕ → ℕ → Share
share_at load count place = record { low = end_share load.low count place; high = end_share load.high count place }

-- All shares, in the order of the places.
abbrev pub shares_of : Share → ℕ → List Share
shares_of load count = map (share_at load count) (range_with_len 0 count)

-- The sum of one end of shares.
abbrev pub total : (Share → ℤ) → List Share → ℤ
total end shares = fold (λ (sum : ℤ) (share : Share). sum +ℤ end share) (pos 0) shares
