-- The first bytes of a name as one number, inside this crate.
use Rattle.std.specs.Prelude.{ℕ, zero, suc, ◌+◌, ◌*◌, List, [], ◌∷◌, ◌++◌, drop}
use Rattle.std.specs.List.{flat_map}
use Rattle.std.specs.Hash as fed

-- So many bytes of these, the first highest, after what stands before them. Those that are lacking count as 0.
unfoldable pub head_from : ℕ → ℕ → List ℕ → ℕ
head_from before zero bytes = before
head_from before (suc more) [] = head_from (before * 256) more []
head_from before (suc more) (byte ∷ bytes) = head_from (before * 256 + byte) more bytes

-- What is hashed of a name in lower case: its head, and its other bytes one by one.
abbrev pub writes_of : List ℕ → List (List ℕ)
writes_of name = fed.u128 (head_from 0 16 name) ++ flat_map fed.u8 (drop 16 name)
