-- What files hold, and what a call does to it. A name and the bytes of a file are lists of bytes.
use Rattle.std.specs.Prelude.{◌≡◌, ◌⊎◌, ℕ, ◌<◌, List, [], ◌++◌, length, take, drop, Option, Some, unwrap_or}
use Rattle.outside.specs.Entries.{Assigns}

-- What files hold: for each name the bytes of its file, if there is such a file.
abbrev pub Holdings : Type 0
Holdings = List ℕ → Option (List ℕ)

-- The bytes under a name; a name that is not held counts as an empty file.
abbrev pub bytes_in : Holdings → List ℕ → List ℕ
bytes_in held name = unwrap_or (held name) []

-- n bytes were read into a slice: they are the file's bytes from a place on, and at least one where the slice has room
-- and the file goes past the place.
pub record IsReadAt (bytes : List ℕ) (at n : ℕ) (into : List ℕ) : Type 0 where
  pub read : take n into ≡ take n (drop at bytes)
  pub some : 0 < length into → at < length bytes → 0 < n

-- A file with no bytes stands under the name, and all other files stay.
abbrev pub MakesEmpty : List ℕ → Holdings → Holdings → Type 0
MakesEmpty name old new = Assigns name (Some []) old new

-- The first n bytes of a piece are added to the file of a name, and all other files stay.
abbrev pub Appends : List ℕ → List ℕ → ℕ → Holdings → Holdings → Type 0
Appends name piece n old new = Assigns name (Some (bytes_in old name ++ take n piece)) old new

-- The file of a name holds these bytes and no others, and all other files stay.
abbrev pub HoldsAll : List ℕ → List ℕ → Holdings → Holdings → Type 0
HoldsAll name bytes old new = Assigns name (Some bytes) old new

-- Nothing changed, or the file of a name holds the first of these bytes, perhaps none or all, and all other files stay.
abbrev pub HoldsFirst : List ℕ → List ℕ → Holdings → Holdings → Type 0
HoldsFirst name bytes old new = (new ≡ old) ⊎ ((n : ℕ) × HoldsAll name (take n bytes) old new)
