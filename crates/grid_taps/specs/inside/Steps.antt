-- What the steps to pads and taps keep.
use Rattle.std.specs.Prelude.{◌≡◌, ℕ, ℤ, min, List, map, Contains, length, slice_index_or, Option, MatchOption, Some, None}
use Rattle.bias_file.specs.declared.record.Supply.{Supply}
use Rattle.grid_pieces.specs.declared.piece.Piece.{Piece}
use Rattle.grid_pieces.specs.Line.{piece_rect}
use Rattle.grid_pieces.specs.Piece.{Among}
use Rattle.rect_index.specs.declared.entry.Entry.{Entry}
use Rattle.grid_taps.specs.Naming.{At}

-- The lesser of two numbers that may be there.
abbrev pub lesser : Option ℕ → Option ℕ → Option ℕ
lesser None b = b
lesser (Some a) None = Some a
lesser (Some a) (Some b) = Some (min a b)

-- One of the list has this number and the property.
abbrev pub NumberAmong : {X : Type 0} → (X → ℕ) → (X → Type 0) → List X → ℕ → Type 0
NumberAmong {X} number_of P xs n = Among (λ (x : X). (number_of x ≡ n) × P x) xs

abbrev pub supply_names : List Supply → List (List ℕ)
supply_names supplies = map (λ (s : Supply). s.net) supplies

-- ## supplies

-- The potential of the net, or that no line is of it.
abbrev pub HasVolts : List Supply → List ℕ → Option ℤ → Type 0
HasVolts supplies net volts = MatchOption volts ((s : Supply) → Contains supplies s → s.net ≡ net → ⊥)
    (λ v. Among (λ (s : Supply). (s.net ≡ net) × (s.volts ≡ v)) supplies)

-- Those of all nets, in turn.
pub record AreVolts (supplies : List Supply) (nets : List (List ℕ)) (volts : List (Option ℤ)) : Type 0 where
  pub as_many : length volts ≡ length nets
  pub each : (k : ℕ) (net : List ℕ) (d : Option ℤ) → At nets k net → HasVolts supplies net (slice_index_or volts k d)

-- The potential at a place of the list; none behind its end.
abbrev pub IsVolts : List (Option ℤ) → ℕ → Option ℤ → Type 0
IsVolts volts net o = o ≡ slice_index_or volts net None

-- ## pieces in an index

abbrev pub piece_entry : ℕ → Piece → Entry ℕ
piece_entry number piece = record { group = piece.net; rect = piece_rect piece; item = number }

-- An entry for each piece, with its number.
pub record ArePieceEntries (pieces : List Piece) (entries : List (Entry ℕ)) : Type 0 where
  pub as_many : length entries ≡ length pieces
  pub each : (k : ℕ) (piece : Piece) (d : Entry ℕ) → At pieces k piece → slice_index_or entries k d ≡ piece_entry k piece
