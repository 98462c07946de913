-- What reading a text into a record gives: the record, or the error with its place and kind.
use Rattle.std.specs.Prelude.{◌≡◌, ◌≢◌, ◌⊎◌, ℕ, List, Result, Ok, Err}
use Rattle.text_lex.specs.declared.word.Mode.{Mode}
use Rattle.text_lex.specs.declared.word.LexKind.{LexKind}
use Rattle.text_lex.specs.Split.{Split, IsSplit}
use Rattle.reading.specs.declared.error.ReadError.{ReadError}
use Rattle.reading.specs.declared.refusal.Cause.{Cause}
use Rattle.reading.specs.declared.refusal.Cause.TheVariants.{Syntax, Lex, Fault}
use Rattle.reading.specs.declared.refusal.Refusal.{Refusal}
use Rattle.reading.specs.declared.refusal.Refusal.TheVariants.{Want, At}
use Rattle.reading.specs.Outcome.{IsRefusedAt, IsReadAs}
use Rattle.reading.specs.Reading.{Format}
use Rattle.reading.specs.Word.{Token, seen_text}

-- The kinds of a format that are not its own: words that are no start, want of memory, words that are refused for
-- themselves.
pub record Kinds (K : Type 0) : Type 0 where
  pub syntax : K
  pub want : K
  pub word : LexKind → K

-- The kind of a cause.
abbrev pub kind_of : {K : Type 0} → Kinds K → Cause K → K
kind_of kinds Syntax = kinds.syntax
kind_of kinds (Lex kind) = kinds.word kind
kind_of kinds (Fault kind) = kind

-- Want of memory, which has no place.
abbrev pub want_error : {K : Type 0} → Kinds K → ReadError K
want_error kinds = record { place = record { line = 1; word = 1 }; kind = kinds.want }

-- The error of a refusal.
abbrev pub error_of : {K : Type 0} → Kinds K → Refusal K → ReadError K
error_of kinds Want = want_error kinds
error_of kinds (At place cause) = record { place = place; kind = kind_of kinds cause }

-- What reading the bytes of a text gives, which are split in this mode: the record of its one list of whole units, or
-- its one refusal with place and kind; want of memory aside.
abbrev pub ReadsRecord : {R S K : Type 0} → Kinds K → Mode → List ℕ → Format Token S K →
    (List (List Token) → R → Type 0) →
    Result R (ReadError K) → Type 0
ReadsRecord kinds mode bytes f is (Ok told) =
    (split : Split) × IsSplit mode bytes split × (units : List (List Token)) × IsReadAs f (seen_text split) units
    × is units told
ReadsRecord {K = K} kinds mode bytes f is (Err error) =
    (error.kind ≡ kinds.want)
    ⊎ ((split : Split) × IsSplit mode bytes split × (cause : Cause K)
    × IsRefusedAt f (seen_text split) error.place cause
    × (kind_of kinds cause ≡ error.kind))

-- Two answers are one record or one error, or one of them is for want of memory.
abbrev pub Agree : {R K : Type 0} → K → Result R (ReadError K) → Result R (ReadError K) → Type 0
Agree want (Ok a) (Ok b) = a ≡ b
Agree want (Err a) (Err b) = a.kind ≢ want → b.kind ≢ want → a ≡ b
Agree want (Ok a) (Err b) = b.kind ≡ want
Agree want (Err a) (Ok b) = a.kind ≡ want
