-- Whole files: how long one may be, and what a refusal of the outside means for it.
use Rattle.std.specs.Prelude.{ℕ, ◌^◌}
use Rattle.outside.specs.declared.files.Refusal.{Refusal}
use Rattle.outside.specs.declared.files.Refusal.TheVariants as refusal
use Rattle.outside.specs.declared.whole.ReadError.{ReadError}
use Rattle.outside.specs.declared.whole.ReadError.TheVariants as reading
use Rattle.outside.specs.declared.whole.WriteError.{WriteError}
use Rattle.outside.specs.declared.whole.WriteError.TheVariants as writing

-- The most bytes that an input file may have.
abbrev pub longest_text : ℕ
longest_text = 2 ^ 28

-- A failed read is a fault of reading.
abbrev pub read_error_of : Refusal → ReadError
read_error_of refusal.Failed = reading.ReadFault
read_error_of refusal.Want = reading.Want

-- A failed write is a fault of writing.
abbrev pub write_error_of : Refusal → WriteError
write_error_of refusal.Failed = writing.WriteFault
write_error_of refusal.Want = writing.Want
