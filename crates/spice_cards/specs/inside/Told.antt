-- The error of a refusal, inside this crate.
use Rattle.reading.specs.declared.error.ReadError.{ReadError}
use Rattle.reading.specs.declared.refusal.Refusal.{Refusal}
use Rattle.reading.specs.declared.refusal.Refusal.TheVariants.{Want, At}
use Rattle.reading.specs.Error.{error_of, kind_of}
use Rattle.spice_cards.specs.declared.error.CardsKind.{CardsKind}
use Rattle.spice_cards.specs.Format.{kinds, told_at}

-- The error, at the place where its cause is told.
abbrev pub told_error : Refusal CardsKind → ReadError CardsKind
told_error Want = error_of kinds Want
told_error (At place cause) = record { place = told_at cause place; kind = kind_of kinds cause }
