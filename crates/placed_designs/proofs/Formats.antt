-- A text that is read where wires are refused is read as the same units where they are passed over.
use Rattle.std.proofs.Common.{ℕ, Bool, true, false, List, [], ◌∷◌, ◌++◌, Ok, inl, inr}
use Rattle.def_design.specs.declared.error.DefKind.{DefKind}
use Rattle.def_design.specs.declared.record.Design.{Design}
use Rattle.def_design.specs.Format.{format, ReadsDesign, ReadsPlaced}
use Rattle.reading.specs.declared.refusal.Cause.{Cause}
use Rattle.reading.specs.declared.refusal.Cause.TheVariants.{Syntax, Lex, Fault}
use Rattle.reading.specs.Outcome.{Hears}
use Rattle.reading.specs.Reading.{Text, Follows, Start, CauseAt, IsRead, IsEnding}
use Rattle.reading.specs.Word.{Token}
use Rattle.placed_designs.proofs.Asked.{fault_shown}

-- Both formats have the same units, which end the text alike.
follows_too : (a b : Bool) (before units : List (List Token)) → Follows (format a) before units → Follows (format b) before units
follows_too a b before [] follows = tt
follows_too a b before (u ∷ units) follows = (follows.0, follows.1, follows_too a b (before ++ u ∷ []) units follows.2)

abbrev start_too : (a b : Bool) (words : List Token) → Start (format a) [] words → Start (format b) [] words
start_too a b words start = record {
  units = start.units;
  part = start.part;
  whole = follows_too a b [] start.units start.whole;
  begins = start.begins;
  some = start.some;
  is = start.is;
}

ending_too : (a b : Bool) (text : Text Token) (units : List (List Token)) → IsEnding (format a) text units → IsEnding (format b) text units
ending_too a b text units ending = record { whole = follows_too a b [] units ending.whole; ends = ending.ends; rest = ending.rest; is = ending.is }

hears_too : (a b : Bool) (text heard : Text Token) (n : ℕ) → Hears (format a) text n heard → Hears (format b) text n heard
hears_too a b text heard n (inl (past, same)) = inl ((λ units ending. past units (ending_too b a text units ending)), same)
hears_too a b text heard n (inr (units, ending, first, within, is)) =
    inr (units, ending_too a b text units ending, (λ others other. first others (ending_too b a text others other)), within, is)

-- What refuses the text where wires are passed over refuses it where they are refused.
cause_too : (text : Text Token) (n : ℕ) (cause : Cause DefKind) → CauseAt (format false) text n cause → CauseAt (format true) text n cause
cause_too text n Syntax (within, starts, none) =
    (within, (λ m less. start_too false true _ (starts m less)), λ start. none (start_too true false _ start))
cause_too text n (Lex kind) is = is
cause_too text n (Fault kind) (m, within, (start, at, shown, is)) =
    (m, within, (start_too false true _ start, at, fault_shown start.units start.part (record { at = at; kind = kind }) shown, is))

read_too : (heard : Text Token) (units : List (List Token)) → IsRead (format true) heard units → IsRead (format false) heard units
read_too heard units read = record {
  whole = follows_too true false [] units read.whole;
  is = read.is;
  only = λ others follows is. read.only others (follows_too false true [] others follows) is;
  clean = λ n cause is. read.clean n cause (cause_too heard n cause is);
}

pub placed : (text : List ℕ) (design : Design) → ReadsDesign text (Ok design) → ReadsPlaced text (Ok design)
placed text design (split, is, units, (heard, hears, read), says) = (split, is, units, (heard, hears_too true false _ heard _ hears, read_too heard units read), says)
