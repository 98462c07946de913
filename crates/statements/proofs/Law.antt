-- The laws that the format owes.
use Rattle.std.specs.Prelude.{codes}
use Rattle.std.proofs.Common.{◌≡◌, ℕ, Bool, true, List, [], ◌∷◌, ◌+◌, length, refl, inr, ap, arith}
use Rattle.reading.specs.declared.word.Form.{Form}
use Rattle.reading.specs.declared.word.Form.TheVariants.{Bare, End}
use Rattle.reading.specs.declared.refusal.Found.{Found}
use Rattle.reading.specs.Word.{Token}
use Rattle.reading.specs.Tests.{HasSamples}
use Rattle.reading.specs.Grammar.{IsRegular}
use Rattle.reading.specs.Laws.{IsImmediate, immediate}
use Rattle.statements.specs.declared.fault.Kind.{Kind}
use Rattle.statements.specs.declared.sort.Sort.{Sort}
use Rattle.statements.specs.declared.sort.Sort.TheVariants.{Set, Semicolon, Bracket, Other, TextEnd}
use Rattle.statements.specs.declared.section.Section.{Section}
use Rattle.statements.specs.declared.section.Section.TheVariants.{Statements}
use Rattle.statements.specs.Sort.{all_sorts, sort_with, sort_of}
use Rattle.statements.specs.Rule.{pattern_of}
use Rattle.statements.specs.Fault.{fault_of}
use Rattle.statements.specs.Format.{statements_format}

-- A word of these bytes.
abbrev pub word_of : Form → List ℕ → Token
word_of form text = record { text = text; place = record { line = 1; word = 1 }; form = form }

-- Each sort has words.
abbrev pub every : Section → Sort → Bool
every section sort = true

samples : (c : Section) → HasSamples sort_of (every c)
samples c Set usable = (word_of Bare (codes "SET"), refl)
samples c Semicolon usable = (word_of Bare (codes ";"), refl)
samples c Bracket usable = (word_of Bare (codes "("), refl)
samples c Other usable = (word_of Bare [], refl)
samples c TextEnd usable = (word_of End [], refl)

pub ends : (w : Token) → w.form ≡ End → sort_of w ≡ TextEnd
ends w h = ap (λ form. sort_with form w.text) h

last : (part : List Token) (a : Found Kind) → fault_of part a → a.at + 1 ≡ length part
last (keyword ∷ name ∷ number ∷ []) a h = omega (arith, ap (λ (z : Found Kind). z.at) h.1)
last part a h = absurd h

one : (part : List Token) (a b : Found Kind) → fault_of part a → fault_of part b → b.kind ≡ a.kind
one (keyword ∷ name ∷ number ∷ []) a b h k = ap (λ (z : Found Kind). z.kind) (let e : b ≡ a = cc in e)
one part a b h k = absurd h

faults : IsImmediate statements_format
faults = record { last = λ units. last; one = λ units. one }

pub regular : IsRegular all_sorts pattern_of statements_format
regular = record {
  usable = every;
  place = λ units. Statements;
  follow = λ units. refl;
  samples = λ units. samples Statements;
  begun = refl;
  end = TextEnd;
  ends = λ units. ends;
  units = λ c. record { solid = inr refl; closes = refl; comes_last = refl };
  orderly = immediate statements_format faults;
}
