-- A text has one record or one refusal.
use Rattle.std.proofs.Common.{◌≡◌, ◌≢◌, ℕ, List, Option, None, Result, Ok, Err, sym, ap, ◌∙◌}
use Rattle.answers.specs.declared.answer.Answer.{Answer}
use Rattle.answers.specs.declared.answer.Answer.TheVariants.{Want}
use Rattle.answers.specs.declared.kind.TextKind.{TextKind}
use Rattle.reading.specs.declared.error.ReadError.{ReadError}
use Rattle.reading.specs.Error.{Agree}
use Rattle.building.specs.Inputs.{FileText}
use Rattle.building.specs.Reading.{text_answer, IsRefused, HasRecord}

-- What is told of a reader: a text has one result.
abbrev pub HasOneResult : {R K : Type 0} → (List ℕ → Result R (ReadError K) → Type 0) → K → Type 0
HasOneResult {R} {K} reads want = (text : List ℕ) (a b : Result R (ReadError K)) → reads text a → reads text b → Agree want a b

module _ {R K : Type 0} (reads : List ℕ → Result R (ReadError K) → Type 0) (want : K) (kind_of : K → Option TextKind) (want_is : kind_of want ≡ None) (one : HasOneResult reads want) where
  -- The kind of want of memory is told as that.
  pub told_want : (t : FileText) (answer : Answer) (x : IsRefused reads kind_of t answer) → x.error.kind ≡ want → answer ≡ Want
  told_want t answer x e = x.told ∙ ap (text_answer t.file x.error.place) (ap kind_of e ∙ want_is)

  pub one_refused : (t : FileText) (a b : Answer) → a ≢ Want → b ≢ Want → IsRefused reads kind_of t a → IsRefused reads kind_of t b → a ≡ b
  one_refused t a b some_a some_b x y =
      let e : x.error ≡ y.error = one t.text (Err x.error) (Err y.error) x.refused y.refused (λ is. some_a (told_want t a x is)) (λ is. some_b (told_want t b y is)) in
      x.told ∙ ap (λ (error : ReadError K). text_answer t.file error.place (kind_of error.kind)) e ∙ sym y.told

  pub refused_or_read : (t : FileText) (a : Answer) → IsRefused reads kind_of t a → HasRecord reads t → a ≡ Want
  refused_or_read t a x (r, read) = told_want t a x (one t.text (Err x.error) (Ok r) x.refused read)

  pub one_record : (text : List ℕ) (r s : R) → reads text (Ok r) → reads text (Ok s) → r ≡ s
  one_record text r s x y = one text (Ok r) (Ok s) x y
