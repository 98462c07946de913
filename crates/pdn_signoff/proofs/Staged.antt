-- Of the answers of a command that reads files, makes outputs of their texts and writes these, one alone has its cause, where it is
-- known what the files hold, as far as one alone has its cause that comes of the texts.
use Rattle.std.proofs.Common.{◌≡◌, ◌≤◌, ◌<◌, ◌⊎◌, inl, inr, ℕ, Bool, true, false, List, [], Some, length, take, get_or, refl, sym, ap, subst, ◌∙◌, arith}
use Rattle.std.specs.Prelude.{bytes_eq}
use Rattle.std.proofs.lemmas.Bool.{cases_order}
use Rattle.std.proofs.lemmas.List.{get_or-take, length-take}
use Rattle.std.proofs.lemmas.Slice.Eq.{bytes_eq-Decides}
use Rattle.outside.specs.Counts.{FaultCounts, Rose}
use Rattle.outside.specs.Files.{Holdings, bytes_in}
use Rattle.outside.specs.Whole.{longest_text}
use Rattle.answers.specs.declared.answer.Answer.{Answer}
use Rattle.answers.specs.declared.answer.Answer.TheVariants.{ReadFault, WriteFault, TooLong}
use Rattle.input_files.specs.Inputs.{name_at}
use Rattle.pdn_signoff.specs.Check.{FilesThen, NoneFailed}
use Rattle.pdn_signoff.specs.Solve.{WriteFailed}
use Rattle.pdn_signoff.specs.Inputs.{IsFirstUnread, FailsToRead}
use Rattle.pdn_signoff.specs.Command.{CanRise}
use Rattle.pdn_signoff.proofs.Alike.{of_two}
use Rattle.pdn_signoff.proofs.Causes.{of_held}
use Rattle.pdn_signoff.proofs.Exclude.{rose_or_stays}

-- What comes of the texts is handed in: which answers these are, that of two of them one alone has its cause, and that each comes only
-- where no file is too long.
module _ (before after : FilesThen) (held : Holdings) (files : List (List ℕ)) (known : before.known ≡ Some held) (can : CanRise after.counts)
    (Alike : Answer → Answer → Type 0) (same : (a b : Answer) → a ≡ b → Alike a b) (Short : Answer → Type 0)
    (one_short : (a b : Answer) → Short a → Short b → Alike a b)
    (fits : (a : Answer) → Short a → (place : ℕ) → place < length files → length (bytes_in held (name_at files place)) ≤ longest_text) where
  -- The kinds of answers: a file could not be read, or an output not be written; or no call failed, and a file is too long, or the
  -- answer comes of the texts.
  pub record IsUnread (a : Answer) : Type 0 where
    pub file : List ℕ
    pub told : a ≡ ReadFault file
    pub fails : FailsToRead before after file

  pub record IsUnwritten (a : Answer) : Type 0 where
    pub file : List ℕ
    pub told : a ≡ WriteFault file
    pub fails : WriteFailed before after file

  pub record IsLong (a : Answer) : Type 0 where
    pub file : List ℕ
    pub told : a ≡ TooLong file
    pub place : ℕ
    pub first : IsFirstUnread (Some held) files file place
    pub long : longest_text < length (bytes_in held file)

  abbrev pub IsQuiet : Answer → Type 0
  IsQuiet a = NoneFailed before after × (IsLong a ⊎ Short a)

  abbrev pub IsStage : Answer → Type 0
  IsStage a = IsUnread a ⊎ (IsUnwritten a ⊎ IsQuiet a)

  -- ---- each kind has one answer
  read_rose : (file : List ℕ) → FailsToRead before after file → Rose (before.counts.reads file) (after.counts.reads file)
  read_rose file fails = of_held (λ _. Rose (before.counts.reads file) (after.counts.reads file)) before.known held known fails.failed.failed_read

  write_rose : (file : List ℕ) → WriteFailed before after file → Rose (before.counts.writes file) (after.counts.writes file)
  write_rose file fails = of_held (λ _. Rose (before.counts.writes file) (after.counts.writes file)) before.known held known fails.failed_write

  one_read : (g h : List ℕ) (equal : Bool) → bytes_eq g h ≡ equal → FailsToRead before after g → FailsToRead before after h → g ≡ h
  one_read g h true is x y = (bytes_eq-Decides g h).0 is
  one_read g h false is x y = absurd (rose_or_stays _ _ (read_rose g x) (y.only.reads g (λ e. let clash = sym is ∙ (bytes_eq-Decides g h).1 e in cc)) (can.reads g))

  one_written : (g h : List ℕ) (equal : Bool) → bytes_eq g h ≡ equal → WriteFailed before after g → WriteFailed before after h → g ≡ h
  one_written g h true is x y = (bytes_eq-Decides g h).0 is
  one_written g h false is x y = absurd (rose_or_stays _ _ (write_rose g x) (y.only.writes g (λ e. let clash = sym is ∙ (bytes_eq-Decides g h).1 e in cc)) (can.writes g))

  one_unread : (a b : Answer) → IsUnread a → IsUnread b → Alike a b
  one_unread a b x y = same a b (x.told ∙ ap ReadFault (one_read x.file y.file (bytes_eq x.file y.file) refl x.fails y.fails) ∙ sym y.told)

  one_unwritten : (a b : Answer) → IsUnwritten a → IsUnwritten b → Alike a b
  one_unwritten a b x y = same a b (x.told ∙ ap WriteFault (one_written x.file y.file (bytes_eq x.file y.file) refl x.fails y.fails) ∙ sym y.told)

  -- A file before the first that was not read is not too long.
  earlier_fits : (file other : List ℕ) (place later : ℕ) → place < later → IsFirstUnread (Some held) files file place → IsFirstUnread (Some held) files other later → length (bytes_in held file) ≤ longest_text
  earlier_fits file other place later before_it x y =
      let inside : place < length (take later files) = omega (arith, before_it, y.below, length-take later files) in
      let short : length (bytes_in held (get_or (take later files) place [])) ≤ longest_text = y.earlier place [] inside in
      let there : get_or (take later files) place [] ≡ get_or files place [] = get_or-take later files place [] before_it in
      subst (λ (n : List ℕ). length (bytes_in held n) ≤ longest_text) (there ∙ sym x.is) short

  one_place : (a b : Answer) (x : IsLong a) (y : IsLong b) → (x.place ≡ y.place) ⊎ ((x.place < y.place) ⊎ (y.place < x.place)) → x.file ≡ y.file
  one_place a b x y (inl equal) = x.first.is ∙ ap (name_at files) equal ∙ sym y.first.is
  one_place a b x y (inr (inl less)) = let short = earlier_fits x.file y.file x.place y.place less x.first y.first in absurd (omega (arith, short, x.long))
  one_place a b x y (inr (inr more)) = let short = earlier_fits y.file x.file y.place x.place more y.first x.first in absurd (omega (arith, short, y.long))

  one_long : (a b : Answer) → IsLong a → IsLong b → Alike a b
  one_long a b x y = same a b (x.told ∙ ap TooLong (one_place a b x y (cases_order x.place y.place)) ∙ sym y.told)

  long_or_short : (a b : Answer) → IsLong a → Short b → ⊥
  long_or_short a b x y =
      let short = subst (λ (n : List ℕ). length (bytes_in held n) ≤ longest_text) (sym x.first.is) (fits b y x.place x.first.below) in
      omega (arith, short, x.long)

  one_quiet : (a b : Answer) → (IsLong a ⊎ Short a) → (IsLong b ⊎ Short b) → Alike a b
  one_quiet = of_two Alike IsLong Short one_long one_short long_or_short

  one_later : (a b : Answer) → (IsUnwritten a ⊎ IsQuiet a) → (IsUnwritten b ⊎ IsQuiet b) → Alike a b
  one_later =
      of_two Alike IsUnwritten IsQuiet one_unwritten (λ a b x y. one_quiet a b x.1 y.1)
      (λ a b x y. rose_or_stays _ _ x.fails.fault (ap (λ (k : FaultCounts). k.faults) y.0) can.faults)

  not_unread : (a b : Answer) → IsUnread a → (IsUnwritten b ⊎ IsQuiet b) → ⊥
  not_unread a b x (inl y) = rose_or_stays _ _ (read_rose x.file x.fails) (ap (λ (g : List ℕ → ℕ). g x.file) y.fails.only.reads) (can.reads x.file)
  not_unread a b x (inr y) = rose_or_stays _ _ x.fails.failed.fault (ap (λ (k : FaultCounts). k.faults) y.0) can.faults

  pub one_of_all : (a b : Answer) → IsStage a → IsStage b → Alike a b
  one_of_all = of_two Alike IsUnread (λ a. IsUnwritten a ⊎ IsQuiet a) one_unread one_later not_unread
