-- Of the answers other than want of memory, one alone has its cause, where it is known what the files hold.
use Rattle.std.proofs.Common.{◌≡◌, ◌≢◌, ◌≤◌, ◌<◌, ◌⊎◌, inl, inr, ℕ, Bool, true, false, List, Some, length, refl, sym, ap, subst, ◌∙◌, arith}
use Rattle.std.specs.Prelude.{bytes_eq}
use Rattle.std.proofs.lemmas.Slice.Eq.{bytes_eq-Decides}
use Rattle.outside.specs.Counts.{FaultCounts, Rose, last_count}
use Rattle.outside.specs.Files.{Holdings, bytes_in}
use Rattle.outside.specs.Whole.{longest_text}
use Rattle.answers.specs.declared.answer.Answer.{Answer}
use Rattle.answers.specs.declared.answer.Answer.TheVariants.{Usage, Want, ReadFault, WriteFault, TooLong, Refused, NoGrid, Range, TooManySteps, PadConflict, FloatingCapacitor, Unsupplied, Built, SignedOff, Generated, Solved, Stepped, Certified, NotCertified}
use Rattle.judging.specs.Judging.{Judges}
use Rattle.pdn_signoff.specs.declared.design_files.DesignFiles.{DesignFiles}
use Rattle.pdn_signoff.specs.Words.{IsCheck, IsGenerate, IsNotSolve, IsNotBuild, IsNotStep, IsNotSignoff, IsUsage}
use Rattle.pdn_signoff.specs.Check.{FilesThen, NoneFailed, JudgesFiles, Answers}
use Rattle.pdn_signoff.specs.Solve.{SolverThen, WriteFailed}
use Rattle.pdn_signoff.specs.Generate.{Generates}
use Rattle.pdn_signoff.specs.Command.{IsCause, CanRise}
use Rattle.pdn_signoff.proofs.Causes.{AreLaws, of_held, one_netlist, one_certificate_file, same_generate, check_writes_nothing}
use Rattle.pdn_signoff.proofs.Generating.{IsMadeStage, made_stage, failed_write}

module _ (file_n file_c n c : List ℕ) where
  -- The answers over two files that are held, each with its cause.
  abbrev pub IsLongNetlist : Answer → Type 0
  IsLongNetlist a = (a ≡ TooLong file_n) × (longest_text < length n)

  abbrev pub IsLongCertificate : Answer → Type 0
  IsLongCertificate a = (a ≡ TooLong file_c) × (length n ≤ longest_text) × (longest_text < length c)

  abbrev pub IsJudged : Answer → Type 0
  IsJudged a = (a ≢ Want) × (length n ≤ longest_text) × (length c ≤ longest_text) × Judges file_n file_c n c a

  abbrev pub IsStage : Answer → Type 0
  IsStage a = IsLongNetlist a ⊎ (IsLongCertificate a ⊎ IsJudged a)

-- Two answers are one, where each of two kinds has one answer and the kinds exclude each other.
pub one_of_two : (P Q : Answer → Type 0) → ((a b : Answer) → P a → P b → a ≡ b) → ((a b : Answer) → Q a → Q b → a ≡ b) → ((a b : Answer) → P a → Q b → ⊥) → (a b : Answer) → (P a ⊎ Q a) → (P b ⊎ Q b) → a ≡ b
one_of_two P Q one_p one_q apart a b (inl x) (inl y) = one_p a b x y
one_of_two P Q one_p one_q apart a b (inl x) (inr y) = absurd (apart a b x y)
one_of_two P Q one_p one_q apart a b (inr x) (inl y) = absurd (apart b a y x)
one_of_two P Q one_p one_q apart a b (inr x) (inr y) = one_q a b x y

module _ (laws : AreLaws) (file_n file_c n c : List ℕ) where
  one_judged : (a b : Answer) → IsJudged file_n file_c n c a → IsJudged file_n file_c n c b → a ≡ b
  one_judged a b x y = laws.one file_n file_c n c a b x.3 y.3 x.0 y.0

  one_of_short : (a b : Answer) → (IsLongCertificate file_n file_c n c a ⊎ IsJudged file_n file_c n c a) → (IsLongCertificate file_n file_c n c b ⊎ IsJudged file_n file_c n c b) → a ≡ b
  one_of_short = one_of_two _ _ (λ a b x y. x.0 ∙ sym y.0) one_judged (λ a b x y. omega (arith, x.2, y.2))

  one_stage : (a b : Answer) → IsStage file_n file_c n c a → IsStage file_n file_c n c b → a ≡ b
  one_stage = one_of_two _ _ (λ a b x y. x.0 ∙ sym y.0) one_of_short (λ a b x y. elim y [
    | inl long ↦ omega (arith, x.1, long.1)
    | inr judged ↦ omega (arith, x.1, judged.1)
  ])

-- A count that rose has not stayed, where it can rise.
pub rose_or_stays : (old new : ℕ) → Rose old new → new ≡ old → new ≢ last_count → ⊥
rose_or_stays old new (inl more) same can = omega arith
rose_or_stays old new (inr last) same can = can last

module _ (before after : FilesThen) (held : Holdings) (file_n file_c : List ℕ) where
  -- The answers to a file that could not be read, each with its cause.
  abbrev pub IsNetlistUnread : Answer → Type 0
  IsNetlistUnread a = (a ≡ ReadFault file_n) × Rose before.counts.faults after.counts.faults × Rose (before.counts.reads file_n) (after.counts.reads file_n)

  abbrev pub IsCertificateUnread : Answer → Type 0
  IsCertificateUnread a = (a ≡ ReadFault file_c) × Rose before.counts.faults after.counts.faults × (length (bytes_in held file_n) ≤ longest_text) × (file_n ≢ file_c → after.counts.reads file_n ≡ before.counts.reads file_n)

  abbrev pub IsUnread : Answer → Type 0
  IsUnread a = IsNetlistUnread a ⊎ IsCertificateUnread a

  -- No read failed, and the answer is one of those over two files that are held.
  abbrev pub IsQuiet : Answer → Type 0
  IsQuiet a = NoneFailed before after × IsStage file_n file_c (bytes_in held file_n) (bytes_in held file_c) a

  -- The two files are one, or the netlist could be read before the certificate.
  one_file : (same : Bool) → bytes_eq file_n file_c ≡ same → CanRise after.counts → (a b : Answer) → IsNetlistUnread a → IsCertificateUnread b → a ≡ b
  one_file true is can a b x y = x.0 ∙ ap ReadFault ((bytes_eq-Decides file_n file_c).0 is) ∙ sym y.0
  one_file false is can a b x y = absurd (rose_or_stays _ _ x.2 (y.3 (λ e. let clash = sym is ∙ (bytes_eq-Decides file_n file_c).1 e in cc)) (can.reads file_n))

  one_unread : CanRise after.counts → (a b : Answer) → IsUnread a → IsUnread b → a ≡ b
  one_unread can a b (inl x) (inl y) = x.0 ∙ sym y.0
  one_unread can a b (inl x) (inr y) = one_file (bytes_eq file_n file_c) refl can a b x y
  one_unread can a b (inr x) (inl y) = sym (one_file (bytes_eq file_n file_c) refl can b a y x)
  one_unread can a b (inr x) (inr y) = x.0 ∙ sym y.0

  fault_of : (a : Answer) → IsUnread a → Rose before.counts.faults after.counts.faults
  fault_of a (inl x) = x.1
  fault_of a (inr x) = x.1

  pub one_of_all : AreLaws → CanRise after.counts → (a b : Answer) → (IsUnread a ⊎ IsQuiet a) → (IsUnread b ⊎ IsQuiet b) → a ≡ b
  one_of_all laws can = one_of_two IsUnread IsQuiet (one_unread can) (λ a b x y. one_stage laws file_n file_c (bytes_in held file_n) (bytes_in held file_c) a b x.1 y.1) (λ a b x y. rose_or_stays _ _ (fault_of a x) (ap (λ (c : FaultCounts). c.faults) y.0) can.faults)

-- An answer to two texts is at the last stage.
judged_stage : (before after : FilesThen) (held : Holdings) (n c : List ℕ) (a : Answer) → before.known ≡ Some held → a ≢ Want → JudgesFiles before after n c a → IsUnread before after held n c a ⊎ IsQuiet before after held n c a
judged_stage before after held n c a known some (none, (nt, ct, texts, judged)) =
    let en = of_held (λ h. nt ≡ bytes_in h n) before.known held known texts.netlist_is in
    let ec = of_held (λ h. ct ≡ bytes_in h c) before.known held known texts.certificate_is in
    inr (
      none,
      inr (inr (
        some,
        subst (λ t. length t ≤ longest_text) en texts.netlist_fits,
        subst (λ t. length t ≤ longest_text) ec texts.certificate_fits,
        subst (λ t. Judges n c (bytes_in held n) t a) ec (subst (λ t. Judges n c t ct a) en judged),
      )),
    )

-- An answer over two files that are held is to a file that could not be read, or is at one of the later stages.
stage_of : (before after : FilesThen) (held : Holdings) (n c : List ℕ) (a : Answer) → before.known ≡ Some held → a ≢ Want → Answers before after n c a → IsUnread before after held n c a ⊎ IsQuiet before after held n c a
stage_of before after held n c Usage known some why = absurd why
stage_of before after held n c Want known some why = absurd (some refl)
stage_of before after held n c (ReadFault file) known some why =
    elim why [
      | inl first ↦ inl (inl (ap ReadFault first.0, first.1.fault, of_held (λ _. Rose (before.counts.reads n) (after.counts.reads n)) before.known held known first.1.failed_read))
      | inr second ↦ inl (inr (ap ReadFault second.0, second.2.fault, of_held (λ h. length (bytes_in h n) ≤ longest_text) before.known held known second.1.fits, second.1.no_fault))
    ]
stage_of before after held n c (TooLong file) known some why =
    elim why.1 [
      | inl first ↦ inr (why.0, inl (ap TooLong first.0, of_held (λ h. longest_text < length (bytes_in h n)) before.known held known first.1))
      | inr second ↦ inr (why.0, inr (inl (ap TooLong second.0, of_held (λ h. length (bytes_in h n) ≤ longest_text) before.known held known second.1, of_held (λ h. longest_text < length (bytes_in h c)) before.known held known second.2)))
    ]
stage_of before after held n c (Refused file place kind) known some why = judged_stage before after held n c (Refused file place kind) known some why
stage_of before after held n c (NoGrid refusal) known some why = absurd why
stage_of before after held n c (Range quantity at number) known some why = judged_stage before after held n c (Range quantity at number) known some why
stage_of before after held n c (PadConflict node first second) known some why = judged_stage before after held n c (PadConflict node first second) known some why
stage_of before after held n c (WriteFault file) known some why = absurd why
stage_of before after held n c (Unsupplied node) known some why = absurd why
stage_of before after held n c (Built built) known some why = absurd why
stage_of before after held n c Generated known some why = absurd why
stage_of before after held n c (FloatingCapacitor node) known some why = absurd why
stage_of before after held n c (TooManySteps number) known some why = absurd why
stage_of before after held n c (Stepped nodes steps) known some why = absurd why
stage_of before after held n c (SignedOff numbers) known some why = absurd why
stage_of before after held n c (Solved nodes resistors sweeps) known some why = absurd why
stage_of before after held n c (Certified nodes) known some why = judged_stage before after held n c (Certified nodes) known some why
stage_of before after held n c (NotCertified node side found) known some why = judged_stage before after held n c (NotCertified node side found) known some why

-- ---- the five files of a design
module _ (before after : FilesThen) (held : Holdings) (number side : ℕ) (files : DesignFiles) (known : before.known ≡ Some held) (can : CanRise after.counts) where
  -- The writes of one file alone failed.
  one_failed : (f g : List ℕ) (same : Bool) → bytes_eq f g ≡ same → WriteFailed before after f → WriteFailed before after g → f ≡ g
  one_failed f g true is x y = (bytes_eq-Decides f g).0 is
  one_failed f g false is x y =
      let rose = of_held (λ _. Rose (before.counts.writes f) (after.counts.writes f)) before.known held known x.failed_write in
      absurd (rose_or_stays _ _ rose (y.only.writes f (λ e. let clash = sym is ∙ (bytes_eq-Decides f g).1 e in cc)) (can.writes f))

  failed_or_calm : (f : List ℕ) → WriteFailed before after f → NoneFailed before after → ⊥
  failed_or_calm f x calm = rose_or_stays _ _ x.fault (ap (λ (c : FaultCounts). c.faults) calm) can.faults

  one_made_stage : (a b : Answer) → a ≢ Want → b ≢ Want → IsMadeStage before after number side files a → IsMadeStage before after number side files b → a ≡ b
  one_made_stage a b some_a some_b (inl want) y = absurd (some_a want)
  one_made_stage a b some_a some_b (inr x) (inl want) = absurd (some_b want)
  one_made_stage a b some_a some_b (inr (inl (f, told, x))) (inr (inl (g, told', y))) =
      told ∙ ap WriteFault (one_failed f g (bytes_eq f g) refl (failed_write before after number side files f x) (failed_write before after number side files g y)) ∙ sym told'
  one_made_stage a b some_a some_b (inr (inl (f, told, x))) (inr (inr (told', calm, holds))) = absurd (failed_or_calm f (failed_write before after number side files f x) calm)
  one_made_stage a b some_a some_b (inr (inr (told, calm, holds))) (inr (inl (g, told', y))) = absurd (failed_or_calm g (failed_write before after number side files g y) calm)
  one_made_stage a b some_a some_b (inr (inr (told, calm, holds))) (inr (inr (told', calm', holds'))) = told ∙ sym told'

  one_made : (a b : Answer) → a ≢ Want → b ≢ Want → Generates before after number side files a → Generates before after number side files b → a ≡ b
  one_made a b some_a some_b x y = one_made_stage a b some_a some_b (made_stage before after number side files a x) (made_stage before after number side files b y)

-- Of the answers other than want of memory, one alone has its cause.
pub one_answer : AreLaws → (words : List (List ℕ)) (solver solver' : SolverThen) (before after : FilesThen) (held : Holdings) (a b : Answer) → before.known ≡ Some held → CanRise after.counts → IsNotSolve words → IsNotBuild words → IsNotStep words → IsNotSignoff words
    → IsCause words solver solver' before after a → IsCause words solver solver' before after b → a ≢ Want → b ≢ Want → a ≡ b
one_answer laws words solver solver' before after held a b known can not_solve not_build not_step not_signoff x y some_a some_b =
    one_of_two Used (λ p. Over p ⊎ Made p) (λ p q e f. e.0 ∙ sym f.0) (one_of_two Over Made one_over one_of_made over_or_made) used_or_not a b (settled a some_a x) (settled b some_b y)
  where
    Used : Answer → Type 0
    Used p = (p ≡ Usage) × IsUsage words

    Over : Answer → Type 0
    Over p = (p ≢ Want) × ((netlist : List ℕ) × (certificate : List ℕ) × IsCheck words netlist certificate × Answers before after netlist certificate p)

    Made : Answer → Type 0
    Made p = (p ≢ Want) × ((number : ℕ) × (side : ℕ) × (files : DesignFiles) × IsGenerate words number side files × Generates before after number side files p)

    settled : (p : Answer) → p ≢ Want → IsCause words solver solver' before after p → Used p ⊎ (Over p ⊎ Made p)
    settled p some cause = elim cause [
      | inl (kept, inl want) ↦ absurd (some want)
      | inl (kept, inr used) ↦ inl (used.0, used.1)
      | inr (inl (n, c, is, kept, why)) ↦ inr (inl (some, (n, c, is, why)))
      | inr (inr (inl (n, c, r, is, why))) ↦ absurd (not_solve n c r is)
      | inr (inr (inr (inl made))) ↦ inr (inr (some, made))
      | inr (inr (inr (inr (inl built)))) ↦ absurd (not_build built.0 built.1)
      | inr (inr (inr (inr (inr (inl steps))))) ↦ absurd (not_step steps.0 steps.1)
      | inr (inr (inr (inr (inr (inr signed))))) ↦ absurd (not_signoff signed.0 signed.1)
    ]

    used_or_not : (p q : Answer) → Used p → (Over q ⊎ Made q) → ⊥
    used_or_not p q e f = elim f [ inl over ↦ e.1.0 over.1.0 over.1.1 over.1.2 | inr made ↦ e.1.2 made.1.0 made.1.1 made.1.2 made.1.3 ]

    over_or_made : (p q : Answer) → Over p → Made q → ⊥
    over_or_made p q e f = (check_writes_nothing laws words e.1.0 e.1.1 e.1.2).1 f.1.0 f.1.1 f.1.2 f.1.3

    one_over : (p q : Answer) → Over p → Over q → p ≡ q
    one_over p q e f =
        let n = one_netlist laws words f.1.0 f.1.1 e.1.0 e.1.1 f.1.2 e.1.2 in
        let c = one_certificate_file laws words f.1.0 f.1.1 e.1.0 e.1.1 f.1.2 e.1.2 in
        let g : Answers before after e.1.0 e.1.1 q = subst (λ x. Answers before after e.1.0 x q) c (subst (λ x. Answers before after x f.1.1 q) n f.1.3) in
        one_of_all before after held e.1.0 e.1.1 laws can p q (stage_of before after held e.1.0 e.1.1 p known e.0 e.1.3) (stage_of before after held e.1.0 e.1.1 q known f.0 g)

    one_of_made : (p q : Answer) → Made p → Made q → p ≡ q
    one_of_made p q e f =
        let g = same_generate laws words f.1.0 f.1.1 f.1.2 e.1.0 e.1.1 e.1.2 f.1.3 e.1.3 (λ n s fs. Generates before after n s fs q) f.1.4 in
        one_made before after held e.1.0 e.1.1 e.1.2 known can p q e.0 f.0 e.1.4 g
