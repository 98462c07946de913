-- Of the answers of `solve` other than want of memory one alone has its cause, where it is known what the files hold; how
-- many sweeps a network was solved in is left open.
use Rattle.std.proofs.Common.{◌≡◌, ◌≢◌, ◌≤◌, ◌<◌, ◌⊎◌, inl, inr, ℕ, List, [], Some, length, refl, sym, ap, subst, ◌∙◌, arith}
use Rattle.outside.specs.Counts.{FaultCounts, Rose}
use Rattle.outside.specs.Files.{Holdings, bytes_in}
use Rattle.outside.specs.Whole.{longest_text}
use Rattle.answers.specs.declared.answer.Answer.{Answer}
use Rattle.answers.specs.declared.answer.Answer.TheVariants.{Usage, Want, ReadFault, WriteFault, TooLong, Refused, NoGrid, Range, TooManySteps, PadConflict, FloatingCapacitor, Unsupplied, Built, SignedOff, Generated, Solved, Stepped, Certified, NotCertified}
use Rattle.judging.specs.Texts.{HasNetwork}
use Rattle.short_merge.specs.declared.merged.Merged.{Merged}
use Rattle.solving.specs.Refusal.{IsUnsigned}
use Rattle.solving.specs.Signed.{EachIsSupplied}
use Rattle.spice_grid.specs.declared.named.Named.{Named}
use Rattle.pdn_signoff.specs.Words.{IsSolve}
use Rattle.pdn_signoff.specs.Check.{FilesThen, NoneFailed}
use Rattle.pdn_signoff.specs.Solve.{SolverThen, WriteFailed, RefusesFile, Solves}
use Rattle.pdn_signoff.specs.Command.{IsCause, CanRise, AreAlike}
use Rattle.pdn_signoff.proofs.Causes.{AreLaws, of_held}
use Rattle.pdn_signoff.proofs.Exclude.{rose_or_stays}
use Rattle.pdn_signoff.proofs.Signing.{AreSolvingLaws, solve_cause}

-- Answers that are one are alike.
alike_from : (a b : Answer) → a ≡ b → AreAlike a b
alike_from Usage b e = e
alike_from Want b e = e
alike_from (ReadFault file) b e = e
alike_from (WriteFault file) b e = e
alike_from (TooLong file) b e = e
alike_from (Refused file place kind) b e = e
alike_from (NoGrid refusal) b e = e
alike_from (Range quantity at number) b e = e
alike_from (PadConflict node first second) b e = e
alike_from (Unsupplied node) b e = e
alike_from (Built built) b e = e
alike_from Generated b e = e
alike_from (FloatingCapacitor node) b e = e
alike_from (TooManySteps number) b e = e
alike_from (Stepped nodes steps) b e = e
alike_from (SignedOff numbers) b e = e
alike_from (Solved nodes resistors sweeps) b e = (sweeps, sym e)
alike_from (Certified nodes) b e = e
alike_from (NotCertified node side found) b e = e

-- The two answers are alike where they are those of one network.
alike_solved : (a b : Answer) (nodes nodes' resistors resistors' sweeps sweeps' : ℕ) → a ≡ Solved nodes resistors sweeps → b ≡ Solved nodes' resistors' sweeps' → nodes ≡ nodes' → resistors ≡ resistors' → AreAlike a b
alike_solved a b nodes nodes' resistors resistors' sweeps sweeps' is is' n r =
    subst (λ x. AreAlike x b) (sym is) (sweeps', is' ∙ ap (λ x. Solved x resistors' sweeps') (sym n) ∙ ap (λ x. Solved nodes x sweeps') (sym r))

-- Two answers are related, where those of each of two kinds are, and the kinds exclude each other.
pub of_two : (R : Answer → Answer → Type 0) (P Q : Answer → Type 0) → ((a b : Answer) → P a → P b → R a b) → ((a b : Answer) → Q a → Q b → R a b) → ((a b : Answer) → P a → Q b → ⊥) → (a b : Answer) → (P a ⊎ Q a) → (P b ⊎ Q b) → R a b
of_two R P Q one_p one_q apart a b (inl x) (inl y) = one_p a b x y
of_two R P Q one_p one_q apart a b (inl x) (inr y) = absurd (apart a b x y)
of_two R P Q one_p one_q apart a b (inr x) (inl y) = absurd (apart b a y x)
of_two R P Q one_p one_q apart a b (inr x) (inr y) = one_q a b x y

module _ (laws : AreSolvingLaws) (before after : FilesThen) (held : Holdings) (n c r : List ℕ) (known : before.known ≡ Some held) (can : CanRise after.counts) (apart : c ≢ r) where
  abbrev pub text : List ℕ
  text = bytes_in held n

  -- The kinds of answers: the netlist could not be read; an output could not be written; or no call failed, and the netlist is
  -- too long, is refused, or is solved.
  abbrev pub IsUnread : Answer → Type 0
  IsUnread a = (a ≡ ReadFault n) × Rose before.counts.faults after.counts.faults × Rose (before.counts.reads n) (after.counts.reads n)

  abbrev pub IsUnwritten : Answer → Type 0
  IsUnwritten a = ((a ≡ WriteFault c) × WriteFailed before after c) ⊎ ((a ≡ WriteFault r) × WriteFailed before after r)

  abbrev pub IsLong : Answer → Type 0
  IsLong a = (a ≡ TooLong n) × (longest_text < length text)

  abbrev pub IsShort : Answer → Type 0
  IsShort a = (a ≢ Want) × (length text ≤ longest_text) × IsUnsigned n text a

  pub record IsOfNetwork (a : Answer) : Type 0 where
    pub fits : length text ≤ longest_text
    pub named : Named
    pub merged : Merged
    pub network : HasNetwork text named merged
    pub supplied : EachIsSupplied merged.net
    pub sweeps : ℕ
    pub told : a ≡ Solved merged.net.nodes (length merged.net.resistors) sweeps

  abbrev pub IsQuiet : Answer → Type 0
  IsQuiet a = NoneFailed before after × (IsLong a ⊎ (IsShort a ⊎ IsOfNetwork a))

  abbrev pub IsStage : Answer → Type 0
  IsStage a = IsUnread a ⊎ (IsUnwritten a ⊎ IsQuiet a)

  -- ---- each kind has one answer
  one_unwritten : (a b : Answer) → IsUnwritten a → IsUnwritten b → AreAlike a b
  one_unwritten a b (inl x) (inl y) = alike_from a b (x.0 ∙ sym y.0)
  one_unwritten a b (inr x) (inr y) = alike_from a b (x.0 ∙ sym y.0)
  one_unwritten a b (inl x) (inr y) = absurd (rose_or_stays _ _ (of_held (λ h. Rose (before.counts.writes c) (after.counts.writes c)) before.known held known x.1.failed_write) (y.1.only.writes c apart) (can.writes c))
  one_unwritten a b (inr x) (inl y) = absurd (rose_or_stays _ _ (of_held (λ h. Rose (before.counts.writes c) (after.counts.writes c)) before.known held known y.1.failed_write) (x.1.only.writes c apart) (can.writes c))

  one_network : (a b : Answer) → IsOfNetwork a → IsOfNetwork b → AreAlike a b
  one_network a b x y =
      let same : x.merged ≡ y.merged = (laws.network text x.named y.named x.merged y.merged x.network y.network).1 in
      alike_solved a b x.merged.net.nodes y.merged.net.nodes (length x.merged.net.resistors) (length y.merged.net.resistors) x.sweeps y.sweeps x.told y.told (ap (λ (m : Merged). m.net.nodes) same) (ap (λ (m : Merged). length m.net.resistors) same)

  refused_or_solved : (a b : Answer) → IsShort a → IsOfNetwork b → ⊥
  refused_or_solved a b x y = (laws.supply n text y.named y.merged a y.network x.2 x.0).0 y.supplied

  one_short : (a b : Answer) → (IsShort a ⊎ IsOfNetwork a) → (IsShort b ⊎ IsOfNetwork b) → AreAlike a b
  one_short = of_two AreAlike IsShort IsOfNetwork (λ a b x y. alike_from a b (laws.refusal n text a b x.2 y.2 x.0 y.0)) one_network refused_or_solved

  short_fits : (a : Answer) → (IsShort a ⊎ IsOfNetwork a) → length text ≤ longest_text
  short_fits a (inl x) = x.1
  short_fits a (inr x) = x.fits

  one_stage : (a b : Answer) → (IsLong a ⊎ (IsShort a ⊎ IsOfNetwork a)) → (IsLong b ⊎ (IsShort b ⊎ IsOfNetwork b)) → AreAlike a b
  one_stage = of_two AreAlike IsLong (λ a. IsShort a ⊎ IsOfNetwork a) (λ a b x y. alike_from a b (x.0 ∙ sym y.0)) one_short (λ a b x y. let fits = short_fits b y in omega (arith, x.1, fits))

  fault_of : (a : Answer) → IsUnwritten a → Rose before.counts.faults after.counts.faults
  fault_of a (inl x) = x.1.fault
  fault_of a (inr x) = x.1.fault

  reads_stay : (a : Answer) → IsUnwritten a → after.counts.reads n ≡ before.counts.reads n
  reads_stay a (inl x) = ap (λ (f : List ℕ → ℕ). f n) x.1.only.reads
  reads_stay a (inr x) = ap (λ (f : List ℕ → ℕ). f n) x.1.only.reads

  one_written : (a b : Answer) → (IsUnwritten a ⊎ IsQuiet a) → (IsUnwritten b ⊎ IsQuiet b) → AreAlike a b
  one_written = of_two AreAlike IsUnwritten IsQuiet one_unwritten (λ a b x y. one_stage a b x.1 y.1) (λ a b x y. rose_or_stays _ _ (fault_of a x) (ap (λ (k : FaultCounts). k.faults) y.0) can.faults)

  not_unread : (a b : Answer) → IsUnread a → (IsUnwritten b ⊎ IsQuiet b) → ⊥
  not_unread a b x (inl y) = rose_or_stays _ _ x.2 (reads_stay b y) (can.reads n)
  not_unread a b x (inr y) = rose_or_stays _ _ x.1 (ap (λ (k : FaultCounts). k.faults) y.0) can.faults

  one_of_all : (a b : Answer) → IsStage a → IsStage b → AreAlike a b
  one_of_all = of_two AreAlike IsUnread (λ a. IsUnwritten a ⊎ IsQuiet a) (λ a b x y. alike_from a b (x.0 ∙ sym y.0)) one_written not_unread

  -- ---- the kind of an answer
  short_stage : (a : Answer) → a ≢ Want → RefusesFile before after n a → IsStage a
  short_stage a some (kept, none, (read, is, fits, refuses)) =
      let e : read ≡ text = of_held (λ h. read ≡ bytes_in h n) before.known held known is in
      inr (inr (none, inr (inl (some, subst (λ t. length t ≤ longest_text) e fits, subst (λ t. IsUnsigned n t a) e refuses))))

  pub stage_of : (solver solver' : SolverThen) (a : Answer) → a ≢ Want → Solves solver solver' before after n c r a → IsStage a
  stage_of solver solver' Usage some why = absurd why
  stage_of solver solver' Want some why = absurd (some refl)
  stage_of solver solver' (ReadFault file) some why =
      inl (ap ReadFault why.0, why.2.fault, of_held (λ h. Rose (before.counts.reads n) (after.counts.reads n)) before.known held known why.2.failed_read)
  stage_of solver solver' (WriteFault file) some (signed, file_is, either) =
      inr (inl (elim either [ inl x ↦ inl (ap WriteFault x.0, x.1) | inr y ↦ inr (ap WriteFault y.0, y.1) ]))
  stage_of solver solver' (TooLong file) some why =
      inr (inr (why.2, inl (ap TooLong why.0, of_held (λ h. longest_text < length (bytes_in h n)) before.known held known why.3)))
  stage_of solver solver' (Refused file place kind) some why = short_stage (Refused file place kind) some why
  stage_of solver solver' (NoGrid refusal) some why = absurd why
  stage_of solver solver' (Range quantity at number) some why = short_stage (Range quantity at number) some why
  stage_of solver solver' (PadConflict node first second) some why = short_stage (PadConflict node first second) some why
  stage_of solver solver' (Unsupplied node) some why = short_stage (Unsupplied node) some why
  stage_of solver solver' (Built built) some why = absurd why
  stage_of solver solver' Generated some why = absurd why
  stage_of solver solver' (FloatingCapacitor node) some why = absurd why
  stage_of solver solver' (TooManySteps number) some why = absurd why
  stage_of solver solver' (Stepped nodes steps) some why = absurd why
  stage_of solver solver' (SignedOff numbers) some why = absurd why
  stage_of solver solver' (Solved nodes resistors sweeps) some (signed, file, none, numbers, asked, holds) =
      let e : file.text ≡ text = of_held (λ h. file.text ≡ bytes_in h n) before.known held known file.text_is in
      inr (inr (
        none,
        inr (inr (record {
          fits = subst (λ t. length t ≤ longest_text) e file.fits;
          named = file.named;
          merged = file.merged;
          network = subst (λ t. HasNetwork t file.named file.merged) e file.signs.gives.network;
          supplied = file.signs.supplied;
          sweeps = sweeps;
          told = ap (λ x. Solved x resistors sweeps) (numbers.nodes_are ∙ file.signs.nodes) ∙ ap (λ x. Solved file.merged.net.nodes x sweeps) (numbers.resistors_are ∙ file.signs.resistors);
        })),
      ))
  stage_of solver solver' (Certified nodes) some why = absurd why
  stage_of solver solver' (NotCertified node side found) some why = absurd why

  pub one_solved : (solver solver' : SolverThen) (a b : Answer) → a ≢ Want → b ≢ Want → Solves solver solver' before after n c r a → Solves solver solver' before after n c r b → AreAlike a b
  one_solved solver solver' a b some_a some_b x y = one_of_all a b (stage_of solver solver' a some_a x) (stage_of solver solver' b some_b y)

-- The words of `solve` name two outputs that are not one.
apart_outputs : (words : List (List ℕ)) (n c r : List ℕ) → IsSolve words n c r → c ≢ r
apart_outputs words n c r is = is.3 0 1 [] (omega arith) (omega arith)

pub alike : AreLaws → AreSolvingLaws → (words : List (List ℕ)) (solver solver' : SolverThen) (before after : FilesThen) (held : Holdings) (n c r : List ℕ) (a b : Answer) → before.known ≡ Some held → CanRise after.counts → IsSolve words n c r
    → IsCause words solver solver' before after a → IsCause words solver solver' before after b → a ≢ Want → b ≢ Want → AreAlike a b
alike laws solving words solver solver' before after held n c r a b known can is x y some_a some_b =
    elim (solve_cause laws words solver solver' before after n c r a is x).why [
      | inl want ↦ absurd (some_a want.0)
      | inr x_why ↦ elim (solve_cause laws words solver solver' before after n c r b is y).why [
        | inl want ↦ absurd (some_b want.0)
        | inr y_why ↦ one_solved solving before after held n c r known can (apart_outputs words n c r is) solver solver' a b some_a some_b x_why y_why
      ]
    ]
