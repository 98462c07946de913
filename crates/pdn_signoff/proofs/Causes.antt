-- What follows from the cause of an answer and the way in which a run ends with it.
use Rattle.std.proofs.Common.{◌≡◌, ◌≢◌, ◌≤◌, ◌<◌, ◌⊎◌, inl, inr, ℕ, ℤ, List, Option, Some, None, IfSome, length, refl, sym, ap, subst, ◌∙◌, arith}
use Rattle.outside.specs.Counts.{Rose}
use Rattle.outside.specs.Files.{Holdings, bytes_in}
use Rattle.outside.specs.Whole.{longest_text}
use Rattle.answers.specs.declared.answer.Answer.{Answer}
use Rattle.answers.specs.declared.answer.Answer.TheVariants.{Usage, Want, ReadFault, WriteFault, TooLong, Refused, NoGrid, Range, TooManySteps, PadConflict, FloatingCapacitor, Unsupplied, Built, SignedOff, Generated, Solved, Stepped, Certified, NotCertified}
use Rattle.answers.specs.Answer.{status_of}
use Rattle.bound_check.specs.Failing.{first_failing}
use Rattle.certificate_file.specs.declared.lists.Lists.{Lists}
use Rattle.grid_net.specs.Network.{Network}
use Rattle.grid_net.specs.Certificate.{IsCertificate}
use Rattle.judging.specs.Texts.{StandFor, IsVerdict, SolutionsLieBetween}
use Rattle.judging.specs.Judging.{Judges}
use Rattle.short_merge.specs.declared.merged.Merged.{Merged}
use Rattle.spice_grid.specs.declared.named.Named.{Named}
use Rattle.command_words.specs.declared.command.Command.{Command}
use Rattle.command_words.specs.declared.command.Command.TheVariants.{Build, Check, Solve, Generate, Step, Signoff}
use Rattle.command_words.specs.Words.{IsCommand}
use Rattle.pdn_signoff.specs.declared.design_files.DesignFiles.{DesignFiles}
use Rattle.pdn_signoff.specs.Words.{IsCheck, IsGenerate, WriteNothing, IsUsage}
use Rattle.pdn_signoff.specs.Check.{FilesThen, NoneFailed, AreTexts, JudgesFiles, Answers}
use Rattle.pdn_signoff.specs.Solve.{SolverThen, IsKept, Solves}
use Rattle.pdn_signoff.specs.Command.{SinkThen, IsCause, Ends, IsCheckOf, HasCertificate}
use Rattle.pdn_signoff.proofs.Building.{no_usage_built, none_failed_built}
use Rattle.pdn_signoff.proofs.Generating.{no_usage_made, none_failed_made}
use Rattle.pdn_signoff.proofs.SignoffAnswers.{AreToWiring, no_usage_signed, none_failed_signed}
use Rattle.pdn_signoff.proofs.StepAnswers.{HaveSort, no_usage_stepped, none_failed_stepped}

-- A run came to an answer that has its cause, and ended with it.
abbrev pub Ran : List (List ℕ) → SolverThen → SolverThen → FilesThen → FilesThen → ℕ → SinkThen → SinkThen → Type 0
Ran words solver solver' before after result out out' = (answer : Answer) × IsCause words solver solver' before after answer × Ends result out out' answer

-- The cause of an answer to words of no command that writes files.
abbrev pub IsOtherCause : List (List ℕ) → FilesThen → FilesThen → Answer → Type 0
IsOtherCause words before after answer =
    ((answer ≡ Want) ⊎ ((answer ≡ Usage) × IsUsage words × NoneFailed before after))
    ⊎ ((n : List ℕ) × (c : List ℕ) × IsCheck words n c × Answers before after n c answer)

abbrev pub RanOther : List (List ℕ) → FilesThen → FilesThen → ℕ → SinkThen → SinkThen → Type 0
RanOther words before after result out out' = (answer : Answer) × IsOtherCause words before after answer × Ends result out out' answer

pub other_cause : (words : List (List ℕ)) (solver solver' : SolverThen) (before after : FilesThen) (answer : Answer) → WriteNothing words → IsCause words solver solver' before after answer → IsOtherCause words before after answer
other_cause words solver solver' before after answer nothing (inl free) = inl free.1
other_cause words solver solver' before after answer nothing (inr (inl (n, c, is, kept, why))) = inr (n, c, is, why)
other_cause words solver solver' before after answer nothing (inr (inr (inl (n, c, r, is, why)))) = absurd (nothing.0 n c r is)
other_cause words solver solver' before after answer nothing (inr (inr (inr (inl (number, side, files, is, why))))) = absurd (nothing.1 number side files is)
other_cause words solver solver' before after answer nothing (inr (inr (inr (inr (inl (files, is, why)))))) = absurd (nothing.2 files is)
other_cause words solver solver' before after answer nothing (inr (inr (inr (inr (inr (inl (files, is, why))))))) = absurd (nothing.3 files is)
other_cause words solver solver' before after answer nothing (inr (inr (inr (inr (inr (inr (files, is, why))))))) = absurd (nothing.4 files is)

pub ran_other : (words : List (List ℕ)) (solver solver' : SolverThen) (before after : FilesThen) (result : ℕ) (out out' : SinkThen) → WriteNothing words → Ran words solver solver' before after result out out' → RanOther words before after result out out'
ran_other words solver solver' before after result out out' nothing (answer, cause, ends) = (answer, other_cause words solver solver' before after answer nothing cause, ends)

-- Words of no command that writes files leave the files.
pub kept : (words : List (List ℕ)) (solver solver' : SolverThen) (before after : FilesThen) (result : ℕ) (out out' : SinkThen) → Ran words solver solver' before after result out out' → WriteNothing words → IsKept before after
kept words solver solver' before after result out out' (answer, cause, ends) nothing =
    elim cause [
      | inl free ↦ free.0
      | inr (inl check) ↦ check.3
      | inr (inr (inl solve)) ↦ absurd (nothing.0 solve.0 solve.1 solve.2 solve.3)
      | inr (inr (inr (inl made))) ↦ absurd (nothing.1 made.0 made.1 made.2 made.3)
      | inr (inr (inr (inr (inl built)))) ↦ absurd (nothing.2 built.0 built.1)
      | inr (inr (inr (inr (inr (inl steps))))) ↦ absurd (nothing.3 steps.0 steps.1)
      | inr (inr (inr (inr (inr (inr signed))))) ↦ absurd (nothing.4 signed.0 signed.1)
    ]

-- The status of an answer, or that of a line that was not written.
ended : (result : ℕ) (out out' : SinkThen) (answer : Answer) → Ends result out out' answer → (result ≡ status_of answer) ⊎ ((result ≡ 3) ⊎ (result ≡ 10))
ended result out out' answer (inl told) = inl told.0
ended result out out' answer (inr (inl unwritten)) = inr (inl unwritten.0)
ended result out out' answer (inr (inr want)) = inr (inr want.0)

-- The end with an answer of another status than this one.
other_end : (n result : ℕ) (out out' : SinkThen) (answer : Answer) → Ends result out out' answer → result ≡ n → status_of answer ≢ n → n < 3 → ⊥
other_end n result out out' answer ends is not_this low =
    elim (ended result out out' answer ends) [
      | inl e ↦ not_this (sym e ∙ is)
      | inr e ↦ elim e [ inl three ↦ absurd (omega arith) | inr ten ↦ absurd (omega arith) ]
    ]

-- No answer over two files has the status of usage.
no_usage : (before after : FilesThen) (netlist certificate : List ℕ) (answer : Answer) → Answers before after netlist certificate answer → status_of answer ≢ 2
no_usage before after netlist certificate Usage why e = why
no_usage before after netlist certificate Want why e = absurd (omega arith)
no_usage before after netlist certificate (ReadFault file) why e = absurd (omega arith)
no_usage before after netlist certificate (TooLong file) why e = absurd (omega arith)
no_usage before after netlist certificate (Refused file place kind) why e = absurd (omega arith)
no_usage before after netlist certificate (NoGrid refusal) why e = why
no_usage before after netlist certificate (Range quantity at number) why e = absurd (omega arith)
no_usage before after netlist certificate (PadConflict node first second) why e = absurd (omega arith)
no_usage before after netlist certificate (WriteFault file) why e = why
no_usage before after netlist certificate (Unsupplied node) why e = why
no_usage before after netlist certificate (Built built) why e = why
no_usage before after netlist certificate Generated why e = why
no_usage before after netlist certificate (FloatingCapacitor node) why e = why
no_usage before after netlist certificate (TooManySteps number) why e = why
no_usage before after netlist certificate (Stepped nodes steps) why e = why
no_usage before after netlist certificate (SignedOff numbers) why e = why
no_usage before after netlist certificate (Solved nodes resistors sweeps) why e = why
no_usage before after netlist certificate (Certified nodes) why e = absurd (omega arith)
no_usage before after netlist certificate (NotCertified node side found) why e = absurd (omega arith)

-- No answer of `solve` has the status of usage.
no_usage_solved : (solver solver' : SolverThen) (before after : FilesThen) (n c r : List ℕ) (answer : Answer) → Solves solver solver' before after n c r answer → status_of answer ≢ 2
no_usage_solved solver solver' before after n c r Usage why e = why
no_usage_solved solver solver' before after n c r Want why e = absurd (omega arith)
no_usage_solved solver solver' before after n c r (ReadFault file) why e = absurd (omega arith)
no_usage_solved solver solver' before after n c r (WriteFault file) why e = absurd (omega arith)
no_usage_solved solver solver' before after n c r (TooLong file) why e = absurd (omega arith)
no_usage_solved solver solver' before after n c r (Refused file place kind) why e = absurd (omega arith)
no_usage_solved solver solver' before after n c r (NoGrid refusal) why e = why
no_usage_solved solver solver' before after n c r (Range quantity at number) why e = absurd (omega arith)
no_usage_solved solver solver' before after n c r (PadConflict node first second) why e = absurd (omega arith)
no_usage_solved solver solver' before after n c r (Unsupplied node) why e = absurd (omega arith)
no_usage_solved solver solver' before after n c r (Built built) why e = why
no_usage_solved solver solver' before after n c r Generated why e = why
no_usage_solved solver solver' before after n c r (FloatingCapacitor node) why e = why
no_usage_solved solver solver' before after n c r (TooManySteps number) why e = why
no_usage_solved solver solver' before after n c r (Stepped nodes steps) why e = why
no_usage_solved solver solver' before after n c r (SignedOff numbers) why e = why
no_usage_solved solver solver' before after n c r (Solved nodes resistors sweeps) why e = absurd (omega arith)
no_usage_solved solver solver' before after n c r (Certified nodes) why e = why
no_usage_solved solver solver' before after n c r (NotCertified node side found) why e = why

-- The status 2 has its cause.
pub usage : HaveSort → AreToWiring → (words : List (List ℕ)) (solver solver' : SolverThen) (before after : FilesThen) (result : ℕ) (out out' : SinkThen) → Ran words solver solver' before after result out out' → result ≡ 2 → IsUsage words
usage sort to_wiring words solver solver' before after result out out' (answer, cause, ends) is =
    elim cause [
      | inl free ↦ elim free.1 [
        | inl want ↦ absurd (other_end 2 result out out' answer ends is (λ e. let ten : status_of answer ≡ 10 = ap status_of want in absurd (omega arith)) (omega arith))
        | inr used ↦ used.1
      ]
      | inr (inl check) ↦ absurd (other_end 2 result out out' answer ends is (no_usage before after check.0 check.1 answer check.4) (omega arith))
      | inr (inr (inl solve)) ↦ absurd (other_end 2 result out out' answer ends is (no_usage_solved solver solver' before after solve.0 solve.1 solve.2 answer solve.4) (omega arith))
      | inr (inr (inr (inl made))) ↦ absurd (other_end 2 result out out' answer ends is (no_usage_made before after made.0 made.1 made.2 answer made.4) (omega arith))
      | inr (inr (inr (inr (inl built)))) ↦ absurd (other_end 2 result out out' answer ends is (no_usage_built solver solver' before after built.0 answer built.2) (omega arith))
      | inr (inr (inr (inr (inr (inl steps))))) ↦ absurd (other_end 2 result out out' answer ends is (no_usage_stepped sort solver solver' before after steps.0 answer steps.2) (omega arith))
      | inr (inr (inr (inr (inr (inr signed))))) ↦ absurd (other_end 2 result out out' answer ends is (no_usage_signed to_wiring solver solver' before after signed.0 answer signed.2) (omega arith))
    ]

-- Words of no command end with 2, or with the status of a line that was not written, or with that of want of memory.
pub refused : (words : List (List ℕ)) (solver solver' : SolverThen) (before after : FilesThen) (result : ℕ) (out out' : SinkThen) → Ran words solver solver' before after result out out' → IsUsage words → (result ≡ 2) ⊎ ((result ≡ 3) ⊎ (result ≡ 10))
refused words solver solver' before after result out out' (answer, cause, ends) unformed =
    elim cause [
      | inl free ↦ elim free.1 [
        | inl want ↦ elim (ended result out out' answer ends) [ inl e ↦ inr (inr (e ∙ ap status_of want)) | inr e ↦ inr e ]
        | inr used ↦ elim (ended result out out' answer ends) [ inl e ↦ inl (e ∙ ap status_of used.0) | inr e ↦ inr e ]
      ]
      | inr (inl check) ↦ absurd (unformed.0 check.0 check.1 check.2)
      | inr (inr (inl solve)) ↦ absurd (unformed.1 solve.0 solve.1 solve.2 solve.3)
      | inr (inr (inr (inl made))) ↦ absurd (unformed.2 made.0 made.1 made.2 made.3)
      | inr (inr (inr (inr (inl built)))) ↦ absurd (unformed.3 built.0 built.1)
      | inr (inr (inr (inr (inr (inl steps))))) ↦ absurd (unformed.4 steps.0 steps.1)
      | inr (inr (inr (inr (inr (inr signed))))) ↦ absurd (unformed.5 signed.0 signed.1)
    ]

-- No call on the files failed, where the answer is neither that of a file that could not be read nor that of want of memory.
none_failed : (before after : FilesThen) (n c : List ℕ) (answer : Answer) → Answers before after n c answer → status_of answer ≢ 3 → status_of answer ≢ 10 → NoneFailed before after
none_failed before after n c Usage why read want = absurd why
none_failed before after n c Want why read want = absurd (want refl)
none_failed before after n c (ReadFault file) why read want = absurd (read refl)
none_failed before after n c (TooLong file) why read want = why.0
none_failed before after n c (Refused file place kind) why read want = why.0
none_failed before after n c (NoGrid refusal) why read want = absurd why
none_failed before after n c (Range quantity at number) why read want = why.0
none_failed before after n c (PadConflict node first second) why read want = why.0
none_failed before after n c (WriteFault file) why read want = absurd why
none_failed before after n c (Unsupplied node) why read want = absurd why
none_failed before after n c (Built built) why read want = absurd why
none_failed before after n c Generated why read want = absurd why
none_failed before after n c (FloatingCapacitor node) why read want = absurd why
none_failed before after n c (TooManySteps number) why read want = absurd why
none_failed before after n c (Stepped nodes steps) why read want = absurd why
none_failed before after n c (SignedOff numbers) why read want = absurd why
none_failed before after n c (Solved nodes resistors sweeps) why read want = absurd why
none_failed before after n c (Certified nodes) why read want = why.0
none_failed before after n c (NotCertified node side found) why read want = why.0

none_failed_solved : (solver solver' : SolverThen) (before after : FilesThen) (n c r : List ℕ) (answer : Answer) → Solves solver solver' before after n c r answer → status_of answer ≢ 3 → status_of answer ≢ 10 → NoneFailed before after
none_failed_solved solver solver' before after n c r Usage why read want = absurd why
none_failed_solved solver solver' before after n c r Want why read want = absurd (want refl)
none_failed_solved solver solver' before after n c r (ReadFault file) why read want = absurd (read refl)
none_failed_solved solver solver' before after n c r (WriteFault file) why read want = absurd (read refl)
none_failed_solved solver solver' before after n c r (TooLong file) why read want = why.2
none_failed_solved solver solver' before after n c r (Refused file place kind) why read want = why.1
none_failed_solved solver solver' before after n c r (NoGrid refusal) why read want = absurd why
none_failed_solved solver solver' before after n c r (Range quantity at number) why read want = why.1
none_failed_solved solver solver' before after n c r (PadConflict node first second) why read want = why.1
none_failed_solved solver solver' before after n c r (Unsupplied node) why read want = why.1
none_failed_solved solver solver' before after n c r (Built built) why read want = absurd why
none_failed_solved solver solver' before after n c r Generated why read want = absurd why
none_failed_solved solver solver' before after n c r (FloatingCapacitor node) why read want = absurd why
none_failed_solved solver solver' before after n c r (TooManySteps number) why read want = absurd why
none_failed_solved solver solver' before after n c r (Stepped nodes steps) why read want = absurd why
none_failed_solved solver solver' before after n c r (SignedOff numbers) why read want = absurd why
none_failed_solved solver solver' before after n c r (Solved nodes resistors sweeps) why read want = why.2
none_failed_solved solver solver' before after n c r (Certified nodes) why read want = absurd why
none_failed_solved solver solver' before after n c r (NotCertified node side found) why read want = absurd why

-- A run that ends with another status than 3 and 10 met no failed call.
pub calm : HaveSort → (words : List (List ℕ)) (solver solver' : SolverThen) (before after : FilesThen) (result : ℕ) (out out' : SinkThen) → Ran words solver solver' before after result out out' → result ≢ 3 → result ≢ 10 → NoneFailed before after × (out'.faults ≡ out.faults)
calm sort words solver solver' before after result out out' (answer, cause, ends) read want =
    elim ends [
      | inr (inl unwritten) ↦ absurd (read unwritten.0)
      | inr (inr short) ↦ absurd (want short.0)
      | inl written ↦ (
        elim cause [
          | inl (keeps, inl short) ↦ absurd (want (written.0 ∙ ap status_of short))
          | inl (keeps, inr used) ↦ used.2
          | inr (inl check) ↦ none_failed before after check.0 check.1 answer check.4 (λ e. read (written.0 ∙ e)) (λ e. want (written.0 ∙ e))
          | inr (inr (inl solve)) ↦ none_failed_solved solver solver' before after solve.0 solve.1 solve.2 answer solve.4 (λ e. read (written.0 ∙ e)) (λ e. want (written.0 ∙ e))
          | inr (inr (inr (inl made))) ↦ none_failed_made before after made.0 made.1 made.2 answer made.4 (λ e. read (written.0 ∙ e)) (λ e. want (written.0 ∙ e))
          | inr (inr (inr (inr (inl built)))) ↦ none_failed_built solver solver' before after built.0 answer built.2 (λ e. read (written.0 ∙ e)) (λ e. want (written.0 ∙ e))
          | inr (inr (inr (inr (inr (inr signed))))) ↦ none_failed_signed solver solver' before after signed.0 answer signed.2 (λ e. read (written.0 ∙ e)) (λ e. want (written.0 ∙ e))
          | inr (inr (inr (inr (inr (inl steps))))) ↦ none_failed_stepped sort solver solver' before after steps.0 answer steps.2 (λ e. read (written.0 ∙ e)) (λ e. want (written.0 ∙ e))
        ],
        written.2,
      )
    ]

-- The laws of two texts and of the test, as they are handed in.
pub record AreLaws : Type 0 where
  pub one : (n c nt ct : List ℕ) (a b : Answer) → Judges n c nt ct a → Judges n c nt ct b → a ≢ Want → b ≢ Want → a ≡ b
  pub tested : (n c nt ct : List ℕ) (named : Named) (merged : Merged) (lists : Lists) (a : Answer) → StandFor nt ct named merged lists → Judges n c nt ct a → a ≢ Want → IsVerdict merged lists a
  pub one_command : (words : List (List ℕ)) (a b : Command) → IsCommand words a → IsCommand words b → a ≡ b
  pub bounded : (n c nt ct : List ℕ) (named : Named) (merged : Merged) (lists : Lists) (nodes : ℕ) → StandFor nt ct named merged lists → Judges n c nt ct (Certified nodes) → SolutionsLieBetween named merged lists

-- The words of `check` name two files alone.
pub one_netlist : AreLaws → (words : List (List ℕ)) (n c n' c' : List ℕ) → IsCheck words n c → IsCheck words n' c' → n ≡ n'
one_netlist laws words n c n' c' a b = let e = laws.one_command words (Check n c) (Check n' c') a b in cc

pub one_certificate_file : AreLaws → (words : List (List ℕ)) (n c n' c' : List ℕ) → IsCheck words n c → IsCheck words n' c' → c ≡ c'
one_certificate_file laws words n c n' c' a b = let e = laws.one_command words (Check n c) (Check n' c') a b in cc

-- The words of `check` are those of no command that writes files.
pub check_writes_nothing : AreLaws → (words : List (List ℕ)) (n c : List ℕ) → IsCheck words n c → WriteNothing words
check_writes_nothing laws words n c is = (
  λ n' c' r is'. let e = laws.one_command words (Check n c) (Solve n' c' r) is is' in cc,
  λ number side files is'. let e = laws.one_command words (Check n c) (Generate number side files.lef files.cells files.def files.pdn files.bias) is is' in cc,
  λ f is'. let e = laws.one_command words (Check n c) (Build f.lef f.cells f.def f.pdn f.bias f.out_def f.netlist f.certificate f.report) is is' in cc,
  λ f is'. let e = laws.one_command words (Check n c) (Step f.netlist f.waves f.time f.steps f.certificate f.report) is is' in cc,
  λ f is'. let e = laws.one_command words (Check n c) (Signoff f.lef f.cells f.def f.wires f.bias f.netlist f.certificate f.report) is is' in cc,
)

-- The words of `generate` name one number, one side and five files alone.
abbrev pub files_of : (lef cells design script bias : List ℕ) → DesignFiles
files_of lef cells design script bias = record { lef = lef; cells = cells; def = design; pdn = script; bias = bias }

pub same_generate : AreLaws → (words : List (List ℕ)) (n s : ℕ) (f : DesignFiles) (n' s' : ℕ) (f' : DesignFiles) → IsGenerate words n s f → IsGenerate words n' s' f' → (P : ℕ → ℕ → DesignFiles → Type 0) → P n s f → P n' s' f'
same_generate laws words n s f n' s' f' a b P p =
    let e = laws.one_command words (Generate n s f.lef f.cells f.def f.pdn f.bias) (Generate n' s' f'.lef f'.cells f'.def f'.pdn f'.bias) a b in
    let number : n ≡ n' = cc in
    let side : s ≡ s' = cc in
    let lef : f.lef ≡ f'.lef = cc in
    let cells : f.cells ≡ f'.cells = cc in
    let design : f.def ≡ f'.def = cc in
    let script : f.pdn ≡ f'.pdn = cc in
    let bias : f.bias ≡ f'.bias = cc in
    subst (λ x. P n' s' (files_of f'.lef f'.cells f'.def f'.pdn x)) bias
    (subst (λ x. P n' s' (files_of f'.lef f'.cells f'.def x f.bias)) script
    (subst (λ x. P n' s' (files_of f'.lef f'.cells x f.pdn f.bias)) design
    (subst (λ x. P n' s' (files_of f'.lef x f.def f.pdn f.bias)) cells
    (subst (λ x. P n' s' (files_of x f.cells f.def f.pdn f.bias)) lef
    (subst (λ x. P n' x f) side (subst (λ x. P x s f) number p))))))

-- What a file is said to have, where it is known what the files hold.
pub of_held : (P : Holdings → Type 0) (known : Option Holdings) (held : Holdings) → known ≡ Some held → IfSome known P → P held
of_held P known held e p = let q : IfSome (Some held) P = subst (λ o. IfSome o P) e p in q

-- The texts that were read stand for what those stand for that are held under the two names.
pub stand_read : AreLaws → (words : List (List ℕ)) (held : Holdings) (known : Option Holdings) (n c nt ct : List ℕ) (named : Named) (merged : Merged) (lists : Lists) → known ≡ Some held → IsCheck words n c → IsCheckOf words held named merged lists → AreTexts known n c nt ct → StandFor nt ct named merged lists
stand_read laws words held known n c nt ct named merged lists e is whole texts =
    let nt_is : nt ≡ bytes_in held whole.netlist = of_held (λ h. nt ≡ bytes_in h n) known held e texts.netlist_is ∙ ap (bytes_in held) (one_netlist laws words n c whole.netlist whole.certificate is whole.words_are) in
    let ct_is : ct ≡ bytes_in held whole.certificate = of_held (λ h. ct ≡ bytes_in h c) known held e texts.certificate_is ∙ ap (bytes_in held) (one_certificate_file laws words n c whole.netlist whole.certificate is whole.words_are) in
    subst (λ t. StandFor t ct named merged lists) (sym nt_is) (subst (λ t. StandFor (bytes_in held whole.netlist) t named merged lists) (sym ct_is) whole.texts)

-- ---- the status 0
-- A run that ends with 0 judged two texts, and their certificate holds.
pub record IsZero (words : List (List ℕ)) (before after : FilesThen) : Type 0 where
  pub n : List ℕ
  pub c : List ℕ
  pub is : IsCheck words n c
  pub nodes : ℕ
  pub judged : JudgesFiles before after n c (Certified nodes)

zero_over : (words : List (List ℕ)) (before after : FilesThen) (n c : List ℕ) (answer : Answer) → IsCheck words n c → Answers before after n c answer → status_of answer ≡ 0 → IsZero words before after
zero_over words before after n c Usage is why e = absurd why
zero_over words before after n c Want is why e = absurd (omega arith)
zero_over words before after n c (ReadFault file) is why e = absurd (omega arith)
zero_over words before after n c (TooLong file) is why e = absurd (omega arith)
zero_over words before after n c (Refused file place kind) is why e = absurd (omega arith)
zero_over words before after n c (NoGrid refusal) is why e = absurd why
zero_over words before after n c (Range quantity at number) is why e = absurd (omega arith)
zero_over words before after n c (PadConflict node first second) is why e = absurd (omega arith)
zero_over words before after n c (WriteFault file) is why e = absurd why
zero_over words before after n c (Unsupplied node) is why e = absurd why
zero_over words before after n c (Built built) is why e = absurd why
zero_over words before after n c Generated is why e = absurd why
zero_over words before after n c (FloatingCapacitor node) is why e = absurd why
zero_over words before after n c (TooManySteps number) is why e = absurd why
zero_over words before after n c (Stepped nodes steps) is why e = absurd why
zero_over words before after n c (SignedOff numbers) is why e = absurd why
zero_over words before after n c (Solved nodes resistors sweeps) is why e = absurd why
zero_over words before after n c (Certified nodes) is why e = record { n = n; c = c; is = is; nodes = nodes; judged = why }
zero_over words before after n c (NotCertified node side found) is why e = absurd (omega arith)

pub status_zero : (result : ℕ) (out out' : SinkThen) (answer : Answer) → Ends result out out' answer → result ≡ 0 → status_of answer ≡ 0
status_zero result out out' answer ends is =
    elim (ended result out out' answer ends) [
      | inl e ↦ sym e ∙ is
      | inr e ↦ elim e [ inl three ↦ absurd (omega arith) | inr ten ↦ absurd (omega arith) ]
    ]

pub zero : (words : List (List ℕ)) (before after : FilesThen) (result : ℕ) (out out' : SinkThen) → RanOther words before after result out out' → result ≡ 0 → IsZero words before after
zero words before after result out out' (answer, cause, ends) is =
    elim cause [
      | inl free ↦ elim free [
        | inl want ↦ absurd (other_end 0 result out out' answer ends is (λ e. let ten : status_of answer ≡ 10 = ap status_of want in absurd (omega arith)) (omega arith))
        | inr used ↦ absurd (other_end 0 result out out' answer ends is (λ e. let two : status_of answer ≡ 2 = ap status_of used.0 in absurd (omega arith)) (omega arith))
      ]
      | inr over ↦ zero_over words before after over.0 over.1 answer over.2 over.3 (status_zero result out out' answer ends is)
    ]

-- What is said of two texts whose certificate holds.
abbrev pub TellsCertified : Type 0
TellsCertified =
    (n c nt ct : List ℕ) (nodes : ℕ) → Judges n c nt ct (Certified nodes)
    → (named : Named) × (merged : Merged) × (lists : Lists) × StandFor nt ct named merged lists × IsCertificate merged.net lists.high lists.low

-- The status 0 says that the certificate holds on the merged netlist.
pub certified : TellsCertified → (words : List (List ℕ)) (before after : FilesThen) (result : ℕ) (out out' : SinkThen) → RanOther words before after result out out' → result ≡ 0 → IfSome before.known (HasCertificate words)
certified tells words before after result out out' ran is = by_zero (zero words before after result out out' ran is)
  where
    on_held : (known : Option Holdings) (n c : List ℕ) (nodes : ℕ) → IsCheck words n c → (nt ct : List ℕ) → AreTexts known n c nt ct → Judges n c nt ct (Certified nodes) → IfSome known (HasCertificate words)
    on_held None n c nodes is nt ct texts judged = tt
    on_held (Some held) n c nodes is nt ct texts judged =
        let (named, merged, lists, stand, holds) = tells n c nt ct nodes judged in (
          named,
          merged,
          lists,
          record {
            netlist = n;
            certificate = c;
            words_are = is;
            netlist_fits = subst (λ t. length t ≤ longest_text) texts.netlist_is texts.netlist_fits;
            certificate_fits = subst (λ t. length t ≤ longest_text) texts.certificate_is texts.certificate_fits;
            texts = subst (λ t. StandFor (bytes_in held n) t named merged lists) texts.certificate_is (subst (λ t. StandFor t ct named merged lists) texts.netlist_is stand);
          },
          holds,
        )

    by_zero : IsZero words before after → IfSome before.known (HasCertificate words)
    by_zero z = let (quiet, (nt, ct, texts, judged)) = z.judged in on_held before.known z.n z.c z.nodes z.is nt ct texts judged

-- After the status 0 every solution lies between the two lists.
pub bounded : AreLaws → (words : List (List ℕ)) (before after : FilesThen) (result : ℕ) (out out' : SinkThen) → RanOther words before after result out out' → (held : Holdings) (named : Named) (merged : Merged) (lists : Lists) → before.known ≡ Some held → IsCheckOf words held named merged lists → result ≡ 0 → SolutionsLieBetween named merged lists
bounded laws words before after result out out' ran held named merged lists told whole is =
    let z = zero words before after result out out' ran is in
    let (quiet, (nt, ct, texts, judged)) = z.judged in
    laws.bounded z.n z.c nt ct named merged lists z.nodes (stand_read laws words held before.known z.n z.c nt ct named merged lists told z.is whole texts) judged

-- ---- texts that are judged
-- What a run over two texts ends with, where no fault comes.
abbrev pub JudgedSo : ℕ → Merged → Lists → Type 0
JudgedSo result merged lists =
    ((result ≡ 0) × IsCertificate merged.net lists.high lists.low)
    ⊎ (((result ≡ 9) × ¬ IsCertificate merged.net lists.high lists.low) ⊎ (result ≡ 10))

-- What is told of two lists that the test does not pass.
abbrev pub NoFailing : Type 0
NoFailing = (net : Network) (high low : List ℤ) → IsCertificate net high low → first_failing net high low ≡ None

-- The status of an answer that tells the test.
by_verdict : NoFailing → (merged : Merged) (lists : Lists) (a : Answer) → IsVerdict merged lists a → JudgedSo (status_of a) merged lists
by_verdict none merged lists a (inl (holds, told)) = inl (ap status_of told, holds)
by_verdict none merged lists a (inr (fails, node, first, named, told)) =
    inr (inl (ap status_of told, λ holds. let clash = sym (none merged.net lists.high lists.low holds) ∙ first in cc))

-- The status of the answer, or that of want of memory, where the sink has no fault.
pub unhindered : (result : ℕ) (out out' : SinkThen) (answer : Answer) → Ends result out out' answer → ¬ Rose out.faults out'.faults → (result ≡ status_of answer) ⊎ (result ≡ 10)
unhindered result out out' answer (inl told) calm = inl told.0
unhindered result out out' answer (inr (inl unwritten)) calm = absurd (calm unwritten.1)
unhindered result out out' answer (inr (inr want)) calm = inr want.0

module _ (laws : AreLaws) (none : NoFailing) (words : List (List ℕ)) (before after : FilesThen) (held : Holdings) (named : Named) (merged : Merged) (lists : Lists) (told : before.known ≡ Some held)
    (whole : IsCheckOf words held named merged lists) (calm : ¬ Rose before.counts.faults after.counts.faults) where
  judged_texts : (n c : List ℕ) (a : Answer) → IsCheck words n c → a ≢ Want → JudgesFiles before after n c a → JudgedSo (status_of a) merged lists
  judged_texts n c a is some (quiet, (nt, ct, texts, judged)) =
      by_verdict none merged lists a (laws.tested n c nt ct named merged lists a (stand_read laws words held before.known n c nt ct named merged lists told is whole texts) judged some)

  judged_over : (n c : List ℕ) (answer : Answer) → IsCheck words n c → Answers before after n c answer → JudgedSo (status_of answer) merged lists
  judged_over n c Usage is why = absurd why
  judged_over n c Want is why = inr (inr refl)
  judged_over n c (ReadFault file) is why = elim why [ inl first ↦ absurd (calm first.1.fault) | inr second ↦ absurd (calm second.2.fault) ]
  judged_over n c (TooLong file) is why =
      elim why.1 [
        | inl first ↦
            let long : longest_text < length (bytes_in held n) = of_held (λ h. longest_text < length (bytes_in h n)) before.known held told first.1 in
            let same = one_netlist laws words n c whole.netlist whole.certificate is whole.words_are in
            absurd (omega (arith, subst (λ f. longest_text < length (bytes_in held f)) same long, whole.netlist_fits))
        | inr second ↦
            let long : longest_text < length (bytes_in held c) = of_held (λ h. longest_text < length (bytes_in h c)) before.known held told second.2 in
            let same = one_certificate_file laws words n c whole.netlist whole.certificate is whole.words_are in
            absurd (omega (arith, subst (λ f. longest_text < length (bytes_in held f)) same long, whole.certificate_fits))
      ]
  judged_over n c (Refused file place kind) is why = judged_texts n c (Refused file place kind) is (λ e. cc) why
  judged_over n c (NoGrid refusal) is why = absurd why
  judged_over n c (Range quantity at number) is why = judged_texts n c (Range quantity at number) is (λ e. cc) why
  judged_over n c (PadConflict node first second) is why = judged_texts n c (PadConflict node first second) is (λ e. cc) why
  judged_over n c (WriteFault file) is why = absurd why
  judged_over n c (Unsupplied node) is why = absurd why
  judged_over n c (Built built) is why = absurd why
  judged_over n c Generated is why = absurd why
  judged_over n c (FloatingCapacitor node) is why = absurd why
  judged_over n c (TooManySteps number) is why = absurd why
  judged_over n c (Stepped nodes steps) is why = absurd why
  judged_over n c (SignedOff numbers) is why = absurd why
  judged_over n c (Solved nodes resistors sweeps) is why = absurd why
  judged_over n c (Certified nodes) is why = judged_texts n c (Certified nodes) is (λ e. cc) why
  judged_over n c (NotCertified node side found) is why = judged_texts n c (NotCertified node side found) is (λ e. cc) why

  -- Two texts are judged, where no fault comes and memory lasts.
  pub judged_here : (result : ℕ) (out out' : SinkThen) → RanOther words before after result out out' → ¬ Rose out.faults out'.faults → JudgedSo result merged lists
  judged_here result out out' (answer, cause, ends) calm_out =
      elim (unhindered result out out' answer ends calm_out) [
        | inr ten ↦ inr (inr ten)
        | inl e ↦ subst (λ r. JudgedSo r merged lists) (sym e) (elim cause [
          | inl free ↦ elim free [
            | inl want ↦ inr (inr (ap status_of want))
            | inr used ↦ absurd (used.1.0 whole.netlist whole.certificate whole.words_are)
          ]
          | inr over ↦ judged_over over.0 over.1 answer over.2 over.3
        ])
      ]

pub judged : AreLaws → NoFailing → (words : List (List ℕ)) (before after : FilesThen) (result : ℕ) (out out' : SinkThen) → RanOther words before after result out out' → (held : Holdings) (named : Named) (merged : Merged) (lists : Lists) → before.known ≡ Some held → IsCheckOf words held named merged lists → ¬ Rose before.counts.faults after.counts.faults → ¬ Rose out.faults out'.faults → JudgedSo result merged lists
judged laws none words before after result out out' ran held named merged lists told whole calm calm_out =
    judged_here laws none words before after held named merged lists told whole calm result out out' ran calm_out
