-- What follows from the cause of an answer of `solve` and the way in which the run ends with it.
use Rattle.std.proofs.Common.{◌≡◌, ◌≢◌, ◌≤◌, ◌<◌, ◌⊎◌, inl, inr, ℕ, ℤ, List, [], Option, Some, None, IfSome, Ok, length, unwrap_or, refl, sym, ap, subst, ◌∙◌, arith}
use Rattle.outside.specs.Counts.{Rose}
use Rattle.outside.specs.Files.{Holdings, bytes_in}
use Rattle.outside.specs.Known.{WhereKnown}
use Rattle.outside.specs.Whole.{longest_text}
use Rattle.answers.specs.declared.answer.Answer.{Answer}
use Rattle.answers.specs.declared.answer.Answer.TheVariants.{Usage, Want, ReadFault, WriteFault, TooLong, Refused, NoGrid, Range, TooManySteps, PadConflict, FloatingCapacitor, Unsupplied, Built, SignedOff, Generated, Solved, Stepped, Certified, NotCertified}
use Rattle.answers.specs.Answer.{status_of}
use Rattle.command_words.specs.declared.command.Command.TheVariants.{Build, Solve, Generate, Step, Signoff}
use Rattle.certificate_file.specs.Format.{ReadsCertificate}
use Rattle.judging.specs.Texts.{HasNetwork}
use Rattle.short_merge.specs.declared.merged.Merged.{Merged}
use Rattle.solving.specs.declared.signed.Signed.{Signed}
use Rattle.solving.specs.Signed.{Signs, EachIsSupplied}
use Rattle.solving.specs.Refusal.{IsUnsigned}
use Rattle.spice_grid.specs.declared.named.Named.{Named}
use Rattle.pdn_signoff.specs.Words.{IsSolve}
use Rattle.pdn_signoff.specs.Check.{FilesThen}
use Rattle.pdn_signoff.specs.Solve.{SolverThen, HoldsBoth, SignsFile, RefusesFile, Solves}
use Rattle.pdn_signoff.specs.Command.{SinkThen, IsCause, IsSolveOf, LeavesSigned, LeavesAccepted, ChangesOnly}
use Rattle.pdn_signoff.proofs.Causes.{Ran, AreLaws, check_writes_nothing, of_held, unhindered, status_zero}
use Rattle.pdn_signoff.proofs.Solving.{outputs_alone, want_solved}

-- The laws of netlists that are signed off, as they are handed in.
pub record AreSolvingLaws : Type 0 where
  pub refusal : (file text : List ℕ) (a b : Answer) → IsUnsigned file text a → IsUnsigned file text b → a ≢ Want → b ≢ Want → a ≡ b
  pub supply : (file text : List ℕ) (named : Named) (merged : Merged) (answer : Answer) → HasNetwork text named merged → IsUnsigned file text answer → answer ≢ Want → (¬ EachIsSupplied merged.net) × ((node : List ℕ) × (answer ≡ Unsupplied node))
  pub network : (text : List ℕ) (named other : Named) (merged fellow : Merged) → HasNetwork text named merged → HasNetwork text other fellow → (named ≡ other) × (merged ≡ fellow)

-- The words of `solve` name three files alone, and are no others.
pub one_netlist_solved : AreLaws → (words : List (List ℕ)) (n c r n' c' r' : List ℕ) → IsSolve words n c r → IsSolve words n' c' r' → n ≡ n'
one_netlist_solved laws words n c r n' c' r' a b = let e = laws.one_command words (Solve n c r) (Solve n' c' r') a b in cc

pub one_bounds_file : AreLaws → (words : List (List ℕ)) (n c r n' c' r' : List ℕ) → IsSolve words n c r → IsSolve words n' c' r' → c ≡ c'
one_bounds_file laws words n c r n' c' r' a b = let e = laws.one_command words (Solve n c r) (Solve n' c' r') a b in cc

pub one_report : AreLaws → (words : List (List ℕ)) (n c r n' c' r' : List ℕ) → IsSolve words n c r → IsSolve words n' c' r' → r ≡ r'
one_report laws words n c r n' c' r' a b = let e = laws.one_command words (Solve n c r) (Solve n' c' r') a b in cc

-- The cause of an answer to words of `solve`, over its three files.
pub record IsSolveCause (solver solver' : SolverThen) (before after : FilesThen) (n c r : List ℕ) (answer : Answer) : Type 0 where
  pub why : ((answer ≡ Want) × (after.known ≡ before.known)) ⊎ Solves solver solver' before after n c r answer

pub solve_cause : AreLaws → (words : List (List ℕ)) (solver solver' : SolverThen) (before after : FilesThen) (n c r : List ℕ) (answer : Answer) → IsSolve words n c r → IsCause words solver solver' before after answer → IsSolveCause solver solver' before after n c r answer
solve_cause laws words solver solver' before after n c r answer is (inl (kept, inl want)) = record { why = inl (want, kept) }
solve_cause laws words solver solver' before after n c r answer is (inl (kept, inr used)) = absurd (used.1.1 n c r is)
solve_cause laws words solver solver' before after n c r answer is (inr (inl (n', c', is', kept, rest))) =
    absurd ((check_writes_nothing laws words n' c' is').0 n c r is)
solve_cause laws words solver solver' before after n c r answer is (inr (inr (inl (n', c', r', is', why)))) =
    let same_n = one_netlist_solved laws words n' c' r' n c r is' is in
    let same_c = one_bounds_file laws words n' c' r' n c r is' is in
    let same_r = one_report laws words n' c' r' n c r is' is in
    record { why = inr (subst (λ x. Solves solver solver' before after n c x answer) same_r (subst (λ x. Solves solver solver' before after n x r' answer) same_c (subst (λ x. Solves solver solver' before after x c' r' answer) same_n why))) }
solve_cause laws words solver solver' before after n c r answer is (inr (inr (inr (inl (number, side, files, is', why))))) =
    let clash = laws.one_command words (Solve n c r) (Generate number side files.lef files.cells files.def files.pdn files.bias) is is' in cc
solve_cause laws words solver solver' before after n c r answer is (inr (inr (inr (inr (inr (inl (g, is', why))))))) =
    let clash = laws.one_command words (Solve n c r) (Step g.netlist g.waves g.time g.steps g.certificate g.report) is is' in cc
solve_cause laws words solver solver' before after n c r answer is (inr (inr (inr (inr (inr (inr (g, is', why))))))) =
    let clash = laws.one_command words (Solve n c r) (Signoff g.lef g.cells g.def g.wires g.bias g.netlist g.certificate g.report) is is' in cc
solve_cause laws words solver solver' before after n c r answer is (inr (inr (inr (inr (inl (f, is', why)))))) =
    let clash = laws.one_command words (Solve n c r) (Build f.lef f.cells f.def f.pdn f.bias f.out_def f.netlist f.certificate f.report) is is' in cc

-- No file changes but the two outputs.
pub others : AreLaws → (words : List (List ℕ)) (solver solver' : SolverThen) (before after : FilesThen) (result : ℕ) (out out' : SinkThen) → Ran words solver solver' before after result out out' → (n c r : List ℕ) → IsSolve words n c r → WhereKnown (ChangesOnly c r) before.known after.known
others laws words solver solver' before after result out out' (answer, cause, ends) n c r is =
    elim (solve_cause laws words solver solver' before after n c r answer is cause).why [
      | inl want ↦ outputs_alone solver solver' before after n c r (inl want.1)
      | inr why ↦ outputs_alone solver solver' before after n c r (want_solved solver solver' before after n c r answer why)
    ]

-- ---- the status 0
-- What is so where a netlist is solved.
pub record IsSolved (solver solver' : SolverThen) (before after : FilesThen) (n c r : List ℕ) : Type 0 where
  pub signed : Signed
  pub file : SignsFile solver.told before.known n signed
  pub asked : Rose solver.proposals solver'.proposals
  pub holds : WhereKnown (HoldsBoth c r signed.certificate signed.report) before.known after.known

solved_over : (solver solver' : SolverThen) (before after : FilesThen) (n c r : List ℕ) (answer : Answer) → Solves solver solver' before after n c r answer → status_of answer ≡ 0 → IsSolved solver solver' before after n c r
solved_over solver solver' before after n c r Usage why e = absurd why
solved_over solver solver' before after n c r Want why e = absurd (omega arith)
solved_over solver solver' before after n c r (ReadFault file) why e = absurd (omega arith)
solved_over solver solver' before after n c r (WriteFault file) why e = absurd (omega arith)
solved_over solver solver' before after n c r (TooLong file) why e = absurd (omega arith)
solved_over solver solver' before after n c r (Refused file place kind) why e = absurd (omega arith)
solved_over solver solver' before after n c r (NoGrid refusal) why e = absurd why
solved_over solver solver' before after n c r (Range quantity at number) why e = absurd (omega arith)
solved_over solver solver' before after n c r (PadConflict node first second) why e = absurd (omega arith)
solved_over solver solver' before after n c r (Unsupplied node) why e = absurd (omega arith)
solved_over solver solver' before after n c r (Built built) why e = absurd why
solved_over solver solver' before after n c r Generated why e = absurd why
solved_over solver solver' before after n c r (FloatingCapacitor node) why e = absurd why
solved_over solver solver' before after n c r (TooManySteps number) why e = absurd why
solved_over solver solver' before after n c r (Stepped nodes steps) why e = absurd why
solved_over solver solver' before after n c r (SignedOff numbers) why e = absurd why
solved_over solver solver' before after n c r (Solved nodes resistors sweeps) (signed, file, calm, numbers, asked, holds) e = record { signed = signed; file = file; asked = asked; holds = holds }
solved_over solver solver' before after n c r (Certified nodes) why e = absurd why
solved_over solver solver' before after n c r (NotCertified node side found) why e = absurd why

is_solved : AreLaws → (words : List (List ℕ)) (solver solver' : SolverThen) (before after : FilesThen) (result : ℕ) (out out' : SinkThen) → Ran words solver solver' before after result out out' → (n c r : List ℕ) → IsSolve words n c r → result ≡ 0 → IsSolved solver solver' before after n c r
is_solved laws words solver solver' before after result out out' (answer, cause, ends) n c r is zero =
    let e : status_of answer ≡ 0 = status_zero result out out' answer ends zero in
    elim (solve_cause laws words solver solver' before after n c r answer is cause).why [
      | inl want ↦ let ten : status_of answer ≡ 10 = ap status_of want.0 in absurd (omega arith)
      | inr why ↦ solved_over solver solver' before after n c r answer why e
    ]

leaves : (told : Option (List ℤ × List ℤ)) (n c r : List ℕ) (signed : Signed) (k l : Option Holdings) → SignsFile told k n signed → WhereKnown (HoldsBoth c r signed.certificate signed.report) k l → WhereKnown (LeavesSigned told n c r) k l
leaves told n c r signed None None file holds = tt
leaves told n c r signed None (Some y) file holds = holds
leaves told n c r signed (Some x) None file holds = holds
leaves told n c r signed (Some x) (Some y) file holds = record {
  signed = signed;
  named = file.named;
  merged = file.merged;
  bounds = file.certificate;
  signs = subst (λ t. Signs told t file.named file.merged file.certificate signed) file.text_is file.signs;
  within = file.within;
  files = holds;
}

pub signed : AreLaws → (words : List (List ℕ)) (solver solver' : SolverThen) (before after : FilesThen) (result : ℕ) (out out' : SinkThen) → Ran words solver solver' before after result out out' → (n c r : List ℕ) → IsSolve words n c r → result ≡ 0 → WhereKnown (LeavesSigned solver.told n c r) before.known after.known
signed laws words solver solver' before after result out out' ran n c r is zero =
    let s = is_solved laws words solver solver' before after result out out' ran n c r is zero in
    leaves solver.told n c r s.signed before.known after.known s.file s.holds

accepts : (told : Option (List ℤ × List ℤ)) (n c r : List ℕ) (signed : Signed) (k l : Option Holdings) → SignsFile told k n signed → WhereKnown (HoldsBoth c r signed.certificate signed.report) k l → n ≢ c → n ≢ r → WhereKnown (LeavesAccepted n c) k l
accepts told n c r signed None None file holds not_c not_r = tt
accepts told n c r signed None (Some y) file holds not_c not_r = holds
accepts told n c r signed (Some x) None file holds not_c not_r = holds
accepts told n c r signed (Some x) (Some y) file holds not_c not_r = λ fits words is.
    let stays : file.text ≡ bytes_in y n = file.text_is ∙ ap (λ o. unwrap_or o []) (sym (holds.others n not_c not_r)) in
    let written : signed.certificate ≡ bytes_in y c = ap (λ o. unwrap_or o []) (sym holds.certificate_holds) in (
      file.named,
      file.merged,
      file.checked.lists,
      record {
        netlist = n;
        certificate = c;
        words_are = is;
        netlist_fits = subst (λ t. length t ≤ longest_text) stays file.fits;
        certificate_fits = fits;
        texts = record {
          network = subst (λ t. HasNetwork t file.named file.merged) stays file.signs.gives.network;
          certificate = subst (λ t. ReadsCertificate file.merged.names t (Ok file.checked.lists)) written file.checked.reads;
        };
      },
      file.checked.holds,
    )

pub accepted : AreLaws → (words : List (List ℕ)) (solver solver' : SolverThen) (before after : FilesThen) (result : ℕ) (out out' : SinkThen) → Ran words solver solver' before after result out out' → (n c r : List ℕ) → IsSolve words n c r → result ≡ 0 → n ≢ c → n ≢ r → WhereKnown (LeavesAccepted n c) before.known after.known
accepted laws words solver solver' before after result out out' ran n c r is zero not_c not_r =
    let s = is_solved laws words solver solver' before after result out out' ran n c r is zero in
    accepts solver.told n c r s.signed before.known after.known s.file s.holds not_c not_r

pub asked : AreLaws → (words : List (List ℕ)) (solver solver' : SolverThen) (before after : FilesThen) (result : ℕ) (out out' : SinkThen) → Ran words solver solver' before after result out out' → (n c r : List ℕ) → IsSolve words n c r → result ≡ 0 → Rose solver.proposals solver'.proposals
asked laws words solver solver' before after result out out' ran n c r is zero =
    let s = is_solved laws words solver solver' before after result out out' ran n c r is zero in s.asked

-- ---- a netlist that is solved
-- What a run over a netlist ends with, where no fault comes.
abbrev pub SolvedSo : ℕ → Merged → Type 0
SolvedSo result merged = ((result ≡ 0) × EachIsSupplied merged.net) ⊎ (((result ≡ 7) × ¬ EachIsSupplied merged.net) ⊎ (result ≡ 10))

module _ (laws : AreSolvingLaws) (solver solver' : SolverThen) (before after : FilesThen) (held : Holdings) (n c r : List ℕ) (named : Named) (merged : Merged) (told : before.known ≡ Some held)
    (fits : length (bytes_in held n) ≤ longest_text) (network : HasNetwork (bytes_in held n) named merged) (calm : ¬ Rose before.counts.faults after.counts.faults) where
  -- The text that was read has the network of the one that is held.
  read_network : (text : List ℕ) → IfSome before.known (λ h. text ≡ bytes_in h n) → HasNetwork text named merged
  read_network text is = subst (λ t. HasNetwork t named merged) (sym (of_held (λ h. text ≡ bytes_in h n) before.known held told is)) network

  by_refusal : (answer : Answer) → answer ≢ Want → RefusesFile before after n answer → SolvedSo (status_of answer) merged
  by_refusal answer some (kept, none, (text, is, short, refuses)) =
      let lacks = laws.supply n text named merged answer (read_network text is) refuses some in
      inr (inl (ap status_of lacks.1.1, lacks.0))

  pub solved_so : (answer : Answer) → Solves solver solver' before after n c r answer → SolvedSo (status_of answer) merged
  solved_so Usage why = absurd why
  solved_so Want why = inr (inr refl)
  solved_so (ReadFault file) why = absurd (calm why.2.fault)
  solved_so (WriteFault file) (signed, file_is, either) = elim either [ inl x ↦ absurd (calm x.1.fault) | inr y ↦ absurd (calm y.1.fault) ]
  solved_so (TooLong file) why =
      let long : longest_text < length (bytes_in held n) = of_held (λ h. longest_text < length (bytes_in h n)) before.known held told why.3 in
      absurd (omega (arith, long, fits))
  solved_so (Refused file place kind) why = by_refusal (Refused file place kind) (λ e. cc) why
  solved_so (NoGrid refusal) why = absurd why
  solved_so (Range quantity at number) why = by_refusal (Range quantity at number) (λ e. cc) why
  solved_so (PadConflict node first second) why = by_refusal (PadConflict node first second) (λ e. cc) why
  solved_so (Unsupplied node) why = by_refusal (Unsupplied node) (λ e. cc) why
  solved_so (Built built) why = absurd why
  solved_so Generated why = absurd why
  solved_so (FloatingCapacitor node) why = absurd why
  solved_so (TooManySteps number) why = absurd why
  solved_so (Stepped nodes steps) why = absurd why
  solved_so (SignedOff numbers) why = absurd why
  solved_so (Solved nodes resistors sweeps) (signed, file, none, numbers, asked, holds) =
      let same = (laws.network file.text file.named named file.merged merged file.signs.gives.network (read_network file.text file.text_is)).1 in
      inl (refl, subst (λ (m : Merged). EachIsSupplied m.net) same file.signs.supplied)
  solved_so (Certified nodes) why = absurd why
  solved_so (NotCertified node side found) why = absurd why

pub solved : AreLaws → AreSolvingLaws → (words : List (List ℕ)) (solver solver' : SolverThen) (before after : FilesThen) (result : ℕ) (out out' : SinkThen) → Ran words solver solver' before after result out out' → (held : Holdings) (named : Named) (merged : Merged) → before.known ≡ Some held → IsSolveOf words held named merged
    → ¬ Rose before.counts.faults after.counts.faults → ¬ Rose out.faults out'.faults → SolvedSo result merged
solved laws solving words solver solver' before after result out out' (answer, cause, ends) held named merged told whole calm calm_out =
    elim (unhindered result out out' answer ends calm_out) [
      | inr ten ↦ inr (inr ten)
      | inl e ↦ subst (λ x. SolvedSo x merged) (sym e) (elim (solve_cause laws words solver solver' before after whole.netlist whole.certificate whole.report answer whole.words_are cause).why [
        | inl want ↦ inr (inr (ap status_of want.0))
        | inr why ↦ solved_so solving solver solver' before after held whole.netlist whole.certificate whole.report named merged told whole.netlist_fits whole.network calm answer why
      ])
    ]
