-- The answers of `solve`, each with its cause.
use Rattle.std.proofs.Common.{◌≡◌, ◌≤◌, ◌<◌, ◌⊎◌, inl, inr, ℕ, List, Option, Some, None, IfSome, OnSome, length, refl, sym, ap, subst, ◌∙◌, arith}
use Rattle.std.proofs.lemmas.List.{take_all}
use Rattle.outside.specs.Counts.{Rose}
use Rattle.outside.specs.Files.{Holdings, HoldsFirst, bytes_in}
use Rattle.outside.specs.Known.{WhereKnown}
use Rattle.outside.specs.Whole.{longest_text}
use Rattle.outside.specs.declared.whole.ReadError.{ReadError}
use Rattle.outside.specs.declared.whole.ReadError.TheVariants as reading
use Rattle.answers.specs.declared.answer.Answer.{Answer}
use Rattle.answers.specs.declared.answer.Answer.TheVariants.{Usage, Want, ReadFault, WriteFault, TooLong, Refused, NoGrid, Range, TooManySteps, PadConflict, FloatingCapacitor, Unsupplied, Built, SignedOff, Generated, Solved, Stepped, Certified, NotCertified}
use Rattle.solving.specs.declared.signed.Signed.{Signed}
use Rattle.solving.specs.Refusal.{IsUnsigned, IsToUnsigned}
use Rattle.pdn_signoff.specs.Check.{FilesThen, NoneFailed, IsTextOf}
use Rattle.pdn_signoff.specs.Solve.{SolverThen, IsKept, HoldsBoth, HoldsFirstOfReport, SignsFile, Solves}
use Rattle.pdn_signoff.specs.Command.{IsCause, ChangesOnly}
use Rattle.pdn_signoff.specs.inside.Check.{unread_answer}
use Rattle.pdn_signoff.specs.inside.Solve.{Writes}
use Rattle.pdn_signoff.proofs.Building.{want_built}
use Rattle.pdn_signoff.proofs.Generating.{want_made}
use Rattle.pdn_signoff.proofs.SignoffAnswers.{want_signed_off}
use Rattle.pdn_signoff.proofs.StepAnswers.{want_stepped}

module _ (solver solver' : SolverThen) (before after : FilesThen) (n c r : List ℕ) where
  -- The netlist was not read.
  of_error : IsKept before after → (e : ReadError) → (e ≡ reading.ReadFault → Rose before.counts.faults after.counts.faults) → (e ≡ reading.ReadFault → OnSome before.known (Rose (before.counts.reads n) (after.counts.reads n)))
      → (e ≡ reading.TooLong → IfSome before.known (λ held. longest_text < length (bytes_in held n))) → (e ≡ reading.TooLong → NoneFailed before after) → Solves solver solver' before after n c r (unread_answer e n)
  of_error kept reading.ReadFault fault of_name long calm = (refl, kept, record { fault = fault refl; failed_read = of_name refl })
  of_error kept reading.TooLong fault of_name long calm = (refl, kept, calm refl, long refl)
  of_error kept reading.Want fault of_name long calm = inl kept

  pub netlist_unread : IsKept before after → (e : ReadError) → (e ≡ reading.ReadFault → Rose before.counts.faults after.counts.faults) → (e ≡ reading.ReadFault → OnSome before.known (Rose (before.counts.reads n) (after.counts.reads n)))
      → (e ≡ reading.TooLong → IfSome before.known (λ held. longest_text < length (bytes_in held n))) → (e ≡ reading.TooLong → NoneFailed before after) → (answer : Answer) → ((answer ≡ Want) ⊎ (answer ≡ unread_answer e n)) → Solves solver solver' before after n c r answer
  netlist_unread kept e fault of_name long calm answer (inl want) = subst (Solves solver solver' before after n c r) (sym want) (inl kept)
  netlist_unread kept e fault of_name long calm answer (inr told) = subst (Solves solver solver' before after n c r) (sym told) (of_error kept e fault of_name long calm)

  -- The text of the netlist was refused.
  pub file_refused : IsKept before after → NoneFailed before after → (text : List ℕ) → IsTextOf before.known n text → length text ≤ longest_text → (answer : Answer) → IsToUnsigned answer → IsUnsigned n text answer → Solves solver solver' before after n c r answer
  file_refused kept calm text is fits Usage sort refuses = sort
  file_refused kept calm text is fits Want sort refuses = inl kept
  file_refused kept calm text is fits (ReadFault file) sort refuses = absurd sort
  file_refused kept calm text is fits (WriteFault file) sort refuses = absurd sort
  file_refused kept calm text is fits (TooLong file) sort refuses = absurd sort
  file_refused kept calm text is fits (Refused file place kind) sort refuses = (kept, calm, (text, is, fits, refuses))
  file_refused kept calm text is fits (NoGrid refusal) sort refuses = sort
  file_refused kept calm text is fits (Range quantity at number) sort refuses = (kept, calm, (text, is, fits, refuses))
  file_refused kept calm text is fits (PadConflict node first second) sort refuses = (kept, calm, (text, is, fits, refuses))
  file_refused kept calm text is fits (Unsupplied node) sort refuses = (kept, calm, (text, is, fits, refuses))
  file_refused kept calm text is fits (Built built) sort refuses = sort
  file_refused kept calm text is fits Generated sort refuses = sort
  file_refused kept calm text is fits (FloatingCapacitor node) sort refuses = sort
  file_refused kept calm text is fits (TooManySteps number) sort refuses = sort
  file_refused kept calm text is fits (Stepped nodes steps) sort refuses = sort
  file_refused kept calm text is fits (SignedOff numbers) sort refuses = sort
  file_refused kept calm text is fits (Solved nodes resistors sweeps) sort refuses = absurd sort
  file_refused kept calm text is fits (Certified nodes) sort refuses = sort
  file_refused kept calm text is fits (NotCertified node side found) sort refuses = sort

  -- The two texts were written, or one of them was not.
  pub texts_written : (signed : Signed) → SignsFile solver.told before.known n signed → Rose solver.proposals solver'.proposals → (answer : Answer) → Writes before after c r signed answer → Solves solver solver' before after n c r answer
  texts_written signed file asked answer (inl (told, failed, stands)) = subst (Solves solver solver' before after n c r) (sym told) (signed, file, inl (refl, failed, stands))
  texts_written signed file asked answer (inr (inl (told, failed, stands))) = subst (Solves solver solver' before after n c r) (sym told) (signed, file, inr (refl, failed, stands))
  texts_written signed file asked answer (inr (inr (inl (told, stands)))) = subst (Solves solver solver' before after n c r) (sym told) (inr (signed, file, stands))
  texts_written signed file asked answer (inr (inr (inr (told, calm, holds)))) =
      subst (Solves solver solver' before after n c r) (sym told) (signed, file, calm, record { nodes_are = refl; resistors_are = refl; sweeps_are = refl }, asked, holds)

  -- ---- want of memory
  -- A report that is whole holds its first bytes, all of them.
  whole_known : (ct rt : List ℕ) (k l : Option Holdings) → WhereKnown (HoldsBoth c r ct rt) k l → WhereKnown (HoldsFirstOfReport c r ct rt) k l
  whole_known ct rt None None holds = tt
  whole_known ct rt None (Some y) holds = holds
  whole_known ct rt (Some x) None holds = holds
  whole_known ct rt (Some x) (Some y) holds = inr (length rt, subst (λ t. HoldsBoth c r ct t x y) (sym (take_all (length rt) rt (omega arith))) holds)

  -- Memory may have run out at any answer: so far were the outputs written.
  pub want_solved : (answer : Answer) → Solves solver solver' before after n c r answer → Solves solver solver' before after n c r Want
  want_solved Usage why = absurd why
  want_solved Want why = why
  want_solved (ReadFault file) why = inl why.1
  want_solved (WriteFault file) (signed, file_is, either) = inr (signed, file_is, elim either [ inl x ↦ inl x.2 | inr y ↦ inr y.2 ])
  want_solved (TooLong file) why = inl why.1
  want_solved (Refused file place kind) why = inl why.0
  want_solved (NoGrid refusal) why = absurd why
  want_solved (Range quantity at number) why = inl why.0
  want_solved (PadConflict node first second) why = inl why.0
  want_solved (Unsupplied node) why = inl why.0
  want_solved (Built built) why = absurd why
  want_solved Generated why = absurd why
  want_solved (FloatingCapacitor node) why = absurd why
  want_solved (TooManySteps number) why = absurd why
  want_solved (Stepped nodes steps) why = absurd why
  want_solved (SignedOff numbers) why = absurd why
  want_solved (Solved nodes resistors sweeps) (signed, file_is, calm, numbers, asked, holds) =
      inr (signed, file_is, inr (whole_known signed.certificate signed.report before.known after.known holds))
  want_solved (Certified nodes) why = absurd why
  want_solved (NotCertified node side found) why = absurd why

  -- ---- no other file changes
  pub stays : (k l : Option Holdings) → l ≡ k → WhereKnown (ChangesOnly c r) k l
  stays k l same = subst (λ (m : Option Holdings). WhereKnown (ChangesOnly c r) k m) (sym same) (alone k)
    where
      alone : (k : Option Holdings) → WhereKnown (ChangesOnly c r) k k
      alone None = tt
      alone (Some held) = λ file not_c not_r. refl

  first_alone : (ct : List ℕ) (k l : Option Holdings) → WhereKnown (HoldsFirst c ct) k l → WhereKnown (ChangesOnly c r) k l
  first_alone ct None None holds = tt
  first_alone ct None (Some y) holds = holds
  first_alone ct (Some x) None holds = holds
  first_alone ct (Some x) (Some y) (inl same) = λ file not_c not_r. ap (λ (h : Holdings). h file) same
  first_alone ct (Some x) (Some y) (inr (m, holds)) = λ file not_c not_r. holds.others file not_c

  both_alone : (ct rt : List ℕ) (k l : Option Holdings) → WhereKnown (HoldsFirstOfReport c r ct rt) k l → WhereKnown (ChangesOnly c r) k l
  both_alone ct rt None None holds = tt
  both_alone ct rt None (Some y) holds = holds
  both_alone ct rt (Some x) None holds = holds
  both_alone ct rt (Some x) (Some y) (inl holds) = λ file not_c not_r. holds.others file not_c
  both_alone ct rt (Some x) (Some y) (inr (m, holds)) = λ file not_c not_r. holds.others file not_c not_r

  pub outputs_alone : Solves solver solver' before after n c r Want → WhereKnown (ChangesOnly c r) before.known after.known
  outputs_alone (inl kept) = stays before.known after.known kept
  outputs_alone (inr (signed, file, inl stands)) = first_alone signed.certificate before.known after.known stands
  outputs_alone (inr (signed, file, inr stands)) = both_alone signed.certificate signed.report before.known after.known stands

-- Files that are known alike, and of which no count changed, are the same.
abbrev the_files : FilesThen → FilesThen
the_files f = f

pub same_files : (mid before : FilesThen) → mid.known ≡ before.known → mid.counts ≡ before.counts → mid ≡ before
same_files mid before known counts =
    ap (λ z. the_files (record { known = z; counts = mid.counts })) known ∙ ap (λ z. the_files (record { known = before.known; counts = z })) counts

-- Memory may have run out over the line of any answer.
pub want_too : (words : List (List ℕ)) (solver solver' : SolverThen) (before after : FilesThen) (answer : Answer) → IsCause words solver solver' before after answer → IsCause words solver solver' before after Want
want_too words solver solver' before after answer (inl free) = inl (free.0, inl refl)
want_too words solver solver' before after answer (inr (inl check)) = inl (check.3, inl refl)
want_too words solver solver' before after answer (inr (inr (inl (n, c, r, is, why)))) = inr (inr (inl (n, c, r, is, want_solved solver solver' before after n c r answer why)))
want_too words solver solver' before after answer (inr (inr (inr (inl (number, side, files, is, why))))) = inr (inr (inr (inl (number, side, files, is, want_made before after number side files answer why))))
want_too words solver solver' before after answer (inr (inr (inr (inr (inl (f, is, why)))))) = inr (inr (inr (inr (inl (f, is, want_built solver solver' before after f answer why)))))
want_too words solver solver' before after answer (inr (inr (inr (inr (inr (inl (f, is, why))))))) = inr (inr (inr (inr (inr (inl (f, is, want_stepped solver solver' before after f answer why))))))
want_too words solver solver' before after answer (inr (inr (inr (inr (inr (inr (f, is, why))))))) = inr (inr (inr (inr (inr (inr (f, is, want_signed_off solver solver' before after f answer why))))))
