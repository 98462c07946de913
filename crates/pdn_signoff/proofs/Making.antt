-- What follows from the cause of an answer of `generate` and the way in which the run ends with it.
use Rattle.std.proofs.Common.{◌≡◌, ◌⊎◌, inl, inr, ℕ, List, sym, ap, subst, arith}
use Rattle.outside.specs.Counts.{Rose}
use Rattle.outside.specs.Known.{WhereKnown}
use Rattle.answers.specs.declared.answer.Answer.{Answer}
use Rattle.answers.specs.declared.answer.Answer.TheVariants.{Want}
use Rattle.answers.specs.Answer.{status_of}
use Rattle.command_words.specs.declared.command.Command.TheVariants.{Build, Check, Solve, Generate, Step, Signoff}
use Rattle.output_files.specs.Outputs.{HoldEach}
use Rattle.pdn_signoff.specs.declared.design_files.DesignFiles.{DesignFiles}
use Rattle.pdn_signoff.specs.Words.{IsGenerate}
use Rattle.pdn_signoff.specs.Check.{FilesThen}
use Rattle.pdn_signoff.specs.Solve.{SolverThen, IsKept}
use Rattle.pdn_signoff.specs.Generate.{file_names, design_texts, Generates}
use Rattle.pdn_signoff.specs.Command.{SinkThen, IsCause, ChangesAmong}
use Rattle.pdn_signoff.proofs.Causes.{Ran, AreLaws, same_generate, unhindered, status_zero}
use Rattle.pdn_signoff.proofs.Generating.{zero_made, made_so, files_alone, kept_among}

-- The cause of an answer to words of `generate`, over its five files.
pub record IsGenerateCause (before after : FilesThen) (number side : ℕ) (files : DesignFiles) (answer : Answer) : Type 0 where
  pub why : ((answer ≡ Want) × IsKept before after) ⊎ Generates before after number side files answer

pub generate_cause : AreLaws → (words : List (List ℕ)) (solver solver' : SolverThen) (before after : FilesThen) (number side : ℕ) (files : DesignFiles) (answer : Answer) → IsGenerate words number side files → IsCause words solver solver' before after answer
    → IsGenerateCause before after number side files answer
generate_cause laws words solver solver' before after number side files answer is (inl (kept, inl want)) = record { why = inl (want, kept) }
generate_cause laws words solver solver' before after number side files answer is (inl (kept, inr used)) = absurd (used.1.2 number side files is)
generate_cause laws words solver solver' before after number side files answer is (inr (inl (n, c, is', kept, rest))) =
    let clash = laws.one_command words (Check n c) (Generate number side files.lef files.cells files.def files.pdn files.bias) is' is in cc
generate_cause laws words solver solver' before after number side files answer is (inr (inr (inl (n, c, r, is', why)))) =
    let clash = laws.one_command words (Solve n c r) (Generate number side files.lef files.cells files.def files.pdn files.bias) is' is in cc
generate_cause laws words solver solver' before after number side files answer is (inr (inr (inr (inr (inr (inl (g, is', why))))))) =
    let clash = laws.one_command words (Step g.netlist g.waves g.time g.steps g.certificate g.report) (Generate number side files.lef files.cells files.def files.pdn files.bias) is' is in cc
generate_cause laws words solver solver' before after number side files answer is (inr (inr (inr (inr (inr (inr (g, is', why))))))) =
    let clash = laws.one_command words (Signoff g.lef g.cells g.def g.wires g.bias g.netlist g.certificate g.report) (Generate number side files.lef files.cells files.def files.pdn files.bias) is' is in cc
generate_cause laws words solver solver' before after number side files answer is (inr (inr (inr (inr (inl (f, is', why)))))) =
    let clash = laws.one_command words (Build f.lef f.cells f.def f.pdn f.bias f.out_def f.netlist f.certificate f.report) (Generate number side files.lef files.cells files.def files.pdn files.bias) is' is in cc
generate_cause laws words solver solver' before after number side files answer is (inr (inr (inr (inl (number', side', files', is', why))))) =
    record { why = inr (same_generate laws words number' side' files' number side files is' is (λ n s f. Generates before after n s f answer) why) }

module _ (laws : AreLaws) (words : List (List ℕ)) (solver solver' : SolverThen) (before after : FilesThen) (result : ℕ) (out out' : SinkThen) where
  -- No file changes but the five.
  pub among : Ran words solver solver' before after result out out' → (number side : ℕ) (files : DesignFiles) → IsGenerate words number side files → WhereKnown (ChangesAmong (file_names files)) before.known after.known
  among (answer, cause, ends) number side files is =
      elim (generate_cause laws words solver solver' before after number side files answer is cause).why [
        | inl want ↦ kept_among before after number side files want.1
        | inr why ↦ files_alone before after number side files answer why
      ]

  -- After the status 0 the five files hold their texts.
  pub generated : Ran words solver solver' before after result out out' → (number side : ℕ) (files : DesignFiles) → IsGenerate words number side files → result ≡ 0 → WhereKnown (HoldEach (design_texts number side files)) before.known after.known
  generated (answer, cause, ends) number side files is zero =
      let e : status_of answer ≡ 0 = status_zero result out out' answer ends zero in
      elim (generate_cause laws words solver solver' before after number side files answer is cause).why [
        | inl want ↦ let ten : status_of answer ≡ 10 = ap status_of want.0 in absurd (omega arith)
        | inr why ↦ zero_made before after number side files answer why e
      ]

  -- The words end with 0, where no call fails and memory lasts.
  pub made : Ran words solver solver' before after result out out' → (number side : ℕ) (files : DesignFiles) → IsGenerate words number side files → ¬ Rose before.counts.faults after.counts.faults → ¬ Rose out.faults out'.faults → (result ≡ 0) ⊎ (result ≡ 10)
  made (answer, cause, ends) number side files is calm calm_out =
      elim (unhindered result out out' answer ends calm_out) [
        | inr ten ↦ inr ten
        | inl e ↦ subst (λ r. (r ≡ 0) ⊎ (r ≡ 10)) (sym e) (elim (generate_cause laws words solver solver' before after number side files answer is cause).why [
          | inl want ↦ inr (ap status_of want.0)
          | inr why ↦ made_so before after number side files calm answer why
        ])
      ]
