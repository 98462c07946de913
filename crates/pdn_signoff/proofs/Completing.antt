-- What follows from the cause of an answer of `build` and the way in which the run ends with it.
use Rattle.std.proofs.Common.{◌≡◌, ◌≤◌, ◌<◌, ◌⊎◌, inl, inr, ℕ, zero, suc, ℤ, List, [], Option, Some, None, length, unwrap_or, refl, sym, ap, subst, ◌∙◌, arith}
use Rattle.outside.specs.Counts.{Rose}
use Rattle.outside.specs.Files.{Holdings, bytes_in}
use Rattle.outside.specs.Known.{WhereKnown}
use Rattle.outside.specs.Whole.{longest_text}
use Rattle.answers.specs.declared.answer.Answer.{Answer}
use Rattle.answers.specs.declared.answer.Answer.TheVariants.{Usage, Want, ReadFault, WriteFault, TooLong, Refused, NoGrid, Range, TooManySteps, PadConflict, FloatingCapacitor, Unsupplied, Built, SignedOff, Generated, Solved, Stepped, Certified, NotCertified}
use Rattle.answers.specs.Answer.{status_of, built_status}
use Rattle.building.specs.declared.outputs.Outputs.{Outputs}
use Rattle.building.specs.Inputs.{FileText, FiveTexts}
use Rattle.certificate_file.specs.declared.lists.Lists.{Lists}
use Rattle.command_words.specs.declared.command.Command.{Command}
use Rattle.command_words.specs.declared.command.Command.TheVariants.{Build, Check, Solve, Generate, Step, Signoff}
use Rattle.grid_net.specs.Certificate.{IsCertificate}
use Rattle.input_files.specs.Inputs.{name_at}
use Rattle.judging.specs.Texts.{StandFor}
use Rattle.macro_building.specs.Refusal.{IsUnbuilt}
use Rattle.output_files.specs.Outputs.{HoldEach}
use Rattle.short_merge.specs.declared.merged.Merged.{Merged}
use Rattle.spice_grid.specs.declared.named.Named.{Named}
use Rattle.pdn_signoff.specs.declared.build_files.BuildFiles.{BuildFiles}
use Rattle.pdn_signoff.specs.Words.{IsBuild}
use Rattle.pdn_signoff.specs.Check.{FilesThen, IsTooLong}
use Rattle.pdn_signoff.specs.Inputs.{IsFirstUnread}
use Rattle.pdn_signoff.specs.Solve.{SolverThen, IsKept}
use Rattle.pdn_signoff.specs.Build.{files_read, files_written, output_texts, IsInput, AreInputs, BuildsFiles, RefusesFiles, LeavesBuilt, AreAccepted, Builds}
use Rattle.pdn_signoff.specs.Command.{SinkThen, IsCause, Ends, LeavesBuildAccepted, ChangesAmong}
use Rattle.pdn_signoff.proofs.Causes.{Ran, AreLaws, unhindered}
use Rattle.pdn_signoff.proofs.Building.{IsBuilt, low_status, built_so, files_alone, kept_among, failed_write}

-- The words of `build` name nine files alone, and are no others.
abbrev files_of : BuildFiles → Command → BuildFiles
files_of f (Build a b c d e g h i j) = record { lef = a; cells = b; def = c; pdn = d; bias = e; out_def = g; netlist = h; certificate = i; report = j }
files_of f (Solve n c r) = f
files_of f (Check n c) = f
files_of f (Generate m s a b c d e) = f
files_of f (Step n w t s c r) = f
files_of f (Signoff a b c d e g h i) = f

abbrev the_command : BuildFiles → Command
the_command f = Build f.lef f.cells f.def f.pdn f.bias f.out_def f.netlist f.certificate f.report

same_build : AreLaws → (words : List (List ℕ)) (f f' : BuildFiles) → IsBuild words f → IsBuild words f' → f ≡ f'
same_build laws words f f' a b = ap (files_of f) (laws.one_command words (the_command f) (the_command f') a b)

-- The cause of an answer to words of `build`, over its nine files.
pub record IsBuildCause (solver solver' : SolverThen) (before after : FilesThen) (f : BuildFiles) (answer : Answer) : Type 0 where
  pub why : ((answer ≡ Want) × IsKept before after) ⊎ Builds solver solver' before after f answer

pub build_cause : AreLaws → (words : List (List ℕ)) (solver solver' : SolverThen) (before after : FilesThen) (f : BuildFiles) (answer : Answer) → IsBuild words f → IsCause words solver solver' before after answer → IsBuildCause solver solver' before after f answer
build_cause laws words solver solver' before after f answer is (inl (kept, inl want)) = record { why = inl (want, kept) }
build_cause laws words solver solver' before after f answer is (inl (kept, inr used)) = absurd (used.1.3 f is)
build_cause laws words solver solver' before after f answer is (inr (inl (n, c, is', kept, rest))) =
    let clash = laws.one_command words (Check n c) (the_command f) is' is in cc
build_cause laws words solver solver' before after f answer is (inr (inr (inl (n, c, r, is', why)))) =
    let clash = laws.one_command words (Solve n c r) (the_command f) is' is in cc
build_cause laws words solver solver' before after f answer is (inr (inr (inr (inl (number, side, files, is', why))))) =
    let clash = laws.one_command words (Generate number side files.lef files.cells files.def files.pdn files.bias) (the_command f) is' is in cc
build_cause laws words solver solver' before after f answer is (inr (inr (inr (inr (inr (inl (g, is', why))))))) =
    let clash = laws.one_command words (Step g.netlist g.waves g.time g.steps g.certificate g.report) (the_command f) is' is in cc
build_cause laws words solver solver' before after f answer is (inr (inr (inr (inr (inr (inr (g, is', why))))))) =
    let clash = laws.one_command words (Signoff g.lef g.cells g.def g.wires g.bias g.netlist g.certificate g.report) (the_command f) is' is in cc
build_cause laws words solver solver' before after f answer is (inr (inr (inr (inr (inl (f', is', why)))))) =
    record { why = inr (subst (λ (x : BuildFiles). Builds solver solver' before after x answer) (same_build laws words f' f is' is) why) }

-- The status of a run that ends with 0 or 1 is that of its answer.
pub of_ending : (result : ℕ) (out out' : SinkThen) (answer : Answer) → Ends result out out' answer → (result ≡ 0) ⊎ (result ≡ 1) → result ≡ status_of answer
of_ending result out out' answer (inl told) low = told.0
of_ending result out out' answer (inr (inl unwritten)) low =
    let three : result ≡ 3 = unwritten.0 in absurd (elim low [ inl z ↦ omega (arith, z, three) | inr o ↦ omega (arith, o, three) ])
of_ending result out out' answer (inr (inr want)) low =
    let ten : result ≡ 10 = want.0 in absurd (elim low [ inl z ↦ omega (arith, z, ten) | inr o ↦ omega (arith, o, ten) ])

-- ---- what is accepted is built
abbrev the_text : FileText → FileText
the_text t = t

abbrev the_texts : FiveTexts → FiveTexts
the_texts t = t

-- The texts of the files are known, so they are those that are accepted.
pub same_text : (held : Holdings) (file : List ℕ) (a b : FileText) → IsInput (Some held) file a → IsInput (Some held) file b → a ≡ b
same_text held file a b one other =
    ap (λ (f : List ℕ). the_text (record { file = f; text = a.text })) (one.file_is ∙ sym other.file_is) ∙ ap (λ (t : List ℕ). the_text (record { file = b.file; text = t })) (one.text_is ∙ sym other.text_is)

pub same_texts : (held : Holdings) (f : BuildFiles) (a b : FiveTexts) → AreInputs (Some held) f a → AreInputs (Some held) f b → a ≡ b
same_texts held f a b one other =
    ap (λ (x : FileText). the_texts (record { lef = x; cells = a.cells; def = a.def; pdn = a.pdn; bias = a.bias })) (same_text held f.lef a.lef b.lef one.lef other.lef)
    ∙ ap (λ (x : FileText). the_texts (record { lef = b.lef; cells = x; def = a.def; pdn = a.pdn; bias = a.bias })) (same_text held f.cells a.cells b.cells one.cells other.cells)
    ∙ ap (λ (x : FileText). the_texts (record { lef = b.lef; cells = b.cells; def = x; pdn = a.pdn; bias = a.bias })) (same_text held f.def a.def b.def one.def other.def)
    ∙ ap (λ (x : FileText). the_texts (record { lef = b.lef; cells = b.cells; def = b.def; pdn = x; bias = a.bias })) (same_text held f.pdn a.pdn b.pdn one.pdn other.pdn)
    ∙ ap (λ (x : FileText). the_texts (record { lef = b.lef; cells = b.cells; def = b.def; pdn = b.pdn; bias = x })) (same_text held f.bias a.bias b.bias one.bias other.bias)

-- Each of the files has at most as many bytes as an input may have.
module _ (held : Holdings) (f : BuildFiles) (t : FiveTexts) (texts : AreInputs (Some held) f t) where
  fits : (file : List ℕ) (x : FileText) → IsInput (Some held) file x → length (bytes_in held file) ≤ longest_text
  fits file x input = subst (λ (y : List ℕ). length y ≤ longest_text) input.text_is input.fits

  pub each_fits : (place : ℕ) → place < 5 → length (bytes_in held (name_at (files_read f) place)) ≤ longest_text
  each_fits zero below = fits f.lef t.lef texts.lef
  each_fits (suc zero) below = fits f.cells t.cells texts.cells
  each_fits (suc (suc zero)) below = fits f.def t.def texts.def
  each_fits (suc (suc (suc zero))) below = fits f.pdn t.pdn texts.pdn
  each_fits (suc (suc (suc (suc zero)))) below = fits f.bias t.bias texts.bias
  each_fits (suc (suc (suc (suc (suc n))))) below = absurd (omega (arith, below))

module _ (solver solver' : SolverThen) (before after : FilesThen) (held : Holdings) (known : before.known ≡ Some held) (f : BuildFiles) (t : FiveTexts) (accepted : AreAccepted held f t) where
  -- No text is refused.
  none_refused : (answer : Answer) → RefusesFiles before after f answer → answer ≡ Want
  none_refused answer (kept, calm, (t', are, why)) =
      let here : AreInputs (Some held) f t' = subst (λ k. AreInputs k f t') known are in
      accepted.accepted answer (subst (λ (x : FiveTexts). IsUnbuilt x answer) (same_texts held f t' t here accepted.texts) why)

  none_long : (file : List ℕ) (place : ℕ) → IsFirstUnread before.known (files_read f) file place → ¬ IsTooLong before.known file
  none_long file place first long =
      let more : longest_text < length (bytes_in held file) = subst (λ k. IsTooLong k file) known long in
      absurd (omega (arith, more, subst (λ (x : List ℕ). length (bytes_in held x) ≤ longest_text) (sym first.is) (each_fits held f t accepted.texts place first.below)))

  -- Where no call on the files fails, the texts are built, or memory ran out.
  pub built_whole : ¬ Rose before.counts.faults after.counts.faults → (answer : Answer) → Builds solver solver' before after f answer → (status_of answer ≡ 0) ⊎ ((status_of answer ≡ 1) ⊎ (status_of answer ≡ 10))
  built_whole calm Usage why = absurd why
  built_whole calm Want why = inr (inr refl)
  built_whole calm (ReadFault file) (kept, (place, first, fails)) = absurd (calm fails.failed.fault)
  built_whole calm (WriteFault file) (outputs, builds, stops) = absurd (calm (failed_write solver solver' before after f outputs file stops).fault)
  built_whole calm (TooLong file) (kept, none, (place, first, long)) = absurd (none_long file place first long)
  built_whole calm (Refused file place kind) why = let clash = none_refused (Refused file place kind) why in cc
  built_whole calm (NoGrid words) why = let clash = none_refused (NoGrid words) why in cc
  built_whole calm (Range quantity at number) why = let clash = none_refused (Range quantity at number) why in cc
  built_whole calm (PadConflict node first second) why = absurd why
  built_whole calm (Unsupplied node) why = let clash = none_refused (Unsupplied node) why in cc
  built_whole calm (Built numbers) why = elim (low_status numbers) [ inl z ↦ inl z | inr o ↦ inr (inl o) ]
  built_whole calm Generated why = absurd why
  built_whole calm (FloatingCapacitor node) why = absurd why
  built_whole calm (TooManySteps number) why = absurd why
  built_whole calm (Stepped nodes steps) why = absurd why
  built_whole calm (SignedOff numbers) why = absurd why
  built_whole calm (Solved nodes resistors sweeps) why = absurd why
  built_whole calm (Certified nodes) why = absurd why
  built_whole calm (NotCertified node side found) why = absurd why

leaves : (told : Option (List ℤ × List ℤ)) (f : BuildFiles) (outputs : Outputs) (status : ℕ) → status ≡ built_status outputs.numbers → (k l : Option Holdings) → BuildsFiles told k f outputs → WhereKnown (HoldEach (output_texts f outputs)) k l
    → WhereKnown (LeavesBuilt told f status) k l
leaves told f outputs status is None None builds holds = tt
leaves told f outputs status is None (Some y) builds holds = holds
leaves told f outputs status is (Some x) None builds holds = holds
leaves told f outputs status is (Some x) (Some y) builds holds = record { outputs = outputs; builds = builds; files = holds; status_is = is }

-- ---- what is built passes `check`
accepts : (f : BuildFiles) (outputs : Outputs) (named : Named) (merged : Merged) (lists : Lists) (k l : Option Holdings) → StandFor outputs.netlist outputs.certificate named merged lists → IsCertificate merged.net lists.high lists.low
    → WhereKnown (HoldEach (output_texts f outputs)) k l → WhereKnown (LeavesBuildAccepted f) k l
accepts f outputs named merged lists None None stand certified holds = tt
accepts f outputs named merged lists None (Some y) stand certified holds = holds
accepts f outputs named merged lists (Some x) None stand certified holds = holds
accepts f outputs named merged lists (Some x) (Some y) stand certified holds = λ netlist_fits certificate_fits words is.
    let netlist : outputs.netlist ≡ bytes_in y f.netlist = ap (λ o. unwrap_or o []) (sym (holds.each 1 ([], []) (omega arith))) in
    let certificate : outputs.certificate ≡ bytes_in y f.certificate = ap (λ o. unwrap_or o []) (sym (holds.each 2 ([], []) (omega arith))) in (
      named,
      merged,
      lists,
      record {
        netlist = f.netlist;
        certificate = f.certificate;
        words_are = is;
        netlist_fits = netlist_fits;
        certificate_fits = certificate_fits;
        texts = subst (λ t. StandFor t (bytes_in y f.certificate) named merged lists) netlist (subst (λ t. StandFor outputs.netlist t named merged lists) certificate stand);
      },
      certified,
    )

module _ (laws : AreLaws) (words : List (List ℕ)) (solver solver' : SolverThen) (before after : FilesThen) (result : ℕ) (out out' : SinkThen) where
  -- No file changes but the four outputs.
  pub among_built : Ran words solver solver' before after result out out' → (f : BuildFiles) → IsBuild words f → WhereKnown (ChangesAmong (files_written f)) before.known after.known
  among_built (answer, cause, ends) f is =
      elim (build_cause laws words solver solver' before after f answer is cause).why [
        | inl want ↦ kept_among solver solver' before after f want.1
        | inr why ↦ files_alone solver solver' before after f answer why
      ]

  built_in : Ran words solver solver' before after result out out' → (f : BuildFiles) → IsBuild words f → (result ≡ 0) ⊎ (result ≡ 1) → IsBuilt solver solver' before after f result
  built_in (answer, cause, ends) f is low =
      let e : result ≡ status_of answer = of_ending result out out' answer ends low in
      elim (build_cause laws words solver solver' before after f answer is cause).why [
        | inl want ↦ let ten : status_of answer ≡ 10 = ap status_of want.0 in absurd (elim low [ inl z ↦ omega (arith, e, z, ten) | inr o ↦ omega (arith, e, o, ten) ])
        | inr why ↦ subst (IsBuilt solver solver' before after f) (sym e) (built_so solver solver' before after f answer why (elim low [ inl z ↦ inl (sym e ∙ z) | inr o ↦ inr (sym e ∙ o) ]))
      ]

  -- After the status 0 or 1 the outputs hold what was built.
  pub built : Ran words solver solver' before after result out out' → (f : BuildFiles) → IsBuild words f → (result ≡ 0) ⊎ (result ≡ 1) → WhereKnown (LeavesBuilt solver.told f result) before.known after.known
  built ran f is low = let b = built_in ran f is low in leaves solver.told f b.outputs result b.status_is before.known after.known b.builds b.written

  -- Then `check` accepts the netlist and the certificate.
  pub accepted_built : Ran words solver solver' before after result out out' → (f : BuildFiles) → IsBuild words f → (result ≡ 0) ⊎ (result ≡ 1) → WhereKnown (LeavesBuildAccepted f) before.known after.known
  accepted_built ran f is low = let b = built_in ran f is low in let checked = b.builds.checked in accepts f b.outputs _ _ _ before.known after.known checked.texts checked.holds b.written

  -- Then the solver was asked.
  pub asked_built : Ran words solver solver' before after result out out' → (f : BuildFiles) → IsBuild words f → (result ≡ 0) ⊎ (result ≡ 1) → Rose solver.proposals solver'.proposals
  asked_built ran f is low = (built_in ran f is low).asked

  -- Texts that nothing refuses are built, where no call fails and memory lasts.
  pub completed : Ran words solver solver' before after result out out' → (held : Holdings) (f : BuildFiles) (t : FiveTexts) → before.known ≡ Some held → IsBuild words f → AreAccepted held f t → ¬ Rose before.counts.faults after.counts.faults → ¬ Rose out.faults out'.faults
      → (result ≡ 0) ⊎ ((result ≡ 1) ⊎ (result ≡ 10))
  completed (answer, cause, ends) held f t known is accepted calm calm_out =
      elim (unhindered result out out' answer ends calm_out) [
        | inr ten ↦ inr (inr ten)
        | inl e ↦ subst (λ r. (r ≡ 0) ⊎ ((r ≡ 1) ⊎ (r ≡ 10))) (sym e) (elim (build_cause laws words solver solver' before after f answer is cause).why [
          | inl want ↦ inr (inr (ap status_of want.0))
          | inr why ↦ built_whole solver solver' before after held known f t accepted calm answer why
        ])
      ]
