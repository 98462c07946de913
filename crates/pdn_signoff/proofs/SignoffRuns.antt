-- What follows from the cause of an answer of `signoff` and the way in which the run ends with it.
use Rattle.std.proofs.Common.{◌≡◌, ◌≢◌, ◌≤◌, ◌<◌, ◌⊎◌, inl, inr, ℕ, zero, suc, ℤ, List, [], Option, Some, None, length, unwrap_or, refl, sym, ap, subst, ◌∙◌, arith}
use Rattle.outside.specs.Counts.{Rose}
use Rattle.outside.specs.Files.{Holdings, bytes_in}
use Rattle.outside.specs.Known.{WhereKnown}
use Rattle.outside.specs.Whole.{longest_text}
use Rattle.answers.specs.declared.answer.Answer.{Answer}
use Rattle.answers.specs.declared.answer.Answer.TheVariants.{Usage, Want, ReadFault, WriteFault, TooLong, Refused, NoGrid, Range, TooManySteps, PadConflict, FloatingCapacitor, Unsupplied, Built, SignedOff, Generated, Solved, Stepped, Certified, NotCertified}
use Rattle.answers.specs.declared.built.Built.{Built as Numbers}
use Rattle.answers.specs.Answer.{status_of, built_status}
use Rattle.building.specs.Inputs.{FileText}
use Rattle.certificate_file.specs.declared.lists.Lists.{Lists}
use Rattle.command_words.specs.declared.command.Command.{Command}
use Rattle.command_words.specs.declared.command.Command.TheVariants.{Build, Check, Solve, Generate, Step, Signoff}
use Rattle.grid_net.specs.Certificate.{IsCertificate}
use Rattle.grid_signing.specs.declared.signed.SignedGrid.{SignedGrid}
use Rattle.input_files.specs.Inputs.{name_at}
use Rattle.judging.specs.Texts.{StandFor}
use Rattle.one_design.specs.Same.{AreWiredAlike}
use Rattle.output_files.specs.Outputs.{Texts, HoldEach}
use Rattle.short_merge.specs.declared.merged.Merged.{Merged}
use Rattle.signing_off.specs.Inputs.{WiredTexts}
use Rattle.signing_off.specs.Refusal.{IsUnsigned}
use Rattle.signing_off.specs.Signing.{WiredDesign, IsWiredDesign}
use Rattle.spice_grid.specs.declared.named.Named.{Named}
use Rattle.pdn_signoff.specs.declared.signoff_files.SignoffFiles.{SignoffFiles}
use Rattle.pdn_signoff.specs.Words.{IsSignoff}
use Rattle.pdn_signoff.specs.Build.{IsInput}
use Rattle.pdn_signoff.specs.Check.{FilesThen, IsTooLong}
use Rattle.pdn_signoff.specs.Inputs.{IsFirstUnread}
use Rattle.pdn_signoff.specs.Solve.{SolverThen, IsKept}
use Rattle.pdn_signoff.specs.Signoff.{signoff_files_read, signoff_files_written, signed_texts, AreWiredInputs, SignsFiles, RefusesWiredFiles, MakesSigned, SignsOff, LeavesSignedOff, AreWiredAccepted, AreSignedAlike}
use Rattle.pdn_signoff.specs.Command.{SinkThen, IsCause, CanRise, LeavesSignoffAccepted, ChangesAmong}
use Rattle.pdn_signoff.proofs.Alike.{of_two}
use Rattle.pdn_signoff.proofs.Causes.{Ran, AreLaws, unhindered}
use Rattle.pdn_signoff.proofs.Completing.{same_text, of_ending}
use Rattle.pdn_signoff.proofs.Running.{whole}
use Rattle.pdn_signoff.proofs.SignoffAnswers.{AreToWiring, IsSignedWhole, alone_signed, low_signed, low_status}
use Rattle.pdn_signoff.proofs.Sizes.{AreSizesOf, one_grid, sizes_of}
use Rattle.pdn_signoff.proofs.Staged.{IsStage, one_of_all}

-- The words of `signoff` name eight files alone, and are no others.
abbrev files_of : SignoffFiles → Command → SignoffFiles
files_of f (Signoff a b c d e g h i) = record { lef = a; cells = b; def = c; wires = d; bias = e; netlist = g; certificate = h; report = i }
files_of f (Build a b c d e g h i j) = f
files_of f (Solve n c r) = f
files_of f (Check n c) = f
files_of f (Generate m s a b c d e) = f
files_of f (Step n w t s c r) = f

abbrev the_command : SignoffFiles → Command
the_command f = Signoff f.lef f.cells f.def f.wires f.bias f.netlist f.certificate f.report

same_signoff : AreLaws → (words : List (List ℕ)) (f f' : SignoffFiles) → IsSignoff words f → IsSignoff words f' → f ≡ f'
same_signoff laws words f f' a b = ap (files_of f) (laws.one_command words (the_command f) (the_command f') a b)

-- The cause of an answer to words of `signoff`, over its eight files.
pub record IsSignoffCause (solver solver' : SolverThen) (before after : FilesThen) (f : SignoffFiles) (answer : Answer) : Type 0 where
  pub why : ((answer ≡ Want) × IsKept before after) ⊎ SignsOff solver solver' before after f answer

signoff_cause : AreLaws → (words : List (List ℕ)) (solver solver' : SolverThen) (before after : FilesThen) (f : SignoffFiles) (answer : Answer) → IsSignoff words f → IsCause words solver solver' before after answer → IsSignoffCause solver solver' before after f answer
signoff_cause laws words solver solver' before after f answer is (inl (kept, inl want)) = record { why = inl (want, kept) }
signoff_cause laws words solver solver' before after f answer is (inl (kept, inr used)) = absurd (used.1.5 f is)
signoff_cause laws words solver solver' before after f answer is (inr (inl (n, c, is', kept, rest))) =
    let clash = laws.one_command words (Check n c) (the_command f) is' is in cc
signoff_cause laws words solver solver' before after f answer is (inr (inr (inl (n, c, r, is', why)))) =
    let clash = laws.one_command words (Solve n c r) (the_command f) is' is in cc
signoff_cause laws words solver solver' before after f answer is (inr (inr (inr (inl (number, side, files, is', why))))) =
    let clash = laws.one_command words (Generate number side files.lef files.cells files.def files.pdn files.bias) (the_command f) is' is in cc
signoff_cause laws words solver solver' before after f answer is (inr (inr (inr (inr (inl (g, is', why)))))) =
    let clash = laws.one_command words (Build g.lef g.cells g.def g.pdn g.bias g.out_def g.netlist g.certificate g.report) (the_command f) is' is in cc
signoff_cause laws words solver solver' before after f answer is (inr (inr (inr (inr (inr (inl (g, is', why))))))) =
    let clash = laws.one_command words (Step g.netlist g.waves g.time g.steps g.certificate g.report) (the_command f) is' is in cc
signoff_cause laws words solver solver' before after f answer is (inr (inr (inr (inr (inr (inr (f', is', why))))))) =
    record { why = inr (subst (λ (x : SignoffFiles). SignsOff solver solver' before after x answer) (same_signoff laws words f' f is' is) why) }

-- ---- the texts
abbrev the_texts : WiredTexts → WiredTexts
the_texts t = t

-- The texts of the files are known, so they are those that are accepted.
same_texts : (held : Holdings) (f : SignoffFiles) (a b : WiredTexts) → AreWiredInputs (Some held) f a → AreWiredInputs (Some held) f b → a ≡ b
same_texts held f a b one other =
    ap (λ (x : FileText). the_texts (record { lef = x; cells = a.cells; def = a.def; wires = a.wires; bias = a.bias })) (same_text held f.lef a.lef b.lef one.lef other.lef)
    ∙ ap (λ (x : FileText). the_texts (record { lef = b.lef; cells = x; def = a.def; wires = a.wires; bias = a.bias })) (same_text held f.cells a.cells b.cells one.cells other.cells)
    ∙ ap (λ (x : FileText). the_texts (record { lef = b.lef; cells = b.cells; def = x; wires = a.wires; bias = a.bias })) (same_text held f.def a.def b.def one.def other.def)
    ∙ ap (λ (x : FileText). the_texts (record { lef = b.lef; cells = b.cells; def = b.def; wires = x; bias = a.bias })) (same_text held f.wires a.wires b.wires one.wires other.wires)
    ∙ ap (λ (x : FileText). the_texts (record { lef = b.lef; cells = b.cells; def = b.def; wires = b.wires; bias = x })) (same_text held f.bias a.bias b.bias one.bias other.bias)

-- Each of the files has at most as many bytes as an input may have.
module _ (held : Holdings) (f : SignoffFiles) (t : WiredTexts) (texts : AreWiredInputs (Some held) f t) where
  fits : (file : List ℕ) (x : FileText) → IsInput (Some held) file x → length (bytes_in held file) ≤ longest_text
  fits file x input = subst (λ (y : List ℕ). length y ≤ longest_text) input.text_is input.fits

  each_fits : (place : ℕ) → place < 5 → length (bytes_in held (name_at (signoff_files_read f) place)) ≤ longest_text
  each_fits zero below = fits f.lef t.lef texts.lef
  each_fits (suc zero) below = fits f.cells t.cells texts.cells
  each_fits (suc (suc zero)) below = fits f.def t.def texts.def
  each_fits (suc (suc (suc zero))) below = fits f.wires t.wires texts.wires
  each_fits (suc (suc (suc (suc zero)))) below = fits f.bias t.bias texts.bias
  each_fits (suc (suc (suc (suc (suc n))))) below = absurd (omega (arith, below))

-- ---- the end of the run
leaves : (told : Option (List ℤ × List ℤ)) (f : SignoffFiles) (signed : SignedGrid) (outputs : Texts) (status : ℕ) → outputs ≡ signed_texts f signed → status ≡ built_status signed.numbers → (k l : Option Holdings) → SignsFiles told k f signed → WhereKnown (HoldEach outputs) k l
    → WhereKnown (LeavesSignedOff told f status) k l
leaves told f signed outputs status are is None None files holds = tt
leaves told f signed outputs status are is None (Some y) files holds = holds
leaves told f signed outputs status are is (Some x) None files holds = holds
leaves told f signed outputs status are is (Some x) (Some y) files holds =
    record { signed = signed; signs = files; files = subst (λ (t : Texts). HoldEach t x y) are holds; status_is = is }

-- What is signed off passes `check`.
accepts : (f : SignoffFiles) (signed : SignedGrid) (named : Named) (merged : Merged) (lists : Lists) (k l : Option Holdings) → StandFor signed.netlist signed.certificate named merged lists → IsCertificate merged.net lists.high lists.low
    → WhereKnown (HoldEach (signed_texts f signed)) k l → WhereKnown (LeavesSignoffAccepted f) k l
accepts f signed named merged lists None None stand certified holds = tt
accepts f signed named merged lists None (Some y) stand certified holds = holds
accepts f signed named merged lists (Some x) None stand certified holds = holds
accepts f signed named merged lists (Some x) (Some y) stand certified holds = λ netlist_fits certificate_fits words is.
    let netlist : signed.netlist ≡ bytes_in y f.netlist = ap (λ o. unwrap_or o []) (sym (holds.each 0 ([], []) (omega arith))) in
    let certificate : signed.certificate ≡ bytes_in y f.certificate = ap (λ o. unwrap_or o []) (sym (holds.each 1 ([], []) (omega arith))) in (
      named,
      merged,
      lists,
      record {
        netlist = f.netlist;
        certificate = f.certificate;
        words_are = is;
        netlist_fits = netlist_fits;
        certificate_fits = certificate_fits;
        texts = subst (λ t. StandFor t (bytes_in y f.certificate) named merged lists) netlist (subst (λ t. StandFor signed.netlist t named merged lists) certificate stand);
      },
      certified,
    )

module _ (laws : AreLaws) (to_wiring : AreToWiring) (words : List (List ℕ)) (solver solver' : SolverThen) (before after : FilesThen) (result : ℕ) (out out' : SinkThen) where
  -- No file changes but the three outputs.
  pub among_signed : Ran words solver solver' before after result out out' → (f : SignoffFiles) → IsSignoff words f → WhereKnown (ChangesAmong (signoff_files_written f)) before.known after.known
  among_signed (answer, cause, ends) f is =
      elim (signoff_cause laws words solver solver' before after f answer is cause).why [
        | inl want ↦ alone_signed solver solver' before after f answer (inl (want.1, inr (inr (inr want.0))))
        | inr why ↦ alone_signed solver solver' before after f answer why
      ]

  -- A run that ends with 0 or 1 signed the texts off.
  pub record IsSignedRun (f : SignoffFiles) : Type 0 where
    pub answer : Answer
    pub result_is : result ≡ status_of answer
    pub is : IsSignedWhole solver solver' before after f answer

  signed_run : Ran words solver solver' before after result out out' → (f : SignoffFiles) → IsSignoff words f → (result ≡ 0) ⊎ (result ≡ 1) → IsSignedRun f
  signed_run (answer, cause, ends) f is low =
      let e : result ≡ status_of answer = of_ending result out out' answer ends low in
      elim (signoff_cause laws words solver solver' before after f answer is cause).why [
        | inl want ↦ let ten : status_of answer ≡ 10 = ap status_of want.0 in absurd (elim low [ inl z ↦ omega (arith, e, z, ten) | inr o ↦ omega (arith, e, o, ten) ])
        | inr why ↦ record {
          answer = answer;
          result_is = e;
          is = low_signed to_wiring solver solver' before after f answer why (elim low [ inl z ↦ inl (sym e ∙ z) | inr o ↦ inr (sym e ∙ o) ]);
        }
      ]

  -- After the status 0 or 1 the outputs hold what was made.
  pub signed_off : Ran words solver solver' before after result out out' → (f : SignoffFiles) → IsSignoff words f → (result ≡ 0) ⊎ (result ≡ 1) → WhereKnown (LeavesSignedOff solver.told f result) before.known after.known
  signed_off ran f is low =
      let run = signed_run ran f is low in
      let (signed, files, are, told) = run.is.made in
      leaves solver.told f signed run.is.outputs result are (run.result_is ∙ ap status_of told) before.known after.known files run.is.written

  -- Then `check` accepts the netlist and the certificate.
  pub accepted_signed : Ran words solver solver' before after result out out' → (f : SignoffFiles) → IsSignoff words f → (result ≡ 0) ⊎ (result ≡ 1) → WhereKnown (LeavesSignoffAccepted f) before.known after.known
  accepted_signed ran f is low =
      let run = signed_run ran f is low in
      let (signed, files, are, told) = run.is.made in
      let checked = files.signs.checked in
      accepts f signed _ _ _ before.known after.known checked.texts checked.holds (subst (λ (t : Texts). WhereKnown (HoldEach t) before.known after.known) are run.is.written)

  -- Then the solver was asked.
  pub asked_signed : Ran words solver solver' before after result out out' → (f : SignoffFiles) → IsSignoff words f → (result ≡ 0) ⊎ (result ≡ 1) → Rose solver.proposals solver'.proposals
  asked_signed ran f is low = (signed_run ran f is low).is.asked

  -- Texts that nothing refuses are signed off, where no call fails and memory lasts.
  pub completed_signed : Ran words solver solver' before after result out out' → (held : Holdings) (f : SignoffFiles) (t : WiredTexts) → before.known ≡ Some held → IsSignoff words f → AreWiredAccepted held f t → ¬ Rose before.counts.faults after.counts.faults → ¬ Rose out.faults out'.faults
      → (result ≡ 0) ⊎ ((result ≡ 1) ⊎ (result ≡ 10))
  completed_signed (answer, cause, ends) held f t known is accepted calm calm_out =
      elim (unhindered result out out' answer ends calm_out) [
        | inr ten ↦ inr (inr ten)
        | inl e ↦ subst (λ r. (r ≡ 0) ⊎ ((r ≡ 1) ⊎ (r ≡ 10))) (sym e) (elim (signoff_cause laws words solver solver' before after f answer is cause).why [
          | inl want ↦ inr (inr (ap status_of want.0))
          | inr why ↦ by_whole answer (whole (signoff_files_read f) (RefusesWiredFiles before.known f) (MakesSigned solver.told before.known f) solver solver' before after held known (each_fits held f t accepted.texts) none_refused calm answer why)
        ])
      ]
    where
      none_refused : (a : Answer) → RefusesWiredFiles before.known f a → a ≡ Want
      none_refused a (t', are, why) =
          let here : AreWiredInputs (Some held) f t' = subst (λ k. AreWiredInputs k f t') known are in
          accepted.accepted a (subst (λ (x : WiredTexts). IsUnsigned x a) (same_texts held f t' t here accepted.texts) why)

      by_whole : (a : Answer) → (IsSignedWhole solver solver' before after f a ⊎ (a ≡ Want)) → (status_of a ≡ 0) ⊎ ((status_of a ≡ 1) ⊎ (status_of a ≡ 10))
      by_whole a (inl w) =
          let (signed, files, are, told) = w.made in
          elim (low_status signed.numbers) [ inl z ↦ inl (ap status_of told ∙ z) | inr o ↦ inr (inl (ap status_of told ∙ o)) ]
      by_whole a (inr want) = inr (inr (ap status_of want))

-- ---- one answer
-- The laws of five texts of a sign-off, as they are handed in.
pub record AreWiredLaws : Type 0 where
  pub refusal : (t : WiredTexts) (a b : Answer) → IsUnsigned t a → IsUnsigned t b → a ≢ Want → b ≢ Want → a ≡ b
  pub apart : (told : Option (List ℤ × List ℤ)) (t : WiredTexts) (design : WiredDesign) (a : Answer) → IsWiredDesign told t design → IsUnsigned t a → a ≡ Want
  pub design : (told told' : Option (List ℤ × List ℤ)) (t : WiredTexts) (one other : WiredDesign) → IsWiredDesign told t one → IsWiredDesign told' t other → AreWiredAlike one other

-- Answers that are one are alike.
alike_from : (a b : Answer) → a ≡ b → AreSignedAlike a b
alike_from Usage b e = e
alike_from Want b e = e
alike_from (ReadFault file) b e = e
alike_from (WriteFault file) b e = e
alike_from (TooLong file) b e = e
alike_from (Refused file place kind) b e = e
alike_from (NoGrid words) b e = e
alike_from (Range quantity at number) b e = e
alike_from (TooManySteps number) b e = e
alike_from (PadConflict node first second) b e = e
alike_from (FloatingCapacitor node) b e = e
alike_from (Unsupplied node) b e = e
alike_from (Built numbers) b e = e
alike_from (SignedOff numbers) b e = (numbers, sym e, record { pieces = refl; stacks = refl; nodes = refl; resistors = refl; pads = refl })
alike_from Generated b e = e
alike_from (Solved nodes resistors sweeps) b e = e
alike_from (Stepped nodes steps) b e = e
alike_from (Certified nodes) b e = e
alike_from (NotCertified node side found) b e = e

module _ (laws : AreWiredLaws) (before after : FilesThen) (held : Holdings) (f : SignoffFiles) (known : before.known ≡ Some held) (can : CanRise after.counts) where
  -- The answers that come of the texts: these are refused, or they are signed off.
  pub record IsRefused (a : Answer) : Type 0 where
    pub some : a ≢ Want
    pub texts : WiredTexts
    pub are : AreWiredInputs (Some held) f texts
    pub why : IsUnsigned texts a

  pub record IsSigned (a : Answer) : Type 0 where
    pub texts : WiredTexts
    pub are : AreWiredInputs (Some held) f texts
    pub solver : Option (List ℤ × List ℤ)
    pub design : WiredDesign
    pub is : IsWiredDesign solver texts design
    pub numbers : Numbers
    pub told : a ≡ SignedOff numbers
    pub sizes : AreSizesOf design.grid design.signing.extracted.net numbers

  abbrev pub IsShort : Answer → Type 0
  IsShort a = IsRefused a ⊎ IsSigned a

  one_refused : (a b : Answer) → IsRefused a → IsRefused b → AreSignedAlike a b
  one_refused a b x y =
      alike_from a b (laws.refusal x.texts a b x.why (subst (λ t. IsUnsigned t b) (same_texts held f y.texts x.texts y.are x.are) y.why) x.some y.some)

  one_signed : (a b : Answer) → IsSigned a → IsSigned b → AreSignedAlike a b
  one_signed a b x y =
      let there : IsWiredDesign y.solver x.texts y.design = subst (λ t. IsWiredDesign y.solver t y.design) (same_texts held f y.texts x.texts y.are x.are) y.is in
      let same = laws.design x.solver y.solver x.texts x.design y.design x.is there in
      subst (λ z. AreSignedAlike z b) (sym x.told) (y.numbers, y.told, one_grid x.design.grid y.design.grid x.design.signing.extracted y.design.signing.extracted x.numbers y.numbers same.grid same.network x.sizes y.sizes)

  refused_or_signed : (a b : Answer) → IsRefused a → IsSigned b → ⊥
  refused_or_signed a b x y = x.some (laws.apart y.solver y.texts y.design a y.is (subst (λ t. IsUnsigned t a) (same_texts held f x.texts y.texts x.are y.are) x.why))

  one_short : (a b : Answer) → IsShort a → IsShort b → AreSignedAlike a b
  one_short = of_two AreSignedAlike IsRefused IsSigned one_refused one_signed refused_or_signed

  no_long : (a : Answer) → IsShort a → (place : ℕ) → place < 5 → length (bytes_in held (name_at (signoff_files_read f) place)) ≤ longest_text
  no_long a (inl x) = each_fits held f x.texts x.are
  no_long a (inr x) = each_fits held f x.texts x.are

  abbrev IsSignoffStage : Answer → Type 0
  IsSignoffStage = IsStage before after held (signoff_files_read f) known can AreSignedAlike alike_from IsShort one_short no_long

  made_stage : (solver : SolverThen) (outputs : Texts) (a : Answer) → MakesSigned solver.told before.known f outputs a → IsSigned a
  made_stage solver outputs a (signed, files, are, told) =
      let design = files.signs.design in
      let numbers_are = files.signs.are_texts.numbers in
      let net_is = files.signs.is_design.signing.certified.net_is in
      record {
        texts = files.texts;
        are = subst (λ k. AreWiredInputs k f files.texts) known files.are_inputs;
        solver = solver.told;
        design = design;
        is = files.signs.is_design;
        numbers = signed.numbers;
        told = told;
        sizes = sizes_of design.grid design.signing.certificate.net design.signing.extracted.net signed.numbers _ numbers_are net_is
            (record { pieces = refl; stacks = refl; nodes = refl; resistors = refl; pads = refl });
      }

  stage_of : (solver solver' : SolverThen) (a : Answer) → a ≢ Want → SignsOff solver solver' before after f a → IsSignoffStage a
  stage_of solver solver' a some (inl (kept, inl (file, place, told, first, fails))) = inl (record { file = file; told = told; fails = fails })
  stage_of solver solver' a some (inl (kept, inr (inl (file, place, told, none, first, long)))) =
      inr (inr (
        none,
        inl (record {
          file = file;
          told = told;
          place = place;
          first = subst (λ k. IsFirstUnread k (signoff_files_read f) file place) known first;
          long = subst (λ k. IsTooLong k file) known long;
        }),
      ))
  stage_of solver solver' a some (inl (kept, inr (inr (inl (none, (t, are, why)))))) =
      inr (inr (none, inr (inl (record { some = some; texts = t; are = subst (λ k. AreWiredInputs k f t) known are; why = why }))))
  stage_of solver solver' a some (inl (kept, inr (inr (inr want)))) = absurd (some want)
  stage_of solver solver' a some (inr m) =
      elim m.ends [
        | inl done ↦ inr (inr (done.1, inr (inr (made_stage solver m.outputs a (subst (λ x. MakesSigned solver.told before.known f m.outputs x) (sym done.0) m.made)))))
        | inr (inl short) ↦ absurd (some short.0)
        | inr (inr (place, at, inl want)) ↦ absurd (some want)
        | inr (inr (place, at, inr (told, failed))) ↦ inr (inl (record { file = _; told = told; fails = failed }))
      ]

  pub one_sign_off : (solver solver' : SolverThen) (a b : Answer) → a ≢ Want → b ≢ Want → SignsOff solver solver' before after f a → SignsOff solver solver' before after f b → AreSignedAlike a b
  one_sign_off solver solver' a b some_a some_b x y =
      one_of_all before after held (signoff_files_read f) known can AreSignedAlike alike_from IsShort one_short no_long a b (stage_of solver solver' a some_a x) (stage_of solver solver' b some_b y)

pub signed_alike : AreLaws → AreWiredLaws → (words : List (List ℕ)) (solver solver' : SolverThen) (before after : FilesThen) (held : Holdings) (f : SignoffFiles) (a b : Answer) → before.known ≡ Some held → CanRise after.counts → IsSignoff words f
    → IsCause words solver solver' before after a → IsCause words solver solver' before after b → a ≢ Want → b ≢ Want → AreSignedAlike a b
signed_alike laws wired words solver solver' before after held f a b known can is x y some_a some_b =
    elim (signoff_cause laws words solver solver' before after f a is x).why [
      | inl want ↦ absurd (some_a want.0)
      | inr x_why ↦ elim (signoff_cause laws words solver solver' before after f b is y).why [
        | inl want ↦ absurd (some_b want.0)
        | inr y_why ↦ one_sign_off wired before after held f known can solver solver' a b some_a some_b x_why y_why
      ]
    ]
