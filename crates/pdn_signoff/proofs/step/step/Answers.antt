use Rattle.std.proofs.Common.{◌≡◌, inl, inr, ℕ, List, [], Option, length, get_or, refl, sym, subst, ◌∙◌, arith}
use Rattle.std.proofs.lemmas.List.{get_or_default}
use Rattle.outside.specs.Files.{Holdings}
use Rattle.answers.specs.declared.answer.Answer.{Answer}
use Rattle.pdn_signoff.specs.declared.step_files.StepFiles.{StepFiles}
use Rattle.stepping.specs.Inputs.{TwoTexts}
use Rattle.stepping.specs.Refusal.{IsUnstepped}
use Rattle.pdn_signoff.specs.Check.{FilesThen, IsTooLong}
use Rattle.pdn_signoff.specs.Solve.{SolverThen}
use Rattle.pdn_signoff.specs.Step.{step_files_read, AreStepInputs, StepsFiles, RefusesStepFiles, MakesSteps}
use Rattle.pdn_signoff.specs.inside.Step.{WritesStepped}
use Rattle.pdn_signoff.proofs.Running.{file_unread}
use Rattle.pdn_signoff.proofs.Solving.{same_files}
use Rattle.pdn_signoff.proofs.Reading.{is_file, first_unread, read_failed}
use Rattle.pdn_signoff.proofs.StepAnswers.{two_texts, texts_read, outputs_written}
use Rattle.pdn_signoff.proofs.step.step.Goals as goal

pub returns-in-Err-clause-steps : goal.returns-in-Err-clause-steps
returns-in-Err-clause-steps g c =
    let solver : SolverThen = record { told = g.V.Solver.told c.args.solver.now; proposals = g.V.Solver.proposals c.args.solver.now } in
    let before : FilesThen = record { known = g.F.Files.known c.args.files.now; counts = g.F.Files.counts c.args.files.now } in
    let after : FilesThen = record { known = g.F.Files.known c.read_each.new.files; counts = g.F.Files.counts c.read_each.new.files } in
    let f = c.args.names.now in
    let read = c.names_read-read.result in
    let are = c.names_read-read.ensures in
    let place = c.in-Err.stopped.place in
    let refused = c.in-Err.ensures in
    file_unread (step_files_read f) (RefusesStepFiles before.known f) (MakesSteps before.known f) solver solver before after refused.kept c.in-Err.stopped.error _ place (first_unread before.known (step_files_read f) read are place _ refused.place refused.earlier)
    (λ is. read_failed before after _ _ (is_file before.known (step_files_read f) read are place _ refused.place) (refused.fault is))
    (λ is. subst (λ (file : List ℕ). IsTooLong before.known file) (is_file before.known (step_files_read f) read are place _ refused.place) (refused.too_long is)) refused.calm_too_long c.unread.result c.unread.ensures

-- The two texts, as they are handed on.
handed_on : (known : Option Holdings) (f : StepFiles) (texts : List (List ℕ)) (n w : List ℕ) → n ≡ get_or texts 0 [] → w ≡ get_or texts 1 [] → AreStepInputs known f (record { netlist = get_or texts 0 []; waves = get_or texts 1 [] }) → AreStepInputs known f (record { netlist = n; waves = w })
handed_on known f texts n w first second are =
    subst (λ (x : List ℕ). AreStepInputs known f (record { netlist = x; waves = w })) (sym first)
    (subst (λ (x : List ℕ). AreStepInputs known f (record { netlist = get_or texts 0 []; waves = x })) (sym second) are)

-- The refusal of the texts of the two files.
of_files : (f : StepFiles) (t : TwoTexts) (n w : List ℕ) (answer : Answer) → n ≡ f.netlist → w ≡ f.waves → IsUnstepped n w t f.time f.steps answer → IsUnstepped f.netlist f.waves t f.time f.steps answer
of_files f t n w answer first second why =
    subst (λ (x : List ℕ). IsUnstepped x f.waves t f.time f.steps answer) first (subst (λ (x : List ℕ). IsUnstepped n x t f.time f.steps answer) second why)

pub returns-in-Ok-step_through-clause-steps : goal.returns-in-Ok-step_through-clause-steps
returns-in-Ok-step_through-clause-steps g c =
    let solver : SolverThen = record { told = g.V.Solver.told c.args.solver.now; proposals = g.V.Solver.proposals c.args.solver.now } in
    let solver' : SolverThen = record { told = g.V.Solver.told c.step_through.new.solver; proposals = g.V.Solver.proposals c.step_through.new.solver } in
    let before : FilesThen = record { known = g.F.Files.known c.args.files.now; counts = g.F.Files.counts c.args.files.now } in
    let mid : FilesThen = record { known = g.F.Files.known c.read_each.new.files; counts = g.F.Files.counts c.read_each.new.files } in
    let after : FilesThen = record { known = g.F.Files.known c.write_stepped.new.files; counts = g.F.Files.counts c.write_stepped.new.files } in
    let f = c.args.names.now in
    let texts : List (List ℕ) = c.in-Ok.texts.items in
    let stepped = c.in-Ok-step_through.stepped in
    let count : length texts ≡ 2 = two_texts f c.names_read-read.result texts c.names_read-read.ensures c.in-Ok.ensures.count in
    let first : c.as_slice-netlist.result.now ≡ get_or texts 0 [] = c.as_slice-netlist.ensures ∙ c.index.ensures ∙ get_or_default texts 0 c.index.result.now [] (omega (arith, count)) in
    let second : c.as_slice-waves.result.now ≡ get_or texts 1 [] = c.as_slice-waves.ensures ∙ c.index-2.ensures ∙ get_or_default texts 1 c.index-2.result.now [] (omega (arith, count)) in
    let inputs = handed_on before.known f texts _ _ first second (texts_read before.known f c.names_read-read.result texts c.names_read-read.ensures c.in-Ok.ensures.count c.in-Ok.ensures.texts c.in-Ok.ensures.fit) in
    let (named, merged, waves, lists, through, within) = c.in-Ok-step_through.ensures.stepped in
    let steps : StepsFiles before.known f stepped = record { texts = _; are_inputs = inputs; named = named; merged = merged; waves = waves; lists = lists; steps_through = through; within = within } in
    let written : WritesStepped before after f stepped c.write_stepped.result =
    subst (λ (files : FilesThen). WritesStepped files after f stepped c.write_stepped.result) (same_files mid before c.in-Ok.ensures.kept c.in-Ok.ensures.calm) c.write_stepped.ensures in
    outputs_written solver solver' before after f stepped steps (c.in-Ok-step_through.ensures.asked refl) c.write_stepped.result written

pub returns-clause-steps : goal.returns-clause-steps
returns-clause-steps g c =
    let before : FilesThen = record { known = g.F.Files.known c.args.files.now; counts = g.F.Files.counts c.args.files.now } in
    let f = c.args.names.now in
    let texts : List (List ℕ) = c.in-Ok.texts.items in
    let count : length texts ≡ 2 = two_texts f c.names_read-read.result texts c.names_read-read.ensures c.in-Ok.ensures.count in
    let first : c.as_slice-netlist.result.now ≡ get_or texts 0 [] = c.as_slice-netlist.ensures ∙ c.index.ensures ∙ get_or_default texts 0 c.index.result.now [] (omega (arith, count)) in
    let second : c.as_slice-waves.result.now ≡ get_or texts 1 [] = c.as_slice-waves.ensures ∙ c.index-2.ensures ∙ get_or_default texts 1 c.index-2.result.now [] (omega (arith, count)) in
    let inputs = handed_on before.known f texts _ _ first second (texts_read before.known f c.names_read-read.result texts c.names_read-read.ensures c.in-Ok.ensures.count c.in-Ok.ensures.texts c.in-Ok.ensures.fit) in
    let why = of_files f _ _ _ c.in-Err-step_through.answer c.as_str.ensures c.as_str-2.ensures c.in-Err-step_through.ensures.refused in
    inl (c.in-Ok.ensures.kept, inr (inr (inl (c.in-Ok.ensures.calm, (_, inputs, why)))))
