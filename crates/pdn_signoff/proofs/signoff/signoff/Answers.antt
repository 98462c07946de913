use Rattle.std.proofs.Common.{◌≡◌, inl, inr, ℕ, List, ap, refl, subst, ◌∙◌}
use Rattle.signing_off.specs.Inputs.{WiredTexts, wired_texts}
use Rattle.signing_off.specs.Refusal.{IsUnsigned}
use Rattle.signing_off.specs.Signing.{SignsWiring}
use Rattle.pdn_signoff.specs.Check.{FilesThen, IsTooLong}
use Rattle.pdn_signoff.specs.Solve.{SolverThen}
use Rattle.pdn_signoff.specs.Signoff.{signoff_files_read, SignsFiles, RefusesWiredFiles, MakesSigned}
use Rattle.pdn_signoff.specs.inside.Signoff.{wired_of, WritesSigned}
use Rattle.pdn_signoff.proofs.Reading.{is_file, first_unread, read_failed}
use Rattle.pdn_signoff.proofs.Running.{file_unread}
use Rattle.pdn_signoff.proofs.SignoffAnswers.{texts_read, outputs_written}
use Rattle.pdn_signoff.proofs.Solving.{same_files}
use Rattle.pdn_signoff.proofs.signoff.signoff.Goals as goal

pub returns-in-Err-clause-signs : goal.returns-in-Err-clause-signs
returns-in-Err-clause-signs g c =
    let solver : SolverThen = record { told = g.V.Solver.told c.args.solver.now; proposals = g.V.Solver.proposals c.args.solver.now } in
    let before : FilesThen = record { known = g.F.Files.known c.args.files.now; counts = g.F.Files.counts c.args.files.now } in
    let after : FilesThen = record { known = g.F.Files.known c.read_each.new.files; counts = g.F.Files.counts c.read_each.new.files } in
    let f = c.args.names.now in
    let read = c.names_read-read.result in
    let are = c.names_read-read.ensures in
    let place = c.in-Err.stopped.place in
    let refused = c.in-Err.ensures in
    file_unread (signoff_files_read f) (RefusesWiredFiles before.known f) (MakesSigned solver.told before.known f) solver solver before after refused.kept c.in-Err.stopped.error _ place (first_unread before.known (signoff_files_read f) read are place _ refused.place refused.earlier)
    (λ is. read_failed before after _ _ (is_file before.known (signoff_files_read f) read are place _ refused.place) (refused.fault is))
    (λ is. subst (λ (file : List ℕ). IsTooLong before.known file) (is_file before.known (signoff_files_read f) read are place _ refused.place) (refused.too_long is)) refused.calm_too_long c.unread.result c.unread.ensures

pub returns-in-Ok-sign_off-clause-signs : goal.returns-in-Ok-sign_off-clause-signs
returns-in-Ok-sign_off-clause-signs g c =
    let solver : SolverThen = record { told = g.V.Solver.told c.args.solver.now; proposals = g.V.Solver.proposals c.args.solver.now } in
    let solver' : SolverThen = record { told = g.V.Solver.told c.sign_off.new.solver; proposals = g.V.Solver.proposals c.sign_off.new.solver } in
    let before : FilesThen = record { known = g.F.Files.known c.args.files.now; counts = g.F.Files.counts c.args.files.now } in
    let mid : FilesThen = record { known = g.F.Files.known c.read_each.new.files; counts = g.F.Files.counts c.read_each.new.files } in
    let after : FilesThen = record { known = g.F.Files.known c.write_signed.new.files; counts = g.F.Files.counts c.write_signed.new.files } in
    let f = c.args.names.now in
    let signed = c.in-Ok-sign_off.signed in
    let texts = c.in-Ok.texts.items in
    let same : wired_texts c.inputs_of.result ≡ wired_of f texts = c.inputs_of.ensures ∙ ap (wired_of f) c.deref.ensures.value in
    let files : SignsFiles solver.told before.known f signed = record {
      texts = wired_of f texts;
      are_inputs = texts_read before.known f c.names_read-read.result texts c.names_read-read.ensures c.in-Ok.ensures.count c.in-Ok.ensures.texts c.in-Ok.ensures.fit;
      signs = subst (λ (t : WiredTexts). SignsWiring solver.told t signed) same c.in-Ok-sign_off.ensures.signed;
    } in
    let written : WritesSigned before after f signed c.write_signed.result =
    subst (λ (files : FilesThen). WritesSigned files after f signed c.write_signed.result) (same_files mid before c.in-Ok.ensures.kept c.in-Ok.ensures.calm) c.write_signed.ensures in
    outputs_written solver solver' before after f signed files (c.in-Ok-sign_off.ensures.asked refl) c.write_signed.result written

pub returns-clause-signs : goal.returns-clause-signs
returns-clause-signs g c =
    let before : FilesThen = record { known = g.F.Files.known c.args.files.now; counts = g.F.Files.counts c.args.files.now } in
    let f = c.args.names.now in
    let texts = c.in-Ok.texts.items in
    let answer = c.in-Err-sign_off.answer in
    let same : wired_texts c.inputs_of.result ≡ wired_of f texts = c.inputs_of.ensures ∙ ap (wired_of f) c.deref.ensures.value in
    let why : IsUnsigned (wired_of f texts) answer = subst (λ (t : WiredTexts). IsUnsigned t answer) same c.in-Err-sign_off.ensures.refused in
    let inputs = texts_read before.known f c.names_read-read.result texts c.names_read-read.ensures c.in-Ok.ensures.count c.in-Ok.ensures.texts c.in-Ok.ensures.fit in
    inl (c.in-Ok.ensures.kept, inr (inr (inl (c.in-Ok.ensures.calm, (wired_of f texts, inputs, why)))))
