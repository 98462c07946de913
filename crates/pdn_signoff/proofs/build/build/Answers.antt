use Rattle.std.proofs.Common.{◌≡◌, ℕ, List, ap, refl, subst, ◌∙◌}
use Rattle.building.specs.Inputs.{FiveTexts, five_texts}
use Rattle.macro_building.specs.Built.{IsBuiltDesign}
use Rattle.macro_building.specs.Refusal.{IsUnbuilt}
use Rattle.pdn_signoff.specs.Check.{FilesThen, IsTooLong}
use Rattle.pdn_signoff.specs.Solve.{SolverThen}
use Rattle.pdn_signoff.specs.inside.Build.{AreRead, five_of, WritesBuilt}
use Rattle.pdn_signoff.specs.Build.{files_read, BuildsFiles}
use Rattle.pdn_signoff.proofs.Building.{are_read, inputs_known, file_unread, texts_refused, outputs_written}
use Rattle.pdn_signoff.proofs.Reading.{is_file, first_unread, read_failed}
use Rattle.pdn_signoff.proofs.Solving.{same_files}
use Rattle.pdn_signoff.proofs.build.build.Goals as goal

pub returns-in-Err-clause-builds : goal.returns-in-Err-clause-builds
returns-in-Err-clause-builds g c =
    let solver : SolverThen = record { told = g.V.Solver.told c.args.solver.now; proposals = g.V.Solver.proposals c.args.solver.now } in
    let before : FilesThen = record { known = g.F.Files.known c.args.files.now; counts = g.F.Files.counts c.args.files.now } in
    let after : FilesThen = record { known = g.F.Files.known c.read_each.new.files; counts = g.F.Files.counts c.read_each.new.files } in
    let f = c.args.names.now in
    let read = c.names_read-read.result in
    let are = c.names_read-read.ensures in
    let place = c.in-Err.stopped.place in
    let refused = c.in-Err.ensures in
    file_unread solver solver before after f refused.kept c.in-Err.stopped.error _ place (first_unread before.known (files_read f) read are place _ refused.place refused.earlier)
    (λ is. read_failed before after _ _ (is_file before.known (files_read f) read are place _ refused.place) (refused.fault is))
    (λ is. subst (λ (file : List ℕ). IsTooLong before.known file) (is_file before.known (files_read f) read are place _ refused.place) (refused.too_long is)) refused.calm_too_long c.unread.result c.unread.ensures

pub returns-in-Ok-build_texts-clause-builds : goal.returns-in-Ok-build_texts-clause-builds
returns-in-Ok-build_texts-clause-builds g c =
    let solver : SolverThen = record { told = g.V.Solver.told c.args.solver.now; proposals = g.V.Solver.proposals c.args.solver.now } in
    let solver' : SolverThen = record { told = g.V.Solver.told c.build.new.solver; proposals = g.V.Solver.proposals c.build.new.solver } in
    let before : FilesThen = record { known = g.F.Files.known c.args.files.now; counts = g.F.Files.counts c.args.files.now } in
    let mid : FilesThen = record { known = g.F.Files.known c.read_each.new.files; counts = g.F.Files.counts c.read_each.new.files } in
    let after : FilesThen = record { known = g.F.Files.known c.write_built.new.files; counts = g.F.Files.counts c.write_built.new.files } in
    let f = c.args.names.now in
    let outputs = c.in-Ok-build_texts.outputs in
    let texts = c.in-Ok.texts.items in
    let read : AreRead before.known f texts = are_read before.known f c.names_read-read.result texts c.names_read-read.ensures c.in-Ok.ensures.count c.in-Ok.ensures.texts c.in-Ok.ensures.fit in
    let same : five_texts c.inputs_of.result ≡ five_of f texts = c.inputs_of.ensures ∙ ap (five_of f) c.deref.ensures.value in
    let (design, is_design, are_outputs, keep, checked) = c.in-Ok-build_texts.ensures.built in
    let builds : BuildsFiles solver.told before.known f outputs = record {
      texts = five_of f texts;
      are_inputs = inputs_known before.known f texts read;
      design = design;
      is_design = subst (λ (t : FiveTexts). IsBuiltDesign solver.told t design) same is_design;
      are_outputs = are_outputs;
      keep = keep;
      checked = checked;
    } in
    let written : WritesBuilt before after f outputs c.write_built.result =
    subst (λ (files : FilesThen). WritesBuilt files after f outputs c.write_built.result) (same_files mid before c.in-Ok.ensures.kept c.in-Ok.ensures.calm) c.write_built.ensures in
    outputs_written solver solver' before after f outputs builds (c.in-Ok-build_texts.ensures.asked refl) c.write_built.result written

pub returns-clause-builds : goal.returns-clause-builds
returns-clause-builds g c =
    let solver : SolverThen = record { told = g.V.Solver.told c.args.solver.now; proposals = g.V.Solver.proposals c.args.solver.now } in
    let solver' : SolverThen = record { told = g.V.Solver.told c.build.new.solver; proposals = g.V.Solver.proposals c.build.new.solver } in
    let before : FilesThen = record { known = g.F.Files.known c.args.files.now; counts = g.F.Files.counts c.args.files.now } in
    let after : FilesThen = record { known = g.F.Files.known c.read_each.new.files; counts = g.F.Files.counts c.read_each.new.files } in
    let f = c.args.names.now in
    let texts = c.in-Ok.texts.items in
    let answer = c.in-Err-build_texts.answer in
    let read : AreRead before.known f texts = are_read before.known f c.names_read-read.result texts c.names_read-read.ensures c.in-Ok.ensures.count c.in-Ok.ensures.texts c.in-Ok.ensures.fit in
    let same : five_texts c.inputs_of.result ≡ five_of f texts = c.inputs_of.ensures ∙ ap (five_of f) c.deref.ensures.value in
    let why : IsUnbuilt (five_of f texts) answer = subst (λ (t : FiveTexts). IsUnbuilt t answer) same c.in-Err-build_texts.ensures.refused in
    texts_refused solver solver' before after f c.in-Ok.ensures.kept c.in-Ok.ensures.calm (five_of f texts) (inputs_known before.known f texts read) answer (c.answers_to_builds.ensures (five_of f texts) answer why) why
