use Rattle.std.proofs.Common.{◌≤◌, ℕ, List, Err, length, refl, ap, subst, arith}
use Rattle.outside.specs.Whole.{longest_text}
use Rattle.solving.specs.Refusal.{IsUnsigned}
use Rattle.solving.specs.Signed.{Signs}
use Rattle.pdn_signoff.specs.Check.{FilesThen}
use Rattle.pdn_signoff.specs.Solve.{SolverThen, SignsFile}
use Rattle.pdn_signoff.specs.inside.Solve.{Writes}
use Rattle.pdn_signoff.proofs.Solving.{netlist_unread, file_refused, texts_written, same_files}
use Rattle.pdn_signoff.proofs.solve.solve.Goals as goal

pub returns-in-Err-clause-solves : goal.returns-in-Err-clause-solves
returns-in-Err-clause-solves g c =
    let solver : SolverThen = record { told = g.V.Solver.told c.args.solver.now; proposals = g.V.Solver.proposals c.args.solver.now } in
    let before : FilesThen = record { known = g.F.Files.known c.args.files.now; counts = g.F.Files.counts c.args.files.now } in
    let after : FilesThen = record { known = g.F.Files.known c.read_whole.new.files; counts = g.F.Files.counts c.read_whole.new.files } in
    let refused = c.in-Err.ensures in
    netlist_unread solver solver before after c.args.netlist.now c.args.certificate.now c.args.report.now refused.kept c.in-Err.error
    (λ is. refused.fault (ap Err is)) (λ is. refused.fault_of_name (ap Err is)) (λ is. refused.too_long (ap Err is)) (λ is. refused.calm_too_long (ap Err is)) c.unread.result c.unread.ensures

pub returns-in-Ok-sign_off-clause-solves : goal.returns-in-Ok-sign_off-clause-solves
returns-in-Ok-sign_off-clause-solves g c =
    let solver : SolverThen = record { told = g.V.Solver.told c.args.solver.now; proposals = g.V.Solver.proposals c.args.solver.now } in
    let solver' : SolverThen = record { told = g.V.Solver.told c.sign_off.new.solver; proposals = g.V.Solver.proposals c.sign_off.new.solver } in
    let before : FilesThen = record { known = g.F.Files.known c.args.files.now; counts = g.F.Files.counts c.args.files.now } in
    let mid : FilesThen = record { known = g.F.Files.known c.read_whole.new.files; counts = g.F.Files.counts c.read_whole.new.files } in
    let after : FilesThen = record { known = g.F.Files.known c.write_signed.new.files; counts = g.F.Files.counts c.write_signed.new.files } in
    let signed = c.in-Ok-sign_off.signed in
    let (named, merged, certificate, signs, within, checked) = c.in-Ok-sign_off.ensures.signed in
    let file : SignsFile solver.told before.known c.args.netlist.now signed = record {
      text = c.in-Ok.text.items;
      text_is = c.in-Ok.ensures.bytes;
      fits = omega (arith, c.in-Ok.ensures.within, c.in-Ok.text.ok);
      named = named;
      merged = merged;
      certificate = certificate;
      signs = subst (λ (t : List ℕ). Signs solver.told t named merged certificate signed) c.deref.ensures.value signs;
      within = within;
      checked = checked;
    } in
    let written : Writes before after c.args.certificate.now c.args.report.now signed c.write_signed.result =
    subst (λ (f : FilesThen). Writes f after c.args.certificate.now c.args.report.now signed c.write_signed.result) (same_files mid before c.in-Ok.ensures.kept c.in-Ok.ensures.calm) c.write_signed.ensures in
    texts_written solver solver' before after c.args.netlist.now c.args.certificate.now c.args.report.now signed file (c.in-Ok-sign_off.ensures.asked refl) c.write_signed.result written

pub returns-clause-solves : goal.returns-clause-solves
returns-clause-solves g c =
    let solver : SolverThen = record { told = g.V.Solver.told c.args.solver.now; proposals = g.V.Solver.proposals c.args.solver.now } in
    let solver' : SolverThen = record { told = g.V.Solver.told c.sign_off.new.solver; proposals = g.V.Solver.proposals c.sign_off.new.solver } in
    let before : FilesThen = record { known = g.F.Files.known c.args.files.now; counts = g.F.Files.counts c.args.files.now } in
    let after : FilesThen = record { known = g.F.Files.known c.read_whole.new.files; counts = g.F.Files.counts c.read_whole.new.files } in
    let text = c.in-Ok.text.items in
    let short : length text ≤ longest_text = omega (arith, c.in-Ok.ensures.within, c.in-Ok.text.ok) in
    let answer = c.in-Err-sign_off.answer in
    let refuses : IsUnsigned c.args.netlist.now text answer = subst (λ (t : List ℕ). IsUnsigned c.args.netlist.now t answer) c.deref.ensures.value c.in-Err-sign_off.ensures.refused in
    file_refused solver solver' before after c.args.netlist.now c.args.certificate.now c.args.report.now c.in-Ok.ensures.kept c.in-Ok.ensures.calm text c.in-Ok.ensures.bytes short answer
    (c.netlists_are_solved_once.ensures.sort c.args.netlist.now text answer refuses) refuses
