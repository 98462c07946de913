use Rattle.std.proofs.Common.{◌≡◌, ◌≤◌, inl, inr, ℕ, List, Option, Err, IfSome, length, sym, ap, subst, ◌∙◌, arith}
use Rattle.outside.specs.Files.{Holdings, bytes_in}
use Rattle.outside.specs.Whole.{longest_text}
use Rattle.judging.specs.Judging.{Judges}
use Rattle.pdn_signoff.specs.Check.{FilesThen, AreTexts, Answers}
use Rattle.pdn_signoff.proofs.Unread.{certificate_unread, fits_read, judged_files}
use Rattle.pdn_signoff.proofs.check.check.Goals as goal

pub returns-in-Err-read_whole-clause-answers : goal.returns-in-Err-read_whole-clause-answers
returns-in-Err-read_whole-clause-answers g c =
    let before : FilesThen = record { known = g.F.Files.known c.args.files.now; counts = g.F.Files.counts c.args.files.now } in
    let mid : FilesThen = record { known = g.F.Files.known c.read_whole.new.files; counts = g.F.Files.counts c.read_whole.new.files } in
    let after : FilesThen = record { known = g.F.Files.known c.read_whole-2.new.files; counts = g.F.Files.counts c.read_whole-2.new.files } in
    let short : length c.in-Ok.text.items ≤ longest_text = omega (arith, c.in-Ok.ensures.within, c.in-Ok.text.ok) in
    let fits = fits_read before.known c.args.netlist.now c.in-Ok.text.items c.in-Ok.ensures.bytes short in
    let refused = c.in-Err-read_whole.ensures in
    let cause = certificate_unread before mid after c.args.netlist.now c.args.certificate.now c.in-Ok.ensures.kept c.in-Ok.ensures.calm fits c.in-Err-read_whole.error
    (λ is. refused.fault (ap Err is)) (λ is. refused.fault_of_name (ap Err is)) refused.only (λ is. refused.too_long (ap Err is)) (λ is. refused.calm_too_long (ap Err is)) in
    elim c.unread-in-Err-read_whole.ensures [
      | inl want ↦ subst (Answers before after c.args.netlist.now c.args.certificate.now) (sym want) tt
      | inr is ↦ subst (Answers before after c.args.netlist.now c.args.certificate.now) (sym is) cause
    ]

pub returns-clause-answers : goal.returns-clause-answers
returns-clause-answers g c =
    let before : FilesThen = record { known = g.F.Files.known c.args.files.now; counts = g.F.Files.counts c.args.files.now } in
    let after : FilesThen = record { known = g.F.Files.known c.read_whole-2.new.files; counts = g.F.Files.counts c.read_whole-2.new.files } in
    let n = c.args.netlist.now in
    let m = c.args.certificate.now in
    let nt = c.in-Ok.text.items in
    let ct = c.in-Ok-read_whole.text.items in
    let judged : Judges n m nt ct c.judge.result =
    subst (λ (t : List ℕ). Judges n m t ct c.judge.result) c.deref.ensures.value
    (subst (λ (t : List ℕ). Judges n m c.deref.result.now t c.judge.result) c.deref-2.ensures.value c.judge.ensures) in
    let texts : AreTexts before.known n m nt ct = record {
      netlist_is = c.in-Ok.ensures.bytes;
      netlist_fits = omega (arith, c.in-Ok.ensures.within, c.in-Ok.text.ok);
      certificate_is = subst (λ (o : Option Holdings). IfSome o (λ held. ct ≡ bytes_in held m)) c.in-Ok.ensures.kept c.in-Ok-read_whole.ensures.bytes;
      certificate_fits = omega (arith, c.in-Ok-read_whole.ensures.within, c.in-Ok-read_whole.text.ok);
    } in
    judged_files c.answers_to_texts.ensures.sort before after n m nt ct c.judge.result (c.in-Ok-read_whole.ensures.calm ∙ c.in-Ok.ensures.calm) texts judged
