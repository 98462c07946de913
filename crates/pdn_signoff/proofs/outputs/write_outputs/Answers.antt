use Rattle.std.proofs.Common.{◌≡◌, ◌<◌, ◌⊎◌, ℕ, List, [], length, sym, ap, subst}
use Rattle.std.proofs.lemmas.List.{length-map, get_or-map}
use Rattle.answers.specs.declared.answer.Answer.TheVariants.{Want}
use Rattle.output_files.specs.declared.output.Output.{Output}
use Rattle.output_files.specs.Outputs.{texts}
use Rattle.pdn_signoff.specs.Check.{FilesThen}
use Rattle.pdn_signoff.specs.inside.Solve.{unwritten_answer}
use Rattle.pdn_signoff.proofs.Stopping.{Text, apart_texts, stops_so}
use Rattle.pdn_signoff.proofs.outputs.write_outputs.Goals as goal

pub write_each-requires : goal.write_each-requires
write_each-requires g c = apart_texts (texts c.args.outputs.now) c.requires

pub returns-in-Err-clause-stopped : goal.returns-in-Err-clause-stopped
returns-in-Err-clause-stopped g c =
    let before : FilesThen = record { known = g.F.Files.known c.args.files.now; counts = g.F.Files.counts c.args.files.now } in
    let after : FilesThen = record { known = g.F.Files.known c.write_each.new.files; counts = g.F.Files.counts c.write_each.new.files } in
    let all = texts c.args.outputs.now in
    let below : c.in-Err.stopped.place < length all = subst (λ n. c.in-Err.stopped.place < n) (sym (length-map c.args.outputs.now (λ (o : Output). (o.file.now, o.text.now)))) c.in-Err.ensures.place in
    let file_is = ap (λ (t : Text). t.0) (get_or-map (λ (o : Output). (o.file.now, o.text.now)) c.args.outputs.now c.in-Err.stopped.place _ ([], []) c.in-Err.ensures.place) in
    stops_so before after all c.in-Err.stopped c.unwritten.result below c.in-Err.ensures.stopped c.in-Err.ensures.fault
    (subst (λ (file : List ℕ). (c.unwritten.result ≡ Want) ⊎ (c.unwritten.result ≡ unwritten_answer c.in-Err.stopped.error file)) (sym file_is) c.unwritten.ensures)
