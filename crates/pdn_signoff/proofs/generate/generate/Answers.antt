use Rattle.std.proofs.Common.{◌≡◌, ◌∙◌, sym, subst}
use Rattle.command_words.specs.Words.{AreApart}
use Rattle.output_files.specs.Outputs.{Texts, texts, names}
use Rattle.pdn_signoff.specs.Check.{FilesThen}
use Rattle.pdn_signoff.specs.Generate.{design_texts}
use Rattle.pdn_signoff.specs.Outputs.{AreWritten, Stops}
use Rattle.pdn_signoff.proofs.Generating.{texts_are, not_written}
use Rattle.pdn_signoff.proofs.generate.generate.Goals as goal

pub write_outputs-requires : goal.write_outputs-requires
write_outputs-requires g c = subst (λ (t : Texts). AreApart (names t)) (sym c.in_order.ensures) c.requires.apart

pub returns-in-Ok-write_outputs : goal.returns-in-Ok-write_outputs
returns-in-Ok-write_outputs g c =
    let before : FilesThen = record { known = g.F.Files.known c.args.files.now; counts = g.F.Files.counts c.args.files.now } in
    let after : FilesThen = record { known = g.F.Files.known c.write_outputs.new.files; counts = g.F.Files.counts c.write_outputs.new.files } in
    let same : texts c.in_order.result ≡ design_texts c.args.number c.args.side c.args.outputs.now =
    c.in_order.ensures ∙ texts_are c.args.number c.args.side c.args.outputs.now c.in-Ok.inputs c.in-Ok.ensures in
    (c.in-Ok-write_outputs.ensures.calm, subst (λ (t : Texts). AreWritten before after t) same c.in-Ok-write_outputs.ensures.written)

pub returns : goal.returns
returns g c =
    let before : FilesThen = record { known = g.F.Files.known c.args.files.now; counts = g.F.Files.counts c.args.files.now } in
    let after : FilesThen = record { known = g.F.Files.known c.write_outputs.new.files; counts = g.F.Files.counts c.write_outputs.new.files } in
    let same : texts c.in_order.result ≡ design_texts c.args.number c.args.side c.args.outputs.now =
    c.in_order.ensures ∙ texts_are c.args.number c.args.side c.args.outputs.now c.in-Ok.inputs c.in-Ok.ensures in
    not_written before after c.args.number c.args.side c.args.outputs.now c.in-Err.answer
    (subst (λ (t : Texts). Stops before after t c.in-Err.answer) same c.in-Err.ensures.stopped)
