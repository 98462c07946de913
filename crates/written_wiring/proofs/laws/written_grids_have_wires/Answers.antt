use Rattle.std.proofs.Common.{Ok, sym, subst}
use Rattle.def_wiring.specs.Format.{ReadsWires}
use Rattle.written_wiring.specs.Wires.{wires_of}
use Rattle.written_wiring.proofs.Texts.{head_text, vias_text, nets_text, text_is}
use Rattle.written_wiring.proofs.Fitting.{can_be_written}
use Rattle.written_wiring.proofs.WireTexts.{wires_are}
use Rattle.written_wiring.proofs.WireFits.{can_be_wired, texts_plain}
use Rattle.written_wiring.proofs.laws.written_grids_have_wires.Goals as goal

pub returns : goal.returns
returns c = record {
  reads = λ design tech grid can fit.
      subst (λ z. ReadsWires z (Ok (wires_of tech grid))) (sym (text_is design tech grid))
      (c.written_wires_are_read.ensures.reads (head_text design) (vias_text tech grid) (nets_text tech grid) (wires_of tech grid) (can_be_wired design tech grid can fit)
      (wires_are tech grid can.pieces));
  alone = λ design tech grid result can fit reads.
      c.written_wires_are_read.ensures.alone (head_text design) (vias_text tech grid) (nets_text tech grid) (wires_of tech grid) result (can_be_wired design tech grid can fit)
      (wires_are tech grid can.pieces) (subst (λ z. ReadsWires z result) (text_is design tech grid) reads);
  only = λ design tech grid wires can reads.
      c.written_wires_are_read.ensures.only (head_text design) (vias_text tech grid) (nets_text tech grid) (wires_of tech grid) wires (can_be_written design tech grid can) (texts_plain tech grid)
      (wires_are tech grid can.pieces) (subst (λ z. ReadsWires z (Ok wires)) (text_is design tech grid) reads);
}
