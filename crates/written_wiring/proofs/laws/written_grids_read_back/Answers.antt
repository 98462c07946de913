use Rattle.std.proofs.Common.{Ok, sym, subst}
use Rattle.reading.specs.Error.{Agree}
use Rattle.wiring_file.specs.Format.{ReadsWiring}
use Rattle.wiring_file.specs.Written.{wiring_text}
use Rattle.wiring_file.specs.declared.error.WiringKind.TheVariants.{Want}
use Rattle.written_wiring.specs.Wiring.{wiring_of}
use Rattle.written_wiring.proofs.Texts.{head_text, vias_text, nets_text, text_is}
use Rattle.written_wiring.proofs.Whole.{wiring_is}
use Rattle.written_wiring.proofs.Fitting.{can_be_written}
use Rattle.written_wiring.proofs.laws.written_grids_read_back.Goals as goal

pub returns : goal.returns
returns c = record {
  reads = λ design tech grid can.
      subst (λ z. ReadsWiring z (Ok (wiring_of tech grid))) (sym (text_is design tech grid))
      (subst (λ z. ReadsWiring (wiring_text (head_text design) (vias_text tech grid) (nets_text tech grid)) (Ok z)) (wiring_is design tech grid can)
      (c.written_wirings_read_back.ensures.reads (head_text design) (vias_text tech grid) (nets_text tech grid) (can_be_written design tech grid can)));
  alone = λ design tech grid result can reads.
      subst (λ z. Agree Want (Ok z) result) (wiring_is design tech grid can)
      (c.written_wirings_read_back.ensures.alone (head_text design) (vias_text tech grid) (nets_text tech grid) result (can_be_written design tech grid can)
      (subst (λ z. ReadsWiring z result) (text_is design tech grid) reads));
}
