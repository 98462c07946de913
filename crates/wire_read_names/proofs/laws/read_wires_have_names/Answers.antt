use Rattle.wire_read_names.proofs.Names.{names_are}
use Rattle.wire_read_names.proofs.laws.read_wires_have_names.Goals as goal

pub returns : goal.returns
returns c = record {
  nets = λ text wires reads. (names_are text wires reads).nets;
  vias = λ text wires reads. (names_are text wires reads).vias;
}
