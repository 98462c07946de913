use Rattle.grid_extract.specs.Extraction.{drawing_of}
use Rattle.drawn_grids.proofs.Counted.{limits_are}
use Rattle.drawn_grids.proofs.laws.limits_are_of_the_network.Goals as goal

pub returns : goal.returns
returns s = record {
  limits = λ tech grid bias e limits keeps few is are. limits_are (drawing_of grid is.pads is.taps) tech grid bias e limits keeps few is.network are;
}
