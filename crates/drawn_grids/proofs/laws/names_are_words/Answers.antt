use Rattle.grid_extract.specs.Extraction.{drawing_of}
use Rattle.drawn_grids.proofs.Worded.{names_are}
use Rattle.drawn_grids.proofs.laws.names_are_words.Goals as goal

pub returns : goal.returns
returns s = record { words = λ tech grid e is. names_are (drawing_of grid is.pads is.taps) tech e is.network }
