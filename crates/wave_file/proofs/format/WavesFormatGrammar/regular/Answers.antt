use Rattle.wave_file.proofs.Law.{regular}
use Rattle.wave_file.proofs.format.WavesFormatGrammar.regular.Goals as goal

pub returns : goal.returns
returns c = regular c.texts_have_one_number.ensures c.args.self.now.names.now
