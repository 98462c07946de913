use Rattle.wave_file.proofs.Taking.{on_ok}
use Rattle.wave_file.proofs.format.WavesFormatGrammar.take.Goals as goal

pub returns : goal.returns
returns c = on_ok c.take_unit.result c.take_unit.ensures (λ f. λ units few h taken heard. f c.args.self.now.names.now units h taken heard)
