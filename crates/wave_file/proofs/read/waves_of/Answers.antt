use Rattle.wave_file.proofs.Kept.{waves_kept}
use Rattle.wave_file.proofs.read.waves_of.Goals as goal

pub returns-clause-keeps : goal.returns-clause-keeps
returns-clause-keeps c = λ names units h.
    waves_kept c.values_fit_their_places.ensures.limit c.values_fit_their_places.ensures.sign names units c.args.held _ h c.count-count.ensures c.new.ensures
