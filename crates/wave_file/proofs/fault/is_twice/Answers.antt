use Rattle.wave_file.proofs.Lines.{twice_told}
use Rattle.wave_file.proofs.fault.is_twice.Goals as goal

pub returns : goal.returns
returns c = λ names units text name h is place.
    twice_told c.texts_have_one_number.ensures names units c.args.held.now text name c.args.step c.args.node c.contains.result h is place c.contains.ensures
