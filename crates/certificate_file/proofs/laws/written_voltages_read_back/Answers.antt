use Rattle.certificate_file.proofs.Voltages.{printed_is}
use Rattle.certificate_file.proofs.laws.written_voltages_read_back.Goals as goal

pub returns : goal.returns
returns c = printed_is
