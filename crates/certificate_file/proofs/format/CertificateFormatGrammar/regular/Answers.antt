use Rattle.certificate_file.proofs.Law.{regular}
use Rattle.certificate_file.proofs.format.CertificateFormatGrammar.regular.Goals as goal

pub returns : goal.returns
returns c = regular c.texts_have_one_answer.ensures.integer c.args.self.now.names.now
