use Rattle.std.proofs.Common.{sym, subst}
use Rattle.command_words.specs.Words.{AreApart}
use Rattle.output_files.specs.Outputs.{Texts, names}
use Rattle.pdn_signoff.proofs.signoff.write_signed.Goals as goal

pub write_outputs-requires : goal.write_outputs-requires
write_outputs-requires g c = subst (λ (t : Texts). AreApart (names t)) (sym c.in_order.ensures) c.requires
