use Rattle.std.proofs.Common.{◌↔◌, IsTrue, ℤ, subst}
use Rattle.def_wiring.specs.declared.number.Quantity.TheVariants.{Positive}
use Rattle.def_wiring.specs.Number.{IsNumber}
use Rattle.def_wiring.proofs.via.has_count.Goals as goal

pub returns : goal.returns
returns c = subst (λ z. IsTrue c.is_read.result ↔ ((value : ℤ) × IsNumber Positive z value)) c.text_or_one.ensures c.is_read.ensures
