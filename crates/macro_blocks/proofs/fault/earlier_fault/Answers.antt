use Rattle.std.proofs.Common.{subst}
use Rattle.macro_blocks.specs.inside.Held.{IsBad}
use Rattle.macro_blocks.proofs.Numbers.{none_bad}
use Rattle.macro_blocks.proofs.fault.earlier_fault.Goals as goal

pub returns-in-None : goal.returns-in-None
returns-in-None c = λ numbers h kind k.
    none_bad c.texts_have_one_number.ensures numbers k.0 (subst (λ z. IsBad numbers z) c.in-None.is h) k.1
