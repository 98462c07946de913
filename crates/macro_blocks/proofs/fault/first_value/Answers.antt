use Rattle.std.proofs.Common.{◌≡◌, refl}
use Rattle.macro_blocks.specs.declared.value.Value.TheVariants.{First}
use Rattle.macro_blocks.specs.Fault.{FirstFault}
use Rattle.macro_blocks.specs.inside.Value.{first_of}
use Rattle.macro_blocks.proofs.Numbered.{or_value}
use Rattle.macro_blocks.proofs.fault.first_value.Goals as goal

pub returns : goal.returns
returns c = λ numbers h.
    or_value (FirstFault c.args.section c.args.standing.now numbers c.args.first) (λ value. first_of value ≡ c.args.first) (First c.args.first) c.first_fault.result
    c.value_or.result c.value_or.ensures refl (c.first_fault.ensures numbers h)
