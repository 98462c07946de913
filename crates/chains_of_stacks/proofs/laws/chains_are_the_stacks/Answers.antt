use Rattle.std.proofs.Common.{pos, false}
use Rattle.wire_chains.specs.declared.via.ViaAt.{ViaAt}
use Rattle.chains_of_stacks.proofs.Followed.{chain_is_stack, stack_is_chain}
use Rattle.chains_of_stacks.proofs.laws.chains_are_the_stacks.Goals as goal

no_via : ViaAt
no_via = record { net = 0; x = pos 0; y = pos 0; layer = 0; held = false; via = 0; number = 0 }

pub returns : goal.returns
returns s vias stacks chain are = (λ is. chain_is_stack vias stacks are chain is no_via, λ in_stacks. stack_is_chain vias stacks are chain in_stacks)
