use Rattle.group_net.proofs.Alone.{group_is, firsts_is}
use Rattle.group_net.proofs.Same.{stays}
use Rattle.group_net.proofs.laws.nothing_shorted.Goals as goal

pub returns-clause-group : goal.returns-clause-group
returns-clause-group k nodes group firsts h = group_is nodes group firsts h

pub returns-clause-firsts : goal.returns-clause-firsts
returns-clause-firsts k nodes group firsts h = firsts_is nodes group firsts h

pub returns-clause-network : goal.returns-clause-network
returns-clause-network k net group firsts built h = stays net group firsts built h
