use Rattle.std.proofs.Common.{refl}
use Rattle.bias_file.specs.declared.sort.Sort.TheVariants.{Supply, DropLimit, Cell, Instance}
use Rattle.bias_file.proofs.Taking.{stands_by}
use Rattle.bias_file.proofs.fault.stands_again.Goals as goal

pub returns-in-Supply : goal.returns-in-Supply
returns-in-Supply c = λ units h. stands_by c.args.word Supply units c.args.lists.now.supplies.names c.args.name.now c.contains.result c.in-Supply.is refl h.supplies.names c.contains.ensures

pub returns-in-DropLimit : goal.returns-in-DropLimit
returns-in-DropLimit c = λ units h. stands_by c.args.word DropLimit units c.args.lists.now.drops.names c.args.name.now c.contains-in-DropLimit.result c.in-DropLimit.is refl h.drops.names c.contains-in-DropLimit.ensures

pub returns-in-Cell : goal.returns-in-Cell
returns-in-Cell c = λ units h. stands_by c.args.word Cell units c.args.lists.now.cells.names c.args.name.now c.contains-in-Cell.result c.in-Cell.is refl h.cells.names c.contains-in-Cell.ensures

pub returns-in-Instance : goal.returns-in-Instance
returns-in-Instance c = λ units h. stands_by c.args.word Instance units c.args.lists.now.instances.names c.args.name.now c.contains-in-Instance.result c.in-Instance.is refl h.instances.names c.contains-in-Instance.ensures
