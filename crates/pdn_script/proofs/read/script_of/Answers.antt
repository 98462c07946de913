use Rattle.pdn_script.proofs.Taken.{gathered, gathered_kept}
use Rattle.pdn_script.proofs.read.script_of.Goals as goal

pub returns-clause-is : goal.returns-clause-is
returns-clause-is c = λ units h. gathered units c.args.held c.new.result c.new-2.result c.new-3.result c.new-4.result c.new-5.result
    c.new.ensures c.new-2.ensures c.new-3.ensures c.new-4.ensures c.new-5.ensures h

pub returns-clause-keeps : goal.returns-clause-keeps
returns-clause-keeps c = λ units h. gathered_kept units c.args.held c.new.result c.new-2.result c.new-3.result c.new-4.result c.new-5.result
    c.new.ensures c.new-2.ensures c.new-3.ensures c.new-4.ensures c.new-5.ensures h
