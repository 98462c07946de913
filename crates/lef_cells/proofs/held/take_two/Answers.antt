use Rattle.std.proofs.Common.{sym, ◌∙◌, ap}
use Rattle.lef_cells.specs.Rule.{opens}
use Rattle.lef_cells.proofs.Taking.{on_ok, other_two}
use Rattle.reading.specs.Word.{token}
use Rattle.lef_cells.proofs.held.take_two.Goals as goal

pub returns-in-Site : goal.returns-in-Site
returns-in-Site c = λ first is. c.open_section.ensures c.args.section first (ap opens (sym is ∙ c.in-Site.is))

pub returns-in-Macro : goal.returns-in-Macro
returns-in-Macro c = λ first is. c.open_section-in-Macro.ensures c.args.section first (ap opens (sym is ∙ c.in-Macro.is))

pub returns-in-End : goal.returns-in-End
returns-in-End c = on_ok _ _ c.end_section.result (λ all first is. all first (token c.args.second.now) (sym is ∙ c.in-End.is)) c.end_section.ensures

pub returns-in-Class : goal.returns-in-Class
returns-in-Class c = λ first is. c.take_class.ensures c.args.section first (sym is ∙ c.in-Class.is)

pub returns-in_default : goal.returns-in_default
returns-in_default c = λ first is.
    other_two c.args.section first (token c.args.second.now) c.args.said.now (λ e. c.in_default.not-Site (is ∙ e))
    (λ e. c.in_default.not-Macro (is ∙ e)) (λ e. c.in_default.not-End (is ∙ e)) (λ e. c.in_default.not-Class (is ∙ e))
