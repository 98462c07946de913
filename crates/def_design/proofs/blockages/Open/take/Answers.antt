use Rattle.std.proofs.Common.{map, sym, ◌∙◌, ap, subst}
use Rattle.std.specs.Prelude.{◌||◌}
use Rattle.def_design.specs.declared.blockages.Open.{Open}
use Rattle.def_design.specs.inside.Held.{FirstSays, Leads}
use Rattle.def_design.specs.inside.Value.{said_excepts}
use Rattle.def_design.specs.Record.{SaysSpacing}
use Rattle.def_design.specs.Unit.{is_spacing}
use Rattle.def_design.proofs.Heard.{begins_heard, excepts_heard}
use Rattle.def_design.proofs.Taking.{open_head, open_other}
use Rattle.def_statements.specs.declared.sort.Sort.TheVariants.{Layer}
use Rattle.reading.specs.Word.{heard_token}
use Rattle.def_design.proofs.blockages.Open.take.Goals as goal

pub returns-then-begins : goal.returns-then-begins
returns-then-begins c = λ units w.
    open_head (map heard_token c.args.unit.now) c.args.self.now c.new.result (sym (begins_heard units c.args.unit.now w.heard Layer 2) ∙ sym c.begins.ensures ∙ c.if-begins.true)
    (ap (λ (z : Open). z.layer.now) c.new.ensures ∙ c.text_at.ensures) (ap (λ (z : Open). z.spacing) c.new.ensures) (ap (λ (z : Open). z.excepts) c.new.ensures)

pub returns : goal.returns
returns c = λ units w.
    let unit = c.args.unit.now in
    let old = c.args.self.now in
    open_other (map heard_token unit) old c.take_excepts.new.self (sym (begins_heard units unit w.heard Layer 2) ∙ sym c.begins.ensures ∙ c.if-begins.false)
    (subst (λ z. Leads (FirstSays is_spacing SaysSpacing) (map heard_token unit) old.spacing z) (sym c.take_excepts.ensures.spacing) (c.take_spacing.ensures.spacing units w))
    (ap (λ z. z.now) (c.take_excepts.ensures.layer ∙ c.take_spacing.ensures.layer))
    (c.take_excepts.ensures.excepts ∙ ap (λ z. z || said_excepts unit) c.take_spacing.ensures.excepts ∙ ap (λ z. old.excepts || z) (excepts_heard units unit w.heard))
