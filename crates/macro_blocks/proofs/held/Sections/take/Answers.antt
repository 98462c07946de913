use Rattle.std.proofs.Common.{OnOk, sym, subst}
use Rattle.macro_blocks.specs.declared.act.Act.{Act}
use Rattle.macro_blocks.specs.declared.act.Act.TheVariants as acts
use Rattle.macro_blocks.specs.inside.Held.{Leads}
use Rattle.macro_blocks.proofs.Taking.{took}
use Rattle.macro_blocks.proofs.held.Sections.take.Goals as goal

pub returns-in-Nothing : goal.returns-in-Nothing
returns-in-Nothing c =
    subst (λ (z : Act). Leads z c.args.standing.now c.args.unit.now c.args.self.now c.args.self.now) (sym c.in-Nothing.is) (λ said h is. h)

pub returns-in-Opens : goal.returns-in-Opens
returns-in-Opens c =
    let old = c.args.self.now in
    let unit = c.args.unit.now in
    let there = c.args.standing.now in
    subst (λ (z : Act). Leads z there unit old c.opens.new.self) (sym c.in-Opens.is) (c.opens.ensures there unit)

pub returns-in-Layer : goal.returns-in-Layer
returns-in-Layer c =
    let old = c.args.self.now in
    let there = c.args.standing.now in
    subst (λ (z : Act). Leads z there c.args.unit.now old c.names_layer.new.self) (sym c.in-Layer.is) (c.names_layer.ensures there)

pub returns-in-Draws : goal.returns-in-Draws
returns-in-Draws c =
    let old = c.args.self.now in
    let unit = c.args.unit.now in
    let there = c.args.standing.now in
    subst (λ (z : Act). OnOk c.draws.result (Leads z there unit old c.draws.new.self)) (sym c.in-Draws.is)
    (took c.draws.result _ (Leads acts.Draws there unit old c.draws.new.self) (λ all. all there) c.draws.ensures)

pub returns-in-EndsPin : goal.returns-in-EndsPin
returns-in-EndsPin c =
    let old = c.args.self.now in
    let unit = c.args.unit.now in
    let there = c.args.standing.now in
    subst (λ (z : Act). OnOk c.ends_pin.result (Leads z there unit old c.ends_pin.new.self)) (sym c.in-EndsPin.is)
    (took c.ends_pin.result _ (Leads (acts.EndsPin c.in-EndsPin.power) there unit old c.ends_pin.new.self) (λ all. all there unit (sym c.pin_name.ensures)) c.ends_pin.ensures)

pub returns-in-EndsObstructions : goal.returns-in-EndsObstructions
returns-in-EndsObstructions c =
    let old = c.args.self.now in
    let unit = c.args.unit.now in
    let there = c.args.standing.now in
    subst (λ (z : Act). OnOk c.ends_obstructions.result (Leads z there unit old c.ends_obstructions.new.self)) (sym c.in-EndsObstructions.is)
    (took c.ends_obstructions.result _ (Leads acts.EndsObstructions there unit old c.ends_obstructions.new.self) (λ all. all there unit) c.ends_obstructions.ensures)

pub returns-in-EndsMacro : goal.returns-in-EndsMacro
returns-in-EndsMacro c =
    let old = c.args.self.now in
    let unit = c.args.unit.now in
    let there = c.args.standing.now in
    subst (λ (z : Act). OnOk c.ends_macro.result (Leads z there unit old c.ends_macro.new.self)) (sym c.in-EndsMacro.is)
    (took c.ends_macro.result _ (Leads acts.EndsMacro there unit old c.ends_macro.new.self) (λ all. all there unit (sym c.bytes.ensures)) c.ends_macro.ensures)
