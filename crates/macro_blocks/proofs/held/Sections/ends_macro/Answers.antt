use Rattle.std.specs.declared.alloc.Global.{Global}
use Rattle.std.specs.declared.vec.Vec.{Vec}
use Rattle.std.proofs.Common.{refl, ◌∙◌, ap}
use Rattle.macro_blocks.specs.declared.record.BlockPin.{BlockPin}
use Rattle.macro_blocks.specs.declared.record.BlockRect.{BlockRect}
use Rattle.macro_blocks.proofs.Taking.{macro_leads}
use Rattle.macro_blocks.proofs.held.Sections.ends_macro.Goals as goal

pub returns : goal.returns
returns c = λ there unit called.
    let old = c.args.self.now in
    let cell = c.in_ok-macro_of in
    macro_leads there unit c.args.name.now old
    (record old { macros = c.push.new.self; pins = c.replace-pins.new.dest; obstructions = c.replace-obstructions.new.dest })
    cell.field-0 called cell.ensures.name (cell.ensures.pins ∙ ap (λ (z : Vec BlockPin Global). z.items) c.replace-pins.ensures.value)
    (cell.ensures.obstructions ∙ ap (λ (z : Vec BlockRect Global). z.items) c.replace-obstructions.ensures.value) c.in_ok-push.ensures.items
    (ap (λ (z : Vec BlockPin Global). z.items) c.replace-pins.ensures.after ∙ c.new.ensures.items)
    (ap (λ (z : Vec BlockRect Global). z.items) c.replace-obstructions.ensures.after ∙ c.new-2.ensures.items) refl refl refl
