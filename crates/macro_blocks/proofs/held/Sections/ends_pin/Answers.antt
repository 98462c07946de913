use Rattle.std.specs.declared.alloc.Global.{Global}
use Rattle.std.specs.declared.vec.Vec.{Vec}
use Rattle.std.proofs.Common.{refl, ◌∙◌, ap}
use Rattle.macro_blocks.specs.declared.record.BlockRect.{BlockRect}
use Rattle.macro_blocks.proofs.Taking.{pin_leads}
use Rattle.macro_blocks.proofs.held.Sections.ends_pin.Goals as goal

pub returns : goal.returns
returns c = λ there unit called.
    let old = c.args.self.now in
    let pin = c.in_ok-pin_of in
    pin_leads c.texts_have_one_number.ensures c.args.power there unit c.args.name.now old (record old { pins = c.push.new.self; rects = c.replace-rects.new.dest }) pin.field-0 called
    pin.ensures.name pin.ensures.power (pin.ensures.rects ∙ ap (λ (z : Vec BlockRect Global). z.items) c.replace-rects.ensures.value) refl c.in_ok-push.ensures.items refl refl
    (ap (λ (z : Vec BlockRect Global). z.items) c.replace-rects.ensures.after ∙ c.new.ensures.items) refl
