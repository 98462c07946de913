use Rattle.std.proofs.Common.{◌≡◌, false, IfNone, map, refl, ◌∙◌, subst}
use Rattle.macro_blocks.specs.Standing.{is_rect}
use Rattle.macro_blocks.proofs.Taking.{draw_rect, rect_left, whole_added}
use Rattle.reading.specs.Word.{heard_token}
use Rattle.macro_blocks.proofs.held.Sections.draw_fine.Goals as goal

pub returns-in_default : goal.returns-in_default
returns-in_default c = λ noted there.
    let old = c.args.self.now in
    draw_rect there c.args.unit.now old old (record { macros = refl; pins = refl; obstructions = refl }) refl c.requires c.requires (λ places. noted)
    (λ places whole shapes h. rect_left old.layer (map heard_token c.args.unit.now) shapes old.rects.items (subst (λ z. IfNone z (is_rect (map heard_token c.args.unit.now) ≡ false)) c.in_default.is c.corners_of.ensures.none) h)

pub returns : goal.returns
returns c = λ noted there.
    let old = c.args.self.now in
    let rect = c.between.ensures in
    draw_rect there c.args.unit.now old (record old { rects = c.push.new.self }) (record { macros = refl; pins = refl; obstructions = refl }) refl c.requires c.requires
    (λ places. noted)
    (λ places whole shapes h. whole_added c.texts_have_one_number.ensures old.layer c.args.unit.now c.in-Some.corners shapes old.rects.items c.push.new.self.items
    c.between.result c.in-Some.ensures.some places whole noted (rect.layer ∙ (c.in_ok-layer.ensures ∙ c.bytes.ensures)) rect.x1 rect.y1 rect.x2 rect.y2
    c.in_ok-push.ensures.items h)
