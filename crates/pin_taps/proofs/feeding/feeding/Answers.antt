use Rattle.std.proofs.Common.{◌≡◌, map, filter, ap, ◌∙◌}
use Rattle.std.proofs.lemmas.Result.{IfOk-weaker}
use Rattle.geom_rect.specs.declared.rect.Rect.{Rect}
use Rattle.rect_index.specs.Entry.{is_at, item_of}
use Rattle.pin_taps.specs.Fed.{feeding}
use Rattle.pin_taps.proofs.Indexed.{feeding_found}
use Rattle.pin_taps.proofs.feeding.feeding.Goals as goal

pub returns : goal.returns
returns c =
    let drawn = c.args.drawn.now in
    let index = c.args.index.now in
    let component = c.args.component in
    let net = c.args.net in
    IfOk-weaker c.found.result (λ numbers. numbers.items ≡ map item_of (filter (is_at component c.net_point.result) index))
    (λ numbers. numbers.items ≡ feeding drawn component net)
    (λ numbers is. is ∙ ap (λ (window : Rect). map item_of (filter (is_at component window) index)) c.net_point.ensures ∙ feeding_found drawn index component net c.requires)
    c.found.ensures
