use Rattle.std.specs.declared.alloc.Global.{Global}
use Rattle.std.specs.declared.vec.Vec.{Vec}
use Rattle.std.proofs.Common.{◌≡◌, [], ◌∷◌, ◌++◌, refl, ◌∙◌, ap}
use Rattle.def_wiring.specs.declared.record.Segment.{Segment}
use Rattle.def_wiring.specs.declared.record.ViaPlace.{ViaPlace}
use Rattle.def_wiring.proofs.Taking.{took_both, net_ended}
use Rattle.def_wiring.proofs.held.Sections.end_wired.Goals as goal

pub returns : goal.returns
returns c =
    let old = c.args.self.now in
    let net = c.in_ok-net in
    took_both c.add_entry.result (c.add_entry.new.entries.names ≡ old.nets.names ++ c.bytes.result.now ∷ []) _ _ (λ names entries there word wired called.
    net_ended there word c.args.name.now c.args.power old
    (record old { segments = c.replace-segments.new.dest; places = c.replace-places.new.dest; nets = c.add_entry.new.entries }) net.net c.in-None.is wired called
    net.ensures.name net.ensures.power (net.ensures.segments ∙ ap (λ (z : Vec Segment Global). z.items) c.replace-segments.ensures.value)
    (net.ensures.vias ∙ ap (λ (z : Vec ViaPlace Global). z.items) c.replace-places.ensures.value) refl refl refl refl (names ∙ ap (λ z. old.nets.names ++ z ∷ []) c.bytes.ensures) entries
    (ap (λ (z : Vec Segment Global). z.items) c.replace-segments.ensures.after ∙ c.new.ensures.items)
    (ap (λ (z : Vec ViaPlace Global). z.items) c.replace-places.ensures.after ∙ c.new-2.ensures.items))
    c.add_entry.ensures.names c.add_entry.ensures.entries
