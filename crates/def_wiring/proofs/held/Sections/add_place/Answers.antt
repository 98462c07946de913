use Rattle.std.proofs.Common.{Contains, refl, sym, subst}
use Rattle.def_wiring.proofs.Taking.{place_added}
use Rattle.def_wiring.proofs.held.Sections.add_place.Goals as goal

pub returns : goal.returns
returns c = λ there word on called.
    let old = c.args.self.now in
    let made = c.in_ok-place in
    place_added there word old (record old { places = c.push.new.self }) c.args.path.now c.args.via.now made.place c.requires on called made.ensures.says
    (subst (λ z. Contains old.vias.names z) (sym made.ensures.via) (c.contains.ensures.0 c.if-not-contains.false)) refl refl refl refl refl refl
    c.in_ok-push.ensures.items
