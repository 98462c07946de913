use Rattle.std.proofs.Common.{OnOk, refl, sym, subst}
use Rattle.def_wiring.specs.declared.act.Act.{Act}
use Rattle.def_wiring.specs.declared.act.Act.TheVariants as acts
use Rattle.def_wiring.specs.inside.Held.{Tells, Leads}
use Rattle.def_wiring.specs.declared.held.Sections.{Sections}
use Rattle.def_wiring.specs.Laws.Acts.{same_act}
use Rattle.def_wiring.proofs.Taking.{took}
use Rattle.reading.specs.Word.{token}
use Rattle.def_wiring.proofs.held.Sections.take_act.Goals as goal

pub returns-in-EndsVia : goal.returns-in-EndsVia
returns-in-EndsVia c =
    let old = c.args.self.now in
    let there = c.args.standing.now in
    let word = token c.args.word.now in
    subst (λ (z : Act). OnOk c.end_via.result (Leads z there word old c.end_via.new.self)) (sym c.in-EndsVia.is)
    (took c.end_via.result _ (Leads acts.EndsVia there word old c.end_via.new.self) (λ all. all word) c.end_via.ensures)

pub returns-in-Point : goal.returns-in-Point
returns-in-Point c =
    let old = c.args.self.now in
    let there = c.args.standing.now in
    let word = token c.args.word.now in
    subst (λ (z : Act). OnOk c.end_point.result (Leads z there word old c.end_point.new.self)) (sym c.in-Point.is)
    (took c.end_point.result _ (Leads acts.Point there word old c.end_point.new.self) (λ all. all word) c.end_point.ensures)

pub returns-in-Place : goal.returns-in-Place
returns-in-Place c =
    let old = c.args.self.now in
    let there = c.args.standing.now in
    let word = token c.args.word.now in
    subst (λ (z : Act). OnOk c.place.result (Leads z there word old c.place.new.self)) (sym c.in-Place.is)
    (took c.place.result _ (Leads acts.Place there word old c.place.new.self) (λ all. all there word refl refl) c.place.ensures)

pub returns-in-EndsNet : goal.returns-in-EndsNet
returns-in-EndsNet c =
    let old = c.args.self.now in
    let there = c.args.standing.now in
    let word = token c.args.word.now in
    subst (λ (z : Act). OnOk c.end_net.result (Leads z there word old c.end_net.new.self)) (sym c.in-EndsNet.is)
    (took c.end_net.result _ (Leads acts.EndsNet there word old c.end_net.new.self) (λ all. all word) c.end_net.ensures)

pub returns-in_default : goal.returns-in_default
returns-in_default c = λ said h.
    subst (λ z. Tells z c.args.self.now) (sym (same_act c.args.act c.in_default.not-EndsVia c.in_default.not-Point c.in_default.not-Place c.in_default.not-EndsNet
    c.args.standing.now (token c.args.word.now) said)) h
