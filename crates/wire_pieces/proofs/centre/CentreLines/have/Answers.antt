-- A place lies on a centre line along x, or on one along y.
use Rattle.std.proofs.Common.{◌≡◌, ◌⊎◌, inl, inr, IsTrue, Bool, true, false, ◌↔◌, subst, refl, sym, ◌∙◌, SFits, w64, rules}
use Rattle.std.proofs.lemmas.Bool.{false≢true}
use Rattle.std.proofs.lemmas.Int.{to_z-of_z}
use Rattle.geom_rect.specs.declared.direction.Axis.TheVariants.{X, Y}
use Rattle.wire_pieces.specs.inside.Centre.{IsOnAxis, point_of}
use Rattle.wire_pieces.proofs.Reach.{held_x, held_y, held_either}
use Rattle.wire_pieces.proofs.centre.CentreLines.have.Goals as goal

pub returns-then-have_along : goal.returns-then-have_along
returns-then-have_along c =
    let x : SFits w64 c.args.x = search rules in
    let y : SFits w64 c.args.y = search rules in
    let here : c.point.result ≡ point_of c.args.net c.args.layer X c.args.x c.args.y = simp to_z-of_z at c.point.ensures in
    (λ t. held_x c.args.self.now c.args.net c.args.layer c.args.x c.args.y (subst (IsOnAxis c.args.self.now) here (c.have_along.ensures.0 c.if-have_along.true)), λ held. refl)

pub returns : goal.returns
returns c =
    let x : SFits w64 c.args.x = search rules in
    let y : SFits w64 c.args.y = search rules in
    let one : c.point.result ≡ point_of c.args.net c.args.layer X c.args.x c.args.y = simp to_z-of_z at c.point.ensures in
    let other : c.point-2.result ≡ point_of c.args.net c.args.layer Y c.args.x c.args.y = simp to_z-of_z at c.point-2.ensures in
    let lines = c.args.self.now in (
      λ t. held_y lines c.args.net c.args.layer c.args.x c.args.y (subst (IsOnAxis lines) other (c.have_along-2.ensures.0 t)),
      λ held. held_either lines c.args.net c.args.layer c.args.x c.args.y c.have_along-2.result held (λ along. false≢true (sym c.if-have_along.false ∙ c.have_along.ensures.1 (subst (IsOnAxis lines) (sym one) along)))
          (λ along. c.have_along-2.ensures.1 (subst (IsOnAxis lines) (sym other) along)),
    )
