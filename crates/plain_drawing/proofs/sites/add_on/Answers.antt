use Rattle.std.proofs.Common.{◌<◌, pos, length, sym, subst, ◌∙◌}
use Rattle.std.proofs.lemmas.Bool.{false≢true}
use Rattle.std.proofs.lemmas.List.Elements.{Contains-get_or}
use Rattle.geom_rect.specs.declared.direction.Axis.TheVariants.{X}
use Rattle.geom_rect.specs.declared.drawn.Shape.TheVariants.{Ring}
use Rattle.grid_pieces.specs.declared.piece.Piece.{Piece}
use Rattle.grid_stacks.specs.declared.connect.Site.{Site}
use Rattle.plain_drawing.specs.inside.Adding.{AddsOne}
use Rattle.plain_drawing.proofs.Sited.{upright_all, upright_none, upright_more, upright_kept}
use Rattle.plain_drawing.proofs.sites.add_on.Goals as goal
use Rattle.plain_drawing.proofs.sites.add_on.Goals.{then-stands_at+in_ok-add_site, else-stands_at}

nothing : Piece
nothing = record { net = 0; layer = 0; axis = X; centre = pos 0; width = pos 0; from = pos 0; to = pos 0; shape = Ring }

pub loop-upright-init : goal.loop-upright-init
loop-upright-init c = upright_none c.args.tech.now c.args.pieces.now c.args.connects.now c.args.blocks.now c.args.connect c.args.flat c.args.sites.now.items

pub loop-upright-preserved : goal.loop-upright-preserved
unfolding nothing
loop-upright-preserved c =
    let pieces = c.args.pieces.now in
    let i = c.loop-upright.upright-index in
    let within : i < length pieces = c.loop-upright-test.true in
    elim c.if-stands_at.branch [
      | then-stands_at+in_ok-add_site w ↦
          rw w.sites-is
          (upright_more c.args.tech.now pieces c.args.connects.now c.args.blocks.now c.args.connect c.args.flat i nothing c.args.sites.now.items c.loop-upright.sites.items w.add_site.new.sites.items within
          c.requires.used c.requires.flat (Contains-get_or pieces i nothing within) (c.stands_at.ensures.0 w.if-stands_at.true)
          (subst (λ (s : Site). AddsOne s c.loop-upright.sites.items w.add_site.new.sites.items) w.site_of.ensures w.in_ok-add_site.ensures)
          c.loop-upright.invariant)
      | else-stands_at w ↦
          rw w.sites-is
          (upright_kept c.args.tech.now pieces c.args.connects.now c.args.blocks.now c.args.connect c.args.flat i nothing c.args.sites.now.items c.loop-upright.sites.items within
          (λ stands. false≢true (sym w.if-stands_at.false ∙ c.stands_at.ensures.1 stands)) c.loop-upright.invariant)
    ]

pub returns : goal.returns
returns c =
    upright_all c.args.tech.now c.args.pieces.now c.args.connects.now c.args.blocks.now c.args.connect c.args.flat c.loop-upright.upright-index c.args.sites.now.items c.loop-upright.sites.items
    c.loop-upright-test.false c.loop-upright.invariant
