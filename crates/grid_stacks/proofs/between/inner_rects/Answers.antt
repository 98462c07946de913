use Rattle.std.proofs.Common.{◌≡◌, ◌↔◌, ◌<◌, pos, List, length, get_or, subst, sym, ◌∙◌, Contains}
use Rattle.std.proofs.lemmas.Bool.{false≢true}
use Rattle.std.proofs.lemmas.List.{take_all}
use Rattle.geom_rect.specs.declared.rect.Rect.{Rect}
use Rattle.lef_tech.specs.declared.layer.LayerRef.{LayerRef}
use Rattle.lef_tech.specs.declared.layer.LayerRef.TheVariants.{Routing}
use Rattle.grid_pieces.specs.declared.piece.Block.{Block}
use Rattle.grid_stacks.specs.Crossing.{LiesBetween}
use Rattle.grid_stacks.specs.inside.Standing.{IsFirstPlace, IsLastPlace, StandsWithin, IsInner}
use Rattle.grid_stacks.proofs.Barred.{between_is, inner_more, inner_kept}
use Rattle.grid_stacks.proofs.between.inner_rects.Goals as goal
use Rattle.grid_stacks.proofs.between.inner_rects.Goals.{then-stands_within+in_ok-push, else-stands_within}

nothing : Block
nothing = record {
  layer = Routing 0;
  plain = record { x1 = pos 0; y1 = pos 0; x2 = pos 0; y2 = pos 0 };
  grown = record { x1 = pos 0; y1 = pos 0; x2 = pos 0; y2 = pos 0 };
}

pub loop-block-preserved : goal.loop-block-preserved
unfolding nothing
loop-block-preserved c =
    let tech = c.args.tech.now in
    let connect = c.args.connect.now in
    let blocks = c.args.blocks.now in
    let i = c.loop-block.block-index in
    let within : i < length blocks = c.loop-block-test.true in
    let block = get_or blocks i nothing in
    let first : IsFirstPlace tech.order (Routing connect.from) c.first_place-low.result = subst (λ ls. IsFirstPlace ls (Routing connect.from) c.first_place-low.result) c.as_slice-order.ensures c.first_place-low.ensures in
    let last : IsLastPlace tech.order (Routing connect.to) c.last_place-high.result = subst (λ ls. IsLastPlace ls (Routing connect.to) c.last_place-high.result) c.as_slice-order.ensures c.last_place-high.ensures in
    let is = between_is tech connect.from connect.to c.first_place-low.result c.last_place-high.result block.layer first last in
    elim c.if-stands_within.branch [
      | then-stands_within+in_ok-push w ↦
          rw w.rects-is
          (rw w.in_ok-push.ensures.items
          (inner_more tech connect blocks i nothing c.loop-block.rects.items within
          (is.0 (subst (λ ls. StandsWithin ls c.first_place-low.result c.last_place-high.result block.layer) c.as_slice-order.ensures (c.stands_within.ensures.0 w.if-stands_within.true))) c.loop-block.invariant))
      | else-stands_within w ↦
          rw w.rects-is
          (inner_kept tech connect blocks i nothing c.loop-block.rects.items within
          (λ between. false≢true (sym w.if-stands_within.false ∙ c.stands_within.ensures.1
          (subst (λ ls. StandsWithin ls c.first_place-low.result c.last_place-high.result block.layer) (sym c.as_slice-order.ensures) (is.1 between)))) c.loop-block.invariant)
    ]

pub returns : goal.returns
returns c =
    let whole = take_all c.loop-block.block-index c.args.blocks.now c.loop-block-test.false in
    subst (λ bs. (r : Rect) → Contains c.loop-block.rects.items r ↔ IsInner c.args.tech.now c.args.connect.now bs r) whole c.loop-block.invariant
