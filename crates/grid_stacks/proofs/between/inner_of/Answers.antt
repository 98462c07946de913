-- The index has the rectangles.
use Rattle.std.proofs.Common.{◌↔◌, List, Contains, subst, sym}
use Rattle.std.proofs.lemmas.Result.{IfOk-weaker}
use Rattle.geom_rect.specs.declared.rect.Rect.{Rect}
use Rattle.grid_stacks.specs.inside.Standing.{IsInner}
use Rattle.grid_stacks.proofs.between.inner_of.Goals as goal

pub returns : goal.returns
returns c =
    let tech = c.args.tech.now in
    let connect = c.args.connect.now in
    let blocks = c.args.blocks.now in
    let rects = c.deref.result.now in
    let are : (r : Rect) → Contains rects r ↔ IsInner tech connect blocks r =
    subst (λ (rs : List Rect). (r : Rect) → Contains rs r ↔ IsInner tech connect blocks r) (sym c.deref.ensures.value) c.in_ok-rects.ensures in
    IfOk-weaker c.new.result (λ inner. (r : Rect) → Contains inner r ↔ Contains rects r) (λ inner. (r : Rect) → Contains inner r ↔ IsInner tech connect blocks r)
    (λ inner same r. (λ w. (are r).0 ((same r).0 w), λ w. (same r).1 ((are r).1 w))) c.new.ensures
