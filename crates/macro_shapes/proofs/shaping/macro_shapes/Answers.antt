use Rattle.std.proofs.Common.{◌≡◌, List, ◌++◌, All, sym, subst}
use Rattle.geom_rect.specs.declared.drawn.Drawn.{Drawn}
use Rattle.grid_shapes.specs.inside.Sites.{ShapeKeeps}
use Rattle.halo_cuts.specs.declared.shape.GridShape.{GridShape}
use Rattle.block_stripes.specs.Blocks.{of_grid, ShapesKeep}
use Rattle.macro_shapes.specs.Shapes.{no_grid}
use Rattle.macro_shapes.proofs.Keeping.{gathered, whole_keep, lines_keep, parts_keep, one_axis}
use Rattle.macro_shapes.proofs.shaping.macro_shapes.Goals as goal

pub cut_shapes-requires : goal.cut_shapes-requires
cut_shapes-requires c =
    let tech = c.args.tech.now in
    let plan = c.args.plan.now in
    let plain = c.deref-3.result.now in
    let straps = c.deref-4.result.now in
    let rings = c.deref-5.result.now in
    let whole = c.extend_from_slice-2.new.self.items in
    let are : whole ≡ of_grid no_grid plain ++ straps ++ rings = gathered c.new-whole.result.items c.add_plain.new.whole.items c.extend_from_slice.new.self.items whole
    (of_grid no_grid plain) straps rings c.new-whole.ensures.items c.in_ok-add_plain.ensures c.in_ok-extend_from_slice.ensures.items c.in_ok-extend_from_slice-2.ensures.items in
    let keep : ShapesKeep tech plan whole = whole_keep tech plan plain straps rings whole
    (subst (λ (xs : List Drawn). All (ShapeKeeps tech plan) xs) (sym c.deref-3.ensures.value) c.in_ok-plain.ensures.keep)
    (subst (λ (xs : List GridShape). ShapesKeep tech plan xs) (sym c.deref-4.ensures.value) c.in_ok-straps.ensures.keep)
    (subst (λ (xs : List GridShape). ShapesKeep tech plan xs) (sym c.deref-5.ensures.value) c.in_ok-rings.ensures.keep) are in
    let kept : ShapesKeep tech plan c.deref-6.result.now = subst (λ (xs : List GridShape). ShapesKeep tech plan xs) (sym c.deref-6.ensures.value) keep in
    lines_keep tech plan c.deref-6.result.now kept

pub returns-clause-keep : goal.returns-clause-keep
returns-clause-keep c =
    let tech = c.args.tech.now in
    let plan = c.args.plan.now in
    let plain = c.deref-3.result.now in
    let straps = c.deref-4.result.now in
    let rings = c.deref-5.result.now in
    let whole = c.extend_from_slice-2.new.self.items in
    let are : whole ≡ of_grid no_grid plain ++ straps ++ rings = gathered c.new-whole.result.items c.add_plain.new.whole.items c.extend_from_slice.new.self.items whole
    (of_grid no_grid plain) straps rings c.new-whole.ensures.items c.in_ok-add_plain.ensures c.in_ok-extend_from_slice.ensures.items c.in_ok-extend_from_slice-2.ensures.items in
    let keep : ShapesKeep tech plan whole = whole_keep tech plan plain straps rings whole
    (subst (λ (xs : List Drawn). All (ShapeKeeps tech plan) xs) (sym c.deref-3.ensures.value) c.in_ok-plain.ensures.keep)
    (subst (λ (xs : List GridShape). ShapesKeep tech plan xs) (sym c.deref-4.ensures.value) c.in_ok-straps.ensures.keep)
    (subst (λ (xs : List GridShape). ShapesKeep tech plan xs) (sym c.deref-5.ensures.value) c.in_ok-rings.ensures.keep) are in
    let kept : ShapesKeep tech plan c.deref-6.result.now = subst (λ (xs : List GridShape). ShapesKeep tech plan xs) (sym c.deref-6.ensures.value) keep in
    parts_keep tech plan c.deref-6.result.now c.in_ok-left.left.items kept
    (c.cuts_leave_parts.ensures c.args.blocks.now c.deref-6.result.now c.in_ok-left.left.items c.in_ok-left.ensures)

pub returns-clause-one_axis : goal.returns-clause-one_axis
returns-clause-one_axis c =
    let tech = c.args.tech.now in
    let plan = c.args.plan.now in
    let plain = c.deref-3.result.now in
    let straps = c.deref-4.result.now in
    let rings = c.deref-5.result.now in
    let whole = c.extend_from_slice-2.new.self.items in
    let are : whole ≡ of_grid no_grid plain ++ straps ++ rings = gathered c.new-whole.result.items c.add_plain.new.whole.items c.extend_from_slice.new.self.items whole
    (of_grid no_grid plain) straps rings c.new-whole.ensures.items c.in_ok-add_plain.ensures c.in_ok-extend_from_slice.ensures.items c.in_ok-extend_from_slice-2.ensures.items in
    let keep : ShapesKeep tech plan whole = whole_keep tech plan plain straps rings whole
    (subst (λ (xs : List Drawn). All (ShapeKeeps tech plan) xs) (sym c.deref-3.ensures.value) c.in_ok-plain.ensures.keep)
    (subst (λ (xs : List GridShape). ShapesKeep tech plan xs) (sym c.deref-4.ensures.value) c.in_ok-straps.ensures.keep)
    (subst (λ (xs : List GridShape). ShapesKeep tech plan xs) (sym c.deref-5.ensures.value) c.in_ok-rings.ensures.keep) are in
    let kept : ShapesKeep tech plan c.deref-6.result.now = subst (λ (xs : List GridShape). ShapesKeep tech plan xs) (sym c.deref-6.ensures.value) keep in
    let left : All (ShapeKeeps tech plan) c.in_ok-left.left.items = parts_keep tech plan c.deref-6.result.now c.in_ok-left.left.items kept
    (c.cuts_leave_parts.ensures c.args.blocks.now c.deref-6.result.now c.in_ok-left.left.items c.in_ok-left.ensures) in
    one_axis tech plan c.in_ok-left.left.items left
