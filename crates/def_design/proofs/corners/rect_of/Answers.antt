use Rattle.def_design.proofs.corners.rect_of.Goals as goal

pub returns : goal.returns
returns c = λ h.
    (c.point_of-one.result.x, c.point_of-one.result.y, c.point_of-other.result.x, c.point_of-other.result.y, c.point_of-one.ensures h.x h.y, c.point_of-other.ensures h.z h.w, c.between.ensures)
