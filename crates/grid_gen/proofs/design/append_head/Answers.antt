use Rattle.std.proofs.Common.{ℕ, List, ◌++◌, ap, ◌∙◌, append_assoc}
use Rattle.grid_gen.specs.Design.{area_line}
use Rattle.grid_gen.specs.Fixed.{units_lines}
use Rattle.grid_gen.proofs.Literals.{units_is}
use Rattle.grid_gen.proofs.design.append_head.Goals as goal

pub returns : goal.returns
returns c =
    c.in_ok-append_area.ensures
    ∙ ap (λ (t : List ℕ). t ++ area_line c.args.side) (c.in_ok-append_text.ensures ∙ ap (λ (t : List ℕ). c.args.out.now.items ++ t) units_is)
    ∙ append_assoc c.args.out.now.items units_lines (area_line c.args.side)
