use Rattle.std.proofs.Common.{◌≡◌, ◌++◌, List, ◌≤◌, length, subst, sym, ap, ◌∙◌, arith}
use Rattle.grid_stacks.specs.declared.connect.Site.{Site}
use Rattle.grid_stacks.specs.Crossing.{Stands}
use Rattle.grid_stacks.specs.Stacking.{most_stacks}
use Rattle.macro_stacks.specs.inside.Places.{Grows}
use Rattle.macro_stacks.proofs.Parted.{grown}
use Rattle.macro_stacks.proofs.places.add_places.Goals as goal

pub returns : goal.returns
returns c =
    let old = c.args.sites.now.items in
    let more = c.in_ok-more.more in
    let few : length more.items ≤ most_stacks = omega (arith, c.len.ensures, more.ok.0, more.ok.1) in
    let is : c.extend_from_slice.new.self.items ≡ old ++ more.items = c.in_ok-extend_from_slice.ensures.items ∙ ap (λ (ys : List Site). old ++ ys) c.deref.ensures.value in
    subst (Grows (Stands c.args.tech.now c.args.pieces.now c.args.connects.now c.args.blocks.now) old) (sym is) (grown (Stands c.args.tech.now c.args.pieces.now c.args.connects.now c.args.blocks.now) old more.items few c.in_ok-more.ensures)
