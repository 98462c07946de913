use Rattle.std.proofs.Common.{◌≡◌, ◌≤◌, length, refl, ap, ◌∙◌, arith}
use Rattle.level_region.specs.declared.span.Span.{Span}
use Rattle.level_region.specs.Block.{Block, end_of, part_of, written_over, hull_of}
use Rattle.level_region.proofs.Hull.{hull_within, length-part_of}
use Rattle.level_region.proofs.region.Region.hull_mut.Goals as goal

pub returns : goal.returns
returns c =
    let is : c.hull-span.result ≡ hull_of c.args.a c.args.b = c.hull-span.ensures in
    let cells = c.args.self.now.cells in
    let used : c.self.inside.used ≡ c.args.self.now.used = ap (λ (b : Block). b.used) c.self.view_is in
    let same : c.self.inside.cells.items ≡ cells = ap (λ (b : Block). b.cells) c.self.view_is in
    let held : length c.self.inside.cells.items ≡ length cells = ap length same in
    let ends : end_of (hull_of c.args.a c.args.b) ≤ c.args.self.now.used = hull_within c.args.a c.args.b c.args.self.now.used c.requires.apart c.requires.a_within c.requires.b_within in
    let within : end_of (hull_of c.args.a c.args.b) ≤ length cells = omega (arith, c.self.invariant) in
    let value = c.get_mut.ensures.value ∙ ap (part_of c.args.self.now) is in (
      (refl, λ w. ap (λ (s : Span). written_over c.args.self.now s.start w) is),
      record { written = tt; value = value; len = ap length value ∙ length-part_of c.args.self.now (hull_of c.args.a c.args.b) within },
    )
