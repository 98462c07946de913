-- What is found across the flat bar lies over it.
use Rattle.std.proofs.Common.{◌≡◌, ◌↔◌, ℤ, map, filter, IfOk, SFits, w64, rules}
use Rattle.std.proofs.lemmas.Int.{to_z-of_z}
use Rattle.std.proofs.lemmas.Result.{IfOk-weaker}
use Rattle.geom_rect.specs.Run.{IsHeld}
use Rattle.run_index.specs.Entry.{lies_across, along_of}
use Rattle.grid_stacks.specs.inside.Standing.{IsOverCell}
use Rattle.grid_stacks.proofs.Indexed.{found_over}
use Rattle.grid_stacks.proofs.inner.Inner.runs_over.Goals as goal

pub returns : goal.returns
returns c =
    let flat = c.args.flat in
    let index = c.self.inside.index in
    let low : SFits w64 flat.low = search rules in
    let high : SFits w64 flat.high = search rules in
    let found : IfOk c.found.result (λ runs. runs.items ≡ map along_of (filter (lies_across 0 (record { from = flat.low; to = flat.high })) index)) = simp to_z-of_z at c.found.ensures in
    IfOk-weaker c.found.result (λ runs. runs.items ≡ map along_of (filter (lies_across 0 (record { from = flat.low; to = flat.high })) index))
    (λ runs. (t : ℤ) → IsHeld runs.items t ↔ IsOverCell flat c.args.self.now t)
    (λ runs is. found_over index c.args.self.now flat runs.items c.self.invariant c.self.view_is is)
    found
