-- What is found in the index along the line's axis is blocked.
use Rattle.std.proofs.Common.{◌≡◌, ◌↔◌, ℤ, map, filter, subst, sym}
use Rattle.std.specs.List.{filter_map}
use Rattle.std.specs.List.Sorted.{IsPermutation}
use Rattle.std.proofs.lemmas.Result.{IfOk-weaker}
use Rattle.geom_rect.specs.Run.{IsHeld}
use Rattle.geom_rect.specs.declared.direction.Axis.{Axis}
use Rattle.run_index.specs.Entry.{lies_across, along_of}
use Rattle.grid_pieces.specs.Piece.{IsBlocked}
use Rattle.grid_pieces.specs.inside.Blockages.{entry_of, AreIndexed}
use Rattle.grid_pieces.proofs.Indexed.{found_blocked}
use Rattle.grid_pieces.proofs.blockages.Blockages.runs.Goals as goal

pub returns-in-X : goal.returns-in-X
returns-in-X c =
    let line = c.args.line in
    let along_x = c.self.inside.along_x in
    let window = c.window_of-window.result in
    let indexed : AreIndexed along_x c.self.inside.along_y = c.self.invariant in
    let moved = subst (λ (a : Axis). IsPermutation (filter_map (entry_of a) indexed.0) along_x) (sym c.in-X.is) indexed.1 in
    IfOk-weaker c.found.result (λ runs. runs.items ≡ map along_of (filter (lies_across line.layer window) along_x))
    (λ runs. (t : ℤ) → IsHeld runs.items t ↔ IsBlocked c.args.self.now line t)
    (λ runs is. found_blocked along_x c.self.inside.along_y along_x c.args.self.now line window runs.items indexed moved c.self.view_is c.window_of-window.ensures is)
    c.found.ensures

pub returns-in-Y : goal.returns-in-Y
returns-in-Y c =
    let line = c.args.line in
    let along_x = c.self.inside.along_x in
    let along_y = c.self.inside.along_y in
    let window = c.window_of-window.result in
    let indexed : AreIndexed along_x along_y = c.self.invariant in
    let moved = subst (λ (a : Axis). IsPermutation (filter_map (entry_of a) indexed.0) along_y) (sym c.in-Y.is) indexed.2 in
    IfOk-weaker c.found-in-Y.result (λ runs. runs.items ≡ map along_of (filter (lies_across line.layer window) along_y))
    (λ runs. (t : ℤ) → IsHeld runs.items t ↔ IsBlocked c.args.self.now line t)
    (λ runs is. found_blocked along_x along_y along_y c.args.self.now line window runs.items indexed moved c.self.view_is c.window_of-window.ensures is)
    c.found-in-Y.ensures
