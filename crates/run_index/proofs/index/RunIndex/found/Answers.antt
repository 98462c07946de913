-- What is found among the rectangles is all that lies across.
use Rattle.std.proofs.Common.{◌≡◌, List, map, filter, ap, ◌∙◌}
use Rattle.std.proofs.lemmas.Result.{IfOk-weaker}
use Rattle.geom_rect.specs.declared.rect.Rect.{Rect}
use Rattle.rect_index.specs.Entry.{is_at, item_of}
use Rattle.run_index.specs.declared.entry.Entry.{Entry}
use Rattle.run_index.specs.Entry.{lies_across, along_of}
use Rattle.run_index.proofs.Near.{found_near}
use Rattle.run_index.proofs.index.RunIndex.found.Goals as goal

pub returns : goal.returns
returns c =
    let group = c.args.group in
    let window = c.args.window in
    let boxes = c.self.inside.boxes in
    let near = c.deref.ensures.value ∙ c.in_ok-near.ensures ∙ ap (λ (r : Rect). map item_of (filter (is_at group r) boxes)) c.window_of.ensures in
    let left = ap (λ (es : List Entry). map along_of es) (found_near group window boxes c.self.invariant) in
    IfOk-weaker c.along_those.result (λ runs. runs.items ≡ map along_of (filter (lies_across group window) c.deref.result.now))
    (λ runs. runs.items ≡ map along_of (filter (lies_across group window) c.args.self.now))
    (λ runs is. is ∙ ap (λ (es : List Entry). map along_of (filter (lies_across group window) es)) near ∙ left
    ∙ ap (λ (es : List Entry). map along_of (filter (lies_across group window) es)) c.self.view_is)
    c.along_those.ensures
