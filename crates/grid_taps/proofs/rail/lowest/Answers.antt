use Rattle.std.proofs.Common.{ap, ◌∙◌}
use Rattle.geom_rect.specs.declared.rect.Rect.{Rect}
use Rattle.rect_index.specs.Entry.{first_at}
use Rattle.grid_taps.proofs.RailLemmas.{lowest_or_none}
use Rattle.grid_taps.proofs.rail.lowest.Goals as goal

pub returns : goal.returns
returns c = lowest_or_none c.args.grid.now c.args.rails.now c.requires c.args.net c.args.column c.first.result
    (c.first.ensures ∙ ap (λ (r : Rect). first_at c.args.net r c.args.rails.now) c.window_of.ensures)
