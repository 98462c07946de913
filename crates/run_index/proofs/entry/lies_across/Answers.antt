use Rattle.std.proofs.Common.{◌&&◌, sym, ◌∙◌, ap, eq-eqb}
use Rattle.run_index.specs.Entry.{share_cell}
use Rattle.run_index.proofs.entry.lies_across.Goals as goal

pub returns-then-entry-group : goal.returns-then-entry-group
returns-then-entry-group c =
    c.share_cell.ensures ∙ sym (ap (λ b. b && share_cell c.args.entry.across c.args.window) (eq-eqb _ _ c.if-entry-group.true))
