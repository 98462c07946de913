use Rattle.std.proofs.Common.{[], ◌∷◌, Some, sym, subst}
use Rattle.lef_cells.specs.inside.Held.{Leads}
use Rattle.lef_cells.proofs.Taking.{with_open, size_leads}
use Rattle.lef_cells.proofs.held.take_size.Goals as goal

pub returns : goal.returns
returns c = λ section first width by height stop says.
    let said = c.args.said.now in
    subst (λ z. Leads section (first ∷ width ∷ by ∷ height ∷ stop ∷ []) said
    (with_open said (record { name = said.open.name; size = Some z; block = said.open.block }))) (sym c.unwrap_or.ensures)
    (size_leads section first width by height stop said c.args.size says)
