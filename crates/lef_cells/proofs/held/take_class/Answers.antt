use Rattle.std.proofs.Common.{[], ◌∷◌, Some, sym, subst}
use Rattle.lef_cells.specs.inside.Held.{Leads}
use Rattle.lef_cells.proofs.Taking.{with_open, class_leads}
use Rattle.reading.specs.Word.{token}
use Rattle.lef_cells.proofs.held.take_class.Goals as goal

pub returns : goal.returns
returns c = λ section first is.
    let said = c.args.said.now in
    subst (λ z. Leads section (first ∷ token c.args.class.now ∷ []) said
    (with_open said (record { name = said.open.name; size = said.open.size; block = Some z }))) (sym c.unwrap_or.ensures)
    (class_leads section first (token c.args.class.now) said c.is_word.result is c.is_word.ensures)
