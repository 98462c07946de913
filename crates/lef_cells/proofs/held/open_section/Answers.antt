use Rattle.std.proofs.Common.{ap}
use Rattle.lef_cells.specs.declared.held.Open.{Open}
use Rattle.lef_cells.proofs.Taking.{head_leads}
use Rattle.reading.specs.Word.{token}
use Rattle.lef_cells.proofs.held.open_section.Goals as goal

pub returns : goal.returns
returns c = λ section first opening.
    head_leads section first (token c.args.name.now) c.args.said.now c.new-said.result opening
    (ap (λ (z : Open). z.name.now) c.new-said.ensures) (ap (λ (z : Open). z.size) c.new-said.ensures) (ap (λ (z : Open). z.block) c.new-said.ensures)
