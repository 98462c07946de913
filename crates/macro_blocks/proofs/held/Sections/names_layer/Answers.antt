use Rattle.std.proofs.Common.{refl}
use Rattle.macro_blocks.proofs.Taking.{layer_leads}
use Rattle.macro_blocks.proofs.held.Sections.names_layer.Goals as goal

pub returns : goal.returns
returns c = λ there.
    let old = c.args.self.now in
    layer_leads there c.args.unit.now old (record old { layer = c.second_text-self.result }) (record { macros = refl; pins = refl; obstructions = refl })
    c.second_text-self.ensures refl refl
