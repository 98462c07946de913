use Rattle.spice_cards.proofs.Taking.{range_within, load_adds}
use Rattle.spice_cards.proofs.Values.{on_ok}
use Rattle.spice_cards.proofs.held.add_loads.Goals as goal

pub returns : goal.returns
returns c =
    on_ok _ _ c.add_load-2.result (λ k text ends v is range.
    let within = range_within text ends v _ _ is range in
    load_adds c.args.a.now c.args.b.now text ends v c.args.range.low c.args.range.high c.turned-back.result.low c.turned-back.result.high _ _ _ is range
    (c.turned-back.ensures.low within.1) (c.turned-back.ensures.high within.0) c.in_ok-add_load.ensures k) c.add_load-2.ensures
