use Rattle.std.proofs.Common.{◌≡◌, ℤ, rules, sym, subst}
use Rattle.grid_net.specs.Network.{Network}
use Rattle.grid_net.specs.Limits.{IsBuilt}
use Rattle.signoff_report.specs.Limits.{resistor_at}
use Rattle.signoff_report.specs.Shown.{shown_current}
use Rattle.signoff_report.specs.inside.Intervals.{IsShort, longest_current}
use Rattle.signoff_report.proofs.Short.{current_short}
use Rattle.signoff_report.proofs.judging.current_shown.Goals as goal

pub returns-clause-short : goal.returns-clause-short
returns-clause-short c =
    let is : c.current.result ≡ shown_current c.args.certified.now (resistor_at c.args.certified.now.net c.args.branch) = search rules in
    let built : IsBuilt c.args.certified.now.net = subst (λ (net : Network). IsBuilt net) c.net.ensures c.nodes-nodes.ensures.built in
    subst (λ (shown : ℤ × ℤ). IsShort longest_current shown) (sym is)
    (current_short c.args.certified.now built c.high-high.ensures.certificate c.args.branch c.requires)
