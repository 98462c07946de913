use Rattle.std.proofs.Common.{inr}
use Rattle.std.proofs.lemmas.Result.{IfOk-weaker, MatchResult-weaker}
use Rattle.grid_signing.specs.Basis.{base_of}
use Rattle.grid_signing.specs.Signing.{IsNetworkOver}
use Rattle.grid_signing.proofs.Signs.{of_kind}
use Rattle.grid_signing.proofs.whole.sign_grid.Goals as goal

pub sign_extracted-requires-clause-network : goal.sign_extracted-requires-clause-network
sign_extracted-requires-clause-network g c =
    let is = c.in-Ok.ensures.network in
    record { pads = is.pads; taps = is.taps; network = is.network }

pub sign_extracted-requires-clause-branches : goal.sign_extracted-requires-clause-branches
sign_extracted-requires-clause-branches g c = c.requires.grid.branches c.in-Ok.extracted c.in-Ok.ensures.network

pub returns-in-Ok-clause-signed : goal.returns-in-Ok-clause-signed
returns-in-Ok-clause-signed g c =
    let told = g.V.Solver.told c.args.solver.now in
    let b = base_of c.args.basis.now in
    let grid = c.args.grid.now in
    let e = c.in-Ok.extracted in
    IfOk-weaker c.sign_extracted.result _ _ (λ signed is. of_kind (IsNetworkOver b grid) told b grid e signed c.in-Ok.ensures.network is) c.sign_extracted.ensures.signed

pub returns-in-Ok-clause-refused : goal.returns-in-Ok-clause-refused
returns-in-Ok-clause-refused g c =
    MatchResult-weaker c.sign_extracted.result c.sign_extracted.ensures.refused (λ signed is. is)
    (λ answer is. inr (c.in-Ok.extracted, c.in-Ok.ensures.network, is))
