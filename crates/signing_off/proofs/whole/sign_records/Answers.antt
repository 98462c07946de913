use Rattle.std.proofs.Common.{◌≡◌, inr, sym, subst}
use Rattle.std.proofs.lemmas.Result.{IfOk-weaker, MatchResult-weaker}
use Rattle.grid_signing.specs.Basis.{Base, BaseKeeps}
use Rattle.grid_signing.specs.Checked.{Signs}
use Rattle.grid_signing.specs.Refusal.{IsUnsigned}
use Rattle.grid_signing.specs.Signing.{CanBeSigned}
use Rattle.signing_off.proofs.Naming.{can_be_signed}
use Rattle.signing_off.proofs.whole.sign_records.Goals as goal

pub sign_grid-requires-clause-keep : goal.sign_grid-requires-clause-keep
sign_grid-requires-clause-keep g c =
    let keep = c.requires in
    subst BaseKeeps (sym c.basis_of.ensures) (record { tech = keep.tech; cells = keep.cells; design = keep.design; bias = keep.bias })

pub sign_grid-requires-clause-grid : goal.sign_grid-requires-clause-grid
sign_grid-requires-clause-grid g c =
    let r = c.args.records.now in
    let grid = c.in-Ok.grid in
    let names = c.wired_grids_have_names.ensures.nets r.tech r.design r.wires grid c.requires.net_names c.in-Ok.ensures.grid in
    subst (λ (b : Base). CanBeSigned b grid) (sym c.basis_of.ensures) (can_be_signed r grid c.requires c.in-Ok.ensures.keep c.in-Ok.ensures.arrays names)

pub returns-in-Ok-clause-signed : goal.returns-in-Ok-clause-signed
returns-in-Ok-clause-signed g c =
    let told = g.V.Solver.told c.args.solver.now in
    let grid = c.in-Ok.grid in
    IfOk-weaker c.sign_grid.result _ _ (λ signed is. (grid, c.in-Ok.ensures.grid, subst (λ (b : Base). Signs told b grid signed) c.basis_of.ensures is)) c.sign_grid.ensures.signed

pub returns-in-Ok-clause-refused : goal.returns-in-Ok-clause-refused
returns-in-Ok-clause-refused g c =
    let grid = c.in-Ok.grid in
    MatchResult-weaker c.sign_grid.result c.sign_grid.ensures.refused (λ signed is. is) (λ answer is. inr (grid, c.in-Ok.ensures.grid, subst (λ (b : Base). IsUnsigned b grid answer) c.basis_of.ensures is))
