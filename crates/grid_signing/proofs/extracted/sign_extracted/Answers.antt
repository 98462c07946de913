use Rattle.std.proofs.Common.{◌<◌, ◌^◌, ℕ, List, All, length, refl, sym, subst, arith}
use Rattle.std.proofs.lemmas.Result.{IfOk-weaker}
use Rattle.grid_limits.specs.Limits.{IsBranchOf}
use Rattle.grid_network.specs.declared.branch.Branch.{Branch}
use Rattle.grid_signing.specs.Basis.{base_of}
use Rattle.grid_signing.specs.inside.Stages.{signing_of}
use Rattle.grid_signing.proofs.Signs.{limits_of_grid}
use Rattle.grid_signing.proofs.extracted.sign_extracted.Goals as goal

pub limits-requires-clause-branches : goal.limits-requires-clause-branches
limits-requires-clause-branches g c =
    let b = base_of c.args.basis.now in
    subst (λ (branches : List Branch). All (IsBranchOf b.tech c.args.grid.now) branches) (sym c.as_slice-branches.ensures) c.requires.branches

pub sign_network-requires-clause-limits : goal.sign_network-requires-clause-limits
sign_network-requires-clause-limits g c =
    let b = base_of c.args.basis.now in
    let grid = c.args.grid.now in
    let e = c.args.extracted in
    let few : length grid.nets < 2 ^ 32 = subst (λ (nets : List (List ℕ)). length nets < 2 ^ 32) c.as_slice.ensures (omega (arith, c.if-as_slice.false)) in
    let limits = limits_of_grid b grid e c.in-Ok.limits c.as_slice-keys.result.now c.as_slice-branches.result.now c.as_slice-keys.ensures c.as_slice-branches.ensures c.in-Ok.ensures in
    c.limits_are_of_the_network.ensures.limits b.tech grid b.bias e c.in-Ok.limits c.requires.keep.bias few c.requires.network limits

pub sign_network-requires-clause-written : goal.sign_network-requires-clause-written
sign_network-requires-clause-written g c =
    c.extracted_networks_can_be_written.ensures c.args.basis.now.tech.now c.args.grid.now c.args.extracted c.requires.names c.requires.network c.nodes-nodes.ensures.built

pub returns-clause-signed : goal.returns-clause-signed
returns-clause-signed g c =
    let b = base_of c.args.basis.now in
    let grid = c.args.grid.now in
    let e = c.args.extracted in
    let limits = limits_of_grid b grid e c.in-Ok.limits c.as_slice-keys.result.now c.as_slice-branches.result.now c.as_slice-keys.ensures c.as_slice-branches.ensures c.in-Ok.ensures in
    IfOk-weaker c.sign_network.result _ _ (λ signed is. record {
      signing = signing_of e c.in-Ok.limits is.certificate;
      is_signing = record { network = refl; limits = limits; supplied = is.supplied; certified = is.certified };
      are_texts = is.are_texts;
      keep = is.keep;
      checked = is.checked;
    }) c.sign_network.ensures.signed
