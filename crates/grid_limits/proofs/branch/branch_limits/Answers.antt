use Rattle.std.proofs.Common.{take, get_or, ◌++◌, ◌∷◌, [], sym, subst}
use Rattle.std.proofs.lemmas.List.{take_more}
use Rattle.entry_list.specs.InTurn.{InTurn}
use Rattle.entry_list.specs.Laws.{in-turn-more}
use Rattle.grid_network.specs.declared.branch.Branch.{Branch}
use Rattle.grid_network.specs.declared.branch.Branch.TheVariants.{Wire}
use Rattle.grid_limits.specs.Limits.{IsBranchLimit}
use Rattle.grid_limits.proofs.branch.branch_limits.Goals as goal

pub loop-branch-preserved : goal.loop-branch-preserved
loop-branch-preserved c =
    let none : Branch = Wire 0 in
    let says = IsBranchLimit c.args.tech.now c.args.grid.now in
    let branches = c.args.branches.now in
    let i = c.loop-branch.branch-index in
    let branch : Branch = get_or branches i none in
    let more = in-turn-more says (take i branches) c.loop-branch.limits.items branch c.branch_limit.result c.loop-branch.invariant c.branch_limit.ensures in
    subst (λ lines. InTurn says lines c.push.new.self.items) (sym (take_more branches i none c.loop-branch-test.true))
    (subst (λ entries. InTurn says (take i branches ++ branch ∷ []) entries) (sym c.in_ok-push.ensures.items) more)
