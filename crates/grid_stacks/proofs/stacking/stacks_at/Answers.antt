use Rattle.std.proofs.Common.{◌≡◌, ◌<◌, pos, [], length, get_or, subst, sym, arith}
use Rattle.grid_stacks.specs.declared.connect.Site.{Site}
use Rattle.grid_pieces.specs.declared.piece.StackAt.{StackAt}
use Rattle.grid_stacks.specs.Stacking.{AreStacksAt, IsSiteRefused, IsOneRefused}
use Rattle.grid_stacks.proofs.Refused.{passed_on, stacks_more, site_refused}
use Rattle.grid_stacks.proofs.stacking.stacks_at.Goals as goal

nothing : Site
nothing = record { net = 0; x = pos 0; y = pos 0; from = 0; to = 0; crossing = record { x1 = pos 0; y1 = pos 0; x2 = pos 0; y2 = pos 0 }; max_columns = 0; max_rows = 0 }

no_stack : StackAt
no_stack = record { net = 0; x = pos 0; y = pos 0; crossing = record { x1 = pos 0; y1 = pos 0; x2 = pos 0; y2 = pos 0 }; stack = record { from = 0; to = 0; arrays = []; ohms = [] } }

pub loop-site-preserved : goal.loop-site-preserved
unfolding nothing
loop-site-preserved c =
    let sites = c.args.sites.now in
    let i = c.loop-site.site-index in
    rw c.in_ok-push.ensures.items (stacks_more c.args.tech.now c.args.units sites i nothing c.loop-site.stacks.items c.in_ok-stack_at.field-0 c.loop-site-test.true c.loop-site.invariant c.in_ok-stack_at.ensures)

pub returns-in_err-stack_at : goal.returns-in_err-stack_at
unfolding nothing no_stack
returns-in_err-stack_at c =
    let sites = c.args.sites.now in
    let i = c.loop-site.site-index in
    let error = c.in_err-stack_at.field-0.0 in
    passed_on (λ stacks. AreStacksAt c.args.tech.now c.args.units sites stacks.items) (IsSiteRefused c.args.tech.now c.args.units sites) c.from_residual.result error c.from_residual.ensures.1
    (site_refused c.args.tech.now c.args.units sites i nothing no_stack c.loop-site.stacks.items error c.loop-site-test.true c.loop-site.invariant c.in_err-stack_at.ensures)
