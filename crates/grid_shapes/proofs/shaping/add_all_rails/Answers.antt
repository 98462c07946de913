use Rattle.std.proofs.Common.{◌≡◌, ◌<◌, ◌≤◌, ◌⊎◌, pos, List, Contains, length, get_or, subst, ap}
use Rattle.std.proofs.lemmas.List.{take_all}
use Rattle.std.proofs.lemmas.List.Elements.{Contains-get_or}
use Rattle.grid_plan.specs.declared.record.Rails.{Rails}
use Rattle.grid_plan.specs.declared.record.Reach.TheVariants.{Core}
use Rattle.grid_shapes.specs.Shapes.{AreOfEach, Draws, DrawRails, RailsAreMany}
use Rattle.grid_shapes.specs.inside.Sites.{Adds}
use Rattle.grid_pieces.specs.declared.error.Counted.TheVariants.{Lines}
use Rattle.grid_pieces.specs.declared.error.DrawError.{DrawError}
use Rattle.grid_pieces.specs.declared.error.DrawError.TheVariants.{TooMany, Want}
use Rattle.grid_shapes.proofs.Each.{each_more}
use Rattle.grid_shapes.proofs.Passed.{err_on}
use Rattle.grid_shapes.proofs.shaping.add_all_rails.Goals as goal

-- What a read past a list gives.
abbrev nothing : Rails
nothing = record { grid = 0; reach = Core; spacing = pos 0; layer = 0; width = pos 0 }

pub add_rails-requires-clause-rails : goal.add_rails-requires-clause-rails
add_rails-requires-clause-rails c =
    let items = c.as_slice-rails-items.result.now in
    subst (λ (xs : List Rails). Contains xs (get_or items c.loop-rails.rails-index nothing)) c.as_slice-rails-items.ensures
    (Contains-get_or items c.loop-rails.rails-index nothing c.loop-rails-test.true)

pub loop-rails-preserved : goal.loop-rails-preserved
loop-rails-preserved c =
    let plan = c.args.plan.now in
    let items = c.as_slice-rails-items.result.now in
    let i = c.loop-rails.rails-index in
    let draws = λ (r : Rails). Draws plan r.grid (DrawRails plan r) in
    let old = c.args.shapes.now.items in
    let before = c.loop-rails.shapes.items in
    let after = c.add_rails.new.shapes.items in
    let within : i < length plan.rails = subst (λ (xs : List Rails). i < length xs) c.as_slice-rails-items.ensures c.loop-rails-test.true in
    let is : get_or items i nothing ≡ get_or plan.rails i nothing = ap (λ (xs : List Rails). get_or xs i nothing) c.as_slice-rails-items.ensures in
    each_more draws plan.rails i nothing old before after within c.loop-rails.invariant (subst (λ (r : Rails). Adds (draws r) before after) is c.in_ok-add_rails.ensures.added)

pub returns-in_err-add_rails-clause-refused : goal.returns-in_err-add_rails-clause-refused
returns-in_err-add_rails-clause-refused c =
    err_on (λ (error : DrawError). (error ≡ Want) ⊎ ((error ≡ TooMany Lines) × RailsAreMany c.args.plan.now)) c.from_residual.result c.in_err-add_rails.field-0.0
    c.from_residual.ensures.1 c.in_err-add_rails.ensures.refused

pub returns-clause-added : goal.returns-clause-added
returns-clause-added c =
    let plan = c.args.plan.now in
    let i = c.loop-rails.rails-index in
    let draws = λ (x : Rails). Draws plan x.grid (DrawRails plan x) in
    let past : length plan.rails ≤ i = subst (λ (xs : List Rails). length xs ≤ i) c.as_slice-rails-items.ensures c.loop-rails-test.false in
    subst (λ (xs : List Rails). Adds (AreOfEach draws xs) c.args.shapes.now.items c.loop-rails.shapes.items) (take_all i plan.rails past) c.loop-rails.invariant
