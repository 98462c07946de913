use Rattle.std.proofs.Common.{◌≡◌, pos, get_or, sym, ap, ◌∙◌, rules, SFits, w64, to_z, eq-eqb}
use Rattle.std.specs.Bool.{nat_eq}
use Rattle.std.specs.Int.{int_max}
use Rattle.std.proofs.lemmas.Int.{to_z-of_z}
use Rattle.std.proofs.lemmas.Bool.{ne_eqb}
use Rattle.grid_plan.specs.declared.record.Rails.{Rails}
use Rattle.grid_plan.specs.declared.record.Reach.TheVariants.{Core}
use Rattle.grid_shapes.proofs.Widest.{widest_more, widest_kept}
use Rattle.grid_shapes.proofs.site.widest_of.Goals as goal
use Rattle.grid_shapes.proofs.site.widest_of.Goals.{then-rails-grid, else-rails-grid}

-- What a read past a list gives.
abbrev nothing : Rails
nothing = record { grid = 0; reach = Core; spacing = pos 0; layer = 0; width = pos 0 }

pub loop-rails-preserved : goal.loop-rails-preserved
loop-rails-preserved c =
    let i = c.loop-rails.rails-index in
    let all = c.args.rails.now in
    let passes = (λ (r : Rails). nat_eq r.grid c.args.grid) in
    let more = widest_more passes all i nothing c.loop-rails-test.true in
    let kept = widest_kept passes all i nothing c.loop-rails-test.true in
    elim c.if-rails-grid.branch [
      | then-rails-grid w ↦
          let fits : SFits w64 w.wider-widest.result = search rules in
          let is : to_z w64 c.if-rails-grid.widest-bits ≡ w.wider-widest.result = simp to_z-of_z at w.widest-is in
          is ∙ w.wider-widest.ensures ∙ ap (int_max (get_or all i nothing).width) c.loop-rails.invariant ∙ sym (more (eq-eqb _ _ w.if-rails-grid.true))
      | else-rails-grid w ↦ w.widest-is ∙ c.loop-rails.invariant ∙ sym (kept (ne_eqb _ _ w.if-rails-grid.false))
    ]
