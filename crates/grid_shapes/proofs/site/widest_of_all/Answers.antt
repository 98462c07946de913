use Rattle.std.proofs.Common.{◌≡◌, pos, true, false, not, get_or, sym, ap, ◌∙◌, rules, SFits, w64, to_z}
use Rattle.std.specs.Int.{int_max}
use Rattle.std.proofs.lemmas.Int.{to_z-of_z}
use Rattle.std.proofs.lemmas.Bool.{not_from_false, not_from_true}
use Rattle.std.proofs.lemmas.List.{get_or_default}
use Rattle.grid_plan.specs.declared.record.GridAt.{GridAt}
use Rattle.grid_plan.specs.declared.record.Rails.{Rails}
use Rattle.grid_plan.specs.declared.record.Reach.TheVariants.{Core}
use Rattle.grid_shapes.proofs.Widest.{widest_more, widest_kept}
use Rattle.grid_shapes.proofs.site.widest_of_all.Goals as goal
use Rattle.grid_shapes.proofs.site.widest_of_all.Goals.{then-not-grids-rails, else-not-grids-rails}

-- What a read past a list gives.
abbrev nothing : Rails
nothing = record { grid = 0; reach = Core; spacing = pos 0; layer = 0; width = pos 0 }

abbrev past : GridAt
past = record { domain = 0; over_macros = false }

-- What the definition has past the grids.
abbrev none : GridAt
none = record { domain = 0; over_macros = true }

pub loop-rails-preserved : goal.loop-rails-preserved
loop-rails-preserved c =
    let i = c.loop-rails.rails-index in
    let all = c.args.rails.now in
    let passes = (λ (r : Rails). not (get_or c.args.grids.now r.grid (record { domain = 0; over_macros = true })).over_macros) in
    let more = widest_more passes all i nothing c.loop-rails-test.true in
    let kept = widest_kept passes all i nothing c.loop-rails-test.true in
    let grids = c.args.grids.now in
    let number = (get_or all i nothing).grid in
    let within = c.requires i nothing c.loop-rails-test.true in
    let one : get_or grids number none ≡ get_or grids number past = get_or_default grids number none past within in
    let over = ap (λ (g : GridAt). g.over_macros) one in
    elim c.if-not-grids-rails.branch [
      | then-not-grids-rails w ↦
          let fits : SFits w64 w.wider-widest.result = search rules in
          let is : to_z w64 c.if-not-grids-rails.widest-bits ≡ w.wider-widest.result = simp to_z-of_z at w.widest-is in
          is ∙ w.wider-widest.ensures ∙ ap (int_max (get_or all i nothing).width) c.loop-rails.invariant ∙ sym (more (not_from_false _ (over ∙ w.if-not-grids-rails.true)))
      | else-not-grids-rails w ↦ w.widest-is ∙ c.loop-rails.invariant ∙ sym (kept (not_from_true _ (over ∙ w.if-not-grids-rails.false)))
    ]
