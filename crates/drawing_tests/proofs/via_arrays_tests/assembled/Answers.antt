use Rattle.std.proofs.Common.{subst, sym, ◌∙◌}
use Rattle.lef_tech.specs.declared.tech.Tech.{Tech}
use Rattle.drawing_tests.specs.inside.Arrays.{AreLayers, AreCuts, AreRules}
use Rattle.drawing_tests.proofs.Arrays.{is_tested}
use Rattle.drawing_tests.proofs.via_arrays_tests.assembled.Goals as goal

pub returns : goal.returns
returns c =
    let tech : Tech = record { order = c.new.result; routing = c.new-2.result; cuts = c.new-3.result; rules = c.new-4.result } in
    is_tested tech (c.new.ensures ∙ c.requires.order) (subst AreLayers (sym c.new-2.ensures) c.requires.layers)
    (subst AreCuts (sym c.new-3.ensures) c.requires.cuts) (subst AreRules (sym c.new-4.ensures) c.requires.rules)
