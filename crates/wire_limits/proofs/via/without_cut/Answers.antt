use Rattle.std.proofs.Common.{refl, sym, ◌∙◌}
use Rattle.std.proofs.lemmas.Bool.{false≢true}
use Rattle.wire_names.specs.declared.record.NamedVia.{NamedVia}
use Rattle.wire_limits.specs.Vias.{IsUsed, HasCutResistance}
use Rattle.wire_limits.proofs.Search.{used_more, before_all, first_used}
use Rattle.wire_limits.proofs.Stages.{no_via}
use Rattle.wire_limits.proofs.via.without_cut.Goals as goal
use Rattle.wire_limits.proofs.via.without_cut.Goals.{else-used-place-via-then-used-place+else-not-has_resistance, else-used-place-via-else-used-place}

pub returns-then-not-has_resistance : goal.returns-then-not-has_resistance
returns-then-not-has_resistance c = (c.loop-place.place, _, first_used (HasCutResistance c.args.tech.now) c.args.vias.now c.args.spots.now c.args.used.now c.loop-place.place no_via c.loop-place.place refl c.loop-place-test.true c.requires.used c.loop-place.invariant c.if-used-place.true (λ has. false≢true (c.if-not-has_resistance.ensures.1 has)), refl)

pub loop-place-preserved : goal.loop-place-preserved
loop-place-preserved c =
    used_more (HasCutResistance c.args.tech.now) c.args.vias.now c.args.spots.now c.args.used.now c.loop-place.place no_via c.loop-place-test.true c.requires.used c.loop-place.invariant
    (elim c.else-used-place.branch [
      | else-used-place-via-then-used-place+else-not-has_resistance w ↦ λ marked. w.if-not-has_resistance.ensures.0 refl
      | else-used-place-via-else-used-place w ↦ λ marked. absurd (false≢true (sym w.if-used-place.false ∙ marked))
    ])

pub returns : goal.returns
returns c = before_all (λ k (via : NamedVia). IsUsed c.args.spots.now k → (HasCutResistance c.args.tech.now) via) c.args.vias.now c.loop-place.place c.loop-place-test.false c.loop-place.invariant
