use Rattle.std.proofs.Common.{refl, sym, ◌∙◌}
use Rattle.std.proofs.lemmas.Bool.{false≢true}
use Rattle.wire_names.specs.declared.record.NamedVia.{NamedVia}
use Rattle.wire_limits.specs.Vias.{IsUsed, HasSize}
use Rattle.wire_limits.proofs.Search.{used_more, before_all, first_used}
use Rattle.wire_limits.proofs.Stages.{no_via}
use Rattle.wire_limits.proofs.via.too_long.Goals as goal
use Rattle.wire_limits.proofs.via.too_long.Goals.{else-used-place-via-then-used-place+else-not-has_size, else-used-place-via-else-used-place}

pub returns-then-not-has_size : goal.returns-then-not-has_size
returns-then-not-has_size c = (_, first_used HasSize c.args.vias.now c.args.spots.now c.args.used.now c.loop-place.place no_via c.in_ok-number.field-0 c.in_ok-number.ensures c.loop-place-test.true c.requires.used c.loop-place.invariant c.if-used-place.true (λ has. false≢true (c.if-not-has_size.ensures.1 has)))

pub loop-place-preserved : goal.loop-place-preserved
loop-place-preserved c =
    used_more HasSize c.args.vias.now c.args.spots.now c.args.used.now c.loop-place.place no_via c.loop-place-test.true c.requires.used c.loop-place.invariant
    (elim c.else-used-place.branch [
      | else-used-place-via-then-used-place+else-not-has_size w ↦ λ marked. w.if-not-has_size.ensures.0 refl
      | else-used-place-via-else-used-place w ↦ λ marked. absurd (false≢true (sym w.if-used-place.false ∙ marked))
    ])

pub returns : goal.returns
returns c = before_all (λ k (via : NamedVia). IsUsed c.args.spots.now k → HasSize via) c.args.vias.now c.loop-place.place c.loop-place-test.false c.loop-place.invariant
