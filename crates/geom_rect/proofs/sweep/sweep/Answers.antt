use Rattle.std.proofs.Common.{◌≡◌, ◌<◌, length, get_or, pos, ◌≤ℤ◌, ◌<ℤ◌, subst, ap, arith, rules, SFits, w64, to_z}
use Rattle.std.specs.Int.{int_max}
use Rattle.std.proofs.lemmas.Int.{ints, clamps, to_z-of_z}
use Rattle.std.proofs.lemmas.List.{get_or_default}
use Rattle.geom_rect.specs.declared.run.Run.{Run}
use Rattle.geom_rect.specs.inside.Sweep.{IsSettled, AddsCells}
use Rattle.geom_rect.proofs.Known.{IsAt, settled_start, settled_block, settled_run, known_everywhere}
use Rattle.geom_rect.proofs.Maximal.{AreMaximalRuns-separate}
use Rattle.geom_rect.proofs.sweep.sweep.Goals as goal
use Rattle.geom_rect.proofs.sweep.sweep.Goals.{else-j-blocked-via-then-j-blocked+else-blocked-j, else-j-blocked-via-else-j-blocked}

-- what a read past a list gives
abbrev nothing : Run
nothing = record { from = pos 0; to = pos 0 }

pub loop-i-init : goal.loop-i-init
loop-i-init c =
    let first = c.in-Some.first.now in
    let fits : SFits w64 first.from = search rules in
    let some : 0 < length c.args.covered.now = search rules in
    let is : first ≡ get_or c.args.covered.now 0 first = search rules in
    (rw (to_z-of_z w64 first.from fits, c.new-answer.ensures.items) (settled_start c.args.covered.now c.args.blocked.now first c.requires.covered_rises some is), omega arith, omega arith)

pub append-requires-clause-ended : goal.append-requires-clause-ended
append-requires-clause-ended c =
    let s = c.loop-i.invariant.0 in
    let at : SFits w64 c.loop-i.at = search rules in
    let run : SFits w64 (get_or c.args.covered.now c.loop-i.i nothing).from = search rules in
    let from : c.max-from.result ≡ int_max c.loop-i.at (get_or c.args.covered.now c.loop-i.i nothing).from = omega (arith, ints, clamps, c.max-from.ensures.value) in
    λ k d below. let ends : (get_or c.loop-i.answer.items k d).to ≤ℤ to_z w64 c.loop-i.at-bits = s.ends k d below in omega (arith, ints, clamps)

pub loop-i-preserved-then-blocked-j : goal.loop-i-preserved-then-blocked-j
loop-i-preserved-then-blocked-j c =
    let covered = c.args.covered.now in
    let blocked = c.args.blocked.now in
    let i = c.loop-i.i in
    let j = c.loop-i.j in
    let run = get_or covered i nothing in
    let block = get_or blocked j nothing in
    let at_fits : SFits w64 c.loop-i.at = search rules in
    let run_from : SFits w64 run.from = search rules in
    let run_to : SFits w64 run.to = search rules in
    let block_from : SFits w64 block.from = search rules in
    let block_to : SFits w64 block.to = search rules in
    let from_fits : SFits w64 c.max-from.result = search rules in
    let next_fits : SFits w64 c.max-at.result = search rules in
    let is_at : IsAt covered blocked c.loop-i.at i j c.loop-i.answer.items = record {
      covered_rises = c.requires.covered_rises;
      blocked_rises = c.requires.blocked_rises;
      covered_some = c.requires.covered_some;
      blocked_some = c.requires.blocked_some;
      settled = subst (λ at. IsSettled covered blocked at i j c.loop-i.answer.items) c.loop-i.at-is c.loop-i.invariant.0;
      in_covered = c.loop-i-test.true;
    } in
    let is_from : c.max-from.result ≡ int_max c.loop-i.at run.from = omega (arith, ints, clamps, c.max-from.ensures.value) in
    let is_next : c.max-at.result ≡ int_max c.max-from.result block.to = simp to_z-of_z at c.max-at.ensures.value in
    let early : block.from <ℤ run.to = omega (arith, ints, c.if-blocked-j.true) in
    let appends : AddsCells c.loop-i.answer.items c.max-from.result block.from c.append.new.runs.items = simp to_z-of_z at c.in_ok-append.ensures in (
      rw (to_z-of_z w64 c.max-at.result next_fits)
          (settled_block covered blocked c.loop-i.answer.items c.append.new.runs.items c.loop-i.at c.max-from.result c.max-at.result i j run block is_at c.if-j-blocked.true
          (get_or_default covered i nothing run c.loop-i-test.true) (get_or_default blocked j nothing block c.if-j-blocked.true) early is_from is_next appends),
      omega arith,
      omega arith,
    )

pub append-requires-else-j-blocked-clause-ended : goal.append-requires-else-j-blocked-clause-ended
append-requires-else-j-blocked-clause-ended c =
    let s = c.loop-i.invariant.0 in
    λ k d below. let ends : (get_or c.loop-i.answer.items k d).to ≤ℤ to_z w64 c.loop-i.at-bits = s.ends k d below in omega (arith, ints, c.max-from.ensures.self_bound)

pub loop-i-preserved : goal.loop-i-preserved
loop-i-preserved c =
    let covered = c.args.covered.now in
    let blocked = c.args.blocked.now in
    let i = c.loop-i.i in
    let j = c.loop-i.j in
    let run = get_or covered i nothing in
    let at_fits : SFits w64 c.loop-i.at = search rules in
    let run_from : SFits w64 run.from = search rules in
    let run_to : SFits w64 run.to = search rules in
    let from_fits : SFits w64 c.max-from.result = search rules in
    let next_fits : SFits w64 c.max-at-else-j-blocked.result = search rules in
    let is_at : IsAt covered blocked c.loop-i.at i j c.loop-i.answer.items = record {
      covered_rises = c.requires.covered_rises;
      blocked_rises = c.requires.blocked_rises;
      covered_some = c.requires.covered_some;
      blocked_some = c.requires.blocked_some;
      settled = subst (λ at. IsSettled covered blocked at i j c.loop-i.answer.items) c.loop-i.at-is c.loop-i.invariant.0;
      in_covered = c.loop-i-test.true;
    } in
    let is_from : c.max-from.result ≡ int_max c.loop-i.at run.from = omega (arith, ints, clamps, c.max-from.ensures.value) in
    let is_next : c.max-at-else-j-blocked.result ≡ int_max c.max-from.result run.to = simp to_z-of_z at c.max-at-else-j-blocked.ensures.value in
    let late : (d : Run) → j < length blocked → run.to ≤ℤ (get_or blocked j d).from =
    elim c.else-j-blocked.branch [
      | else-j-blocked-via-then-j-blocked+else-blocked-j w ↦ λ d within.
          let same : (get_or blocked j d).from ≡ (get_or blocked j nothing).from = ap (λ (r : Run). r.from) (get_or_default blocked j d nothing within) in
          let fits : SFits w64 (get_or blocked j nothing).from = search rules in
          omega (arith, ints, w.if-blocked-j.false)
      | else-j-blocked-via-else-j-blocked w ↦ λ d within. absurd (omega arith)
    ] in
    let appends : AddsCells c.loop-i.answer.items c.max-from.result run.to c.append-else-j-blocked.new.runs.items = simp to_z-of_z at c.in_ok-append-2.ensures in (
      rw (to_z-of_z w64 c.max-at-else-j-blocked.result next_fits)
          (settled_run covered blocked c.loop-i.answer.items c.append-else-j-blocked.new.runs.items c.loop-i.at c.max-from.result c.max-at-else-j-blocked.result i j run is_at
          (get_or_default covered i nothing run c.loop-i-test.true) late is_from is_next appends),
      omega arith,
      omega arith,
    )

pub returns : goal.returns
returns c =
    let s = c.loop-i.invariant.0 in
    AreMaximalRuns-separate _ c.loop-i.answer.items s.separate (known_everywhere _ _ _ _ _ _ s c.loop-i-test.false)
