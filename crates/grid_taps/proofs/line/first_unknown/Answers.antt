use Rattle.std.proofs.Common.{ℕ, List, Contains, sym, ◌∙◌, subst}
use Rattle.std.proofs.lemmas.Bool.{false≢true}
use Rattle.std.proofs.lemmas.List.{take_all}
use Rattle.grid_taps.specs.Naming.{IsFirst, IsUnknown}
use Rattle.grid_taps.specs.inside.Steps.{NumberAmong}
use Rattle.grid_taps.proofs.Firsts.{more_at, kept_at}
use Rattle.grid_taps.proofs.line.first_unknown.Goals as goal
use Rattle.grid_taps.proofs.line.first_unknown.Goals.{then-not-contains, else-not-contains}

pub loop-line-preserved : goal.loop-line-preserved
loop-line-preserved g c =
    let e = c.contains.ensures in
    elim c.if-not-contains.branch [
      | then-not-contains w ↦
          rw w.first-is
          (rw w.lesser-first.ensures
          (more_at g.T.Line.line_of (λ x. IsUnknown c.args.names.now (g.T.Named.name_of x)) c.args.lines.now c.loop-line.line-index c.line-item.result w.line.result
          c.loop-line.first c.loop-line-test.true c.line-item.is w.line.ensures c.loop-line.invariant
          (λ there. false≢true (sym w.if-not-contains.true ∙ e.1 (subst (λ (n : List ℕ). Contains c.args.names.now n) (sym c.name.ensures) there)))))
      | else-not-contains w ↦
          rw w.first-is
          (kept_at g.T.Line.line_of (λ x. IsUnknown c.args.names.now (g.T.Named.name_of x)) c.args.lines.now c.loop-line.line-index c.line-item.result c.loop-line.first
          c.loop-line-test.true c.line-item.is c.loop-line.invariant
          (λ unknown. unknown (subst (λ (n : List ℕ). Contains c.args.names.now n) c.name.ensures (e.0 w.if-not-contains.false))))
    ]

pub returns : goal.returns
returns g c =
    subst (λ xs. IsFirst (NumberAmong g.T.Line.line_of (λ x. IsUnknown c.args.names.now (g.T.Named.name_of x)) xs) c.loop-line.first)
    (take_all c.loop-line.line-index c.args.lines.now c.loop-line-test.false) c.loop-line.invariant
