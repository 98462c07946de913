use Rattle.std.proofs.Common.{ℕ, List, Contains, refl, sym, ◌∙◌, subst}
use Rattle.std.proofs.lemmas.Bool.{false≢true}
use Rattle.std.proofs.lemmas.List.{take_all}
use Rattle.bias_file.specs.declared.record.PadAt.{PadAt}
use Rattle.grid_taps.specs.Naming.{IsFirst, IsUnknown}
use Rattle.grid_taps.specs.inside.Steps.{NumberAmong}
use Rattle.grid_taps.proofs.Firsts.{more_at, kept_at}
use Rattle.grid_taps.proofs.line.first_without_layer.Goals as goal
use Rattle.grid_taps.proofs.line.first_without_layer.Goals.{then-not-contains, else-not-contains}

pub loop-pad-preserved : goal.loop-pad-preserved
loop-pad-preserved c =
    let names = c.args.layers.now in
    let e = c.contains.ensures in
    elim c.if-not-contains.branch [
      | then-not-contains w ↦
          rw w.first-is
          (rw w.lesser-first.ensures
          (more_at (λ (p : PadAt). p.line) (λ (p : PadAt). IsUnknown c.args.layers.now p.layer) c.args.pads.now c.loop-pad.pad-index c.pad-item.result c.pad-item.result.line
          c.loop-pad.first c.loop-pad-test.true c.pad-item.is refl c.loop-pad.invariant
          (λ there. false≢true (sym w.if-not-contains.true ∙ e.1 (subst (λ (n : List ℕ). Contains c.args.layers.now n) (sym c.bytes.ensures) there)))))
      | else-not-contains w ↦
          rw w.first-is
          (kept_at (λ (p : PadAt). p.line) (λ (p : PadAt). IsUnknown c.args.layers.now p.layer) c.args.pads.now c.loop-pad.pad-index c.pad-item.result c.loop-pad.first
          c.loop-pad-test.true c.pad-item.is c.loop-pad.invariant
          (λ unknown. unknown (subst (λ (n : List ℕ). Contains c.args.layers.now n) c.bytes.ensures (e.0 w.if-not-contains.false))))
    ]

pub returns : goal.returns
returns c =
    subst (λ (ps : List PadAt). IsFirst (NumberAmong (λ (p : PadAt). p.line) (λ (p : PadAt). IsUnknown c.args.layers.now p.layer) ps) c.loop-pad.first)
    (take_all c.loop-pad.pad-index c.args.pads.now c.loop-pad-test.false) c.loop-pad.invariant
