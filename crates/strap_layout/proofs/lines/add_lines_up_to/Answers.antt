use Rattle.std.proofs.Common.{◌≤◌, ◌+◌, subst, sym, [], ◌∷◌, ◌++◌, arith}
use Rattle.std.proofs.lemmas.List.{length-append}
use Rattle.geom_rect.specs.declared.drawn.Drawn.{Drawn}
use Rattle.strap_layout.specs.Lines.{line_at}
use Rattle.strap_layout.specs.inside.Lines.{AreStrapsBefore}
use Rattle.strap_layout.proofs.Added.{AreStrapsBefore-push, AreStrapsBefore-first, AreStrapsBefore-next, DrawsMore-next}
use Rattle.strap_layout.proofs.lines.add_lines_up_to.Goals as goal

pub loop-number-init : goal.loop-number-init
loop-number-init c = (
  AreStrapsBefore-first c.args.rule.now c.args.core c.args.reach.now c.args.straps.now.items c.args.place c.drawn_lines-first.result.0
      (λ number drawn. ((c.drawn_lines-first.ensures number).0 drawn).0) c.requires.straps,
  c.requires.most,
)

pub loop-number-preserved : goal.loop-number-preserved
loop-number-preserved c =
    let rule = c.args.rule.now in
    let number = c.loop-number.number in
    let first : c.drawn_lines-first.result.0 ≤ number = omega arith in
    let drawn = (c.drawn_lines-first.ensures number).1 (first, c.loop-number-test.true) in
    let before = c.loop-number.straps.items in
    rw c.in_ok-push.ensures.items (
      subst (λ (strap : Drawn). AreStrapsBefore rule c.args.core c.args.reach.now (line_at c.args.place (number + 1)) (before ++ strap ∷ [])) (sym c.strap.ensures)
          (AreStrapsBefore-push rule c.args.core c.args.reach.now before c.args.place number drawn c.loop-number.invariant.0),
      omega (arith, length-append {A = Drawn}),
    )

pub returns : goal.returns
returns c = (
  AreStrapsBefore-next c.args.rule.now c.args.core c.args.reach.now c.loop-number.straps.items c.args.place c.loop-number.number
      (λ number drawn. let below = ((c.drawn_lines-first.ensures number).0 drawn).1 in let end = c.loop-number-test.false in omega arith) c.loop-number.invariant.0,
  c.loop-number.invariant.1,
)

pub returns-then-len-most : goal.returns-then-len-most
returns-then-len-most c =
    let number = c.loop-number.number in
    let first : c.drawn_lines-first.result.0 ≤ number = omega arith in
    let drawn = (c.drawn_lines-first.ensures number).1 (first, c.loop-number-test.true) in
    DrawsMore-next c.args.rule.now c.args.core c.args.reach.now c.loop-number.straps.items c.args.place number c.args.most drawn (omega arith) c.loop-number.invariant.0
