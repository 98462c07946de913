-- One more piece fits, after all before it.
use Rattle.std.proofs.Common.{◌≡◌, ◌<◌, IsTrue, ℤ, pos, ◌<ℤ◌, ◌≤ℤ◌, List, [], ◌∷◌, ◌++◌, All, AllPairs, length, get_or, subst, sym, ap, SFits, w64, to_z, of_z, rules, arith}
use Rattle.geom_rect.specs.declared.direction.Axis.TheVariants.{X}
use Rattle.geom_rect.specs.declared.drawn.Shape.TheVariants.{Ring}
use Rattle.std.specs.Int.Signed.{lt_z}
use Rattle.std.proofs.lemmas.Int.{ints, to_z-of_z}
use Rattle.std.proofs.lemmas.List.Elements.{All-push}
use Rattle.std.proofs.lemmas.List.Quantifiers.{all_pairs_push}
use Rattle.lef_tech.specs.declared.tech.Tech.{Tech}
use Rattle.grid_pieces.specs.declared.line.Line.{Line}
use Rattle.grid_pieces.specs.declared.piece.Piece.{Piece}
use Rattle.grid_pieces.specs.Line.{piece_line}
use Rattle.grid_stacks.specs.Stacking.{LieApart}
use Rattle.drawing_tests.specs.inside.Stacks.{Fits, AreFitting}
use Rattle.drawing_tests.proofs.fitting.fitting.Goals as goal
use Rattle.drawing_tests.proofs.fitting.fitting.Goals.{then-last-piece+then-fits+in_ok-push, else-last-piece, else-last-piece-via-then-last-piece+else-fits, else-last-piece-via-else-last-piece}

nothing : Piece
nothing = record { net = 0; layer = 0; axis = X; centre = pos 0; width = pos 0; from = pos 0; to = pos 0; shape = Ring }

less_of : (a b : ℤ) → IsTrue (lt_z a b) → a <ℤ b
less_of a b t = omega (arith, ints)

fit_more : (tech : Tech) (kept : List Piece) (last : ℤ) (piece : Piece) → AreFitting tech kept → All (λ (p : Piece). p.centre ≤ℤ last) kept
    → last <ℤ piece.centre → Fits tech piece → AreFitting tech (kept ++ piece ∷ []) × All (λ (p : Piece). p.centre ≤ℤ piece.centre) (kept ++ piece ∷ [])
fit_more tech kept last piece fitting before later fits = (
  record {
    fit = All-push (Fits tech) kept piece fitting.fit fits;
    apart = all_pairs_push LieApart kept piece fitting.apart
        (λ k d within line t in_one in_other.
        let same : (get_or kept k d).centre ≡ piece.centre = ap (λ (l : Line). l.centre) line in
        let low = before k d within in
        absurd (omega (arith, ints)));
  },
  All-push (λ (p : Piece). p.centre ≤ℤ piece.centre) kept piece
      (λ k d within. let low = before k d within in omega (arith, ints)) (omega (arith, ints)),
)

pub loop-piece-preserved : goal.loop-piece-preserved
unfolding nothing
loop-piece-preserved c =
    let inv = c.loop-piece.invariant in
    let tech = c.args.tech.now in
    let kept = c.loop-piece.kept.items in
    let piece = get_or c.args.pieces.now c.loop-piece.piece-index nothing in
    let centre : SFits w64 piece.centre = search rules in
    elim c.if-last-piece.branch [
      | then-last-piece+then-fits+in_ok-push w ↦
          let later : to_z w64 c.loop-piece.last-bits <ℤ piece.centre = less_of _ _ (simp to_z-of_z at w.if-last-piece.true) in
          let more = fit_more tech kept (to_z w64 c.loop-piece.last-bits) piece inv.fitting inv.before later (w.fits.ensures w.if-fits.true) in
          rw w.kept-is (rw w.last-is (rw w.in_ok-push.ensures.items (simp to_z-of_z (record { fitting = more.0; before = more.1 }))))
      | else-last-piece w ↦ rw w.kept-is (rw w.last-is (record { fitting = inv.fitting; before = inv.before }))
    ]
