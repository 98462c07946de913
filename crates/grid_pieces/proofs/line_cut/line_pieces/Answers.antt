use Rattle.std.proofs.Common.{◌≡◌, List, subst, sym}
use Rattle.std.proofs.lemmas.Result.{IfOk-weaker}
use Rattle.geom_rect.specs.declared.run.Run.{Run}
use Rattle.geom_rect.specs.Run.{IsOpen, AreMaximalRuns}
use Rattle.grid_pieces.specs.inside.Cutting.{AreSeparate}
use Rattle.grid_pieces.specs.inside.Cutting.{AreMadeOf, ArePiecesOf}
use Rattle.grid_pieces.specs.Laws.Maximal.{separate}
use Rattle.grid_pieces.proofs.Pieced.{IsCut, pieces_of}
use Rattle.grid_pieces.proofs.line_cut.line_pieces.Goals as goal

read : (xs ys xs' ys' zs zs' : List Run) → xs ≡ xs' → ys ≡ ys' → zs ≡ zs' → AreMaximalRuns (IsOpen xs ys) zs' → AreMaximalRuns (IsOpen xs' ys') zs
read xs ys xs' ys' zs zs' ex ey ez are =
    subst (λ z. AreMaximalRuns (IsOpen xs' ys') z) (sym ez) (subst (λ x. AreMaximalRuns (IsOpen x ys') zs') ex (subst (λ y. AreMaximalRuns (IsOpen xs y) zs') ey are))

pub on_line-requires-clause-rings : goal.on_line-requires-clause-rings
on_line-requires-clause-rings c = subst AreSeparate (sym c.deref-8.ensures.value) (separate _ c.in_ok-rings-2.rings.items c.in_ok-rings-2.ensures)

pub on_line-requires-clause-stripes : goal.on_line-requires-clause-stripes
on_line-requires-clause-stripes c = subst AreSeparate (sym c.deref-9.ensures.value) (separate _ c.in_ok-stripes-2.stripes.items c.in_ok-stripes-2.ensures)

pub returns : goal.returns
returns c =
    let line = c.args.line in
    let shapes = c.args.shapes.now in
    let blocks = c.args.blocks.now in
    let covered = c.in_ok-covered.covered.items in
    let blocked = c.in_ok-blocked.blocked.items in
    let ring_runs = c.in_ok-rings.rings.items in
    let stripe_runs = c.in_ok-stripes.stripes.items in
    let whole = c.deref-7.result.now in
    let rings = c.deref-8.result.now in
    let stripes = c.deref-9.result.now in
    let cut : IsCut shapes blocks line covered blocked ring_runs stripe_runs whole rings stripes = record {
      on_line = c.requires.on_line;
      is_covered = c.in_ok-covered.ensures;
      is_blocked = c.in_ok-blocked.ensures;
      of_rings = c.in_ok-rings.ensures;
      of_stripes = c.in_ok-stripes.ensures;
      whole_runs = read c.deref.result.now c.deref-2.result.now covered blocked whole _ c.deref.ensures.value c.deref-2.ensures.value c.deref-7.ensures.value c.in_ok-whole.ensures;
      ring_open = read c.deref-3.result.now c.deref-4.result.now ring_runs blocked rings _ c.deref-3.ensures.value c.deref-4.ensures.value c.deref-8.ensures.value c.in_ok-rings-2.ensures;
      stripe_open = read c.deref-5.result.now c.deref-6.result.now stripe_runs blocked stripes _ c.deref-5.ensures.value c.deref-6.ensures.value c.deref-9.ensures.value c.in_ok-stripes-2.ensures;
    } in
    IfOk-weaker c.on_line.result (λ pieces. AreMadeOf line whole rings stripes pieces.items) (λ pieces. ArePiecesOf shapes blocks line pieces.items)
    (λ pieces made. pieces_of shapes blocks line covered blocked ring_runs stripe_runs whole rings stripes pieces.items cut made) c.on_line.ensures
