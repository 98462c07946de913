use Rattle.std.proofs.Common.{◌≡◌, List, All, AllPairs, ◌++◌, ◌∙◌, subst, sym}
use Rattle.std.specs.List.Sorted.{IsPermutation}
use Rattle.grid_pieces.specs.declared.piece.Block.{Block}
use Rattle.grid_pieces.specs.declared.piece.Piece.{Piece}
use Rattle.grid_pieces.specs.declared.piece.StackAt.{StackAt}
use Rattle.grid_pieces.specs.Limits.{PieceKeeps, StackKeeps}
use Rattle.grid_stacks.specs.Crossing.{Stands}
use Rattle.grid_stacks.specs.Stacking.{AreStacks, AreRefused, LieApart}
use Rattle.grid_shapes.specs.Drawing.{NothingTouches}
use Rattle.grid_shapes.specs.inside.Facts.{PieceFacts, IsTouchRefused}
use Rattle.macro_grid.specs.Drawing.{all_blocks, AreMacroStacks}
use Rattle.macro_grid.specs.inside.Refused.{IsUnjoined}
use Rattle.macro_grid.proofs.Passed.{passed_on}
use Rattle.macro_grid.proofs.PiecesKeep.{stacks_keep}
use Rattle.macro_grid.proofs.Refusals.{no_stacks, touched}
use Rattle.macro_grid.proofs.joining.joined.Goals as goal
use Rattle.macro_grid.proofs.joining.joined.Goals.{In_ok-stacks}

pub stacks_of-requires : goal.stacks_of-requires
stacks_of-requires c =
    let tech = c.args.tech.now in
    let plan = c.args.plan.now in
    let cut = c.args.cut.now in
    let both : IsPermutation (c.deref-2.result.now ++ c.deref-3.result.now) c.deref-4.result.now =
    subst (λ (ps : List Piece). IsPermutation (ps ++ c.deref-3.result.now) c.deref-4.result.now) (sym c.deref-2.ensures.value)
    (subst (λ (ps : List Piece). IsPermutation (cut.straps.items ++ ps) c.deref-4.result.now) (sym c.deref-3.ensures.value)
    (subst (λ (ps : List Piece). IsPermutation (cut.straps.items ++ cut.pins.items) ps) (sym c.deref-4.ensures.value) c.requires.cut.both)) in
    record {
      tech = c.requires.tech;
      plan = c.requires.plan;
      keep = subst (λ (ps : List Piece). All PieceKeeps ps) (sym c.deref-4.ensures.value) c.requires.keep;
      facts = subst (λ (ps : List Piece). All (PieceFacts tech plan) ps) (sym c.deref-4.ensures.value) c.requires.facts;
      both = both;
      straps = subst (λ (ps : List Piece). AllPairs LieApart ps) (sym c.deref-2.ensures.value) c.requires.cut.straps_apart;
      pins = subst (λ (ps : List Piece). AllPairs LieApart ps) (sym c.deref-3.ensures.value) c.requires.cut.pins_apart;
    }

-- The stacks are those of all pieces, where all blockages stand in the way.
are_stacks : (c : In_ok-stacks) → AreMacroStacks c.args.tech.now c.args.plan.now c.args.placed.now c.args.cut.now.pieces.items c.in_ok-stacks.stacks.items
are_stacks c =
    let tech = c.args.tech.now in
    let plan = c.args.plan.now in
    let cut = c.args.cut.now in
    let stacks = c.in_ok-stacks.stacks.items in
    let blocks : c.deref.result.now ≡ all_blocks tech plan c.args.placed.now = c.deref.ensures.value ∙ c.requires.cut.blocks in
    subst (λ (bs : List Block). AreStacks (Stands tech cut.pieces.items plan.connects bs) tech plan.units cut.pieces.items stacks) blocks
    (subst (λ (ps : List Piece). AreStacks (Stands tech ps plan.connects c.deref.result.now) tech plan.units ps stacks) c.deref-4.ensures.value c.in_ok-stacks.ensures.stacks)

pub check_touch-requires : goal.check_touch-requires
check_touch-requires c =
    let tech = c.args.tech.now in
    let plan = c.args.plan.now in
    record {
      pieces = subst (λ (ps : List Piece). All PieceKeeps ps) (sym c.deref-5.ensures.value) c.requires.keep;
      stacks = subst (λ (ss : List StackAt). All StackKeeps ss) (sym c.deref-6.ensures.value)
          (stacks_keep tech plan c.in_ok-stacks.stacks.items c.in_ok-stacks.ensures.facts);
    }

pub returns-in_err-stacks-clause-stacks : goal.returns-in_err-stacks-clause-stacks
returns-in_err-stacks-clause-stacks c =
    let tech = c.args.tech.now in
    let plan = c.args.plan.now in
    let placed = c.args.placed.now in
    let pieces = c.args.cut.now.pieces.items in
    let error = c.in_err-stacks.field-0.0 in
    let blocks : c.deref.result.now ≡ all_blocks tech plan placed = c.deref.ensures.value ∙ c.requires.cut.blocks in
    let refused : AreRefused (Stands tech pieces plan.connects (all_blocks tech plan placed)) tech plan.units pieces error =
    subst (λ (bs : List Block). AreRefused (Stands tech pieces plan.connects bs) tech plan.units pieces error) blocks
    (subst (λ (ps : List Piece). AreRefused (Stands tech ps plan.connects c.deref.result.now) tech plan.units ps error) c.deref-4.ensures.value c.in_err-stacks.ensures.stacks) in
    passed_on (λ stacks. AreMacroStacks tech plan placed pieces stacks.items) (IsUnjoined tech plan placed pieces) c.from_residual.result error c.from_residual.ensures.1
    (no_stacks tech plan placed pieces error refused)

pub returns-in_err-check_touch-clause-stacks : goal.returns-in_err-check_touch-clause-stacks
returns-in_err-check_touch-clause-stacks c =
    let tech = c.args.tech.now in
    let plan = c.args.plan.now in
    let placed = c.args.placed.now in
    let pieces = c.args.cut.now.pieces.items in
    let stacks = c.in_ok-stacks.stacks.items in
    let error = c.in_err-check_touch.field-0.0 in
    let refused : IsTouchRefused pieces stacks error = subst (λ (ss : List StackAt). IsTouchRefused pieces ss error) c.deref-6.ensures.value
    (subst (λ (ps : List Piece). IsTouchRefused ps c.deref-6.result.now error) c.deref-5.ensures.value c.in_err-check_touch.ensures.refused) in
    passed_on (λ stacks. AreMacroStacks tech plan placed pieces stacks.items) (IsUnjoined tech plan placed pieces) c.from_residual-in_err-check_touch.result error
    c.from_residual-in_err-check_touch.ensures.1
    (touched tech plan placed pieces stacks error (are_stacks (goal.at.returns-in_err-check_touch-clause-stacks c).In_ok-stacks) refused)

pub returns-clause-stacks : goal.returns-clause-stacks
returns-clause-stacks c = are_stacks (goal.at.returns-clause-stacks c).In_ok-stacks

pub returns-clause-apart : goal.returns-clause-apart
returns-clause-apart c =
    let pieces = c.args.cut.now.pieces.items in
    subst (λ (ss : List StackAt). NothingTouches pieces ss) c.deref-6.ensures.value
    (subst (λ (ps : List Piece). NothingTouches ps c.deref-6.result.now) c.deref-5.ensures.value c.in_ok-check_touch.ensures.apart)
