-- A design has one list of blocks in their places.
use Rattle.std.proofs.Common.{◌≡◌, ◌⊎◌, inl, inr, ℕ, ◌<◌, ◌≤◌, ℤ, List, Option, Some, None, refl, sym, ap, ◌∙◌, arith}
use Rattle.std.proofs.lemmas.Bool.{false≢true, cases_lt}
use Rattle.entry_list.specs.Laws.{in-turn-one}
use Rattle.geom_rect.specs.declared.rect.Rect.{Rect}
use Rattle.lef_cells.specs.declared.record.Cells.{Cells}
use Rattle.lef_tech.specs.declared.tech.Tech.{Tech}
use Rattle.def_design.specs.declared.record.Design.{Design}
use Rattle.pdn_script.specs.declared.record.Script.{Script}
use Rattle.grid_cores.specs.Owner.{IsFirstOwner}
use Rattle.macro_blocks.specs.declared.record.Blocks.{Blocks}
use Rattle.block_rects.specs.declared.part.Obstruction.{Obstruction}
use Rattle.block_rects.specs.declared.part.PinPart.{PinPart}
use Rattle.block_grids.specs.declared.block.BlockAt.{BlockAt}
use Rattle.block_grids.specs.Blocks.{blocks_in}
use Rattle.placed_blocks.specs.declared.block.PlacedBlock.{PlacedBlock}
use Rattle.placed_blocks.specs.Cuts.{cuts_of}
use Rattle.placed_blocks.specs.Placed.{halos_of, halo_at, grown_by, IsOwner, IsPlacedBlock, ArePlacedBlocks}

one_first : (regions : List (Option Rect)) (place : ℤ × ℤ) (k l : ℕ) → IsFirstOwner regions place k → IsFirstOwner regions place l → k ≡ l
one_first regions place k l p q = by_order (cases_lt k l) (cases_lt l k)
  where
    by_order : (k < l) ⊎ (l ≤ k) → (l < k) ⊎ (k ≤ l) → k ≡ l
    by_order (inl less) _ = absurd (false≢true (sym (q.first k less) ∙ p.owns))
    by_order (inr _) (inl less) = absurd (false≢true (sym (p.first l less) ∙ q.owns))
    by_order (inr le) (inr ge) = omega arith

one_owner : (regions : List (Option Rect)) (place : ℤ × ℤ) (a b : Option ℕ) → IsOwner regions place a → IsOwner regions place b → a ≡ b
one_owner regions place None None p q = refl
one_owner regions place None (Some l) p q = absurd (false≢true (sym (p l q.within) ∙ q.owns))
one_owner regions place (Some k) None p q = absurd (false≢true (sym (q k p.within) ∙ p.owns))
one_owner regions place (Some k) (Some l) p q = ap (λ (n : ℕ). Some n) (one_first regions place k l p q)

one_block : (tech : Tech) (cells : Cells) (blocks : Blocks) (script : Script) (units : ℕ) (regions : List (Option Rect)) (at : BlockAt) (a b : PlacedBlock)
    → IsPlacedBlock tech cells blocks script units regions at a → IsPlacedBlock tech cells blocks script units regions at b → a ≡ b
one_block tech cells blocks script units regions at a b p q =
    let component : a.component ≡ b.component = p.component ∙ sym q.component in
    let outline : a.outline ≡ b.outline = p.outline ∙ sym q.outline in
    let halo = halo_at (halos_of units script.grids) at.grid in
    let grown : a.grown ≡ b.grown = p.grown ∙ ap (grown_by halo) outline ∙ sym q.grown in
    let domain : a.domain ≡ b.domain = one_owner regions (at.x, at.y) a.domain b.domain p.domain q.domain in
    let grid : a.grid ≡ b.grid = p.grid ∙ sym q.grid in
    let pins : a.pins ≡ b.pins = p.pins ∙ sym q.pins in
    let obstructions : a.obstructions ≡ b.obstructions = p.obstructions ∙ sym q.obstructions in
    let cuts : a.cuts ≡ b.cuts =
    p.cuts ∙ ap (λ (xs : List PinPart). cuts_of tech script at.grid xs a.obstructions) pins
    ∙ ap (λ (xs : List Obstruction). cuts_of tech script at.grid b.pins xs) obstructions ∙ sym q.cuts in
    λ i. record {
      component = component i;
      outline = outline i;
      grown = grown i;
      domain = domain i;
      grid = grid i;
      pins = pins i;
      obstructions = obstructions i;
      cuts = cuts i;
    }

pub one_list : (tech : Tech) (cells : Cells) (blocks : Blocks) (design : Design) (script : Script) (regions : List (Option Rect)) (one other : List PlacedBlock)
    → ArePlacedBlocks tech cells blocks design script regions one → ArePlacedBlocks tech cells blocks design script regions other → one ≡ other
one_list tech cells blocks design script regions one other = in-turn-one (IsPlacedBlock tech cells blocks script design.units regions)
    (one_block tech cells blocks script design.units regions) (blocks_in cells design script) one other
