-- Why nothing is built over blocks, stage by stage.
use Rattle.std.proofs.Common.{◌≡◌, inl, inr, true}
use Rattle.answers.specs.declared.answer.Answer.{Answer}
use Rattle.building.specs.declared.records.Records.{Records}
use Rattle.building.specs.Inputs.{FiveTexts}
use Rattle.building.specs.Reading.{AreRecords}
use Rattle.macro_blocks.specs.declared.record.Blocks.{Blocks}
use Rattle.macro_grid.specs.declared.record.MacroGrid.{MacroGrid}
use Rattle.macro_building.specs.Blocks.{is_over_blocks, AreBlocksOf, AreBlocksRefused}
use Rattle.macro_building.specs.Refusal.{Draws, IsUnbuiltOverBlocks}
use Rattle.macro_building.specs.inside.Stages.{IsDrawn, IsUnbuiltOver}

-- The texts have their records, and a grid over macros meets a block.
module _ (t : FiveTexts) (r : Records) (answer : Answer) (reads : AreRecords t r) (some : is_over_blocks r ≡ true) where
  pub without_pins : AreBlocksRefused t.lef t.cells answer → IsUnbuiltOverBlocks t answer
  without_pins refused = inl (record { records = r; reads = reads; some = some; refused = refused })

  module _ (blocks : Blocks) (are : AreBlocksOf t.lef.text t.cells.text blocks) where
    draws_of : (drawn : MacroGrid) → IsDrawn r blocks drawn → Draws t r drawn
    draws_of drawn is = record { reads = reads; some = some; blocks = blocks; are_blocks = are; is_drawing = is }

    pub unbuilt_over : IsUnbuiltOver r blocks answer → IsUnbuiltOverBlocks t answer
    unbuilt_over (inl (inl want)) = without_pins (inl want)
    unbuilt_over (inl (inr (error, refused, told))) =
        inr (inl (record { records = r; reads = reads; some = some; blocks = blocks; are_blocks = are; error = error; refused = refused; told = told }))
    unbuilt_over (inr (drawn, is, inl (inl want))) = without_pins (inl want)
    unbuilt_over (inr (drawn, is, inl (inr (error, refused, told)))) =
        inr (inr (inl (record { records = r; drawn = drawn; draws = draws_of drawn is; error = error; refused = refused; told = told })))
    unbuilt_over (inr (drawn, is, inr (e, network, inl want))) = without_pins (inl want)
    unbuilt_over (inr (drawn, is, inr (e, network, inr (node, first, (name, named_so, told))))) =
        inr (inr (inr (record { records = r; drawn = drawn; draws = draws_of drawn is; extracted = e; network = network; node = node; first = first; name = name; named_so = named_so; told = told })))
