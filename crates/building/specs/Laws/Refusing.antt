-- Why nothing is built, stage by stage.
use Rattle.std.proofs.Common.{◌≡◌, ◌⊎◌, inl, inr}
use Rattle.answers.specs.declared.answer.Answer.{Answer}
use Rattle.answers.specs.declared.answer.Answer.TheVariants.{Want}
use Rattle.grid_pieces.specs.declared.grid.Grid.{Grid}
use Rattle.grid_pieces.specs.declared.error.DrawError.{DrawError}
use Rattle.grid_shapes.specs.Drawing.{IsDrawRefused}
use Rattle.building.specs.declared.records.Records.{Records}
use Rattle.building.specs.Inputs.{FiveTexts}
use Rattle.building.specs.Reading.{AreRecords}
use Rattle.building.specs.Refusal.{draw_answer, IsUnbuilt}
use Rattle.building.specs.Stages.{IsUndrawn, IsUnbuiltOf}

pub undrawn : (r : Records) (error : DrawError) (answer : Answer) → IsDrawRefused r.tech r.cells r.design r.script error → (answer ≡ Want) ⊎ (answer ≡ draw_answer r error) → IsUndrawn r answer
undrawn r error answer refused (inl want) = inl want
undrawn r error answer refused (inr told) = inr (error, refused, told)

-- The texts have their records, and nothing is built of these.
pub unbuilt : (t : FiveTexts) (r : Records) (answer : Answer) → AreRecords t r → IsUnbuiltOf r answer → IsUnbuilt t answer
unbuilt t r answer reads (inl (inl want)) = inl (inl want)
unbuilt t r answer reads (inl (inr (error, refused, told))) = inr (inl (record { records = r; reads = reads; error = error; refused = refused; told = told }))
unbuilt t r answer reads (inr (grid, draws, inl (inl want))) = inl (inl want)
unbuilt t r answer reads (inr (grid, draws, inl (inr (error, refused, told)))) =
    inr (inr (inl (record { records = r; reads = reads; grid = grid; draws = draws; error = error; refused = refused; told = told })))
unbuilt t r answer reads (inr (grid, draws, inr (e, network, inl want))) = inl (inl want)
unbuilt t r answer reads (inr (grid, draws, inr (e, network, inr (node, first, (name, named_so, told))))) =
    inr (inr (inr (record { records = r; reads = reads; grid = grid; draws = draws; extracted = e; network = network; node = node; first = first; name = name; named_so = named_so; told = told })))
