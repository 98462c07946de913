-- Why nothing is signed off, stage by stage.
use Rattle.std.proofs.Common.{◌≡◌, ◌⊎◌, inl, inr, All}
use Rattle.answers.specs.declared.answer.Answer.{Answer}
use Rattle.answers.specs.declared.answer.Answer.TheVariants.{Want}
use Rattle.wired_grid.specs.declared.error.WiredError.{WiredError}
use Rattle.wired_grid.specs.Wired.{IsWiredRefused}
use Rattle.signing_off.specs.declared.records.WiredRecords.{WiredRecords}
use Rattle.signing_off.specs.Inputs.{WiredTexts}
use Rattle.signing_off.specs.Reading.{AreWiredRecords}
use Rattle.signing_off.specs.Refusal.{wired_answer, IsUnsigned}
use Rattle.signing_off.specs.inside.Stages.{IsUnwired, IsUnsignedOf}

pub unwired : (r : WiredRecords) (error : WiredError) (answer : Answer) → IsWiredRefused r.tech r.design r.wires error → (answer ≡ Want) ⊎ (answer ≡ wired_answer r error) → IsUnwired r answer
unwired r error answer refused (inl want) = inl want
unwired r error answer refused (inr told) = inr (error, refused, told)

-- The texts have their records, and nothing is signed off of these.
pub unsigned : (t : WiredTexts) (r : WiredRecords) (answer : Answer) → AreWiredRecords t r → IsUnsignedOf r answer → IsUnsigned t answer
unsigned t r answer reads (inl (inl want)) = inl (inl want)
unsigned t r answer reads (inl (inr (error, refused, told))) = inr (inl (record { records = r; reads = reads; error = error; refused = refused; told = told }))
unsigned t r answer reads (inr (grid, wires, inl (inl want))) = inl (inl want)
unsigned t r answer reads (inr (grid, wires, inl (inr (error, refused, told)))) =
    inr (inr (inl (record { records = r; reads = reads; grid = grid; wires = wires; error = error; refused = refused; told = told })))
unsigned t r answer reads (inr (grid, wires, inr (e, network, inl want))) = inl (inl want)
unsigned t r answer reads (inr (grid, wires, inr (e, network, inr (node, first, (name, named_so, told))))) =
    inr (inr (inr (record { records = r; reads = reads; grid = grid; wires = wires; extracted = e; network = network; node = node; first = first; name = name; named_so = named_so; told = told })))
