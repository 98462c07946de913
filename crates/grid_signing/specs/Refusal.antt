-- Why a grid is not signed off.
use Rattle.std.specs.Prelude.{◌≡◌, ◌⊎◌, ℕ, List, Some, slice_get}
use Rattle.answers.specs.declared.answer.Answer.{Answer}
use Rattle.answers.specs.declared.answer.Answer.TheVariants.{Want, NoGrid, Range, Unsupplied}
use Rattle.def_design.specs.declared.record.Design.{Design}
use Rattle.grid_extract.specs.Extraction.{IsExtractRefused}
use Rattle.grid_net.specs.declared.error.NetError.{NetError}
use Rattle.grid_net.specs.declared.error.NetError.TheVariants as net
use Rattle.grid_net.specs.Level.{IsFirstUnsupplied}
use Rattle.grid_network.specs.declared.error.ExtractError.{ExtractError}
use Rattle.grid_network.specs.declared.error.ExtractError.TheVariants as extract
use Rattle.grid_network.specs.declared.extracted.Extracted.{Extracted}
use Rattle.grid_pieces.specs.declared.grid.Grid.{Grid}
use Rattle.refusal_words.specs.Words.{extract_words}
use Rattle.grid_signing.specs.Basis.{Base}
use Rattle.grid_signing.specs.Signing.{IsNetworkOver}

-- The answer to lists that make no network. An entry at no node and two pads of one node that differ never come.
abbrev pub net_answer : NetError → Answer
net_answer (net.Range quantity at number) = Range quantity at number
net_answer (net.BadEnd at) = Want
net_answer (net.PadConflict node first second) = Want
net_answer net.Want = Want

-- The answer to a grid of which no network is extracted.
abbrev pub extract_answer : Design → Grid → ExtractError → Answer
extract_answer design grid extract.Want = Want
extract_answer design grid (extract.Net error) = net_answer error
extract_answer design grid error = NoGrid (extract_words grid design error)

-- Why a grid has no network: memory ran out, or the extraction refuses it.
abbrev pub IsUnextracted : Base → Grid → Answer → Type 0
IsUnextracted b grid answer = (answer ≡ Want)
    ⊎ ((error : ExtractError) × IsExtractRefused grid b.tech b.cells b.design b.bias error
    × (answer ≡ extract_answer b.design grid error))

-- Memory ran out, or no chain of resistors joins this node of the network to a pad: it is the first one.
abbrev pub LacksSupplyAt : Extracted → Answer → Type 0
LacksSupplyAt e answer = (answer ≡ Want)
    ⊎ ((node : ℕ) × IsFirstUnsupplied e.net node
    × ((name : List ℕ) × (slice_get e.names node ≡ Some name) × (answer ≡ Unsupplied name)))

-- The grid is not signed off: it has no network, or a node of the network has no supply.
abbrev pub IsUnsigned : Base → Grid → Answer → Type 0
IsUnsigned b grid answer =
    IsUnextracted b grid answer ⊎ ((e : Extracted) × IsNetworkOver b grid e × LacksSupplyAt e answer)
