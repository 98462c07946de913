-- Why nothing is signed off of five texts.
use Rattle.std.specs.Prelude.{◌≡◌, ◌⊎◌, ℕ, List, Some, slice_get}
use Rattle.answers.specs.declared.answer.Answer.{Answer}
use Rattle.answers.specs.declared.answer.Answer.TheVariants.{Want, NoGrid, Unsupplied}
use Rattle.grid_extract.specs.Extraction.{IsExtractRefused}
use Rattle.grid_net.specs.Level.{IsFirstUnsupplied}
use Rattle.grid_network.specs.declared.error.ExtractError.{ExtractError}
use Rattle.grid_network.specs.declared.extracted.Extracted.{Extracted}
use Rattle.grid_pieces.specs.declared.grid.Grid.{Grid}
use Rattle.grid_signing.specs.Refusal.{extract_answer}
use Rattle.grid_signing.specs.Signing.{IsNetworkOver}
use Rattle.refusal_words.specs.Words.{wired_words}
use Rattle.wired_grid.specs.declared.error.WiredError.{WiredError}
use Rattle.wired_grid.specs.declared.error.WiredError.TheVariants as wired
use Rattle.wired_grid.specs.Wired.{IsWiredRefused}
use Rattle.signing_off.specs.declared.records.WiredRecords.{WiredRecords}
use Rattle.signing_off.specs.Inputs.{WiredTexts}
use Rattle.signing_off.specs.Reading.{AreWiredRecords, IsUnread}
use Rattle.signing_off.specs.Signing.{IsGridOf, base_of}

-- The answer to wiring that gives no grid.
abbrev pub wired_answer : WiredRecords → WiredError → Answer
wired_answer r wired.Want = Want
wired_answer r error = NoGrid (wired_words r.tech r.wires error)

-- The texts have their records, and the wiring gives no grid.
pub record WiresNoGrid (t : WiredTexts) (answer : Answer) : Type 0 where
  pub records : WiredRecords
  pub reads : AreWiredRecords t records
  pub error : WiredError
  pub refused : IsWiredRefused records.tech records.design records.wires error
  pub told : answer ≡ wired_answer records error

-- There is the grid of the wiring, and no network is extracted from it.
pub record HasNoNetwork (t : WiredTexts) (answer : Answer) : Type 0 where
  pub records : WiredRecords
  pub reads : AreWiredRecords t records
  pub grid : Grid
  pub wires : IsGridOf records grid
  pub error : ExtractError
  pub refused : IsExtractRefused grid records.tech records.cells records.design records.bias error
  pub told : answer ≡ extract_answer records.design grid error

-- The network is extracted, and no chain of resistors joins this node to a pad: it is the first one.
pub record LacksSupply (t : WiredTexts) (answer : Answer) : Type 0 where
  pub records : WiredRecords
  pub reads : AreWiredRecords t records
  pub grid : Grid
  pub wires : IsGridOf records grid
  pub extracted : Extracted
  pub network : IsNetworkOver (base_of records) grid extracted
  pub node : ℕ
  pub first : IsFirstUnsupplied extracted.net node
  pub name : List ℕ
  pub named_so : slice_get extracted.names node ≡ Some name
  pub told : answer ≡ Unsupplied name

-- Why nothing is signed off, in the order of the work; memory may run out at any time.
abbrev pub IsUnsigned : WiredTexts → Answer → Type 0
IsUnsigned t answer = IsUnread t answer ⊎ (WiresNoGrid t answer ⊎ (HasNoNetwork t answer ⊎ LacksSupply t answer))
