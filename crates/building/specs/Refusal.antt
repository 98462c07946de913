-- Why nothing is built of five texts.
use Rattle.std.specs.Prelude.{◌≡◌, ◌⊎◌, ⊤, ℕ, List, Some, slice_get}
use Rattle.answers.specs.declared.answer.Answer.{Answer}
use Rattle.answers.specs.declared.answer.Answer.TheVariants.{Want, Refused, NoGrid, Range, Unsupplied}
use Rattle.grid_extract.specs.Extraction.{IsExtractRefused}
use Rattle.grid_net.specs.Level.{IsFirstUnsupplied}
use Rattle.grid_network.specs.declared.error.ExtractError.{ExtractError}
use Rattle.grid_network.specs.declared.extracted.Extracted.{Extracted}
use Rattle.grid_pieces.specs.declared.error.DrawError.{DrawError}
use Rattle.grid_pieces.specs.declared.error.DrawError.TheVariants as draw
use Rattle.grid_pieces.specs.declared.grid.Grid.{Grid}
use Rattle.grid_shapes.specs.Drawing.{IsDrawRefused}
use Rattle.grid_signing.specs.Refusal.{extract_answer as unextracted_answer}
use Rattle.refusal_words.specs.Words.{draw_words}
use Rattle.building.specs.declared.records.Records.{Records}
use Rattle.building.specs.Building.{IsGridOf, IsNetworkOfGrid}
use Rattle.building.specs.Inputs.{FiveTexts}
use Rattle.building.specs.Reading.{AreRecords, IsUnread}

-- The answer to a script that draws no grid.
abbrev pub draw_answer : Records → DrawError → Answer
draw_answer r draw.Want = Want
draw_answer r error = NoGrid (draw_words r.tech r.design r.script error)

-- The answer to a grid of which no network is extracted.
abbrev pub extract_answer : Records → Grid → ExtractError → Answer
extract_answer r grid error = unextracted_answer r.design grid error

-- The texts have their records, and the script draws no grid over the design.
pub record DrawsNoGrid (t : FiveTexts) (answer : Answer) : Type 0 where
  pub records : Records
  pub reads : AreRecords t records
  pub error : DrawError
  pub refused : IsDrawRefused records.tech records.cells records.design records.script error
  pub told : answer ≡ draw_answer records error

-- The grid is drawn, and no network is extracted from it.
pub record HasNoNetwork (t : FiveTexts) (answer : Answer) : Type 0 where
  pub records : Records
  pub reads : AreRecords t records
  pub grid : Grid
  pub draws : IsGridOf records grid
  pub error : ExtractError
  pub refused : IsExtractRefused grid records.tech records.cells records.design records.bias error
  pub told : answer ≡ extract_answer records grid error

-- The network is extracted, and no chain of resistors joins this node to a pad: it is the first one.
pub record LacksSupply (t : FiveTexts) (answer : Answer) : Type 0 where
  pub records : Records
  pub reads : AreRecords t records
  pub grid : Grid
  pub draws : IsGridOf records grid
  pub extracted : Extracted
  pub network : IsNetworkOfGrid records grid extracted
  pub node : ℕ
  pub first : IsFirstUnsupplied extracted.net node
  pub name : List ℕ
  pub named_so : slice_get extracted.names node ≡ Some name
  pub told : answer ≡ Unsupplied name

-- Why nothing is built, in the order of the work; memory may run out at any time.
abbrev pub IsUnbuilt : FiveTexts → Answer → Type 0
IsUnbuilt t answer = IsUnread t answer ⊎ (DrawsNoGrid t answer ⊎ (HasNoNetwork t answer ⊎ LacksSupply t answer))

-- The answers to texts of which nothing is built.
abbrev pub IsToDesign : Answer → Type 0
IsToDesign Want = ⊤
IsToDesign (Refused file place kind) = ⊤
IsToDesign (NoGrid words) = ⊤
IsToDesign (Range quantity at number) = ⊤
IsToDesign (Unsupplied node) = ⊤
IsToDesign answer = ⊥
