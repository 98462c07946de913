-- What a text, a drawing and an extraction that are refused are answered by.
use Rattle.std.proofs.Common.{ℕ, List, Option, Some, None}
use Rattle.outside.specs.declared.place.Place.{Place}
use Rattle.answers.specs.declared.kind.TextKind.{TextKind}
use Rattle.grid_net.specs.declared.error.NetError.{NetError}
use Rattle.grid_net.specs.declared.error.NetError.TheVariants as net
use Rattle.grid_network.specs.declared.error.ExtractError.{ExtractError}
use Rattle.grid_network.specs.declared.error.ExtractError.TheVariants as extract
use Rattle.grid_pieces.specs.declared.error.DrawError.{DrawError}
use Rattle.grid_pieces.specs.declared.error.DrawError.TheVariants as draw
use Rattle.grid_pieces.specs.declared.grid.Grid.{Grid}
use Rattle.def_design.specs.declared.record.Design.{Design}
use Rattle.grid_signing.specs.Refusal.{net_answer, extract_answer as unextracted_answer}
use Rattle.building.specs.declared.records.Records.{Records}
use Rattle.building.specs.Reading.{text_answer}
use Rattle.building.specs.Refusal.{draw_answer, extract_answer, IsToDesign}

pub text_is : (file : List ℕ) (place : Place) (kind : Option TextKind) → IsToDesign (text_answer file place kind)
text_is file place None = tt
text_is file place (Some kind) = tt

pub draw_is : (r : Records) (error : DrawError) → IsToDesign (draw_answer r error)
draw_is r (draw.UnknownName name) = tt
draw_is r (draw.RingLayers ring) = tt
draw_is r (draw.RailLayer layer) = tt
draw_is r (draw.ParallelConnect connect) = tt
draw_is r draw.NoRows = tt
draw_is r (draw.OffGrid length) = tt
draw_is r (draw.OddWidth length) = tt
draw_is r (draw.RegionShape domain) = tt
draw_is r (draw.RegionsMeet one other) = tt
draw_is r (draw.RowAcross row) = tt
draw_is r (draw.EmptyDomain domain) = tt
draw_is r (draw.MacroGrid component) = tt
draw_is r (draw.TooMany what) = tt
draw_is r (draw.NoSheet layer) = tt
draw_is r (draw.Stack error x y) = tt
draw_is r (draw.Touch touching) = tt
draw_is r draw.Want = tt

net_is : (error : NetError) → IsToDesign (net_answer error)
net_is (net.BadEnd at) = tt
net_is (net.Range quantity at number) = tt
net_is (net.PadConflict node first second) = tt
net_is net.Want = tt

pub unextracted_is : (design : Design) (grid : Grid) (error : ExtractError) → IsToDesign (unextracted_answer design grid error)
unextracted_is design grid (extract.UnknownName line) = tt
unextracted_is design grid (extract.NoSupply net) = tt
unextracted_is design grid (extract.PadOff line) = tt
unextracted_is design grid (extract.LoadOff component) = tt
unextracted_is design grid (extract.Net error) = net_is error
unextracted_is design grid extract.Want = tt

pub extract_is : (r : Records) (grid : Grid) (error : ExtractError) → IsToDesign (extract_answer r grid error)
extract_is r grid error = unextracted_is r.design grid error
