-- Each stage of building five texts has one outcome.
use Rattle.std.proofs.Common.{◌≡◌, ◌≢◌, ◌⊎◌, inl, inr, ℕ, ◌<◌, List, Some, Result, Ok, slice_get, refl, sym, ap, subst, ◌∙◌}
use Rattle.answers.specs.declared.answer.Answer.{Answer}
use Rattle.answers.specs.declared.answer.Answer.TheVariants.{Want, Unsupplied}
use Rattle.lef_tech.specs.declared.tech.Tech.{Tech}
use Rattle.lef_tech.specs.Limits.{TechKeeps}
use Rattle.lef_cells.specs.declared.record.Cells.{Cells}
use Rattle.lef_cells.specs.Limits.{CellsKeep}
use Rattle.def_design.specs.declared.record.Design.{Design as Placed}
use Rattle.pdn_script.specs.declared.record.Script.{Script}
use Rattle.pdn_script.specs.Format.{ReadsScript}
use Rattle.bias_file.specs.declared.record.Bias.{Bias}
use Rattle.bias_file.specs.Limits.{BiasKeeps}
use Rattle.grid_pieces.specs.declared.error.DrawError.{DrawError}
use Rattle.grid_pieces.specs.declared.error.DrawError.TheVariants as draw
use Rattle.grid_pieces.specs.declared.grid.Grid.{Grid}
use Rattle.grid_shapes.specs.Drawing.{IsDrawingOf, IsDrawRefused}
use Rattle.grid_net.specs.Level.{IsSupplied, IsFirstUnsupplied}
use Rattle.grid_net.specs.Network.{Network}
use Rattle.grid_network.specs.declared.branch.Branch.{Branch}
use Rattle.grid_network.specs.declared.error.ExtractError.{ExtractError}
use Rattle.grid_network.specs.declared.error.ExtractError.TheVariants as extract
use Rattle.grid_network.specs.declared.extracted.Extracted.{Extracted}
use Rattle.grid_network.specs.declared.key.Key.{Key}
use Rattle.grid_extract.specs.Extraction.{IsExtracted, IsExtractRefused}
use Rattle.grid_limits.specs.Limits.{AreGridLimits}
use Rattle.signoff_report.specs.declared.records.Limits.{Limits}
use Rattle.solving.specs.Signed.{EachIsSupplied}
use Rattle.building.specs.declared.records.Records.{Records}
use Rattle.building.specs.Building.{IsGridOf, IsNetworkOfGrid, AreLimitsOfGrid}
use Rattle.building.specs.Inputs.{FiveTexts}
use Rattle.building.specs.Reading.{AreRecords}
use Rattle.building.specs.Refusal.{draw_answer, extract_answer, DrawsNoGrid, HasNoNetwork, LacksSupply}
use Rattle.one_drawing.specs.Apart.{StandApart}
use Rattle.one_design.specs.Laws.Causes.{One}
use Rattle.one_design.proofs.Records.{AreReaders, same_records}

-- What is told of the places of a script's commands, of drawing, of extraction, of limits and of supply.
pub record AreStages : Type 0 where
  pub places : (text : List ℕ) (script : Script) → ReadsScript text (Ok script) → StandApart script
  pub one_drawing : (tech : Tech) (cells : Cells) (design : Placed) (script : Script) (a b : Grid) → StandApart script → IsDrawingOf tech cells design script a → IsDrawingOf tech cells design script b → a ≡ b
  pub one_undrawn : (tech : Tech) (cells : Cells) (design : Placed) (script : Script) (e f : DrawError) → StandApart script → IsDrawRefused tech cells design script e → IsDrawRefused tech cells design script f → e ≢ draw.Want → f ≢ draw.Want → e ≡ f
  pub drawn_or_not : (tech : Tech) (cells : Cells) (design : Placed) (script : Script) (grid : Grid) (e : DrawError) → StandApart script → IsDrawingOf tech cells design script grid → IsDrawRefused tech cells design script e → e ≡ draw.Want
  pub one_network : (grid : Grid) (tech : Tech) (cells : Cells) (design : Placed) (bias : Bias) (a b : Extracted) → CellsKeep cells → BiasKeeps bias → IsExtracted grid tech cells design bias a → IsExtracted grid tech cells design bias b → a ≡ b
  pub one_unextracted : (grid : Grid) (tech : Tech) (cells : Cells) (design : Placed) (bias : Bias) (a b : ExtractError) → CellsKeep cells → BiasKeeps bias → IsExtractRefused grid tech cells design bias a → IsExtractRefused grid tech cells design bias b
      → a ≢ extract.Want → b ≢ extract.Want → a ≡ b
  pub extracted_or_not : (grid : Grid) (tech : Tech) (cells : Cells) (design : Placed) (bias : Bias) (e : Extracted) (error : ExtractError) → CellsKeep cells → BiasKeeps bias → IsExtracted grid tech cells design bias e
      → IsExtractRefused grid tech cells design bias error → error ≡ extract.Want
  pub one_limits : (tech : Tech) (grid : Grid) (keys : List Key) (branches : List Branch) (bias : Bias) (a b : Limits) → TechKeeps tech → AreGridLimits tech grid keys branches bias a → AreGridLimits tech grid keys branches bias b → a ≡ b
  pub one_unsupplied : (net : Network) (m n : ℕ) → IsFirstUnsupplied net m → IsFirstUnsupplied net n → m ≡ n
  pub supplied_or_not : (net : Network) (n : ℕ) → ((i : ℕ) → i < net.nodes → IsSupplied net i) → ¬ IsFirstUnsupplied net n

module _ (readers : AreReaders) (stages : AreStages) (t : FiveTexts) where
  apart_of : (r : Records) → AreRecords t r → StandApart r.script
  apart_of r reads = stages.places t.pdn.text r.script reads.script

  -- ---- one outcome for the same records
  pub same_grid : (r s : Records) → AreRecords t r → AreRecords t s → (a b : Grid) → IsGridOf r a → IsGridOf s b → a ≡ b
  same_grid r s x y a b of_r of_s =
      let e : r ≡ s = same_records readers t r s x y in
      stages.one_drawing r.tech r.cells r.design r.script a b (apart_of r x) of_r (subst (λ (z : Records). IsGridOf z b) (sym e) of_s)

  -- The network of the one grid, and what would be said of it with the other's records and grid.
  moved : (P : Records → Grid → Type 0) (r s : Records) → AreRecords t r → AreRecords t s → (a b : Grid) → IsGridOf r a → IsGridOf s b → P s b → P r a
  moved P r s x y a b of_r of_s p =
      let e : r ≡ s = same_records readers t r s x y in
      let g : a ≡ b = same_grid r s x y a b of_r of_s in
      subst (λ z. P z a) (sym e) (subst (P s) (sym g) p)

  pub same_network : (r s : Records) → AreRecords t r → AreRecords t s → (a b : Grid) → IsGridOf r a → IsGridOf s b → (d e : Extracted) → IsNetworkOfGrid r a d → IsNetworkOfGrid s b e → d ≡ e
  same_network r s x y a b of_r of_s d e is_d is_e =
      stages.one_network a r.tech r.cells r.design r.bias d e x.kept.cells x.kept.bias is_d (moved (λ z g. IsNetworkOfGrid z g e) r s x y a b of_r of_s is_e)

  pub same_limits : (r s : Records) → AreRecords t r → AreRecords t s → (a b : Grid) → IsGridOf r a → IsGridOf s b → (d e : Extracted) → d ≡ e → (k l : Limits) → AreLimitsOfGrid r a d k → AreLimitsOfGrid s b e l → k ≡ l
  same_limits r s x y a b of_r of_s d e same k l are_k are_l =
      let here : AreLimitsOfGrid r a d l = subst (λ z. AreLimitsOfGrid r a z l) (sym same) (moved (λ z g. AreLimitsOfGrid z g e l) r s x y a b of_r of_s are_l) in
      stages.one_limits r.tech a d.keys d.branches r.bias k l x.kept.tech are_k here

  -- ---- one refusal
  pub one_undrawn : One (DrawsNoGrid t)
  one_undrawn a b some_a some_b x y =
      let r : x.records ≡ y.records = same_records readers t x.records y.records x.reads y.reads in
      let refused : IsDrawRefused x.records.tech x.records.cells x.records.design x.records.script y.error = subst (λ (z : Records). IsDrawRefused z.tech z.cells z.design z.script y.error) (sym r) y.refused in
      let e : x.error ≡ y.error =
      stages.one_undrawn x.records.tech x.records.cells x.records.design x.records.script x.error y.error (apart_of x.records x.reads) x.refused refused (λ is. some_a (x.told ∙ ap (draw_answer x.records) is))
      (λ is. some_b (y.told ∙ ap (draw_answer y.records) is)) in
      x.told ∙ ap (draw_answer x.records) e ∙ ap (λ z. draw_answer z y.error) r ∙ sym y.told

  pub one_unextracted : One (HasNoNetwork t)
  one_unextracted a b some_a some_b x y =
      let r : x.records ≡ y.records = same_records readers t x.records y.records x.reads y.reads in
      let g : x.grid ≡ y.grid = same_grid x.records y.records x.reads y.reads x.grid y.grid x.draws y.draws in
      let refused : IsExtractRefused x.grid x.records.tech x.records.cells x.records.design x.records.bias y.error =
      moved (λ z grid. IsExtractRefused grid z.tech z.cells z.design z.bias y.error) x.records y.records x.reads y.reads x.grid y.grid x.draws y.draws y.refused in
      let e : x.error ≡ y.error =
      stages.one_unextracted x.grid x.records.tech x.records.cells x.records.design x.records.bias x.error y.error x.reads.kept.cells x.reads.kept.bias x.refused refused (λ is. some_a (x.told ∙ ap (extract_answer x.records x.grid) is))
      (λ is. some_b (y.told ∙ ap (extract_answer y.records y.grid) is)) in
      x.told ∙ ap (extract_answer x.records x.grid) e ∙ ap (λ z. extract_answer z x.grid y.error) r ∙ ap (λ z. extract_answer y.records z y.error) g ∙ sym y.told

  pub one_unsupplied : One (LacksSupply t)
  one_unsupplied a b some_a some_b x y =
      let d : x.extracted ≡ y.extracted = same_network x.records y.records x.reads y.reads x.grid y.grid x.draws y.draws x.extracted y.extracted x.network y.network in
      let n : x.node ≡ y.node = stages.one_unsupplied x.extracted.net x.node y.node x.first (subst (λ (z : Extracted). IsFirstUnsupplied z.net y.node) (sym d) y.first) in
      let named : slice_get x.extracted.names x.node ≡ Some y.name = subst (λ k. slice_get x.extracted.names k ≡ Some y.name) (sym n) (subst (λ (z : Extracted). slice_get z.names y.node ≡ Some y.name) (sym d) y.named_so) in
      let same : Some x.name ≡ Some y.name = sym x.named_so ∙ named in
      let name : x.name ≡ y.name = cc in
      x.told ∙ ap Unsupplied name ∙ sym y.told

  -- ---- no refusal where the next stage is reached
  pub undrawn_or_drawn : (a : Answer) → DrawsNoGrid t a → (r : Records) → AreRecords t r → (grid : Grid) → IsGridOf r grid → a ≡ Want
  undrawn_or_drawn a x r reads grid draws =
      let e : r ≡ x.records = same_records readers t r x.records reads x.reads in
      let here : IsGridOf x.records grid = subst (λ (z : Records). IsGridOf z grid) e draws in
      x.told ∙ ap (draw_answer x.records) (stages.drawn_or_not x.records.tech x.records.cells x.records.design x.records.script grid x.error (apart_of x.records x.reads) here x.refused)

  pub unextracted_or_extracted : (a : Answer) → HasNoNetwork t a → (r : Records) → AreRecords t r → (grid : Grid) → IsGridOf r grid → (e : Extracted) → IsNetworkOfGrid r grid e → a ≡ Want
  unextracted_or_extracted a x r reads grid draws e network =
      let here : IsNetworkOfGrid x.records x.grid e = moved (λ z g. IsNetworkOfGrid z g e) x.records r x.reads reads x.grid grid x.draws draws network in
      x.told ∙ ap (extract_answer x.records x.grid) (stages.extracted_or_not x.grid x.records.tech x.records.cells x.records.design x.records.bias e x.error x.reads.kept.cells x.reads.kept.bias here x.refused)

  pub unsupplied_or_supplied : (a : Answer) → LacksSupply t a → (r : Records) → AreRecords t r → (grid : Grid) → IsGridOf r grid → (e : Extracted) → IsNetworkOfGrid r grid e → EachIsSupplied e.net → a ≡ Want
  unsupplied_or_supplied a x r reads grid draws e network supplied =
      let d : x.extracted ≡ e = same_network x.records r x.reads reads x.grid grid x.draws draws x.extracted e x.network network in
      absurd (stages.supplied_or_not e.net x.node supplied (subst (λ (z : Extracted). IsFirstUnsupplied z.net x.node) d x.first))
