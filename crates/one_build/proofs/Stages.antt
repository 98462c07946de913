-- Each stage of building five texts over blocks has one outcome.
use Rattle.std.proofs.Common.{◌≡◌, ◌≢◌, ℕ, ◌<◌, List, Some, Ok, slice_get, sym, ap, subst, ◌∙◌}
use Rattle.answers.specs.declared.answer.Answer.{Answer}
use Rattle.answers.specs.declared.answer.Answer.TheVariants.{Want, Unsupplied}
use Rattle.lef_tech.specs.declared.tech.Tech.{Tech}
use Rattle.lef_tech.specs.Limits.{TechKeeps}
use Rattle.lef_cells.specs.declared.record.Cells.{Cells}
use Rattle.lef_cells.specs.Limits.{CellsKeep}
use Rattle.def_design.specs.declared.record.Design.{Design as Placed}
use Rattle.pdn_script.specs.declared.record.Script.{Script}
use Rattle.pdn_script.specs.Format.{ReadsScript}
use Rattle.bias_file.specs.declared.record.Bias.{Bias}
use Rattle.bias_file.specs.Limits.{BiasKeeps}
use Rattle.grid_pieces.specs.declared.error.DrawError.TheVariants as draw
use Rattle.grid_pieces.specs.declared.grid.Grid.{Grid}
use Rattle.grid_net.specs.Level.{IsSupplied, IsFirstUnsupplied}
use Rattle.grid_net.specs.Network.{Network}
use Rattle.grid_network.specs.declared.branch.Branch.{Branch}
use Rattle.grid_network.specs.declared.error.ExtractError.{ExtractError}
use Rattle.grid_network.specs.declared.error.ExtractError.TheVariants as extract
use Rattle.grid_network.specs.declared.extracted.Extracted.{Extracted}
use Rattle.grid_network.specs.declared.key.Key.{Key}
use Rattle.grid_limits.specs.Limits.{AreGridLimits}
use Rattle.grid_signing.specs.Signing.{AreLimitsOver}
use Rattle.macro_blocks.specs.declared.error.BlocksKind.TheVariants as kind
use Rattle.macro_blocks.specs.declared.record.Blocks.{Blocks}
use Rattle.macro_blocks.specs.Format.{ReadsBlocks}
use Rattle.macro_extract.specs.Extraction.{IsMacroExtracted, IsMacroExtractRefused}
use Rattle.macro_grid.specs.declared.error.MacroError.{MacroError}
use Rattle.macro_grid.specs.declared.error.MacroError.TheVariants.{Draw}
use Rattle.macro_grid.specs.declared.record.MacroGrid.{MacroGrid}
use Rattle.macro_grid.specs.Drawing.{IsMacroDrawing, IsMacroRefused}
use Rattle.signoff_report.specs.declared.records.Limits.{Limits}
use Rattle.solving.specs.Signed.{EachIsSupplied}
use Rattle.building.specs.declared.records.Records.{Records}
use Rattle.building.specs.Building.{base_of}
use Rattle.building.specs.Inputs.{FiveTexts}
use Rattle.building.specs.Reading.{AreRecords}
use Rattle.building.specs.Refusal.{extract_answer}
use Rattle.macro_building.specs.Blocks.{AreBlocksOf}
use Rattle.macro_building.specs.Refusal.{HasNoPins, DrawsNoGrid, Draws, HasNoNetwork, LacksSupply}
use Rattle.macro_building.specs.Words.{macro_answer}
use Rattle.one_design.specs.Laws.Causes.{One}
use Rattle.one_design.specs.Laws.Texts.{HasOneResult}
use Rattle.one_drawing.specs.Apart.{StandApart}
use Rattle.one_build.proofs.Pins.{same_blocks, one_blocks_refused, blocks_refused_or_read}

-- What is told of the records of texts, of their pins, of the places of a script's commands, of drawing, of extraction, of limits and of supply.
pub record AreStages : Type 0 where
  pub one_records : (t : FiveTexts) (a b : Records) → AreRecords t a → AreRecords t b → a ≡ b
  pub one_blocks : HasOneResult ReadsBlocks kind.Want
  pub places : (text : List ℕ) (script : Script) → ReadsScript text (Ok script) → StandApart script
  pub one_drawing : (tech : Tech) (cells : Cells) (blocks : Blocks) (design : Placed) (script : Script) (a b : MacroGrid) → StandApart script → IsMacroDrawing tech cells blocks design script a → IsMacroDrawing tech cells blocks design script b → a ≡ b
  pub one_undrawn : (tech : Tech) (cells : Cells) (blocks : Blocks) (design : Placed) (script : Script) (e f : MacroError) → StandApart script → IsMacroRefused tech cells blocks design script e → IsMacroRefused tech cells blocks design script f
      → e ≢ Draw draw.Want → f ≢ Draw draw.Want → e ≡ f
  pub drawn_or_not : (tech : Tech) (cells : Cells) (blocks : Blocks) (design : Placed) (script : Script) (drawn : MacroGrid) (e : MacroError) → StandApart script → IsMacroDrawing tech cells blocks design script drawn
      → IsMacroRefused tech cells blocks design script e → e ≡ Draw draw.Want
  pub one_network : (drawn : MacroGrid) (tech : Tech) (cells : Cells) (design : Placed) (bias : Bias) (a b : Extracted) → CellsKeep cells → BiasKeeps bias → IsMacroExtracted drawn tech cells design bias a → IsMacroExtracted drawn tech cells design bias b → a ≡ b
  pub one_unextracted : (drawn : MacroGrid) (tech : Tech) (cells : Cells) (design : Placed) (bias : Bias) (a b : ExtractError) → CellsKeep cells → BiasKeeps bias → IsMacroExtractRefused drawn tech cells design bias a
      → IsMacroExtractRefused drawn tech cells design bias b → a ≢ extract.Want → b ≢ extract.Want → a ≡ b
  pub extracted_or_not : (drawn : MacroGrid) (tech : Tech) (cells : Cells) (design : Placed) (bias : Bias) (e : Extracted) (error : ExtractError) → CellsKeep cells → BiasKeeps bias → IsMacroExtracted drawn tech cells design bias e
      → IsMacroExtractRefused drawn tech cells design bias error → error ≡ extract.Want
  pub one_limits : (tech : Tech) (grid : Grid) (keys : List Key) (branches : List Branch) (bias : Bias) (a b : Limits) → TechKeeps tech → AreGridLimits tech grid keys branches bias a → AreGridLimits tech grid keys branches bias b → a ≡ b
  pub one_unsupplied : (net : Network) (m n : ℕ) → IsFirstUnsupplied net m → IsFirstUnsupplied net n → m ≡ n
  pub supplied_or_not : (net : Network) (n : ℕ) → ((i : ℕ) → i < net.nodes → IsSupplied net i) → ¬ IsFirstUnsupplied net n

-- The network of the drawn grid.
abbrev IsNetworkOf : Records → MacroGrid → Extracted → Type 0
IsNetworkOf r drawn e = IsMacroExtracted drawn r.tech r.cells r.design r.bias e

module _ (stages : AreStages) (t : FiveTexts) where
  apart_of : (r : Records) → AreRecords t r → StandApart r.script
  apart_of r reads = stages.places t.pdn.text r.script reads.script

  -- What is said with the other's records and pins is said with the one's.
  moved_pins : (P : Records → Blocks → Type 0) (r s : Records) → AreRecords t r → AreRecords t s → (c d : Blocks) → AreBlocksOf t.lef.text t.cells.text c → AreBlocksOf t.lef.text t.cells.text d → P s d → P r c
  moved_pins P r s x y c d of_r of_s p =
      let records : r ≡ s = stages.one_records t r s x y in
      let blocks : c ≡ d = same_blocks stages.one_blocks t.lef.text t.cells.text c d of_r of_s in
      subst (λ z. P z c) (sym records) (subst (P s) (sym blocks) p)

  -- ---- one outcome for the same records
  pub same_drawn : (r s : Records) (a b : MacroGrid) → Draws t r a → Draws t s b → a ≡ b
  same_drawn r s a b x y =
      let here : IsMacroDrawing r.tech r.cells x.blocks r.design r.script b =
      moved_pins (λ z blocks. IsMacroDrawing z.tech z.cells blocks z.design z.script b) r s x.reads y.reads x.blocks y.blocks x.are_blocks y.are_blocks y.is_drawing in
      stages.one_drawing r.tech r.cells x.blocks r.design r.script a b (apart_of r x.reads) x.is_drawing here

  -- What is said with the other's records and grid is said with the one's.
  moved : (P : Records → MacroGrid → Type 0) (r s : Records) (a b : MacroGrid) → Draws t r a → Draws t s b → P s b → P r a
  moved P r s a b x y p =
      let records : r ≡ s = stages.one_records t r s x.reads y.reads in
      let drawn : a ≡ b = same_drawn r s a b x y in
      subst (λ z. P z a) (sym records) (subst (P s) (sym drawn) p)

  pub same_network : (r s : Records) (a b : MacroGrid) → Draws t r a → Draws t s b → (d e : Extracted) → IsNetworkOf r a d → IsNetworkOf s b e → d ≡ e
  same_network r s a b x y d e is_d is_e =
      stages.one_network a r.tech r.cells r.design r.bias d e x.reads.kept.cells x.reads.kept.bias is_d (moved (λ z g. IsNetworkOf z g e) r s a b x y is_e)

  pub same_limits : (r s : Records) (a b : MacroGrid) → Draws t r a → Draws t s b → (d e : Extracted) → d ≡ e → (k l : Limits) → AreLimitsOver (base_of r) a.grid d k → AreLimitsOver (base_of s) b.grid e l → k ≡ l
  same_limits r s a b x y d e same k l are_k are_l =
      let here : AreLimitsOver (base_of r) a.grid d l = subst (λ z. AreLimitsOver (base_of r) a.grid z l) (sym same) (moved (λ z (g : MacroGrid). AreLimitsOver (base_of z) g.grid e l) r s a b x y are_l) in
      stages.one_limits r.tech a.grid d.keys d.branches r.bias k l x.reads.kept.tech are_k here

  -- ---- one refusal
  pub one_unread_pins : One (HasNoPins t)
  one_unread_pins a b some_a some_b x y = one_blocks_refused stages.one_blocks t.lef t.cells a b some_a some_b x.refused y.refused

  pub one_undrawn : One (DrawsNoGrid t)
  one_undrawn a b some_a some_b x y =
      let r : x.records ≡ y.records = stages.one_records t x.records y.records x.reads y.reads in
      let refused : IsMacroRefused x.records.tech x.records.cells x.blocks x.records.design x.records.script y.error =
      moved_pins (λ z blocks. IsMacroRefused z.tech z.cells blocks z.design z.script y.error) x.records y.records x.reads y.reads x.blocks y.blocks x.are_blocks y.are_blocks y.refused in
      let e : x.error ≡ y.error =
      stages.one_undrawn x.records.tech x.records.cells x.blocks x.records.design x.records.script x.error y.error (apart_of x.records x.reads) x.refused refused (λ is. some_a (x.told ∙ ap (macro_answer x.records) is))
      (λ is. some_b (y.told ∙ ap (macro_answer y.records) is)) in
      x.told ∙ ap (macro_answer x.records) e ∙ ap (λ z. macro_answer z y.error) r ∙ sym y.told

  pub one_unextracted : One (HasNoNetwork t)
  one_unextracted a b some_a some_b x y =
      let r : x.records ≡ y.records = stages.one_records t x.records y.records x.draws.reads y.draws.reads in
      let g : x.drawn ≡ y.drawn = same_drawn x.records y.records x.drawn y.drawn x.draws y.draws in
      let refused : IsMacroExtractRefused x.drawn x.records.tech x.records.cells x.records.design x.records.bias y.error =
      moved (λ z drawn. IsMacroExtractRefused drawn z.tech z.cells z.design z.bias y.error) x.records y.records x.drawn y.drawn x.draws y.draws y.refused in
      let e : x.error ≡ y.error =
      stages.one_unextracted x.drawn x.records.tech x.records.cells x.records.design x.records.bias x.error y.error x.draws.reads.kept.cells x.draws.reads.kept.bias x.refused refused (λ is. some_a (x.told ∙ ap (extract_answer x.records x.drawn.grid) is))
      (λ is. some_b (y.told ∙ ap (extract_answer y.records y.drawn.grid) is)) in
      x.told ∙ ap (extract_answer x.records x.drawn.grid) e ∙ ap (λ z. extract_answer z x.drawn.grid y.error) r ∙ ap (λ (z : MacroGrid). extract_answer y.records z.grid y.error) g ∙ sym y.told

  pub one_unsupplied : One (LacksSupply t)
  one_unsupplied a b some_a some_b x y =
      let d : x.extracted ≡ y.extracted = same_network x.records y.records x.drawn y.drawn x.draws y.draws x.extracted y.extracted x.network y.network in
      let n : x.node ≡ y.node = stages.one_unsupplied x.extracted.net x.node y.node x.first (subst (λ (z : Extracted). IsFirstUnsupplied z.net y.node) (sym d) y.first) in
      let named : slice_get x.extracted.names x.node ≡ Some y.name = subst (λ k. slice_get x.extracted.names k ≡ Some y.name) (sym n) (subst (λ (z : Extracted). slice_get z.names y.node ≡ Some y.name) (sym d) y.named_so) in
      let same : Some x.name ≡ Some y.name = sym x.named_so ∙ named in
      let name : x.name ≡ y.name = cc in
      x.told ∙ ap Unsupplied name ∙ sym y.told

  -- ---- no refusal where the next stage is reached
  pub pins_unread_or_read : (a : Answer) → HasNoPins t a → (blocks : Blocks) → AreBlocksOf t.lef.text t.cells.text blocks → a ≡ Want
  pins_unread_or_read a x blocks are = blocks_refused_or_read stages.one_blocks t.lef t.cells a blocks x.refused are

  pub undrawn_or_drawn : (a : Answer) → DrawsNoGrid t a → (r : Records) (drawn : MacroGrid) → Draws t r drawn → a ≡ Want
  undrawn_or_drawn a x r drawn y =
      let here : IsMacroDrawing x.records.tech x.records.cells x.blocks x.records.design x.records.script drawn =
      moved_pins (λ z blocks. IsMacroDrawing z.tech z.cells blocks z.design z.script drawn) x.records r x.reads y.reads x.blocks y.blocks x.are_blocks y.are_blocks y.is_drawing in
      x.told ∙ ap (macro_answer x.records) (stages.drawn_or_not x.records.tech x.records.cells x.blocks x.records.design x.records.script drawn x.error (apart_of x.records x.reads) here x.refused)

  pub unextracted_or_extracted : (a : Answer) → HasNoNetwork t a → (r : Records) (drawn : MacroGrid) → Draws t r drawn → (e : Extracted) → IsNetworkOf r drawn e → a ≡ Want
  unextracted_or_extracted a x r drawn y e network =
      let here : IsNetworkOf x.records x.drawn e = moved (λ z g. IsNetworkOf z g e) x.records r x.drawn drawn x.draws y network in
      x.told ∙ ap (extract_answer x.records x.drawn.grid) (stages.extracted_or_not x.drawn x.records.tech x.records.cells x.records.design x.records.bias e x.error x.draws.reads.kept.cells x.draws.reads.kept.bias here x.refused)

  pub unsupplied_or_supplied : (a : Answer) → LacksSupply t a → (r : Records) (drawn : MacroGrid) → Draws t r drawn → (e : Extracted) → IsNetworkOf r drawn e → EachIsSupplied e.net → a ≡ Want
  unsupplied_or_supplied a x r drawn y e network supplied =
      let d : x.extracted ≡ e = same_network x.records r x.drawn drawn x.draws y x.extracted e x.network network in
      absurd (stages.supplied_or_not e.net x.node supplied (subst (λ (z : Extracted). IsFirstUnsupplied z.net x.node) d x.first))
