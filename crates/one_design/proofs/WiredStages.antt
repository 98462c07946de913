-- Each stage of signing five texts off has one outcome.
use Rattle.std.proofs.Common.{◌≡◌, ◌≢◌, ◌⊎◌, inl, inr, ℕ, ◌<◌, List, Some, Result, Ok, slice_get, refl, sym, ap, subst, ◌∙◌}
use Rattle.answers.specs.declared.answer.Answer.{Answer}
use Rattle.answers.specs.declared.answer.Answer.TheVariants.{Want, Unsupplied}
use Rattle.lef_tech.specs.declared.tech.Tech.{Tech}
use Rattle.lef_tech.specs.Limits.{TechKeeps}
use Rattle.lef_cells.specs.declared.record.Cells.{Cells}
use Rattle.lef_cells.specs.Limits.{CellsKeep}
use Rattle.def_design.specs.declared.record.Design.{Design as Placed}
use Rattle.def_wiring.specs.declared.record.Wires.{Wires}
use Rattle.bias_file.specs.declared.record.Bias.{Bias}
use Rattle.bias_file.specs.Limits.{BiasKeeps}
use Rattle.grid_pieces.specs.declared.grid.Grid.{Grid}
use Rattle.grid_net.specs.Level.{IsSupplied, IsFirstUnsupplied}
use Rattle.grid_net.specs.Network.{Network}
use Rattle.grid_network.specs.declared.branch.Branch.{Branch}
use Rattle.grid_network.specs.declared.error.ExtractError.{ExtractError}
use Rattle.grid_network.specs.declared.error.ExtractError.TheVariants as extract
use Rattle.grid_network.specs.declared.extracted.Extracted.{Extracted}
use Rattle.grid_network.specs.declared.key.Key.{Key}
use Rattle.grid_extract.specs.Extraction.{IsExtracted, IsExtractRefused}
use Rattle.grid_limits.specs.Limits.{AreGridLimits}
use Rattle.grid_signing.specs.Refusal.{extract_answer}
use Rattle.grid_signing.specs.Signing.{IsNetworkOver, AreLimitsOver}
use Rattle.signoff_report.specs.declared.records.Limits.{Limits}
use Rattle.solving.specs.Signed.{EachIsSupplied}
use Rattle.wired_grid.specs.declared.error.WiredError.{WiredError}
use Rattle.wired_grid.specs.declared.error.WiredError.TheVariants as wired
use Rattle.wired_grid.specs.Wired.{IsWiredGrid, IsWiredRefused}
use Rattle.signing_off.specs.declared.records.WiredRecords.{WiredRecords}
use Rattle.signing_off.specs.Inputs.{WiredTexts}
use Rattle.signing_off.specs.Reading.{AreWiredRecords}
use Rattle.signing_off.specs.Refusal.{wired_answer, WiresNoGrid, HasNoNetwork, LacksSupply}
use Rattle.signing_off.specs.Signing.{IsGridOf, base_of}
use Rattle.one_design.specs.Laws.Causes.{One}
use Rattle.one_design.proofs.WiredRecords.{AreWiredReaders, same_records}

-- What is told of wiring, of extraction, of limits and of supply.
pub record AreWiredStages : Type 0 where
  pub one_grid : (tech : Tech) (design : Placed) (wires : Wires) (a b : Grid) → IsWiredGrid tech design wires a → IsWiredGrid tech design wires b → a ≡ b
  pub one_unwired : (tech : Tech) (design : Placed) (wires : Wires) (e f : WiredError) → IsWiredRefused tech design wires e → IsWiredRefused tech design wires f → e ≢ wired.Want → f ≢ wired.Want → e ≡ f
  pub wired_or_not : (tech : Tech) (design : Placed) (wires : Wires) (grid : Grid) (e : WiredError) → IsWiredGrid tech design wires grid → IsWiredRefused tech design wires e → e ≡ wired.Want
  pub one_network : (grid : Grid) (tech : Tech) (cells : Cells) (design : Placed) (bias : Bias) (a b : Extracted) → CellsKeep cells → BiasKeeps bias → IsExtracted grid tech cells design bias a → IsExtracted grid tech cells design bias b → a ≡ b
  pub one_unextracted : (grid : Grid) (tech : Tech) (cells : Cells) (design : Placed) (bias : Bias) (a b : ExtractError) → CellsKeep cells → BiasKeeps bias → IsExtractRefused grid tech cells design bias a → IsExtractRefused grid tech cells design bias b
      → a ≢ extract.Want → b ≢ extract.Want → a ≡ b
  pub extracted_or_not : (grid : Grid) (tech : Tech) (cells : Cells) (design : Placed) (bias : Bias) (e : Extracted) (error : ExtractError) → CellsKeep cells → BiasKeeps bias → IsExtracted grid tech cells design bias e
      → IsExtractRefused grid tech cells design bias error → error ≡ extract.Want
  pub one_limits : (tech : Tech) (grid : Grid) (keys : List Key) (branches : List Branch) (bias : Bias) (a b : Limits) → TechKeeps tech → AreGridLimits tech grid keys branches bias a → AreGridLimits tech grid keys branches bias b → a ≡ b
  pub one_unsupplied : (net : Network) (m n : ℕ) → IsFirstUnsupplied net m → IsFirstUnsupplied net n → m ≡ n
  pub supplied_or_not : (net : Network) (n : ℕ) → ((i : ℕ) → i < net.nodes → IsSupplied net i) → ¬ IsFirstUnsupplied net n

module _ (readers : AreWiredReaders) (stages : AreWiredStages) (t : WiredTexts) where
  -- ---- one outcome for the same records
  pub same_grid : (r s : WiredRecords) → AreWiredRecords t r → AreWiredRecords t s → (a b : Grid) → IsGridOf r a → IsGridOf s b → a ≡ b
  same_grid r s x y a b of_r of_s =
      let e : r ≡ s = same_records readers t r s x y in
      stages.one_grid r.tech r.design r.wires a b of_r (subst (λ (z : WiredRecords). IsGridOf z b) (sym e) of_s)

  -- The network of the one grid, and what would be said of it with the other's records and grid.
  moved : (P : WiredRecords → Grid → Type 0) (r s : WiredRecords) → AreWiredRecords t r → AreWiredRecords t s → (a b : Grid) → IsGridOf r a → IsGridOf s b → P s b → P r a
  moved P r s x y a b of_r of_s p =
      let e : r ≡ s = same_records readers t r s x y in
      let g : a ≡ b = same_grid r s x y a b of_r of_s in
      subst (λ z. P z a) (sym e) (subst (P s) (sym g) p)

  pub same_network : (r s : WiredRecords) → AreWiredRecords t r → AreWiredRecords t s → (a b : Grid) → IsGridOf r a → IsGridOf s b → (d e : Extracted) → IsNetworkOver (base_of r) a d → IsNetworkOver (base_of s) b e → d ≡ e
  same_network r s x y a b of_r of_s d e is_d is_e =
      stages.one_network a r.tech r.cells r.design r.bias d e x.kept.cells x.kept.bias is_d (moved (λ z g. IsNetworkOver (base_of z) g e) r s x y a b of_r of_s is_e)

  pub same_limits : (r s : WiredRecords) → AreWiredRecords t r → AreWiredRecords t s → (a b : Grid) → IsGridOf r a → IsGridOf s b → (d e : Extracted) → d ≡ e → (k l : Limits) → AreLimitsOver (base_of r) a d k → AreLimitsOver (base_of s) b e l → k ≡ l
  same_limits r s x y a b of_r of_s d e same k l are_k are_l =
      let here : AreLimitsOver (base_of r) a d l = subst (λ z. AreLimitsOver (base_of r) a z l) (sym same) (moved (λ z g. AreLimitsOver (base_of z) g e l) r s x y a b of_r of_s are_l) in
      stages.one_limits r.tech a d.keys d.branches r.bias k l x.kept.tech are_k here

  -- ---- one refusal
  pub one_unwired : One (WiresNoGrid t)
  one_unwired a b some_a some_b x y =
      let r : x.records ≡ y.records = same_records readers t x.records y.records x.reads y.reads in
      let refused : IsWiredRefused x.records.tech x.records.design x.records.wires y.error = subst (λ (z : WiredRecords). IsWiredRefused z.tech z.design z.wires y.error) (sym r) y.refused in
      let e : x.error ≡ y.error =
      stages.one_unwired x.records.tech x.records.design x.records.wires x.error y.error x.refused refused (λ is. some_a (x.told ∙ ap (wired_answer x.records) is))
      (λ is. some_b (y.told ∙ ap (wired_answer y.records) is)) in
      x.told ∙ ap (wired_answer x.records) e ∙ ap (λ z. wired_answer z y.error) r ∙ sym y.told

  pub one_unextracted : One (HasNoNetwork t)
  one_unextracted a b some_a some_b x y =
      let r : x.records ≡ y.records = same_records readers t x.records y.records x.reads y.reads in
      let g : x.grid ≡ y.grid = same_grid x.records y.records x.reads y.reads x.grid y.grid x.wires y.wires in
      let refused : IsExtractRefused x.grid x.records.tech x.records.cells x.records.design x.records.bias y.error =
      moved (λ z grid. IsExtractRefused grid z.tech z.cells z.design z.bias y.error) x.records y.records x.reads y.reads x.grid y.grid x.wires y.wires y.refused in
      let e : x.error ≡ y.error =
      stages.one_unextracted x.grid x.records.tech x.records.cells x.records.design x.records.bias x.error y.error x.reads.kept.cells x.reads.kept.bias x.refused refused (λ is. some_a (x.told ∙ ap (extract_answer x.records.design x.grid) is))
      (λ is. some_b (y.told ∙ ap (extract_answer y.records.design y.grid) is)) in
      x.told ∙ ap (extract_answer x.records.design x.grid) e ∙ ap (λ (z : WiredRecords). extract_answer z.design x.grid y.error) r ∙ ap (λ z. extract_answer y.records.design z y.error) g ∙ sym y.told

  pub one_unsupplied : One (LacksSupply t)
  one_unsupplied a b some_a some_b x y =
      let d : x.extracted ≡ y.extracted = same_network x.records y.records x.reads y.reads x.grid y.grid x.wires y.wires x.extracted y.extracted x.network y.network in
      let n : x.node ≡ y.node = stages.one_unsupplied x.extracted.net x.node y.node x.first (subst (λ (z : Extracted). IsFirstUnsupplied z.net y.node) (sym d) y.first) in
      let named : slice_get x.extracted.names x.node ≡ Some y.name = subst (λ k. slice_get x.extracted.names k ≡ Some y.name) (sym n) (subst (λ (z : Extracted). slice_get z.names y.node ≡ Some y.name) (sym d) y.named_so) in
      let same : Some x.name ≡ Some y.name = sym x.named_so ∙ named in
      let name : x.name ≡ y.name = cc in
      x.told ∙ ap Unsupplied name ∙ sym y.told

  -- ---- no refusal where the next stage is reached
  pub unwired_or_wired : (a : Answer) → WiresNoGrid t a → (r : WiredRecords) → AreWiredRecords t r → (grid : Grid) → IsGridOf r grid → a ≡ Want
  unwired_or_wired a x r reads grid wires =
      let e : r ≡ x.records = same_records readers t r x.records reads x.reads in
      let here : IsGridOf x.records grid = subst (λ (z : WiredRecords). IsGridOf z grid) e wires in
      x.told ∙ ap (wired_answer x.records) (stages.wired_or_not x.records.tech x.records.design x.records.wires grid x.error here x.refused)

  pub unextracted_or_extracted : (a : Answer) → HasNoNetwork t a → (r : WiredRecords) → AreWiredRecords t r → (grid : Grid) → IsGridOf r grid → (e : Extracted) → IsNetworkOver (base_of r) grid e → a ≡ Want
  unextracted_or_extracted a x r reads grid wires e network =
      let here : IsNetworkOver (base_of x.records) x.grid e = moved (λ z g. IsNetworkOver (base_of z) g e) x.records r x.reads reads x.grid grid x.wires wires network in
      x.told ∙ ap (extract_answer x.records.design x.grid) (stages.extracted_or_not x.grid x.records.tech x.records.cells x.records.design x.records.bias e x.error x.reads.kept.cells x.reads.kept.bias here x.refused)

  pub unsupplied_or_supplied : (a : Answer) → LacksSupply t a → (r : WiredRecords) → AreWiredRecords t r → (grid : Grid) → IsGridOf r grid → (e : Extracted) → IsNetworkOver (base_of r) grid e → EachIsSupplied e.net → a ≡ Want
  unsupplied_or_supplied a x r reads grid wires e network supplied =
      let d : x.extracted ≡ e = same_network x.records r x.reads reads x.grid grid x.wires wires x.extracted e x.network network in
      absurd (stages.supplied_or_not e.net x.node supplied (subst (λ (z : Extracted). IsFirstUnsupplied z.net x.node) d x.first))
