-- A drawn grid, a design and a bias file have one network or one refusal.
use Rattle.std.proofs.Common.{◌≡◌, ◌≢◌, ℕ, List, refl, subst, ap, arith}
use Rattle.lef_tech.specs.declared.tech.Tech.{Tech}
use Rattle.lef_cells.specs.declared.record.Cells.{Cells}
use Rattle.def_design.specs.declared.record.Design.{Design}
use Rattle.bias_file.specs.declared.record.Bias.{Bias}
use Rattle.grid_pieces.specs.declared.grid.Grid.{Grid}
use Rattle.grid_net.specs.declared.error.NetError.{NetError}
use Rattle.grid_network.specs.declared.error.ExtractError.{ExtractError}
use Rattle.grid_network.specs.declared.error.ExtractError.TheVariants.{UnknownName, NoSupply, PadOff, LoadOff, Net, Want}
use Rattle.grid_network.specs.declared.extracted.Extracted.{Extracted}
use Rattle.grid_network.specs.declared.pad.PadOn.{PadOn}
use Rattle.grid_network.specs.declared.pad.Tap.{Tap}
use Rattle.grid_network.specs.Drawing.{Drawing}
use Rattle.grid_network.specs.Network.{IsNetworkOf, IsRefused}
use Rattle.grid_extract.specs.Extraction.{drawing_of, AllStandWith, IsExtractedWith, IsNetRefusedWith, IsExtractRefusedWith}
use Rattle.one_network.specs.Laws.Lists.{least_one}
use Rattle.one_network.specs.Laws.Tapped.{pads_one}
use Rattle.one_network.specs.Laws.Refused.{net_refusal_one}

-- What is off, and what all load taps are, of which there is one list.
module _ (IsOff : ℕ → Type 0) (AreLoads : List Tap → Type 0) (loads_one : (a b : List Tap) → AreLoads a → AreLoads b → a ≡ b)
    (grid : Grid) (tech : Tech) (cells : Cells) (design : Design) (bias : Bias) where
  -- the grid with its pads and taps is one drawing
  one_drawing : (pads pads' : List PadOn) (taps taps' : List Tap) → AllStandWith IsOff AreLoads grid tech cells design bias pads taps
      → AllStandWith IsOff AreLoads grid tech cells design bias pads' taps' → drawing_of grid pads taps ≡ drawing_of grid pads' taps'
  one_drawing pads pads' taps taps' p q =
      let e = pads_one grid tech bias pads pads' p.pads_are q.pads_are in
      let f = loads_one taps taps' p.taps_are q.taps_are in
      λ i. drawing_of grid (e i) (f i)

  pub network_one : ((d : Drawing) (tech : Tech) (a b : Extracted) → IsNetworkOf d tech a → IsNetworkOf d tech b → a ≡ b) → (a b : Extracted)
      → IsExtractedWith IsOff AreLoads grid tech cells design bias a → IsExtractedWith IsOff AreLoads grid tech cells design bias b → a ≡ b
  network_one one a b p q =
      let same = one_drawing p.pads q.pads p.taps q.taps p.stand q.stand in
      one (drawing_of grid q.pads q.taps) tech a b (subst (λ (d : Drawing). IsNetworkOf d tech a) same p.network) q.network

  pub not_refused : ((d : Drawing) (tech : Tech) (a : Extracted) (error : NetError) → IsNetworkOf d tech a → IsRefused d tech (Net error) → ⊥) → (a : Extracted)
      (error : ExtractError) → IsExtractedWith IsOff AreLoads grid tech cells design bias a → IsExtractRefusedWith IsOff AreLoads grid tech cells design bias error → error ≡ Want
  not_refused never a (UnknownName line) p refused = absurd (p.stand.known line refused.is)
  not_refused never a (NoSupply net) p refused = absurd (p.stand.supplied net refused.1.is)
  not_refused never a (PadOff line) p refused = absurd (p.stand.on_metal line refused.2.is)
  not_refused never a (LoadOff component) p refused = absurd (p.stand.loads_on component refused.3.is)
  not_refused never a (Net error) p refused =
      let same = one_drawing p.pads refused.pads p.taps refused.taps p.stand refused.stand in
      absurd (never (drawing_of grid refused.pads refused.taps) tech a error (subst (λ (d : Drawing). IsNetworkOf d tech a) same p.network) refused.refused)
  not_refused never a Want p refused = refl

  -- the network of the grid is refused in one way
  net_one : (a b : NetError) → IsNetRefusedWith IsOff AreLoads grid tech cells design bias (Net a) → IsNetRefusedWith IsOff AreLoads grid tech cells design bias (Net b) → a ≡ b
  net_one a b p q =
      let same = one_drawing p.pads q.pads p.taps q.taps p.stand q.stand in
      net_refusal_one (drawing_of grid q.pads q.taps) tech a b (subst (λ (d : Drawing). IsRefused d tech (Net a)) same p.refused) q.refused

  pub refusal_one : (a b : ExtractError) → IsExtractRefusedWith IsOff AreLoads grid tech cells design bias a → IsExtractRefusedWith IsOff AreLoads grid tech cells design bias b → a ≢ Want → b ≢ Want → a ≡ b
  refusal_one Want b p q some some' = absurd (some refl)
  refusal_one (UnknownName m) (UnknownName n) p q _ _ = ap (λ k. UnknownName k) (least_one _ m n p q)
  refusal_one (UnknownName m) (NoSupply n) p q _ _ = absurd (q.0 m p.is)
  refusal_one (UnknownName m) (PadOff n) p q _ _ = absurd (q.0 m p.is)
  refusal_one (UnknownName m) (LoadOff n) p q _ _ = absurd (q.0 m p.is)
  refusal_one (UnknownName m) (Net e) p q _ _ = absurd (q.stand.known m p.is)
  refusal_one (NoSupply m) (UnknownName n) p q _ _ = absurd (p.0 n q.is)
  refusal_one (NoSupply m) (NoSupply n) p q _ _ = ap (λ k. NoSupply k) (least_one _ m n p.1 q.1)
  refusal_one (NoSupply m) (PadOff n) p q _ _ = absurd (q.1 m p.1.is)
  refusal_one (NoSupply m) (LoadOff n) p q _ _ = absurd (q.1 m p.1.is)
  refusal_one (NoSupply m) (Net e) p q _ _ = absurd (q.stand.supplied m p.1.is)
  refusal_one (PadOff m) (UnknownName n) p q _ _ = absurd (p.0 n q.is)
  refusal_one (PadOff m) (NoSupply n) p q _ _ = absurd (p.1 n q.1.is)
  refusal_one (PadOff m) (PadOff n) p q _ _ = ap (λ k. PadOff k) (least_one _ m n p.2 q.2)
  refusal_one (PadOff m) (LoadOff n) p q _ _ = absurd (q.2 m p.2.is)
  refusal_one (PadOff m) (Net e) p q _ _ = absurd (q.stand.on_metal m p.2.is)
  refusal_one (LoadOff m) (UnknownName n) p q _ _ = absurd (p.0 n q.is)
  refusal_one (LoadOff m) (NoSupply n) p q _ _ = absurd (p.1 n q.1.is)
  refusal_one (LoadOff m) (PadOff n) p q _ _ = absurd (p.2 n q.2.is)
  refusal_one (LoadOff m) (LoadOff n) p q _ _ = ap (λ k. LoadOff k) (least_one _ m n p.3 q.3)
  refusal_one (LoadOff m) (Net e) p q _ _ = absurd (q.stand.loads_on m p.3.is)
  refusal_one (Net e) (UnknownName n) p q _ _ = absurd (p.stand.known n q.is)
  refusal_one (Net e) (NoSupply n) p q _ _ = absurd (p.stand.supplied n q.1.is)
  refusal_one (Net e) (PadOff n) p q _ _ = absurd (p.stand.on_metal n q.2.is)
  refusal_one (Net e) (LoadOff n) p q _ _ = absurd (p.stand.loads_on n q.3.is)
  refusal_one (Net e) (Net f) p q _ _ = ap (λ z. Net z) (net_one e f p q)
  refusal_one a Want p q some some' = absurd (some' refl)
