-- Which refusal of `extract` the refusals of its parts are.
use Rattle.std.proofs.Common.{◌≡◌, ◌⊎◌, inl, inr, ℕ, ◌<◌, ◌≤◌, min, List, Result, Ok, Err, Vec, Global, sym, subst, arith}
use Rattle.std.specs.Prelude.{MatchResult, IsErrAnd}
use Rattle.std.proofs.lemmas.Bool.{cases_lt}
use Rattle.lef_tech.specs.declared.tech.Tech.{Tech}
use Rattle.lef_cells.specs.declared.record.Cells.{Cells}
use Rattle.def_design.specs.declared.record.Design.{Design}
use Rattle.bias_file.specs.declared.record.Bias.{Bias}
use Rattle.grid_pieces.specs.declared.grid.Grid.{Grid}
use Rattle.grid_network.specs.declared.error.ExtractError.{ExtractError}
use Rattle.grid_network.specs.declared.error.ExtractError.TheVariants.{UnknownName, NoSupply, PadOff, LoadOff, Net, Want}
use Rattle.grid_network.specs.declared.extracted.Extracted.{Extracted}
use Rattle.grid_network.specs.declared.pad.PadOn.{PadOn}
use Rattle.grid_network.specs.declared.pad.Tap.{Tap}
use Rattle.grid_network.specs.Network.{IsNetworkOf, IsRefused}
use Rattle.grid_taps.specs.Naming.{NamesNoNet, NamesNoCell, NoneIs, IsLeast}
use Rattle.grid_taps.specs.Refusals.{LacksSupply, IsPadOff, PadsStand, ArePadsRefused, TapsStandWith, AreTapsRefusedWith}
use Rattle.grid_extract.specs.Extraction.{NamesNothing, AllStandWith, drawing_of, IsExtractedWith, IsNetRefusedWith, IsExtractRefusedWith}
use Rattle.grid_extract.specs.First.{earlier, first_of, first_with}

-- ## numbers with one of two properties

none_either : (P Q : ℕ → Type 0) → NoneIs P → NoneIs Q → (n : ℕ) → P n ⊎ Q n → ⊥
none_either P Q p q n (inl h) = p n h
none_either P Q p q n (inr h) = q n h

least_left : (P Q : ℕ → Type 0) (a : ℕ) → IsLeast P a → NoneIs Q → IsLeast (λ n. P n ⊎ Q n) a
least_left P Q a p q = record { is = inl p.is; least = λ m h. by_case m h }
  where
    by_case : (m : ℕ) → P m ⊎ Q m → a ≤ m
    by_case m (inl h) = p.least m h
    by_case m (inr h) = absurd (q m h)

least_right : (P Q : ℕ → Type 0) (b : ℕ) → NoneIs P → IsLeast Q b → IsLeast (λ n. P n ⊎ Q n) b
least_right P Q b p q = record { is = inr q.is; least = λ m h. by_case m h }
  where
    by_case : (m : ℕ) → P m ⊎ Q m → b ≤ m
    by_case m (inl h) = absurd (p m h)
    by_case m (inr h) = q.least m h

least_both : (P Q : ℕ → Type 0) (a b : ℕ) → IsLeast P a → IsLeast Q b → IsLeast (λ n. P n ⊎ Q n) (min a b)
least_both P Q a b p q = record { is = by_order (cases_lt a b); least = λ m h. by_case m h }
  where
    by_case : (m : ℕ) → P m ⊎ Q m → min a b ≤ m
    by_case m (inl h) = let low = p.least m h in omega arith
    by_case m (inr h) = let low = q.least m h in omega arith

    by_order : (a < b) ⊎ (b ≤ a) → P (min a b) ⊎ Q (min a b)
    by_order (inl less) = let same : a ≡ min a b = omega arith in inl (subst P same p.is)
    by_order (inr le) = let same : b ≡ min a b = omega arith in inr (subst Q same q.is)

-- What is off, and what all taps are.
module _ (IsOff : ℕ → Type 0) (AreLoads : List Tap → Type 0) where
  -- ## the pads are refused

  -- and an unknown name of a cell or instance line stands there too
  unknown_too : (grid : Grid) (tech : Tech) (cells : Cells) (design : Design) (bias : Bias) (error : ExtractError) (line : ℕ) → ArePadsRefused grid tech bias error
      → IsLeast (NamesNoCell cells design bias) line → IsExtractRefusedWith IsOff AreLoads grid tech cells design bias (earlier error line)
  unknown_too grid tech cells design bias (UnknownName first) line pads cell = least_both (NamesNoNet grid tech bias) (NamesNoCell cells design bias) first line pads cell
  unknown_too grid tech cells design bias (NoSupply net) line pads cell = least_right (NamesNoNet grid tech bias) (NamesNoCell cells design bias) line pads.0 cell
  unknown_too grid tech cells design bias (PadOff first) line pads cell = least_right (NamesNoNet grid tech bias) (NamesNoCell cells design bias) line pads.0 cell
  unknown_too grid tech cells design bias (LoadOff component) line pads cell = absurd pads
  unknown_too grid tech cells design bias (Net error) line pads cell = absurd pads
  unknown_too grid tech cells design bias Want line pads cell = tt

  -- and all cell and instance lines are known
  pads_alone : (grid : Grid) (tech : Tech) (cells : Cells) (design : Design) (bias : Bias) (error : ExtractError) → ArePadsRefused grid tech bias error
      → NoneIs (NamesNoCell cells design bias) → IsExtractRefusedWith IsOff AreLoads grid tech cells design bias error
  pads_alone grid tech cells design bias (UnknownName line) pads known = least_left (NamesNoNet grid tech bias) (NamesNoCell cells design bias) line pads known
  pads_alone grid tech cells design bias (NoSupply net) pads known = (none_either (NamesNoNet grid tech bias) (NamesNoCell cells design bias) pads.0 known, pads.1)
  pads_alone grid tech cells design bias (PadOff line) pads known = (none_either (NamesNoNet grid tech bias) (NamesNoCell cells design bias) pads.0 known, pads.1, pads.2)
  pads_alone grid tech cells design bias (LoadOff component) pads known = absurd pads
  pads_alone grid tech cells design bias (Net error) pads known = absurd pads
  pads_alone grid tech cells design bias Want pads known = tt

  two_refused : (grid : Grid) (tech : Tech) (cells : Cells) (design : Design) (bias : Bias) (error other : ExtractError) → ArePadsRefused grid tech bias error
      → AreTapsRefusedWith IsOff cells design bias other → IsExtractRefusedWith IsOff AreLoads grid tech cells design bias (first_of error other)
  two_refused grid tech cells design bias error (UnknownName line) pads taps = unknown_too grid tech cells design bias error line pads taps
  two_refused grid tech cells design bias error (NoSupply net) pads taps = absurd taps
  two_refused grid tech cells design bias error (PadOff line) pads taps = absurd taps
  two_refused grid tech cells design bias error (LoadOff component) pads taps = pads_alone grid tech cells design bias error pads taps.0
  two_refused grid tech cells design bias error (Net other) pads taps = absurd taps
  two_refused grid tech cells design bias error Want pads taps = tt

  pub pads_refused : (grid : Grid) (tech : Tech) (cells : Cells) (design : Design) (bias : Bias) (error : ExtractError) (r : Result (Vec Tap Global) ExtractError)
      → ArePadsRefused grid tech bias error → MatchResult r (λ taps. TapsStandWith IsOff AreLoads cells design bias taps.items) (AreTapsRefusedWith IsOff cells design bias)
      → IsExtractRefusedWith IsOff AreLoads grid tech cells design bias (first_with error r)
  pads_refused grid tech cells design bias error (Ok taps) pads h = pads_alone grid tech cells design bias error pads h.known
  pads_refused grid tech cells design bias error (Err other) pads h = two_refused grid tech cells design bias error other pads h

  -- ## the taps are refused, and the pads are not

  pub taps_refused : (grid : Grid) (tech : Tech) (cells : Cells) (design : Design) (bias : Bias) (pads : List PadOn) (error : ExtractError) → PadsStand grid tech bias pads
      → AreTapsRefusedWith IsOff cells design bias error → IsExtractRefusedWith IsOff AreLoads grid tech cells design bias error
  taps_refused grid tech cells design bias pads (UnknownName line) stand h = least_right (NamesNoNet grid tech bias) (NamesNoCell cells design bias) line stand.known h
  taps_refused grid tech cells design bias pads (NoSupply net) stand h = absurd h
  taps_refused grid tech cells design bias pads (PadOff line) stand h = absurd h
  taps_refused grid tech cells design bias pads (LoadOff component) stand h =
      (none_either (NamesNoNet grid tech bias) (NamesNoCell cells design bias) stand.known h.0, stand.supplied, stand.on_metal, h.1)
  taps_refused grid tech cells design bias pads (Net error) stand h = absurd h
  taps_refused grid tech cells design bias pads Want stand h = tt

  -- ## neither is refused

  pub all_stand : (grid : Grid) (tech : Tech) (cells : Cells) (design : Design) (bias : Bias) (pads : List PadOn) (taps : List Tap) → PadsStand grid tech bias pads
      → TapsStandWith IsOff AreLoads cells design bias taps → AllStandWith IsOff AreLoads grid tech cells design bias pads taps
  all_stand grid tech cells design bias pads taps p t = record {
    known = none_either (NamesNoNet grid tech bias) (NamesNoCell cells design bias) p.known t.known;
    supplied = p.supplied;
    on_metal = p.on_metal;
    loads_on = t.on_metal;
    pads_are = p.are;
    taps_are = t.are;
  }

  net_refused : (grid : Grid) (tech : Tech) (cells : Cells) (design : Design) (bias : Bias) (pads : List PadOn) (taps : List Tap) (error : ExtractError)
      → AllStandWith IsOff AreLoads grid tech cells design bias pads taps → IsRefused (drawing_of grid pads taps) tech error → IsExtractRefusedWith IsOff AreLoads grid tech cells design bias error
  net_refused grid tech cells design bias pads taps (UnknownName line) stand h = absurd h
  net_refused grid tech cells design bias pads taps (NoSupply net) stand h = absurd h
  net_refused grid tech cells design bias pads taps (PadOff line) stand h = absurd h
  net_refused grid tech cells design bias pads taps (LoadOff component) stand h = absurd h
  net_refused grid tech cells design bias pads taps (Net error) stand h = record { pads = pads; taps = taps; stand = stand; refused = h }
  net_refused grid tech cells design bias pads taps Want stand h = tt

  pub extracted : (grid : Grid) (tech : Tech) (cells : Cells) (design : Design) (bias : Bias) (pads : List PadOn) (taps : List Tap) (r : Result Extracted ExtractError)
      → AllStandWith IsOff AreLoads grid tech cells design bias pads taps
      → MatchResult r (IsNetworkOf (drawing_of grid pads taps) tech) (IsRefused (drawing_of grid pads taps) tech)
      → MatchResult r (IsExtractedWith IsOff AreLoads grid tech cells design bias) (IsExtractRefusedWith IsOff AreLoads grid tech cells design bias)
  extracted grid tech cells design bias pads taps (Ok e) stand h = record { pads = pads; taps = taps; stand = stand; network = h }
  extracted grid tech cells design bias pads taps (Err error) stand h = net_refused grid tech cells design bias pads taps error stand h

  -- a refusal that is handed on
  pub handed_on : (grid : Grid) (tech : Tech) (cells : Cells) (design : Design) (bias : Bias) (r : Result Extracted ExtractError) (error : ExtractError)
      → IsErrAnd r (λ e. e ≡ error) → IsExtractRefusedWith IsOff AreLoads grid tech cells design bias error
      → MatchResult r (IsExtractedWith IsOff AreLoads grid tech cells design bias) (IsExtractRefusedWith IsOff AreLoads grid tech cells design bias)
  handed_on grid tech cells design bias (Ok e) error is h = absurd is
  handed_on grid tech cells design bias (Err e) error is h = subst (λ (z : ExtractError). IsExtractRefusedWith IsOff AreLoads grid tech cells design bias z) (sym is) h
