-- The two lists that are made are a tight certificate, lie in their ranges, and stand to the starts as told.
use Rattle.std.proofs.Common.{refl, IfSome, ◌≡◌, ℕ, ◌<◌, ℤ, sym, subst, List, length, Option, Some, None}
use Rattle.std.proofs.lemmas.List.FromFn.{length-map-range_with_len}
use Rattle.rounding.specs.Rounding.{floor_div}
use Rattle.grid_net.specs.Network.{Network, IsNetwork, entry_of, pad_at}
use Rattle.grid_net.specs.Certificate.{flow_limit, IsHighHalf, IsLowHalf, IsCertificate, IsTight}
use Rattle.bound_make.specs.declared.half.Half.{Half}
use Rattle.bound_make.specs.declared.half.Half.TheVariants.{High, Low}
use Rattle.bound_make.specs.inside.Raising.{IsTightAbove, IsHighAnswer}
use Rattle.bound_make.specs.Scale.{flow_reach}
use Rattle.bound_make.specs.inside.Mirror.{IsTightBelow, IsLowAnswer}
use Rattle.bound_make.specs.inside.Moving.{held_rule}
use Rattle.bound_make.specs.Scale.{Scale, scale_width}
use Rattle.bound_make.specs.inside.Made.{IsRangeOf, IsMade}
use Rattle.bound_make.specs.Certifier.{start_value}
use Rattle.bound_make.specs.Certifier.{LieInRange, StandTo, MadeOfTold, start_in}
use Rattle.bound_make.proofs.Halves.{high_is_half, low_is_half, tight_from_sides, tight_above, tight_below, reach_in_limit, span_in_limit}
use Rattle.bound_make.proofs.Answer.{holds_when_held, tight_when_held, low_holds_when_held, low_tight_when_held}
use Rattle.bound_make.proofs.Made.{same_list}

-- Two lists that are made of two proposals, by the numbers of a scale.
pub record AreMade (net : Network) (s : Scale) (x w high low : List ℤ) : Type 0 where
  pub wf : IsNetwork net
  pub range : IsRangeOf net s.bottom s.top (scale_width net s)
  pub high_size : length high ≡ net.nodes
  pub low_size : length low ≡ net.nodes
  pub of_high : IsMade High net s.bottom s.top (scale_width net s) x high
  pub of_low : IsMade Low net s.bottom s.top (scale_width net s) w low

module _ (net : Network) (s : Scale) (x w high low : List ℤ) (made : AreMade net s x w high low) where
  abbrev X : ℕ → ℤ
  X = entry_of (start_in net s x)

  abbrev W : ℕ → ℤ
  W = entry_of (start_in net s w)

  high_made : IsHighHalf net (entry_of high) × IsTightAbove floor_div net (entry_of high)
  high_made = high_is_half net made.wf made.range.level made.range.ohms s.bottom s.top made.range.fits made.range.pads X (entry_of high)
      (subst (λ (n : ℕ). IsHighAnswer held_rule net s.bottom s.top n X (entry_of high)) made.range.width_is made.of_high)

  low_made : IsLowHalf net (entry_of low) × IsTightBelow floor_div net (entry_of low)
  low_made = low_is_half net made.wf made.range.level made.range.ohms s.bottom s.top made.range.fits made.range.pads W (entry_of low)
      (subst (λ (n : ℕ). IsLowAnswer held_rule net s.bottom s.top n W (entry_of low)) made.range.width_is made.of_low)

  pub certificate_made : IsCertificate net high low
  certificate_made = record { high_half = high_made.0; low_half = low_made.0 }

  pub tight_made : IsTight net high low
  tight_made = tight_from_sides net high low high_made.1 low_made.1

  pub ranges_made : LieInRange net s high low
  ranges_made = record { high_least = made.of_high.at_least; high_most = made.of_high.at_most; low_least = made.of_low.at_least; low_most = made.of_low.at_most }

  reach : flow_reach net < flow_limit
  reach = reach_in_limit net made.wf made.range.level made.range.ohms s.bottom s.top made.range.fits made.range.pads

  start_size : (p : List ℤ) → length (start_in net s p) ≡ net.nodes
  start_size p = length-map-range_with_len (λ j. start_value s.bottom s.top (scale_width net s) (entry_of p j) (pad_at net j)) 0 net.nodes

  pub stands : StandTo net s x w high low
  stands = record {
    kept = λ cert tight.
        (let span = span_in_limit net made.wf made.range.level made.range.ohms s.bottom s.top made.range.fits made.range.pads in
        let a = tight_when_held net made.wf flow_limit X s.bottom s.top made.range.pads reach span cert.high_half.holds (tight_above net (start_in net s x) (start_in net s w) tight) in
        let b = low_tight_when_held net made.wf flow_limit W s.bottom s.top made.range.pads reach span cert.low_half.holds (tight_below net (start_in net s x) (start_in net s w) tight) in
        (same_list net.nodes high (start_in net s x) made.high_size (start_size x) (made.of_high.the_start a.0 a.1), same_list net.nodes low (start_in net s w) made.low_size (start_size w) (made.of_low.the_start b.0 b.1)));
    not_above = λ half. made.of_high.not_above (holds_when_held net made.wf flow_limit X half.flows half.holds);
    not_below = λ half. made.of_low.not_below (low_holds_when_held net made.wf flow_limit W half.flows half.holds);
  }

-- Where the lists are told, they are the proposals.
pub told_made : (net : Network) (s : Scale) (told : Option (List ℤ × List ℤ)) (x w high low : List ℤ) → StandTo net s x w high low
    → ((t : List ℤ × List ℤ) → told ≡ Some t → length t.0 ≡ net.nodes → length t.1 ≡ net.nodes → (x ≡ t.0) × (w ≡ t.1)) → MadeOfTold net s told high low
told_made net s None x w high low stand is = tt
told_made net s (Some t) x w high low stand is = λ a b. (let e = is t refl a b in subst (λ (u : List ℤ). StandTo net s u t.1 high low) e.0 (subst (λ (u : List ℤ). StandTo net s x u high low) e.1 stand))

-- What is made by numbers that are those of a scale.
pub at_scale : (half : Half) (net : Network) (s : Scale) (p x : List ℤ) (bottom top : ℤ) (w : ℕ) → s.bottom ≡ bottom → s.top ≡ top → scale_width net s ≡ w → IsMade half net bottom top w p x → IsMade half net s.bottom s.top (scale_width net s) p x
at_scale half net s p x bottom top w a b c made =
    subst (λ (n : ℕ). IsMade half net s.bottom s.top n p x) (sym c) (subst (λ (z : ℤ). IsMade half net s.bottom z w p x) (sym b) (subst (λ (z : ℤ). IsMade half net z top w p x) (sym a) made))

-- What holds of an answer, if there is one, holds of the answer that is there.
pub if_some_is : (o : Option (List ℤ × List ℤ)) (P : List ℤ × List ℤ → Type 0) (t : List ℤ × List ℤ) → IfSome o P → o ≡ Some t → P t
if_some_is None P t h e = absurd (let f : ◌≡◌ {A = Option (List ℤ × List ℤ)} None (Some t) = e in cc)
if_some_is (Some u) P t h e = let same : u ≡ t = cc in subst P same h
