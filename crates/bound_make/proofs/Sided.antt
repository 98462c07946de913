-- Each list that is made, by itself.
use Rattle.std.proofs.Common.{ℕ, ℤ, subst, List}
use Rattle.rounding.specs.Rounding.{floor_div}
use Rattle.grid_net.specs.Network.{Network, IsNetwork, entry_of}
use Rattle.bound_make.specs.declared.half.Half.TheVariants.{High, Low}
use Rattle.bound_make.specs.inside.Raising.{IsTightAbove, IsHighAnswer}
use Rattle.bound_make.specs.inside.Mirror.{IsTightBelow, IsLowAnswer}
use Rattle.bound_make.specs.inside.Moving.{held_rule}
use Rattle.bound_make.specs.Scale.{Scale, scale_width}
use Rattle.bound_make.specs.inside.Made.{IsRangeOf, IsMade}
use Rattle.bound_make.specs.Certifier.{start_in}
use Rattle.bound_make.specs.Halves.{IsTightHigh, IsTightLow}
use Rattle.bound_make.proofs.Halves.{high_is_half, low_is_half}

pub high_made : (net : Network) (s : Scale) (p x : List ℤ) → IsNetwork net → IsRangeOf net s.bottom s.top (scale_width net s)
    → IsMade High net s.bottom s.top (scale_width net s) p x → IsTightHigh net (entry_of x)
high_made net s p x wf range made =
    let both = high_is_half net wf range.level range.ohms s.bottom s.top range.fits range.pads (entry_of (start_in net s p)) (entry_of x)
    (subst (λ (n : ℕ). IsHighAnswer held_rule net s.bottom s.top n (entry_of (start_in net s p)) (entry_of x)) range.width_is made) in
    record { half = both.0; tight = record { pads = both.1.pads; sums = both.1.sums } }

pub low_made : (net : Network) (s : Scale) (p x : List ℤ) → IsNetwork net → IsRangeOf net s.bottom s.top (scale_width net s)
    → IsMade Low net s.bottom s.top (scale_width net s) p x → IsTightLow net (entry_of x)
low_made net s p x wf range made =
    let both = low_is_half net wf range.level range.ohms s.bottom s.top range.fits range.pads (entry_of (start_in net s p)) (entry_of x)
    (subst (λ (n : ℕ). IsLowAnswer held_rule net s.bottom s.top n (entry_of (start_in net s p)) (entry_of x)) range.width_is made) in
    record { half = both.0; tight = record { pads = both.1.pads; sums = both.1.sums } }
