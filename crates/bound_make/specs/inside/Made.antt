-- The making of one list, on either side.
use Rattle.std.specs.Prelude.{◌≡◌, ℕ, ◌*◌, ◌^◌, ℤ, pos, neg_ℤ, ◌≤ℤ◌, List}
use Rattle.grid_net.specs.Network.{Network, entry_of}
use Rattle.bound_make.specs.declared.half.Half.{Half}
use Rattle.bound_make.specs.declared.half.Half.TheVariants.{High, Low}
use Rattle.bound_make.specs.Scale.{margin}
use Rattle.bound_make.specs.Certifier.{start_list}
use Rattle.bound_make.specs.inside.Raising.{ResistsAtMost, PadsWithin, IsSuppliedWithin, FitsLimits, IsHighAnswer}
use Rattle.bound_make.specs.inside.Mirror.{IsLowAnswer}
use Rattle.bound_make.specs.inside.Moving.{held_rule}

-- Numbers between which lists are made: no pad is outside of the two voltages, and the margin is the network's, for
-- levels and resistances that none of its own passes.
pub record IsRangeOf (net : Network) (bottom top : ℤ) (width : ℕ) : Type 0 where
  pub level : ℕ
  pub ohms : ℕ
  pub supplied : IsSuppliedWithin net level
  pub resists : ResistsAtMost net ohms
  pub pads : PadsWithin net bottom top
  pub width_is : width ≡ margin net level ohms
  pub fits : FitsLimits net level ohms bottom top

-- Numbers of a size with which starts are made.
pub record HasRoom (bottom top width : ℤ) : Type 0 where
  pub least : neg_ℤ (pos (10 ^ 25)) ≤ℤ bottom
  pub order : bottom ≤ℤ top
  pub most : top ≤ℤ pos (10 ^ 25)
  pub width_least : pos 0 ≤ℤ width
  pub width_most : width ≤ℤ pos (3 * 10 ^ 36)

-- A list that was made from the start of a proposal, on either side.
abbrev pub IsMade : Half → Network → ℤ → ℤ → ℕ → List ℤ → List ℤ → Type 0
IsMade High net bottom top width proposal x =
    IsHighAnswer held_rule net bottom top width (entry_of (start_list net bottom top width proposal)) (entry_of x)
IsMade Low net bottom top width proposal x =
    IsLowAnswer held_rule net bottom top width (entry_of (start_list net bottom top width proposal)) (entry_of x)
