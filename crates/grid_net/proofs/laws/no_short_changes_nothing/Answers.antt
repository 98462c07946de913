use Rattle.std.proofs.Common.{◌≡◌, ℤ, pos, ◌+ℤ◌, ◌∙◌, sym, arith}
use Rattle.std.proofs.lemmas.Int.{ints}
use Rattle.std.proofs.lemmas.List.Elements.{All-nil}
use Rattle.grid_net.specs.Network.{net_current}
use Rattle.grid_net.proofs.laws.no_short_changes_nothing.Goals as goal

nothing : (x : ℤ) → x +ℤ pos 0 ≡ x
nothing x = omega (arith, ints)

pub returns : goal.returns
returns a net q p c l s = (
  λ h. record { denominator = h.denominator; ohm = h.ohm; drawn = h.drawn; kirchhoff = λ i k none. sym (nothing (net_current net.resistors c i)) ∙ h.kirchhoff i k none; pads = h.pads },
  λ h. record { denominator = h.denominator; ohm = h.ohm; drawn = h.drawn; kirchhoff = λ i k none. nothing (net_current net.resistors c i) ∙ h.kirchhoff i k none; pads = h.pads; joined = All-nil _ },
)
