-- Each pad of a node holds it at its voltage, where none differ.
use Rattle.std.proofs.Common.{◌≡◌, ℕ, ◌<◌, ℤ, pos, ◌*ℤ◌, sym, ap, ◌∙◌, get_or, All}
use Rattle.grid_net.specs.declared.part.Pad.{Pad}
use Rattle.grid_net.specs.Network.{Network}
use Rattle.grid_net.specs.Building.{PadsAgree}
use Rattle.grid_net.specs.Solution.{IsSolution}
use Rattle.grid_net.specs.Laws.Pads.{pad_is_first, first_is_of_list}

pub each_pad : (net : Network) (q : ℕ) (p c l : ℕ → ℤ) → PadsAgree net.pads → All (λ (pad : Pad). pad.node < net.nodes) net.pads
    → IsSolution net q p c l → All (λ (pad : Pad). p pad.node ≡ pos q *ℤ pad.volts) net.pads
each_pad net q p c l agree on_nodes sol k d m =
    let pad = get_or net.pads k d in
    let first = pad_is_first net.pads k d m in
    let of_list = first_is_of_list (λ (other : Pad). pad.node ≡ other.node → pad.volts ≡ other.volts) net.pads pad.node first.0
    (agree k d m) first.1 in
    let same : pad.volts ≡ first.0 = of_list.3 (sym of_list.1) ∙ of_list.2 in
    sol.pads pad.node first.0 (on_nodes k d m) first.1 ∙ ap (λ v. pos q *ℤ v) (sym same)
