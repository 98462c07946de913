-- The network as a half sees it.
use Rattle.std.proofs.Common.{◌≡◌, ℕ, ℤ, true, Option, Some, None, is_some}
use Rattle.grid_net.specs.Network.{Network, IsNetwork, pad_at}
use Rattle.bound_make.specs.declared.half.Half.{Half}
use Rattle.bound_make.specs.declared.half.Half.TheVariants.{High, Low}
use Rattle.bound_make.specs.inside.Half.{seen}
use Rattle.grid_net.specs.Laws.Mirror.{no_pad_in, no_pad_out}
use Rattle.grid_net.specs.Laws.Mirror.{mirror_network}

pub seen_network : (half : Half) (net : Network) → IsNetwork net → IsNetwork (seen half net)
seen_network High net wf = record { each_resistor = wf.each_resistor; each_load = wf.each_load }
seen_network Low net wf = mirror_network net wf

pub seen_no_pad : (half : Half) (net : Network) (i : ℕ) → pad_at net i ≡ None → pad_at (seen half net) i ≡ None
seen_no_pad High net i e = e
seen_no_pad Low net i e = no_pad_in net i e

pub unseen_no_pad : (half : Half) (net : Network) (i : ℕ) → pad_at (seen half net) i ≡ None → pad_at net i ≡ None
unseen_no_pad High net i e = e
unseen_no_pad Low net i e = no_pad_out net i e

pub some_is_not_none : (o : Option ℤ) → is_some o ≡ true → o ≡ None → ⊥
some_is_not_none None e none = cc
some_is_not_none (Some v) e none = cc
