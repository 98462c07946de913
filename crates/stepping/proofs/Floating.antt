-- The node that is named of the first capacitor that floats is one of the network.
use Rattle.std.proofs.Common.{◌≡◌, ℕ, ◌<◌, ◌≤◌, List, [], ◌∷◌, Option, Some, None, Bool, true, false, cond, ◌&&◌, ltb, min, refl, subst, arith}
use Rattle.std.proofs.lemmas.Bool.{ltb-true}
use Rattle.std.specs.Prelude.{int_le, is_none, not, pos, ◌==◌}
use Rattle.capacitors.specs.declared.Cap.{Cap}
use Rattle.capacitors.specs.declared.End.{End}
use Rattle.capacitors.specs.declared.End.TheVariants.{Node, Ground, Nowhere}
use Rattle.grid_net.specs.Network.{Network, pad_at}
use Rattle.grid_net.specs.Search.{or_else, first_of}
use Rattle.step_bounds.specs.Capacitors.{is_free, floats_between, floats_at, first_floating}

by_test : (n i j node : ℕ) (t : Bool) → i < n → cond t (Some (min i j)) None ≡ Some node → node < n
by_test n i j node true less e = let same : min i j ≡ node = cc in omega (arith, same, less)
by_test n i j node false less e = absurd cc

by_bound : (n i j node : ℕ) (s p f d : Bool) → ltb i n ≡ s → cond (((s && p) && f) && d) (Some (min i j)) None ≡ Some node → node < n
by_bound n i j node true p f d is e = by_test n i j node (((true && p) && f) && d) (ltb-true i n is) e
by_bound n i j node false p f d is e = absurd cc

between : (net : Network) (a b : End) (node : ℕ) → floats_between net a b ≡ Some node → node < net.nodes
between net (Node i) (Node j) node e = by_bound net.nodes i j node (ltb i net.nodes) (is_none (pad_at net i)) (is_free net j) (not (i == j)) refl e
between net (Node i) Ground node e = absurd cc
between net (Node i) Nowhere node e = absurd cc
between net Ground b node e = absurd cc
between net Nowhere b node e = absurd cc

at_node : (net : Network) (cap : Cap) (node : ℕ) (t : Bool) → cond t (floats_between net cap.a cap.b) None ≡ Some node → node < net.nodes
at_node net cap node true e = between net cap.a cap.b node e
at_node net cap node false e = absurd cc

first : (net : Network) (caps : List Cap) (node : ℕ) (o : Option ℕ) → ((n : ℕ) → o ≡ Some n → n < net.nodes) → ((n : ℕ) → first_of (floats_at net) caps ≡ Some n → n < net.nodes) → or_else o (first_of (floats_at net) caps) ≡ Some node → node < net.nodes
first net caps node (Some n) here rest e = here node e
first net caps node None here rest e = rest node e

pub is_node : (net : Network) (caps : List Cap) (node : ℕ) → first_floating net caps ≡ Some node → node < net.nodes
is_node net [] node e = absurd cc
is_node net (cap ∷ caps) node e = first net caps node (floats_at net cap) (λ n is. at_node net cap n (int_le (pos 1) cap.farads) is) (is_node net caps) e
