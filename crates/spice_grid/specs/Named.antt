-- The network of a netlist's cards, with its nodes in the byte order of their names.
use Rattle.std.specs.Prelude.{◌≡◌, ℕ, pos, List, [], ◌++◌, length, map, codes, IsPermutation, Option, Some, position, slice_get, slice_index_or}
use Rattle.std.specs.List.{position_or_len}
use Rattle.std.specs.Option.{option_map, option_to_list}
use Rattle.std.specs.Str.{bytes_eq}
use Rattle.entry_list.specs.InTurn.{InTurn}
use Rattle.name_table.specs.ByteOrder.{IsInByteOrder}
use Rattle.grid_net.specs.declared.part.Pad.{Pad}
use Rattle.grid_net.specs.declared.error.NetError.{NetError}
use Rattle.grid_net.specs.declared.error.NetError.TheVariants as net
use Rattle.grid_net.specs.Network.{Network}
use Rattle.grid_net.specs.Building.{network_of, first_net_refusal}
use Rattle.spice_cards.specs.declared.record.Cards.{Cards}
use Rattle.spice_grid.specs.declared.error.NetRefusal.{NetRefusal}
use Rattle.spice_grid.specs.declared.error.NetRefusal.TheVariants.{Range, PadConflict}
use Rattle.spice_grid.specs.declared.error.SpiceKind.{SpiceKind}
use Rattle.spice_grid.specs.declared.error.SpiceKind.TheVariants.{Net, Want}
use Rattle.spice_grid.specs.declared.named.Named.{Named}
use Rattle.spice_grid.specs.Caps.{IsNumbered}
use Rattle.spice_grid.specs.Place.{placed_resistor, placed_short, placed_pad, placed_load}

-- The same names in byte order.
pub record IsOrderOf (names ordered : List (List ℕ)) : Type 0 where
  pub same_names : IsPermutation names ordered
  pub in_byte_order : IsInByteOrder ordered

-- The place in the order of the name that has this number.
abbrev pub place_in : List (List ℕ) → List (List ℕ) → ℕ → ℕ
place_in names ordered number = position_or_len (bytes_eq (slice_index_or names number [])) ordered

-- Ground, to which sources stand, is the node `0`.
abbrev pub ground : List ℕ
ground = codes "0"

-- Where ground is among the names, it is a pad at 0 V by itself.
abbrev pub ground_pads : List (List ℕ) → List Pad
ground_pads names = option_to_list (option_map (λ number. record { node = number; volts = pos 0 }) (position (bytes_eq ground) names))

-- The pads of the cards, in their order, and that of ground after them.
abbrev pub all_pads : Cards → List Pad
all_pads cards = cards.pads.items ++ ground_pads cards.names

-- The network of the cards, where names stand in this order: each entry keeps its place in its list, and a node's
-- number is the place of its name.
abbrev pub network_in : Cards → List (List ℕ) → Network
network_in cards ordered =
    let place = place_in cards.names ordered in
    network_of (length ordered) (map (placed_resistor place) cards.resistors.items) (map (placed_pad place) (all_pads cards))
    (map (placed_load place) cards.loads.items)

-- What refuses the same lists.
abbrev pub refusal_in : Cards → List (List ℕ) → Option NetError
refusal_in cards ordered =
    let place = place_in cards.names ordered in
    first_net_refusal (length ordered) (map (placed_resistor place) cards.resistors.items) (map (placed_pad place) (all_pads cards))
    (map (placed_load place) cards.loads.items)

-- The cards with their nodes in byte order: the names, the network, and the shorts and capacitors in the order of the cards.
pub record IsNamed (cards : Cards) (named : Named) : Type 0 where
  pub order : IsOrderOf cards.names named.names
  pub network : named.net ≡ network_in cards named.names
  pub shorts : named.shorts ≡ map (placed_short (place_in cards.names named.names)) cards.shorts.items
  pub caps : InTurn (IsNumbered named.names) cards.caps.items named.caps

-- What refuses a network tells so, where its nodes have these names: a quantity with its place and number, or the name of a
-- node and the voltages of its two pads that differ.
abbrev pub IsRefusedFor : List (List ℕ) → Option NetError → NetRefusal → Type 0
IsRefusedFor names found (Range quantity at number) = found ≡ Some (net.Range quantity at number)
IsRefusedFor names found (PadConflict node first second) =
    (number : ℕ) × (slice_get names number ≡ Some node) × (found ≡ Some (net.PadConflict number first second))

-- Why the cards make no network; want of memory aside.
abbrev pub RefusesCards : Cards → SpiceKind → Type 0
RefusesCards cards (Net refusal) =
    (names : List (List ℕ)) × IsOrderOf cards.names names × IsRefusedFor names (refusal_in cards names) refusal
RefusesCards cards Want = Unit {0}
RefusesCards cards _ = ⊥
