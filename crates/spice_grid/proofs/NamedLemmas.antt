-- The lists that a network is built of, as the cards have them.
use Rattle.std.proofs.Common.{◌≡◌, ℕ, ◌<◌, inl, inr, List, Some, length, map, get_or, slice_get, IsPermutation, sym, ap, ◌∙◌}
use Rattle.std.specs.Prelude.{EachIndex}
use Rattle.std.proofs.lemmas.List.Sorted.{length_permutation}
use Rattle.name_table.specs.ByteOrder.{IsInByteOrder}
use Rattle.grid_net.specs.declared.part.Resistor.{Resistor}
use Rattle.grid_net.specs.declared.part.Pad.{Pad}
use Rattle.grid_net.specs.declared.part.Load.{Load}
use Rattle.grid_net.specs.declared.error.NetError.{NetError}
use Rattle.grid_net.specs.declared.error.NetError.TheVariants as net
use Rattle.grid_net.specs.Building.{network_of, first_net_refusal, BuildFails}
use Rattle.spice_cards.specs.declared.record.Cards.{Cards}
use Rattle.spice_cards.specs.Record.{AreNumbered}
use Rattle.spice_grid.specs.declared.error.NetRefusal.{NetRefusal}
use Rattle.spice_grid.specs.declared.error.NetRefusal.TheVariants.{Range, PadConflict}
use Rattle.spice_grid.specs.declared.error.SpiceKind.{SpiceKind}
use Rattle.spice_grid.specs.declared.error.SpiceKind.TheVariants as kinds
use Rattle.spice_grid.specs.Place.{placed_resistor, placed_short, placed_pad, placed_load}
use Rattle.spice_grid.specs.Named.{IsOrderOf, place_in, all_pads, network_in, refusal_in, IsRefusedFor, RefusesCards}
use Rattle.spice_grid.specs.inside.Named.{IsToldAs}
use Rattle.spice_grid.proofs.PlaceLemmas.{place_told, resistors_alike, shorts_alike, pads_alike, loads_alike, pads_within}

-- The lists of the cards, where names stand in this order.
pub record AreListsOf (cards : Cards) (ordered : List (List ℕ)) (nodes : ℕ) (resistors : List Resistor) (pads : List Pad) (loads : List Load) : Type 0 where
  pub nodes_are : nodes ≡ length ordered
  pub resistors_are : resistors ≡ map (placed_resistor (place_in cards.names ordered)) cards.resistors.items
  pub pads_are : pads ≡ map (placed_pad (place_in cards.names ordered)) (all_pads cards)
  pub loads_are : loads ≡ map (placed_load (place_in cards.names ordered)) cards.loads.items

-- What a table of names tells of their order: `told` is the place of each number, and `read` is it too.
pub record Orders (cards : Cards) (ordered : List (List ℕ)) (told read : List ℕ) : Type 0 where
  pub numbered : AreNumbered cards
  pub order : IsInByteOrder ordered
  pub same_names : IsPermutation cards.names ordered
  pub each : EachIndex cards.names (λ n. slice_get ordered (get_or told n 0) ≡ slice_get cards.names n)
  pub same : read ≡ told

pub is_order : (cards : Cards) (ordered : List (List ℕ)) (told read : List ℕ) → Orders cards ordered told read → IsOrderOf cards.names ordered
is_order cards ordered told read o = record { same_names = o.same_names; in_byte_order = o.order }

placed : (cards : Cards) (ordered : List (List ℕ)) (told read : List ℕ) → Orders cards ordered told read → (n : ℕ) → n < length cards.names → get_or read n 0 ≡ place_in cards.names ordered n
placed cards ordered told read o n h = ap (λ l. get_or l n 0) o.same ∙ place_told cards.names ordered told o.order o.each n h

pub gathered : (cards : Cards) (ordered : List (List ℕ)) (told read : List ℕ) (nodes : ℕ) (rs : List Resistor) (before ps : List Pad) (ls : List Load) → Orders cards ordered told read → nodes ≡ length cards.names
    → rs ≡ map (placed_resistor (λ n. get_or read n 0)) cards.resistors.items → before ≡ all_pads cards → ps ≡ map (placed_pad (λ n. get_or read n 0)) before
    → ls ≡ map (placed_load (λ n. get_or read n 0)) cards.loads.items → AreListsOf cards ordered nodes rs ps ls
gathered cards ordered told read nodes rs before ps ls o count r b p l =
    let same = placed cards ordered told read o in
    let names = cards.names in
    let f : ℕ → ℕ = λ n. get_or read n 0 in
    let g : ℕ → ℕ = place_in names ordered in
    record {
      nodes_are = count ∙ sym (length_permutation names ordered o.same_names);
      resistors_are = r ∙ resistors_alike (length names) f g same cards.resistors.items o.numbered.resistors;
      pads_are = p ∙ ap (map (placed_pad f)) b ∙ pads_alike (length names) f g same (all_pads cards) (pads_within names cards.pads.items o.numbered.pads);
      loads_are = l ∙ loads_alike (length names) f g same cards.loads.items o.numbered.loads;
    }

pub shorts_gathered : (cards : Cards) (ordered : List (List ℕ)) (told read : List ℕ) (ss : List (ℕ × ℕ)) → Orders cards ordered told read
    → ss ≡ map (placed_short (λ n. get_or read n 0)) cards.shorts.items → ss ≡ map (placed_short (place_in cards.names ordered)) cards.shorts.items
shorts_gathered cards ordered told read ss o s =
    s ∙ shorts_alike (length cards.names) (λ n. get_or read n 0) (place_in cards.names ordered) (placed cards ordered told read o) cards.shorts.items o.numbered.shorts

-- Want of memory is no refusal of lists.
no_want : (names : List (List ℕ)) (e : NetError) → e ≡ net.Want → (refusal : NetRefusal) → IsRefusedFor names (Some e) refusal → ⊥
no_want names e is (Range quantity at number) told = cc
no_want names e is (PadConflict node first second) told = let k = told.2 in cc

module _ (cards : Cards) (ordered : List (List ℕ)) (nodes : ℕ) (rs : List Resistor) (ps : List Pad) (ls : List Load) (are : AreListsOf cards ordered nodes rs ps ls) where
  pub network_is : network_of nodes rs ps ls ≡ network_in cards ordered
  network_is = λ i. network_of (are.nodes_are i) (are.resistors_are i) (are.pads_are i) (are.loads_are i)

  pub refusal_is : first_net_refusal nodes rs ps ls ≡ refusal_in cards ordered
  refusal_is = λ i. first_net_refusal (are.nodes_are i) (are.resistors_are i) (are.pads_are i) (are.loads_are i)

  -- What refuses the lists, and how it is told.
  told_found : IsOrderOf cards.names ordered → (e : NetError) → first_net_refusal nodes rs ps ls ≡ Some e → (refusal : NetRefusal) → IsRefusedFor ordered (Some e) refusal
      → IsRefusedFor ordered (refusal_in cards ordered) refusal
  told_found order e h (Range quantity at number) told = sym refusal_is ∙ h ∙ told
  told_found order e h (PadConflict node first second) told = (told.0, told.1, sym refusal_is ∙ h ∙ told.2)

  pub refuses : IsOrderOf cards.names ordered → (e : NetError) → BuildFails nodes rs ps ls e → (kind : SpiceKind) → IsToldAs ordered e kind → RefusesCards cards kind
  refuses order e (inl h) (kinds.Net refusal) told = (ordered, order, told_found order e h refusal told)
  refuses order e (inr h) (kinds.Net refusal) told = absurd (no_want ordered e h.0 refusal told)
  refuses order e h kinds.Want told = tt
  refuses order e h kind told = absurd told
