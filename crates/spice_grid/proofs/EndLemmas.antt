-- The ends of capacitors, looked up in a table of names whose places are told.
use Rattle.std.proofs.Common.{◌≡◌, ℕ, Bool, true, false, if◌then◌else◌, List, [], ◌∷◌, Option, None, Some, map, get_or, slice_get, position, refl, sym, ◌∙◌}
use Rattle.std.specs.Prelude.{EachIndex, IsPermutation}
use Rattle.std.specs.Str.{bytes_eq}
use Rattle.std.proofs.lemmas.List.Sorted.{Contains-permutation, IsPermutation-sym}
use Rattle.std.proofs.lemmas.Option.{slice_get_within}
use Rattle.capacitors.specs.declared.End.TheVariants.{Ground}
use Rattle.entry_list.specs.InTurn.{InTurn}
use Rattle.node_names.specs.Folding.{folded}
use Rattle.spice_cards.specs.declared.record.Capacitor.{Capacitor}
use Rattle.spice_cards.specs.Card.{is_ground}
use Rattle.spice_grid.specs.Caps.{IsEnd, IsNumbered}
use Rattle.spice_grid.specs.inside.Caps.{numbered_end, named_end, named_cap}
use Rattle.spice_grid.proofs.OrderLemmas.{is_there, position_is}

none_some : (k : ℕ) → ◌≡◌ {A = Option ℕ} None (Some k) → ⊥
none_some k h = cc

module _ (names ordered : List (List ℕ)) (places : List ℕ) (same : IsPermutation names ordered)
    (each : EachIndex names (λ n. slice_get ordered (get_or places n 0) ≡ slice_get names n)) where
  end_by : (name : List ℕ) (ground : Bool) (found : Option ℕ) → is_ground name ≡ ground → position (bytes_eq (folded name)) names ≡ found →
      IsEnd ordered name (if ground then Ground else numbered_end places found)
  end_by name true found e f = e
  end_by name false (Some n) e f =
      let there = is_there (folded name) names n f in
      (e, each n (slice_get_within names n (folded name) there) ∙ there)
  end_by name false None e f =
      (e, λ k. none_some _ (sym f ∙ position_is (folded name) names (Contains-permutation ordered names (folded name) (IsPermutation-sym names ordered same) k)))

  end_is : (name : List ℕ) → IsEnd ordered name (named_end names places name)
  end_is name = end_by name (is_ground name) (position (bytes_eq (folded name)) names) refl refl

  pub caps_numbered : (read : List Capacitor) → InTurn (IsNumbered ordered) read (map (named_cap names places) read)
  caps_numbered [] = tt
  caps_numbered (one ∷ read) = (record { a = end_is one.a.now; b = end_is one.b.now; farads = refl }, caps_numbered read)
