-- Lists of entries whose nodes get the places of their names.
use Rattle.std.proofs.Common.{◌≡◌, ℕ, zero, suc, ◌+◌, ◌<◌, ◌≤ℤ◌, true, false, ◌⊎◌, inl, inr, List, [], ◌∷◌, ◌++◌, Option, None, Some, length, map, get_or, slice_get, position, cond, All, pos, refl, sym, ap, ◌∙◌, subst, arith}
use Rattle.std.specs.Prelude.{not, EachIndex}
use Rattle.std.specs.List.{position_or_len, prefix_len}
use Rattle.std.specs.Option.{option_map, option_to_list}
use Rattle.std.specs.Str.{bytes_eq}
use Rattle.std.proofs.lemmas.Bool.{cases_Bool}
use Rattle.std.proofs.lemmas.List.Elements.{All-nil, All-append, All-map}
use Rattle.std.proofs.lemmas.List.Quantifiers.{position-Some}
use Rattle.std.proofs.lemmas.Option.{slice_get-get_or, slice_get_within, get_or_from_slice_get}
use Rattle.std.proofs.lemmas.Slice.Eq.{bytes_eq-Decides}
use Rattle.name_table.specs.ByteOrder.{IsBefore, IsInByteOrder}
use Rattle.grid_net.specs.declared.part.Resistor.{Resistor}
use Rattle.grid_net.specs.declared.part.Pad.{Pad}
use Rattle.grid_net.specs.declared.part.Load.{Load}
use Rattle.spice_grid.specs.Place.{placed_resistor, placed_short, placed_pad, placed_load}
use Rattle.spice_grid.specs.Named.{place_in, ground, ground_pads}

-- No name stands before itself.
pub not_before_itself : (a : List ℕ) → IsBefore a a → ⊥
not_before_itself [] h = h
not_before_itself (x ∷ xs) (inl h) = omega arith
not_before_itself (x ∷ xs) (inr h) = not_before_itself xs h.1

-- So a name in byte order is first found at its place.
first_place : (ordered : List (List ℕ)) (k : ℕ) → IsInByteOrder ordered → k < length ordered → position_or_len (bytes_eq (get_or ordered k [])) ordered ≡ k
first_place [] k up h = absurd (omega arith)
first_place (x ∷ xs) zero up h = ap (λ b. cond (not b) (1 + prefix_len (λ y. not (bytes_eq x y)) xs) 0) ((bytes_eq-Decides x x).1 refl)
first_place (x ∷ xs) (suc k) up h =
    let name : List ℕ = get_or xs k [] in
    let rest = first_place xs k (λ i j d below within. up (suc i) (suc j) d (omega arith) (omega arith)) (omega arith) in
    let next : 1 + k ≡ suc k = omega arith in
    ap (λ b. cond (not b) (1 + prefix_len (λ y. not (bytes_eq name y)) xs) 0) (apart name (up 0 (suc k) [] (omega arith) h) (cases_Bool (bytes_eq name x)))
    ∙ ap (λ n. 1 + n) rest ∙ next
  where
    apart : (name : List ℕ) → IsBefore x name → ((bytes_eq name x ≡ true) ⊎ (bytes_eq name x ≡ false)) → bytes_eq name x ≡ false
    apart name before (inl e) = absurd (not_before_itself x (subst (IsBefore x) ((bytes_eq-Decides name x).0 e) before))
    apart name before (inr e) = e

-- The places that a table tells are those of the names.
pub place_told : (names ordered : List (List ℕ)) (places : List ℕ) → IsInByteOrder ordered → EachIndex names (λ n. slice_get ordered (get_or places n 0) ≡ slice_get names n)
    → (n : ℕ) → n < length names → get_or places n 0 ≡ place_in names ordered n
place_told names ordered places up each n h =
    let k : ℕ = get_or places n 0 in
    let at : slice_get ordered k ≡ Some (get_or names n []) = each n h ∙ slice_get-get_or names n [] h in
    let within : k < length ordered = slice_get_within ordered k (get_or names n []) at in
    let same : get_or ordered k [] ≡ get_or names n [] = get_or_from_slice_get ordered k (get_or names n []) [] at in
    sym (ap (λ name. position_or_len (bytes_eq name) ordered) (sym same) ∙ first_place ordered k up within)

maps_alike : {X Y : Type 0} (P : X → Type 0) (f g : X → Y) → ((x : X) → P x → f x ≡ g x) → (xs : List X) → All P xs → map f xs ≡ map g xs
maps_alike P f g same [] all = refl
maps_alike P f g same (x ∷ xs) all = λ i. same x (all 0 x (omega arith)) i ∷ maps_alike P f g same xs (λ k d w. all (suc k) d (omega arith)) i

-- Two ways to place nodes that agree on each number below a count.
module _ (count : ℕ) (f g : ℕ → ℕ) (same : (n : ℕ) → n < count → f n ≡ g n) where
  pub resistors_alike : (rs : List Resistor) → All (λ r. (r.a < count) × (r.b < count)) rs → map (placed_resistor f) rs ≡ map (placed_resistor g) rs
  resistors_alike rs all = maps_alike (λ r. (r.a < count) × (r.b < count)) (placed_resistor f) (placed_resistor g) (λ r h. λ i. record { a = same r.a h.0 i; b = same r.b h.1 i; ohms = r.ohms }) rs all

  pub shorts_alike : (ss : List (ℕ × ℕ)) → All (λ s. (s.0 < count) × (s.1 < count)) ss → map (placed_short f) ss ≡ map (placed_short g) ss
  shorts_alike ss all = maps_alike (λ s. (s.0 < count) × (s.1 < count)) (placed_short f) (placed_short g) (λ s h. λ i. (same s.0 h.0 i, same s.1 h.1 i)) ss all

  pub pads_alike : (ps : List Pad) → All (λ p. p.node < count) ps → map (placed_pad f) ps ≡ map (placed_pad g) ps
  pads_alike ps all = maps_alike (λ p. p.node < count) (placed_pad f) (placed_pad g) (λ p h. λ i. record { node = same p.node h i; volts = p.volts }) ps all

  pub loads_alike : (ls : List Load) → All (λ l. l.node < count) ls → map (placed_load f) ls ≡ map (placed_load g) ls
  loads_alike ls all = maps_alike (λ l. l.node < count) (placed_load f) (placed_load g) (λ l h. λ i. record { node = same l.node h i; low = l.low; high = l.high }) ls all

abbrev pad_at : ℕ → Pad
pad_at number = record { node = number; volts = pos 0 }

-- Ground's own pad stands at a node.
ground_within : (names : List (List ℕ)) → All (λ (p : Pad). p.node < length names) (ground_pads names)
ground_within names = by (position (bytes_eq ground) names) refl
  where
    by : (o : Option ℕ) → position (bytes_eq ground) names ≡ o → All (λ (p : Pad). p.node < length names) (option_to_list (option_map (λ number. record { node = number; volts = pos 0 }) o))
    by None e = All-nil (λ (p : Pad). p.node < length names)
    by (Some n) e = λ k d w. first k d w (position-Some (bytes_eq ground) names n [] e).0
      where
        first : (k : ℕ) (d : Pad) → k < 1 → n < length names → (get_or (pad_at n ∷ []) k d).node < length names
        first zero d w h = h
        first (suc k) d w h = absurd (omega arith)

pub pads_within : (names : List (List ℕ)) (pads : List Pad) → All (λ p. p.node < length names) pads → All (λ p. p.node < length names) (pads ++ ground_pads names)
pads_within names pads all = All-append (λ p. p.node < length names) pads (ground_pads names) all (ground_within names)

-- A load keeps its ends.
pub ranges_placed : (f : ℕ → ℕ) (loads : List Load) → All (λ l. l.low ≤ℤ l.high) loads → All (λ l. l.low ≤ℤ l.high) (map (placed_load f) loads)
ranges_placed f loads all = All-map (λ l. l.low ≤ℤ l.high) (placed_load f) loads all
