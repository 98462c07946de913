-- Vias stand at their places in one way, and of two chains one comes before the other at most.
use Rattle.std.proofs.Common.{◌≡◌, ◌↔◌, ◌⊎◌, inl, inr, ℕ, ◌<◌, ◌≤◌, ℤ, pos, Bool, true, false, IsTrue, List, length, get_or, subst, refl, sym, ap, ◌∙◌, arith}
use Rattle.std.specs.Cmp.{IsTotalOrder}
use Rattle.std.specs.Ordering.{is_lt}
use Rattle.std.proofs.lemmas.Bool.{cases_lt, false≢true}
use Rattle.std.proofs.lemmas.Cmp.{nat_cmp_total, int_cmp_total, on_total, then_total}
use Rattle.std.proofs.lemmas.List.{ext_get_or}
use Rattle.std.proofs.lemmas.Option.{slice_get-get_or}
use Rattle.grid_pieces.specs.declared.piece.Piece.{Piece}
use Rattle.wire_chains.specs.declared.via.ViaAt.{ViaAt}
use Rattle.wire_chains.specs.Chain.{ComesBefore, via_order}
use Rattle.wire_names.specs.declared.record.NamedVia.{NamedVia}
use Rattle.wire_names.specs.declared.record.Spot.{Spot}
use Rattle.wire_pieces.specs.Centre.{IsHeld}
use Rattle.wire_stacks.specs.Vias.{AreViasAt, IsViaAt, via_at}
use Rattle.one_wired_grid.proofs.Pieced.{one_way}

pub no_via : ViaAt
no_via = record { net = 0; x = pos 0; y = pos 0; layer = 0; held = false; via = 0; number = 0 }

no_spot : Spot
no_spot = record { net = 0; via = 0; x = pos 0; y = pos 0 }

alike : (a b : Bool) (P Q : Type 0) → IsTrue a ↔ P → IsTrue b ↔ Q → (P → Q) → (Q → P) → a ≡ b
alike true true P Q h k there back = refl
alike true false P Q h k there back = absurd (false≢true (k.1 (there (h.0 refl))))
alike false true P Q h k there back = absurd (false≢true (h.1 (back (k.0 refl))))
alike false false P Q h k there back = refl

moved : (pieces : List Piece) (a b : ViaAt) → a.net ≡ b.net → a.layer ≡ b.layer → a.x ≡ b.x → a.y ≡ b.y → IsHeld pieces a.net a.layer a.x a.y → IsHeld pieces b.net b.layer b.x b.y
moved pieces a b net layer x y held =
    subst (λ z. IsHeld pieces b.net b.layer b.x z) y
    (subst (λ z. IsHeld pieces b.net b.layer z a.y) x (subst (λ z. IsHeld pieces b.net z a.x a.y) layer (subst (λ z. IsHeld pieces z a.layer a.x a.y) net held)))

one_via : (vias : List NamedVia) (pieces : List Piece) (k : ℕ) (spot : Spot) (a b : ViaAt) → IsViaAt vias pieces k spot a → IsViaAt vias pieces k spot b → a ≡ b
one_via vias pieces k spot a b p q =
    let net : a.net ≡ b.net = p.net ∙ sym q.net in
    let x : a.x ≡ b.x = p.x ∙ sym q.x in
    let y : a.y ≡ b.y = p.y ∙ sym q.y in
    let via : a.via ≡ b.via = p.via ∙ sym q.via in
    let layer : a.layer ≡ b.layer = p.layer ∙ sym q.layer in
    let number : a.number ≡ b.number = p.is_number ∙ sym q.is_number in
    let held : a.held ≡ b.held =
    alike a.held b.held _ _ p.held q.held (moved pieces a b net layer x y) (moved pieces b a (sym net) (sym layer) (sym x) (sym y)) in
    λ i. record { net = net i; x = x i; y = y i; layer = layer i; held = held i; via = via i; number = number i }

pub one_placed : (vias : List NamedVia) (pieces : List Piece) (spots : List Spot) (a b : List ViaAt) → AreViasAt vias pieces spots a → AreViasAt vias pieces spots b → a ≡ b
one_placed vias pieces spots a b p q =
    ext_get_or no_via a b (p.as_many ∙ sym q.as_many)
    (λ k within.
    let in_spots = slice_get-get_or spots k no_spot (omega (arith, p.as_many)) in
    one_via vias pieces k (get_or spots k no_spot) (get_or a k no_via) (get_or b k no_via)
    (p.each k _ _ in_spots (slice_get-get_or a k no_via within))
    (q.each k _ _ in_spots (slice_get-get_or b k no_via (omega (arith, p.as_many, q.as_many)))))

-- ## chains

via_total : IsTotalOrder via_order
via_total =
    then_total
    (then_total (then_total (then_total (on_total (λ (a : ViaAt). a.net) nat_cmp_total) (on_total (λ (a : ViaAt). a.x) int_cmp_total)) (on_total (λ (a : ViaAt). a.y) int_cmp_total))
    (on_total (λ (a : ViaAt). a.layer) nat_cmp_total)) (on_total (λ (a : ViaAt). a.number) nat_cmp_total)

itself : (a b : ViaAt) → a ≡ b → is_lt (via_order a b) ≡ true → ⊥
itself a b same less = let again : is_lt (via_order b b) ≡ true = subst (λ (v : ViaAt). is_lt (via_order v b) ≡ true) same less in one_way via_order via_total b b again again

pub chains_one_way : (one other : List ViaAt) → ComesBefore one other → ComesBefore other one → ⊥
chains_one_way one other h k = by_place (cases_lt h.place k.place) (cases_lt k.place h.place)
  where
    by_place : (h.place < k.place) ⊎ (k.place ≤ h.place) → (k.place < h.place) ⊎ (h.place ≤ k.place) → ⊥
    by_place (inl low) _ = itself (get_or one h.place no_via) (get_or other h.place no_via) (sym (k.alike h.place no_via low)) (h.less no_via)
    by_place (inr _) (inl low) = itself (get_or other k.place no_via) (get_or one k.place no_via) (sym (h.alike k.place no_via low)) (k.less no_via)
    by_place (inr low) (inr high) =
        let place : k.place ≡ h.place = omega arith in
        let back : is_lt (via_order (get_or other h.place no_via) (get_or one h.place no_via)) ≡ true =
        subst (λ n. is_lt (via_order (get_or other n no_via) (get_or one n no_via)) ≡ true) place (k.less no_via) in
        one_way via_order via_total (get_or one h.place no_via) (get_or other h.place no_via) (h.less no_via) back
