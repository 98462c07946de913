-- Rails that are taken from pieces, put in order and into an index.
use Rattle.std.proofs.Common.{◌≡◌, ◌⊎◌, inl, inr, false, ℕ, ◌+◌, ◌<◌, ◌≤◌, List, [], ◌∷◌, ◌++◌, map, length, get_or, AllPairs, Contains, refl, sym, ap, ◌∙◌, subst, arith}
use Rattle.std.specs.Ordering.{is_gt}
use Rattle.std.specs.List.Sorted.{IsPermutation}
use Rattle.std.proofs.lemmas.Bool.{cases_lt}
use Rattle.std.proofs.lemmas.List.{get_or_default}
use Rattle.std.proofs.lemmas.List.Sorted.{IsPermutation-sym, Contains-permutation}
use Rattle.std.proofs.lemmas.List.Elements.{All-push, All-contains, Contains-push, Contains-append_left, Contains-get_or}
use Rattle.grid_pieces.specs.declared.piece.Piece.{Piece}
use Rattle.rect_index.specs.declared.entry.Entry.{Entry}
use Rattle.grid_taps.specs.declared.rail.Rail.{Rail}
use Rattle.grid_taps.specs.Naming.{At}
use Rattle.grid_taps.specs.inside.Rails.{rail_order, rail_of, rail_entry, IsDrawnRail, AreRailsOf, AreRailEntries}

abbrev pub IsOfPiece : List Piece → Rail → Type 0
IsOfPiece pieces r = (p : Piece) × At pieces r.number p × IsDrawnRail p × (r ≡ rail_of r.number p)

pub rails_none : (pieces : List Piece) → AreRailsOf pieces 0 []
rails_none pieces = record { each = λ k d within. absurd (omega arith); every = λ number p less at drawn. absurd (omega arith) }

one_piece : (pieces : List Piece) (k l : ℕ) (a b : Piece) → k ≡ l → At pieces k a → At pieces l b → a ≡ b
one_piece pieces k l a b same (in_k, is_a) (in_l, is_b) = sym is_a ∙ ap (λ n. get_or pieces n a) same ∙ get_or_default pieces l a b in_l ∙ is_b

pub rails_more : (pieces : List Piece) (i : ℕ) (p : Piece) (rails : List Rail) → At pieces i p → IsDrawnRail p → AreRailsOf pieces i rails
    → AreRailsOf pieces (i + 1) (rails ++ rail_of i p ∷ [])
rails_more pieces i p rails at drawn h = record {
  each = All-push (IsOfPiece pieces) rails (rail_of i p) h.each (p, at, drawn, refl);
  every = λ number q less q_at q_drawn. by_place number q q_at q_drawn (cases_lt number i) less;
}
  where
    by_place : (number : ℕ) (q : Piece) → At pieces number q → IsDrawnRail q → (number < i) ⊎ (i ≤ number) → number < i + 1
        → Contains (rails ++ rail_of i p ∷ []) (rail_of number q)
    by_place number q q_at q_drawn (inl before) less = Contains-append_left rails (rail_of i p ∷ []) (rail_of number q) (h.every number q before q_at q_drawn)
    by_place number q q_at q_drawn (inr not_before) less =
        let same : i ≡ number = omega arith in
        let one : p ≡ q = one_piece pieces i number p q same at q_at in
        subst (λ (r : Rail). Contains (rails ++ rail_of i p ∷ []) r) (ap (λ n. rail_of n p) same ∙ ap (λ (z : Piece). rail_of number z) one) (Contains-push rails (rail_of i p))

pub rails_kept : (pieces : List Piece) (i : ℕ) (p : Piece) (rails : List Rail) → At pieces i p → (IsDrawnRail p → ⊥) → AreRailsOf pieces i rails
    → AreRailsOf pieces (i + 1) rails
rails_kept pieces i p rails at none h = record {
  each = h.each;
  every = λ number q less q_at q_drawn. by_place number q q_at q_drawn (cases_lt number i) less;
}
  where
    by_place : (number : ℕ) (q : Piece) → At pieces number q → IsDrawnRail q → (number < i) ⊎ (i ≤ number) → number < i + 1 → Contains rails (rail_of number q)
    by_place number q q_at q_drawn (inl before) less = h.every number q before q_at q_drawn
    by_place number q q_at q_drawn (inr not_before) less =
        let same : i ≡ number = omega arith in
        let one : p ≡ q = one_piece pieces i number p q same at q_at in
        absurd (none (subst IsDrawnRail (sym one) q_drawn))

pub rails_all : (pieces : List Piece) (i : ℕ) (rails : List Rail) → length pieces ≤ i → AreRailsOf pieces i rails → AreRailsOf pieces (length pieces) rails
rails_all pieces i rails le h = record { each = h.each; every = λ number p less at drawn. h.every number p (omega arith) at drawn }

pub rails_indexed : (pieces : List Piece) (rails sorted : List Rail) (entries index : List (Entry ℕ)) → AreRailsOf pieces (length pieces) rails
    → IsPermutation rails sorted → AllPairs (λ (a b : Rail). is_gt (rail_order a b) ≡ false) sorted → entries ≡ map rail_entry sorted → index ≡ entries
    → AreRailEntries pieces index
rails_indexed pieces rails sorted entries index h moved in_order are same = record {
  rails = sorted;
  each = λ k d within.
      All-contains (IsOfPiece pieces) rails (get_or sorted k d) h.each
      (Contains-permutation sorted rails (get_or sorted k d) (IsPermutation-sym rails sorted moved) (Contains-get_or sorted k d within));
  every = λ number p at drawn. Contains-permutation rails sorted (rail_of number p) moved (h.every number p at.0 at drawn);
  in_order = in_order;
  are = same ∙ are;
}
