-- The vias of stacks that stand apart are those of stacks.
use Rattle.std.proofs.Common.{◌≡◌, ◌⊎◌, inl, inr, ℕ, zero, suc, ◌+◌, ◌-◌, ◌<◌, ◌≤◌, ℤ, pos, Bool, true, false, List, [], All, length, get_or, refl, sym, ap, ◌∙◌, subst, arith}
use Rattle.std.specs.Prelude.{Contains, IsTrue, ◌↔◌, flat_map}
use Rattle.std.specs.List.{AllZip}
use Rattle.std.proofs.lemmas.Bool.{cases_lt}
use Rattle.std.proofs.lemmas.List.{get_or_default}
use Rattle.std.proofs.lemmas.Slice.Zip.{AllZip-long}
use Rattle.grid_pieces.specs.declared.piece.Piece.{Piece}
use Rattle.grid_pieces.specs.declared.piece.StackAt.{StackAt}
use Rattle.grid_pieces.specs.Limits.{PieceKeeps}
use Rattle.lef_tech.specs.declared.tech.Tech.{Tech}
use Rattle.via_arrays.specs.declared.parts.CutArray.{CutArray}
use Rattle.wire_chains.specs.declared.via.ViaAt.{ViaAt}
use Rattle.wire_chains.specs.Chain.{LiesOn, IsJoined}
use Rattle.wire_names.specs.declared.record.NamedVia.{NamedVia}
use Rattle.wire_pieces.specs.Centre.{IsHeld}
use Rattle.stacks_apart.specs.Apart.{IsApart, IsWithin, AreAtOnePlace}
use Rattle.chains_of_stacks.specs.Laws.Members.{member_of_some}
use Rattle.chains_of_stacks.specs.Stacked.{HasVia, GoesUp, StandsOnPiece, EndsOnPiece, IsAlone, AreOfStacks}
use Rattle.rewired_stacks.specs.Rewired.{IsWhole, StandApart}
use Rattle.rewired_stacks.proofs.Levels.{IsLevelVia, AreLevelVias, zip_at, as_many, level_at}

-- what stands nowhere
pub no_stack : StackAt
no_stack = record {
  net = 0;
  x = pos 0;
  y = pos 0;
  crossing = record { x1 = pos 0; y1 = pos 0; x2 = pos 0; y2 = pos 0 };
  stack = record { from = 0; to = 0; arrays = []; ohms = [] };
}

pub no_array : CutArray
no_array = record {
  rule = 0;
  columns = 0;
  rows = 0;
  cut_x = pos 0;
  cut_y = pos 0;
  pitch_x = pos 0;
  pitch_y = pos 0;
  lower_x = pos 0;
  lower_y = pos 0;
  upper_x = pos 0;
  upper_y = pos 0;
}

is_false : (b : Bool) → (IsTrue b → ⊥) → b ≡ false
is_false true never = absurd (never refl)
is_false false never = refl

held_there : (pieces : List Piece) (net net' layer layer' : ℕ) (x x' y y' : ℤ) → net ≡ net' → layer ≡ layer' → x ≡ x' → y ≡ y' → IsHeld pieces net layer x y
    → IsHeld pieces net' layer' x' y'
held_there pieces net net' layer layer' x x' y y' e f g h held =
    subst (λ z. IsHeld pieces z layer' x' y') e (subst (λ z. IsHeld pieces net z x' y') f (subst (λ z. IsHeld pieces net layer z y') g (subst (λ z. IsHeld pieces net layer x z) h held)))

-- what the laws of stacks that stand apart say
abbrev pub NoPieceWithin : Type 0
NoPieceWithin = (pieces : List Piece) (stacks : List StackAt) (k net layer : ℕ) (x y : ℤ) (d : StackAt) → All PieceKeeps pieces → IsApart pieces stacks → k < length stacks
    → IsWithin (get_or stacks k d) layer → (get_or stacks k d).x ≡ x → (get_or stacks k d).y ≡ y → IsHeld pieces net layer x y → ⊥

abbrev pub NoStackWithin : Type 0
NoStackWithin = (pieces : List Piece) (stacks : List StackAt) (k l layer : ℕ) (d : StackAt) → All PieceKeeps pieces → IsApart pieces stacks → k < length stacks
    → l < length stacks → IsWithin (get_or stacks k d) layer → IsWithin (get_or stacks l d) layer → AreAtOnePlace (get_or stacks k d) (get_or stacks l d) → k ≡ l

module _ (no_piece : NoPieceWithin) (no_other : NoStackWithin) (tech : Tech) (pieces : List Piece) (stacks : List StackAt) (apart : StandApart tech pieces stacks) (vias : List NamedVia)
    (placed : List ViaAt) (chains : List (List ViaAt)) (all : placed ≡ flat_map (λ (chain : List ViaAt). chain) chains) (zip : AllZip (AreLevelVias vias pieces) stacks chains) where
  pub as_many_stacks : length chains ≡ length stacks
  as_many_stacks = AllZip-long (AreLevelVias vias pieces) stacks chains zip

  -- the stack of a chain
  abbrev pub of : ℕ → StackAt
  of i = get_or stacks i no_stack

  pub in_stacks : (i : ℕ) → i < length chains → i < length stacks
  in_stacks i within = let long = as_many_stacks in omega (arith, within, long)

  pub levels : (i : ℕ) (chain : List ViaAt) → i < length chains → get_or chains i chain ≡ chain → AreLevelVias vias pieces (of i) chain
  levels i chain within is = subst (AreLevelVias vias pieces (of i)) is (zip_at (AreLevelVias vias pieces) stacks chains zip i no_stack chain within)

  module _ (i : ℕ) (chain : List ViaAt) (within : i < length chains) (is : get_or chains i chain ≡ chain) where
    whole : IsWhole tech (of i)
    whole = apart.whole i no_stack (in_stacks i within)

    pub long : length chain ≡ (of i).stack.to - (of i).stack.from
    long = as_many vias pieces (of i) chain (levels i chain within is) ∙ whole.arrays

    pub level : (k : ℕ) (d : ViaAt) → k < length chain → IsLevelVia vias pieces (of i) ((of i).stack.from + k, get_or (of i).stack.arrays k no_array) (get_or chain k d)
    level k d in_chain = level_at vias pieces (of i) chain (levels i chain within is) k no_array d in_chain

    some : HasVia chain
    some = let l = long in let up = whole.rising in omega (arith, l, up)

    -- it is not held above its bottom
    free : (k : ℕ) (d : ViaAt) → 0 < k → k < length chain → (get_or chain k d).held ≡ false
    free k d above in_chain =
        let here = level k d in_chain in
        let l = long in
        let up = whole.rising in
        let at = here.layer in
        is_false (get_or chain k d).held (λ held. no_piece pieces stacks i (get_or chain k d).net (get_or chain k d).layer (get_or chain k d).x (get_or chain k d).y no_stack apart.keep apart.apart
        (in_stacks i within) (omega (arith, above, at), omega (arith, in_chain, at, l, up)) (sym here.x) (sym here.y) (here.held.0 held))

    goes_up : GoesUp chain
    goes_up k d in_chain =
        let low = level k d (omega (arith, in_chain)) in
        let high = level (k + 1) d in_chain in
        let at_low = low.layer in
        let at_high = high.layer in
        record {
          above = record { net = high.net ∙ sym low.net; x = high.x ∙ sym low.x; y = high.y ∙ sym low.y; layer = omega (arith, at_low, at_high) };
          free = free (k + 1) d (omega arith) in_chain;
        }

    bottom : StandsOnPiece chain
    bottom d =
        let here = level 0 d some in
        let at = here.layer in
        here.held.1 (held_there pieces (of i).net (get_or chain 0 d).net (of i).stack.from (get_or chain 0 d).layer (of i).x (get_or chain 0 d).x (of i).y (get_or chain 0 d).y (sym here.net)
        (omega (arith, at)) (sym here.x) (sym here.y) (apart.ends i no_stack (in_stacks i within)).0)

    -- what begins at its top is at its upper end
    top_held : (via d : ViaAt) → LiesOn (get_or chain (length chain - 1) d) ((get_or chain (length chain - 1) d).layer + 1) via → IsHeld pieces via.net via.layer via.x via.y
    top_held via d on =
        let one = some in
        let last = level (length chain - 1) d (omega (arith, one)) in
        let at = last.layer in
        let l = long in
        let up = whole.rising in
        let on_layer = on.layer in
        held_there pieces (of i).net via.net (of i).stack.to via.layer (of i).x via.x (of i).y via.y (sym (on.net ∙ last.net)) (omega (arith, on_layer, at, l, up, one)) (sym (on.x ∙ last.x))
        (sym (on.y ∙ last.y)) (apart.ends i no_stack (in_stacks i within)).1

  -- where a via that is placed stands in the chains
  record Found (via : ViaAt) : Type 0 where
    i : ℕ
    chain : List ViaAt
    within : i < length chains
    is : get_or chains i chain ≡ chain
    k : ℕ
    in_chain : k < length chain
    at : get_or chain k via ≡ via

  found : (via : ViaAt) → Contains placed via → Found via
  found via in_placed =
      let (chain, (i, within, is), (k, in_chain, at)) = member_of_some chains via (subst (λ (l : List ViaAt). Contains l via) all in_placed) in
      record { i = i; chain = chain; within = within; is = is; k = k; in_chain = in_chain; at = at }

  level_of : (via : ViaAt) (f : Found via) → IsLevelVia vias pieces (of f.i) ((of f.i).stack.from + f.k, get_or (of f.i).stack.arrays f.k no_array) via
  level_of via f = subst (IsLevelVia vias pieces (of f.i) ((of f.i).stack.from + f.k, get_or (of f.i).stack.arrays f.k no_array)) f.at (level f.i f.chain f.within f.is f.k via f.in_chain)

  module _ (i : ℕ) (chain : List ViaAt) (within : i < length chains) (is : get_or chains i chain ≡ chain) where
    top : EndsOnPiece placed chain
    top via d in_placed on = (level_of via (found via in_placed)).held.1 (top_held i chain within is via d on)

    -- a via of its net that begins within it is its own
    own : (k : ℕ) (d via : ViaAt) → 0 < k → k < length chain → LiesOn (get_or chain k d) (get_or chain k d).layer via → (f : Found via) → via ≡ get_or chain k d
    own k d via above in_chain on f = by (cases_lt 0 f.k)
      where
        here : IsLevelVia vias pieces (of i) ((of i).stack.from + k, get_or (of i).stack.arrays k no_array) (get_or chain k d)
        here = level i chain within is k d in_chain

        there : IsLevelVia vias pieces (of f.i) ((of f.i).stack.from + f.k, get_or (of f.i).stack.arrays f.k no_array) via
        there = level_of via f

        inside : (layer : ℕ) → layer ≡ via.layer → IsWithin (of i) layer
        inside layer e =
            let at = here.layer in
            let l = long i chain within is in
            let on_layer = on.layer in
            (omega (arith, above, at, e, on_layer), omega (arith, in_chain, at, l, e, on_layer))

        same_x : (of i).x ≡ (of f.i).x
        same_x = sym here.x ∙ sym on.x ∙ there.x

        same_y : (of i).y ≡ (of f.i).y
        same_y = sym here.y ∙ sym on.y ∙ there.y

        -- where both have it within them they are one stack, and it is at one place of it
        one_stack : 0 < f.k → i ≡ f.i
        one_stack up =
            let at = there.layer in
            let l = long f.i f.chain f.within f.is in
            let in_other = f.in_chain in
            no_other pieces stacks i f.i via.layer no_stack apart.keep apart.apart (in_stacks i within) (in_stacks f.i f.within) (inside via.layer refl)
            (omega (arith, up, at), omega (arith, in_other, at, l)) (record { x = same_x; y = same_y })

        one_place : i ≡ f.i → k ≡ f.k
        one_place one =
            let same_from : (of i).stack.from ≡ (of f.i).stack.from = ap (λ n. (of n).stack.from) one in
            let at = here.layer in
            let at' = there.layer in
            let on_layer = on.layer in
            omega (arith, same_from, at, at', on_layer)

        same_chain : i ≡ f.i → chain ≡ f.chain
        same_chain one = sym is ∙ get_or_default chains i chain f.chain within ∙ ap (λ n. get_or chains n f.chain) one ∙ f.is

        by : (0 < f.k) ⊎ (f.k ≤ 0) → via ≡ get_or chain k d
        by (inl up) =
            let one = one_stack up in
            sym f.at ∙ ap (λ n. get_or f.chain n via) (sym (one_place one)) ∙ ap (λ (c : List ViaAt). get_or c k via) (sym (same_chain one)) ∙ get_or_default chain k via d in_chain
        by (inr low) =
            let at = there.layer in
            absurd (no_piece pieces stacks i (of f.i).net (of f.i).stack.from (of f.i).x (of f.i).y no_stack apart.keep apart.apart (in_stacks i within)
            (inside (of f.i).stack.from (omega (arith, at, low))) same_x same_y (apart.ends f.i no_stack (in_stacks f.i f.within)).0)

    alone : IsAlone placed chain
    alone k via d above in_chain in_placed on = own k d via above in_chain on (found via in_placed)

  -- of each chain at its place
  each : (P : List ViaAt → Type 0) → ((i : ℕ) (chain : List ViaAt) → i < length chains → get_or chains i chain ≡ chain → P chain) → All P chains
  each P holds i d within = holds i (get_or chains i d) within (get_or_default chains i (get_or chains i d) d within)

  pub of_stacks : AreOfStacks placed chains
  of_stacks = record {
    all = all;
    some = each HasVia some;
    up = each GoesUp goes_up;
    bottom = each StandsOnPiece bottom;
    top = each (EndsOnPiece placed) top;
    alone = each (IsAlone placed) alone;
  }
