-- Each half of a certificate, from the proposal to the list that is made.
use Rattle.std.proofs.Common.{◌≡◌, ℕ, zero, suc, ◌+◌, ◌*◌, ◌^◌, ◌<◌, ◌≤◌, ℤ, pos, neg_ℤ, ◌+ℤ◌, ◌-ℤ◌, ◌≤ℤ◌, arith, refl, sym, ap, ◌∙◌, subst, List, [], ◌∷◌, length, map, Option, Some, None}
use Rattle.std.proofs.lemmas.Int.{ints, clamps}
use Rattle.std.proofs.Math.IntN.{neg_ℤ-neg_ℤ}
use Rattle.std.proofs.lemmas.List.FromFn.{length-map-range_with_len, get_or-map-range_with_len}
use Rattle.grid_net.specs.Network.{Network, IsNetwork, pad_at, entry_of}
use Rattle.grid_net.specs.Certificate.{flow_limit}
use Rattle.bound_make.specs.declared.half.Half.{Half}
use Rattle.bound_make.specs.declared.half.Half.TheVariants.{High, Low}
use Rattle.bound_make.specs.inside.Raising.{TellsBelow, IsHighAnswer}
use Rattle.bound_make.specs.Scale.{margin, flow_reach}
use Rattle.grid_net.specs.Mirror.{mirror}
use Rattle.bound_make.specs.inside.Half.{seen, seen_volts}
use Rattle.bound_make.specs.inside.Moving.{held_rule}
use Rattle.bound_make.specs.inside.Made.{IsRangeOf, IsMade}
use Rattle.bound_make.specs.Certifier.{start_value, start_list}
use Rattle.bound_make.proofs.Flows.{held_tells}
use Rattle.bound_make.proofs.Limits.{reach_fits, range_fits}
use Rattle.bound_make.proofs.Turned.{low_from_high, high_from_low, tight_from_high, tight_from_low}
use Rattle.grid_net.specs.Laws.Mirror.{pad_out}
use Rattle.bound_make.proofs.Range.{mirror_reach, mirror_pads, mirror_within}
use Rattle.grid_net.specs.Laws.Mirror.{mirror_network}
use Rattle.bound_make.proofs.Made.{same_list, IsStarted}

seen_high : (net : Network) → seen High net ≡ net
seen_high net = refl

-- Where a half sees the pads.
abbrev pub bottom_of : Half → ℤ → ℤ → ℤ
bottom_of High bottom top = bottom
bottom_of Low bottom top = neg_ℤ top

abbrev pub top_of : Half → ℤ → ℤ → ℤ
top_of High bottom top = top
top_of Low bottom top = neg_ℤ bottom

-- An entry of a list that is turned in sign.
entry_turned : (xs : List ℤ) (i : ℕ) → entry_of (map neg_ℤ xs) i ≡ neg_ℤ (entry_of xs i)
entry_turned [] i = refl
entry_turned (x ∷ xs) zero = refl
entry_turned (x ∷ xs) (suc i) = entry_turned xs i

length_turned : (xs : List ℤ) → length (map neg_ℤ xs) ≡ length xs
length_turned [] = refl
length_turned (x ∷ xs) = ap suc (length_turned xs)

module _ (net : Network) (wf : IsNetwork net) (bottom top : ℤ) (w : ℕ) (range : IsRangeOf net bottom top w) (proposal : List ℤ) where
  abbrev k : ℕ
  k = range.level

  abbrev r : ℕ
  r = range.ohms

  tells : TellsBelow held_rule (flow_reach net)
  tells = held_tells (pos flow_limit) (flow_reach net) (let h = reach_fits net wf k r range.fits.nodes range.fits.resistors range.fits.loads range.fits.levels range.fits.ohms in omega (arith, ints))

  wide : 10 ^ 25 + 2 * margin net k r ≤ 5 * 10 ^ 36
  wide = range_fits net wf k r range.fits.nodes range.fits.resistors range.fits.loads range.fits.levels range.fits.ohms

  abbrev value : ℕ → Option ℤ → ℤ
  value i o = start_value bottom top w (entry_of proposal i) o

  -- A start lies in its range.
  module _ (order : bottom ≤ℤ top) where
    value_bounds : (i : ℕ) → i < net.nodes → (o : Option ℤ) → pad_at net i ≡ o → ((bottom -ℤ pos w) ≤ℤ value i o) × (value i o ≤ℤ (top +ℤ pos w))
    value_bounds i l (Some v) e = (omega (arith, ints, range.pads.at_least i v l e), omega (arith, ints, range.pads.at_most i v l e))
    value_bounds i l None e = (omega (arith, ints, clamps, order), omega (arith, ints, clamps, order))

    module _ (x : List ℤ) (size : length x ≡ net.nodes) where
      pub started : (half : Half) → ((i : ℕ) → i < net.nodes → entry_of x i ≡ seen_volts half (value i (pad_at net i))) → IsStarted (seen half net) k r (bottom_of half bottom top) (top_of half bottom top) x
      started High each = record {
        wf = wf;
        tells = tells;
        supplied = range.supplied;
        resists = range.resists;
        pads = range.pads;
        low_fits = omega (arith, ints, wide, range.fits.bottom_fits);
        high_fits = omega (arith, ints, wide, range.fits.top_fits);
        size = size;
        at_pads = λ i v l e. each i l ∙ ap (value i) e;
        at_least = λ i l. omega (arith, ints, each i l, value_bounds i l (pad_at net i) refl, range.width_is);
        at_most = λ i l. omega (arith, ints, each i l, value_bounds i l (pad_at net i) refl, range.width_is);
      }
      started Low each =
          let same : margin (mirror net) k r ≡ margin net k r = ap (λ n. k * (r * n)) (mirror_reach net) in
          record {
            wf = mirror_network net wf;
            tells = subst (λ (n : ℕ). TellsBelow held_rule n) (sym (mirror_reach net)) tells;
            supplied = λ i l. mirror_within net k i (range.supplied i l);
            resists = range.resists;
            pads = mirror_pads net bottom top range.pads;
            low_fits = omega (arith, ints, wide, range.fits.top_fits, same);
            high_fits = omega (arith, ints, wide, range.fits.bottom_fits, same);
            size = size;
            at_pads = λ i v l e. each i l ∙ ap (λ o. neg_ℤ (value i o)) (pad_out net i v e) ∙ neg_ℤ-neg_ℤ v;
            at_least = λ i l. omega (arith, ints, each i l, value_bounds i l (pad_at net i) refl, range.width_is, same);
            at_most = λ i l. omega (arith, ints, each i l, value_bounds i l (pad_at net i) refl, range.width_is, same);
          }

  -- ---- what is made
  start_at_node : (i : ℕ) → i < net.nodes → entry_of (start_list net bottom top w proposal) i ≡ value i (pad_at net i)
  start_at_node i l = get_or-map-range_with_len (λ j. value j (pad_at net j)) 0 net.nodes i i (pos 0) l (omega arith)

  start_size : length (start_list net bottom top w proposal) ≡ net.nodes
  start_size = length-map-range_with_len (λ j. value j (pad_at net j)) 0 net.nodes

  module _ (x y z : List ℤ) (size : length x ≡ net.nodes) (y_size : length y ≡ net.nodes) (z_size : length z ≡ net.nodes) where
    abbrev S : List ℤ
    S = start_list net bottom top w proposal

    pub made_high : ((i : ℕ) → i < net.nodes → entry_of x i ≡ value i (pad_at net i)) → ((i : ℕ) → i < net.nodes → entry_of z i ≡ entry_of y i)
        → IsHighAnswer held_rule net bottom top (margin net k r) (entry_of x) (entry_of y) → IsMade High net bottom top w proposal z
    made_high each back a =
        let s : x ≡ S = same_list net.nodes x S size start_size (λ i l. each i l ∙ sym (start_at_node i l)) in
        let b : y ≡ z = same_list net.nodes y z y_size z_size (λ i l. sym (back i l)) in
        let c = subst (λ (u : List ℤ). IsHighAnswer held_rule net bottom top (margin net k r) (entry_of u) (entry_of y)) s a in
        let d = subst (λ (u : List ℤ). IsHighAnswer held_rule net bottom top (margin net k r) (entry_of S) (entry_of u)) b c in
        subst (λ (n : ℕ). IsHighAnswer held_rule net bottom top n (entry_of S) (entry_of z)) (sym range.width_is) d

    pub made_low : ((i : ℕ) → i < net.nodes → entry_of x i ≡ neg_ℤ (value i (pad_at net i))) → ((i : ℕ) → i < net.nodes → entry_of z i ≡ neg_ℤ (entry_of y i))
        → IsHighAnswer held_rule (mirror net) (neg_ℤ top) (neg_ℤ bottom) (margin (mirror net) k r) (entry_of x) (entry_of y) → IsMade Low net bottom top w proposal z
    made_low each back a =
        let s : x ≡ map neg_ℤ S = same_list net.nodes x (map neg_ℤ S) size (length_turned S ∙ start_size) (λ i l. each i l ∙ ap neg_ℤ (sym (start_at_node i l)) ∙ sym (entry_turned S i)) in
        let b : z ≡ map neg_ℤ y = same_list net.nodes z (map neg_ℤ y) z_size (length_turned y ∙ y_size) (λ i l. back i l ∙ sym (entry_turned y i)) in
        let from : (j : ℕ) → entry_of S j ≡ neg_ℤ (entry_of x j) = λ j. sym (neg_ℤ-neg_ℤ (entry_of S j)) ∙ ap neg_ℤ (sym (entry_turned S j) ∙ ap (λ u. entry_of u j) (sym s)) in
        let to : (j : ℕ) → entry_of z j ≡ neg_ℤ (entry_of y j) = λ j. ap (λ u. entry_of u j) b ∙ entry_turned y j in
        let same : margin (mirror net) k r ≡ w = ap (λ n. k * (r * n)) (mirror_reach net) ∙ sym range.width_is in
        record {
          holds = low_from_high held_rule net (entry_of z) (entry_of y) to a.holds;
          tight = tight_from_high held_rule net (entry_of z) (entry_of y) to a.tight;
          at_least = λ i l. omega (arith, ints, a.at_most i l, to i, same);
          at_most = λ i l. omega (arith, ints, a.at_least i l, to i, same);
          not_below = λ holds i l. omega (arith, ints, a.not_above (high_from_low held_rule net (entry_of S) (entry_of x) from holds) i l, to i, from i);
          the_start = λ holds tight i l. omega (arith, ints, a.the_start (high_from_low held_rule net (entry_of S) (entry_of x) from holds) (tight_from_low held_rule net (entry_of S) (entry_of x) from tight) i l, to i, from i);
        }

    pub made : (half : Half) → ((i : ℕ) → i < net.nodes → entry_of x i ≡ seen_volts half (value i (pad_at net i))) → ((i : ℕ) → i < net.nodes → entry_of z i ≡ seen_volts half (entry_of y i))
        → IsHighAnswer held_rule (seen half net) (bottom_of half bottom top) (top_of half bottom top) (margin (seen half net) k r) (entry_of x) (entry_of y) → IsMade half net bottom top w proposal z
    made High each back a = made_high each back a
    made Low each back a = made_low each back a
