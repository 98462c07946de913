use Rattle.std.proofs.Common.{◌≡◌, ◌≤ℤ◌, List, [], ◌∷◌, ◌++◌, map, All, refl, sym, ap, ◌∙◌, subst, arith}
use Rattle.std.specs.List.{range_with_len}
use Rattle.std.proofs.lemmas.List.FromFn.{map-range_with_len_more}
use Rattle.load_shares.specs.declared.share.Share.{Share}
use Rattle.load_shares.specs.Shares.{share_at, shares_of, total}
use Rattle.load_shares.proofs.Sums.{whole_sum, all_rise}
use Rattle.load_shares.proofs.sharing.shares.Goals as goal

pub loop-place-preserved : goal.loop-place-preserved
loop-place-preserved c =
    let place = c.loop-place.place in
    let share = share_at c.args.load c.args.count in
    c.in_ok-push.ensures.items ∙ ap (λ (xs : List Share). xs ++ c.share_at.result ∷ []) c.loop-place.invariant
    ∙ ap (λ (x : Share). map share (range_with_len 0 place) ++ x ∷ []) c.share_at.ensures
    ∙ sym (map-range_with_len_more share 0 place place (omega arith))

pub returns-clause-low : goal.returns-clause-low
returns-clause-low c =
    let ended : c.loop-place.place ≡ c.args.count = omega arith in
    ap (total (λ (s : Share). s.low)) (c.loop-place.invariant ∙ ap (λ n. map (share_at c.args.load c.args.count) (range_with_len 0 n)) ended)
    ∙ whole_sum (λ s. s.low) c.args.load.low c.args.load c.args.count c.requires (λ place. refl)

pub returns-clause-high : goal.returns-clause-high
returns-clause-high c =
    let ended : c.loop-place.place ≡ c.args.count = omega arith in
    ap (total (λ (s : Share). s.high)) (c.loop-place.invariant ∙ ap (λ n. map (share_at c.args.load c.args.count) (range_with_len 0 n)) ended)
    ∙ whole_sum (λ s. s.high) c.args.load.high c.args.load c.args.count c.requires (λ place. refl)

pub returns-clause-in_order : goal.returns-clause-in_order
returns-clause-in_order c =
    let ended : c.loop-place.place ≡ c.args.count = omega arith in
    let all : shares_of c.args.load c.args.count ≡ c.loop-place.shares.items =
    sym (c.loop-place.invariant ∙ ap (λ n. map (share_at c.args.load c.args.count) (range_with_len 0 n)) ended) in
    λ rises. subst (λ (xs : List Share). All (λ (s : Share). s.low ≤ℤ s.high) xs) all (all_rise c.args.load c.args.count c.requires rises)
