use Rattle.std.proofs.Common.{◌≡◌, ℕ, ◌<◌, ◌≤◌, ◌⊎◌, inl, inr, ℤ, ◌<ℤ◌, ◌≤ℤ◌, List, length, get_or, ◌+◌, pos, subst, sym, ◌∙◌, SFits, w64, arith, rules}
use Rattle.std.proofs.lemmas.Bool.{cases_lt}
use Rattle.std.proofs.lemmas.Int.{ints, to_z-of_z}
use Rattle.std.proofs.lemmas.List.{get_or_default}
use Rattle.grid_stacks.specs.declared.bar.Start.{Start}
use Rattle.grid_stacks.specs.Crossing.{At}
use Rattle.grid_stacks.specs.inside.Standing.{Lies, AreByStart}
use Rattle.grid_pieces.specs.Laws.Orders.{le_from}
use Rattle.grid_stacks.proofs.crossed.open_up_to.Goals as goal

nothing : Start
nothing = record { from = pos 0; place = 0 }

-- from a start behind `low` on, all are
behind : (starts : List Start) (n : ℕ) (low : ℤ) (d : Start) → AreByStart starts → low <ℤ (get_or starts n d).from → (k : ℕ) (s : Start) → n ≤ k → At starts k s → low <ℤ s.from
behind starts n low d sorted over k s from at = by_place (cases_lt n k)
  where
    here : get_or starts k d ≡ s
    here = get_or_default starts k d s at.0 ∙ at.1

    by_place : (n < k) ⊎ (k ≤ n) → low <ℤ s.from
    by_place (inl less) =
        let le : (get_or starts n d).from ≤ℤ (get_or starts k d).from = le_from (get_or starts n d).from (get_or starts k d).from (sorted n k d less at.0) in
        subst (λ (x : Start). low <ℤ x.from) here (omega (arith, ints))
    by_place (inr not_less) =
        let same : n ≡ k = omega arith in
        subst (λ (x : Start). low <ℤ x.from) here (subst (λ m. low <ℤ (get_or starts m d).from) same over)

pub loop-next-preserved : goal.loop-next-preserved
unfolding nothing
loop-next-preserved c = record {
  behind = omega arith;
  within = omega arith;
  put = put;
  kept = λ p lies. c.in_ok-put_in.ensures.others p (c.loop-next.invariant.kept p lies);
}
  where
    put : (k : ℕ) (s : Start) → c.args.next ≤ k → k < c.loop-next.next + 1 → At c.args.starts.now k s → Lies c.put_in.new.lying s.place
    put k s from before at = by_place (cases_lt k c.loop-next.next)
      where
        by_place : (k < c.loop-next.next) ⊎ (c.loop-next.next ≤ k) → Lies c.put_in.new.lying s.place
        by_place (inl earlier) = c.in_ok-put_in.ensures.others s.place (c.loop-next.invariant.put k s from earlier at)
        by_place (inr here) =
            let is : c.loop-next.next ≡ k = omega arith in
            let same : get_or c.args.starts.now c.loop-next.next nothing ≡ s = subst (λ n. get_or c.args.starts.now n nothing ≡ s) (sym is) (get_or_default c.args.starts.now k nothing s at.0 ∙ at.1) in
            subst (λ (x : Start). Lies c.put_in.new.lying x.place) same c.in_ok-put_in.ensures.there

pub returns-else-starts-next-clause-behind : goal.returns-else-starts-next-clause-behind
unfolding nothing
returns-else-starts-next-clause-behind c =
    let starts = c.args.starts.now in
    let fits : SFits w64 c.args.low = search rules in
    let fits_too : SFits w64 (get_or starts c.loop-next.next nothing).from = search rules in
    behind starts c.loop-next.next c.args.low nothing c.requires.in_order (omega (arith, ints, c.if-starts-next.false))
