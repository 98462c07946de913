use Rattle.std.proofs.Common.{◌≡◌, ◌+◌, ◌-◌, [], ◌∷◌, ◌++◌, subst, sym, arith}
use Rattle.via_arrays.specs.Pairs.{IsPair, IsPairRefused}
use Rattle.via_arrays.specs.Stacks.{IsStack, IsStackRefused}
use Rattle.via_arrays.specs.inside.Stacks.{ArePairs}
use Rattle.via_arrays.proofs.Joined.{one_more, refused, passed_on}
use Rattle.via_arrays.proofs.stacks.stack.Goals as goal

pub returns-in_err-array : goal.returns-in_err-array
returns-in_err-array c =
    let tech = c.args.tech.now in
    let error = c.in_err-array.field-0.0 in
    let not_joined : IsPairRefused tech c.args.crossing c.args.units c.args.max_columns c.args.max_rows c.loop-layer.layer error = c.in_err-array.ensures in
    passed_on (IsStack tech c.args.crossing c.args.units c.args.max_columns c.args.max_rows c.args.from c.args.to)
    (IsStackRefused tech c.args.crossing c.args.units c.args.max_columns c.args.max_rows c.args.from c.args.to) c.from_residual.result error c.from_residual.ensures.1
    (refused tech c.args.crossing c.args.units c.args.max_columns c.args.max_rows c.args.from c.loop-layer.layer c.args.to c.loop-layer.arrays.items c.loop-layer.ohms.items error
    (omega arith) (omega arith) c.loop-layer.invariant.pairs not_joined)

pub loop-layer-preserved : goal.loop-layer-preserved
loop-layer-preserved c =
    let tech = c.args.tech.now in
    let made = c.loop-layer.arrays.items in
    let ohms = c.loop-layer.ohms.items in
    let array = c.in_ok-array.array in
    let r = c.in_ok-array.resistance in
    let joined : IsPair tech c.args.crossing c.args.units c.args.max_columns c.args.max_rows c.loop-layer.layer array r = c.in_ok-array.ensures in
    let from = c.args.from in
    let count = c.loop-layer.layer - from in
    let next = c.loop-layer.layer + 1 - from in
    let at : c.loop-layer.layer ≡ from + count = omega arith in
    let more : count + 1 ≡ next = omega arith in
    let pairs : ArePairs tech c.args.crossing c.args.units c.args.max_columns c.args.max_rows from next (made ++ array ∷ []) (ohms ++ r ∷ []) =
    subst (λ n. ArePairs tech c.args.crossing c.args.units c.args.max_columns c.args.max_rows from n (made ++ array ∷ []) (ohms ++ r ∷ [])) more
    (one_more tech c.args.crossing c.args.units c.args.max_columns c.args.max_rows from count made ohms array r c.loop-layer.invariant.pairs
    (subst (λ n. IsPair tech c.args.crossing c.args.units c.args.max_columns c.args.max_rows n array r) at joined)) in
    let in_made = c.in_ok-push.ensures.items in
    let in_ohms = c.in_ok-push-2.ensures.items in
    record {
      upto = omega arith;
      pairs = subst (λ xs. ArePairs tech c.args.crossing c.args.units c.args.max_columns c.args.max_rows from next xs c.push-in-loop-layer.new.self.items) (sym in_made)
          (subst (λ os. ArePairs tech c.args.crossing c.args.units c.args.max_columns c.args.max_rows from next (made ++ array ∷ []) os) (sym in_ohms) pairs);
    }
