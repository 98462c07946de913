use Rattle.std.proofs.Common.{◌≡◌, ◌∙◌, ◌<◌, ℕ, pos, neg_ℤ, ◌-ℤ◌, ◌+ℤ◌, get_or, length, ap, arith, to_z-of_z, SFits, rules}
use mir.Syntax.{w128}
use Rattle.std.proofs.lemmas.Int.{ints}
use Rattle.rounding.specs.Rounding.{quotient}
use Rattle.grid_net.specs.Network.{entry_of, taken_by}
use Rattle.bound_check.specs.Laws.Adding.{added_both}
use Rattle.bound_check.proofs.by_resistor.add_flow.Goals as goal

pub returns : goal.returns
returns c =
    let r = c.args.r.now in
    let x = c.args.x.now in
    let at_a = c.requires.values r.a (pos 0) c.requires.ends.a_is_node in
    let at_b = c.requires.values r.b (pos 0) c.requires.ends.b_is_node in
    let fa : SFits w128 (get_or x r.a (pos 0)) = search rules in
    let fb : SFits w128 (get_or x r.b (pos 0)) = search rules in
    let fd : SFits w128 (get_or x r.a (pos 0) -ℤ get_or x r.b (pos 0)) = omega (arith, ints, at_a, at_b) in
    let fo : SFits w128 r.ohms = search rules in
    let f = c.flows_from_ends-from_a.result.0 in
    let g = c.flows_from_ends-from_a.result.1 in
    let ff : SFits w128 f = omega (arith, ints, c.flows_from_ends-from_a.ensures.a_within) in
    let fg : SFits w128 g = omega (arith, ints, c.flows_from_ends-from_a.ensures.b_within) in
    let back : neg_ℤ (get_or x r.a (pos 0) -ℤ get_or x r.b (pos 0)) ≡ get_or x r.b (pos 0) -ℤ get_or x r.a (pos 0) = omega (arith, ints) in
    let from_a = simp to_z-of_z at c.flows_from_ends-from_a.ensures.from_a in
    let turned = simp to_z-of_z at c.flows_from_ends-from_a.ensures.from_b in
    let from_b = turned ∙ ap (λ z. quotient c.args.round z r.ohms) back in
    let first = simp to_z-of_z at c.add.ensures.sums in
    let second = simp to_z-of_z at c.add-2.ensures.sums in
    let small = simp to_z-of_z at c.add.ensures.within in
    let in_a : r.a < length c.args.sums.now = omega (arith, c.requires.ends.a_is_node, c.requires.same) in
    let in_b : r.b < length c.args.sums.now = omega (arith, c.requires.ends.b_is_node, c.requires.same) in
    let old = λ (i : ℕ). entry_of c.args.sums.now i in
    record {
      sums = λ ok i l.
          added_both c.args.sums.now c.add.new.sums c.add-2.new.sums r i f g in_a in_b (first c.if-not-add.false) (second ok)
          ∙ ap (λ z. old i +ℤ taken_by r i z g) from_a
          ∙ ap (λ z. old i +ℤ taken_by r i (quotient c.args.round (entry_of x r.a -ℤ entry_of x r.b) r.ohms) z) from_b;
      within = λ ok. (let w = small c.if-not-add.false in (omega (arith, ints, w, from_a), omega (arith, ints, w, from_a)));
    }
