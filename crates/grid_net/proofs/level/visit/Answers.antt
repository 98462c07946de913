use Rattle.std.proofs.Common.{◌≡◌, ◌∙◌, ℕ, ◌<◌, inl, inr, ap, sym, subst, arith, List, length, get_or, All, true}
use Rattle.std.proofs.lemmas.Bool.{cases_lt}
use Rattle.grid_net.specs.declared.part.Resistor.{Resistor}
use Rattle.grid_net.specs.Network.{other_end, stands_at}
use Rattle.grid_net.specs.Level.{IsWithin}
use Rattle.grid_net.specs.Laws.Flows.{places_are_places, other_is_node}
use Rattle.grid_net.specs.inside.Flows.{no_resistor}
use Rattle.grid_net.specs.inside.Level.{told}
use Rattle.grid_net.proofs.Levels.{put_search, put_grown, put_kept, put_met, stands_around, joined_around, joined_place}
use Rattle.grid_net.proofs.level.visit.Goals as goal

pub bounds-resistors-place : goal.bounds-resistors-place
bounds-resistors-place c =
    let net = c.args.circuit.now in
    let rs = net.resistors in
    let all = subst (λ (ks : List ℕ). All (λ p. p < length rs) ks) (sym c.around-around.ensures) (places_are_places rs c.args.node) in
    let l = all c.loop-place.place-index 0 c.loop-place-test.true in
    omega (arith, l, ap length c.resistors-resistors.ensures)

pub loop-place-preserved : goal.loop-place-preserved
loop-place-preserved c =
    let net = c.args.circuit.now in
    let rs = net.resistors in
    let node = c.args.node in
    let at = c.loop-place.place-index in
    let inv = c.loop-place.invariant in
    let around = c.around-around.result.now in
    let p = get_or around at 0 in
    let places = subst (λ (ks : List ℕ). All (λ p. p < length rs) ks) (sym c.around-around.ensures) (places_are_places rs node) in
    let stand = subst (λ (ks : List ℕ). All (λ p. stands_at node (get_or rs p no_resistor) ≡ true) ks) (sym c.around-around.ensures) (stands_around rs node no_resistor) in
    let p_in = places at 0 c.loop-place-test.true in
    let joined = joined_around net p node no_resistor p_in (stand at 0 c.loop-place-test.true) in
    let other = other_end (get_or rs p no_resistor) node in
    let is_other : c.end_across-other.result ≡ other = c.end_across-other.ensures ∙ ap (λ (xs : List Resistor). other_end (get_or xs p no_resistor) node) c.resistors-resistors.ensures in
    let other_in : c.end_across-other.result < net.nodes = omega (arith, is_other, other_is_node net.nodes (get_or rs p no_resistor) node (c.requires.built.is_network.each_resistor p no_resistor p_in)) in
    let near = subst (λ (i : ℕ). IsWithin net c.args.level i) (sym is_other) (c.requires.near other joined) in
    let old = c.loop-place.levels in
    let new = c.put-end.new.levels in
    let q = c.loop-place.queue in
    let qnew = c.put-end.new.queue in
    let put = c.put-end.ensures in
    record {
      search = put_search net c.end_across-other.result c.args.level old new q qnew c.loop-place.end c.put-end.result inv.search other_in put near;
      grown = put_grown net c.end_across-other.result c.args.level old new q qnew c.loop-place.end c.put-end.result inv.search other_in put c.args.levels.now c.args.queue.now c.args.tail inv.grown;
      met = λ k l. elim (cases_lt k at) [
        | inl before ↦ (let t = inv.met k before in (t.0, put_kept net c.end_across-other.result c.args.level old new q qnew c.loop-place.end c.put-end.result inv.search other_in put (other_end (get_or c.resistors-resistors.result.now (get_or around k 0) no_resistor) node) t.0 t.1))
        | inr after ↦ (
            let e : k ≡ at = omega (arith, l, after) in
            let t = put_met net c.end_across-other.result c.args.level old new q qnew c.loop-place.end c.put-end.result inv.search other_in put in
            (t.0, ap (λ (j : ℕ). told new (other_end (get_or c.resistors-resistors.result.now (get_or around j 0) no_resistor) node)) e ∙ ap (told new) (sym c.end_across-other.ensures) ∙ t.1))
      ];
    }

pub returns-clause-met : goal.returns-clause-met
returns-clause-met c = λ i j.
    let net = c.args.circuit.now in
    let node = c.args.node in
    let t = joined_place net i node no_resistor j in
    let around = c.around-around.ensures in
    let l : t.0 < c.loop-place.place-index = omega (arith, t.1, ap length around, c.loop-place-test.false, c.loop-place.auto) in
    let m = c.loop-place.invariant.met t.0 l in
    let e = ap (λ (xs : List Resistor). other_end (get_or xs (get_or c.around-around.result.now t.0 0) no_resistor) node) c.resistors-resistors.ensures ∙ ap (λ (ks : List ℕ). other_end (get_or net.resistors (get_or ks t.0 0) no_resistor) node) around ∙ t.2 in
    (m.0, ap (told c.loop-place.levels) (sym e) ∙ m.1)
