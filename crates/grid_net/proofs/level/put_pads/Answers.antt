use Rattle.std.proofs.Common.{◌≡◌, ◌∙◌, ℕ, ◌<◌, inl, inr, ap, sym, subst, arith, List, length, get_or, pos}
use Rattle.std.proofs.lemmas.Bool.{cases_lt}
use Rattle.std.proofs.lemmas.List.{get_or_default}
use Rattle.grid_net.specs.declared.part.Pad.{Pad}
use Rattle.grid_net.specs.Level.{IsWithin}
use Rattle.grid_net.specs.inside.Level.{told}
use Rattle.grid_net.proofs.Levels.{put_search, put_grown, put_kept, put_met, grown_level}
use Rattle.grid_net.specs.Laws.Pads.{pad_is_first, pad_in_list}
use Rattle.grid_net.proofs.level.put_pads.Goals as goal

pub loop-pad-preserved : goal.loop-pad-preserved
loop-pad-preserved c =
    let net = c.args.circuit.now in
    let at = c.loop-pad.pad-index in
    let d : Pad = record { node = 0; volts = pos 0 } in
    let ps = c.pads-pad-items.result.now in
    let node = (get_or ps at d).node in
    let is = c.pads-pad-items.ensures in
    let inv = c.loop-pad.invariant in
    let l : at < length net.pads = omega (arith, c.loop-pad-test.true, ap length is) in
    let same : node ≡ (get_or net.pads at d).node = ap (λ (xs : List Pad). (get_or xs at d).node) is in
    let node_in : node < net.nodes = omega (arith, same, c.requires.built.pads_are_nodes at d l) in
    let near : IsWithin net 0 node = subst (λ (i : ℕ). IsWithin net 0 i) (sym same) (pad_is_first net.pads at d l) in
    let old = c.loop-pad.levels in
    let new = c.put-end.new.levels in
    let q = c.loop-pad.queue in
    let qnew = c.put-end.new.queue in
    let put = c.put-end.ensures in
    let grown = put_grown net node 0 old new q qnew c.loop-pad.end c.put-end.result inv.search node_in put c.args.levels.now c.args.queue.now 0 inv.grown in
    record {
      search = put_search net node 0 old new q qnew c.loop-pad.end c.put-end.result inv.search node_in put near;
      grown = grown;
      met = λ k d' b. elim (cases_lt k at) [
        | inl before ↦ put_kept net node 0 old new q qnew c.loop-pad.end c.put-end.result inv.search node_in put (get_or net.pads k d').node 0 (inv.met k d' before)
        | inr after ↦ (
            let e : k ≡ at = omega (arith, b, after) in
            let t = put_met net node 0 old new q qnew c.loop-pad.end c.put-end.result inv.search node_in put in
            let zero_told = grown_level net 0 c.args.levels.now new c.args.queue.now qnew c.put-end.result c.requires.search grown node t.0 t.1 in
            ap (λ (j : ℕ). told new (get_or net.pads j d').node) e ∙ ap (λ (p : Pad). told new p.node) (get_or_default net.pads at d' d l) ∙ ap (told new) (sym same) ∙ zero_told)
      ];
    }

pub returns-clause-pads : goal.returns-clause-pads
returns-clause-pads c = λ i v h.
    let net = c.args.circuit.now in
    let d : Pad = record { node = 0; volts = pos 0 } in
    let t = pad_in_list net.pads i v d h in
    let l : t.0 < c.loop-pad.pad-index = omega (arith, t.1, ap length c.pads-pad-items.ensures, c.loop-pad-test.false, c.loop-pad.auto) in
    ap (told c.loop-pad.levels) (sym t.2) ∙ c.loop-pad.invariant.met t.0 d l
