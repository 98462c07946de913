use Rattle.std.proofs.Common.{◌≡◌, ◌∙◌, ℕ, ◌<◌, pos, inl, inr, ap, sym, arith, length, get_or, set, to_z, of_z, to_z-of_z, SFits, rules, unsigned_abs}
use mir.Syntax.{w128}
use Rattle.std.proofs.lemmas.Bool.{cases_eq}
use Rattle.std.proofs.lemmas.List.{get_or-set_same, get_or-set_other, length-set}
use Rattle.grid_net.specs.Network.{entry_of, pad_at}
use Rattle.bound_make.specs.inside.Half.{seen_volts}
use Rattle.bound_make.specs.Certifier.{start_value}
use Rattle.bound_make.proofs.make.make_start.Goals as goal

pub loop-entry-preserved : goal.loop-entry-preserved
loop-entry-preserved c =
    let x = c.loop-entry.x in
    let k = c.loop-entry.entry-index in
    let inv = c.loop-entry.invariant in
    let s = c.args.scale in
    let w = unsigned_abs s.width in
    let here : k < length x = omega (arith, c.loop-entry-test.true, inv.size) in
    let fr : SFits w128 c.start_at.result = search rules in
    let fx : SFits w128 (get_or x k (pos 0)) = search rules in
    let value = simp to_z-of_z at c.start_at.ensures in
    let v = to_z w128 (of_z w128 c.start_at.result) in
    let e : v ≡ seen_volts c.args.half (start_value s.bottom s.top w (entry_of c.args.x.now k) (pad_at c.args.net.now k)) = to_z-of_z fr ∙ value
    ∙ ap (λ z. seen_volts c.args.half (start_value s.bottom s.top w z (pad_at c.args.net.now c.loop-entry.node))) (inv.left k (omega arith))
    ∙ ap (λ (n : ℕ). seen_volts c.args.half (start_value s.bottom s.top w (entry_of c.args.x.now k) (pad_at c.args.net.now n))) inv.counted in
    record {
      counted = omega (arith, inv.counted);
      size = length-set x k v ∙ inv.size;
      done = λ i l. elim (cases_eq i k) [
        | inl same ↦ (ap (λ (j : ℕ). get_or (set x k v) j (pos 0)) same ∙ get_or-set_same x k v (pos 0) here ∙ e ∙ ap (λ (j : ℕ). seen_volts c.args.half (start_value s.bottom s.top w (entry_of c.args.x.now j) (pad_at c.args.net.now j))) (sym same))
        | inr ne ↦ (get_or-set_other x k i v (pos 0) ne ∙ inv.done i (omega arith))
      ];
      left = λ i l. get_or-set_other x k i v (pos 0) (λ same. omega (arith, same)) ∙ inv.left i (omega arith);
    }
