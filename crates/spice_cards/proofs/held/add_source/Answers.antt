use Rattle.std.proofs.Common.{◌≤◌, ◌^◌, sym, ◌∙◌, ap, subst, arith}
use Rattle.std.specs.Prelude.{unsigned_abs, neg_ℤ}
use Rattle.spice_cards.proofs.Ranges.{kept_128, kept_turned}
use Rattle.spice_cards.proofs.Taking.{pad_adds, turned_adds, short_adds, neither}
use Rattle.spice_cards.proofs.Values.{on_ok}
use Rattle.spice_cards.proofs.held.add_source.Goals as goal

pub returns-then-is_ground : goal.returns-then-is_ground
returns-then-is_ground c =
    on_ok _ _ c.add_pad.result (λ h text is zero.
    pad_adds c.args.a.now c.args.b.now text c.args.volts _ _ _ (sym c.is_ground.ensures ∙ c.if-is_ground.true) is (kept_128 c.args.volts _ (omega arith) is.1.2.within) h) c.add_pad.ensures

pub returns-then-is_ground-2 : goal.returns-then-is_ground-2
returns-then-is_ground-2 c =
    on_ok _ _ c.add_pad-then-is_ground-2.result (λ h text is zero.
    let kept = kept_128 c.args.volts _ (omega arith) is.1.2.within in
    let near = subst (λ z. unsigned_abs z ≤ 10 ^ 30) (sym kept) is.1.2.within in
    turned_adds c.args.a.now c.args.b.now text c.args.volts _ _ _ (sym c.is_ground-else-is_ground.ensures ∙ c.if-is_ground-2.true) (sym c.is_ground.ensures ∙ c.if-is_ground.false) is
    (kept_turned c.args.volts c.turned_volts.result is.1.2.within (c.turned_volts.ensures near ∙ ap neg_ℤ kept)) h) c.add_pad-then-is_ground-2.ensures

pub returns-else-is_ground-2 : goal.returns-else-is_ground-2
returns-else-is_ground-2 c =
    on_ok _ _ c.add_short.result (λ h text is zero.
    let first = sym c.is_ground-else-is_ground.ensures ∙ c.if-is_ground-2.false in
    let second = sym c.is_ground.ensures ∙ c.if-is_ground.false in
    short_adds c.args.a.now c.args.b.now text c.args.volts _ _ first second is (zero (neither _ _ first second)) h) c.add_short.ensures
