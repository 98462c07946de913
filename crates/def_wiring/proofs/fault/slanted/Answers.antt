use Rattle.std.proofs.Common.{refl, sym, subst}
use Rattle.def_wiring.specs.Number.{IsOther}
use Rattle.def_wiring.proofs.Faults.{not_true}
use Rattle.def_wiring.proofs.fault.slanted.Goals as goal

pub returns-then-not-is_other : goal.returns-then-not-is_other
returns-then-not-is_other c = λ kind h.
    not_true c.is_other.result c.if-not-is_other.true (c.is_other.ensures.1 (subst (λ z. IsOther z c.args.x.now) (sym c.bytes.ensures) h.0))

pub returns-then-not-is_other-2 : goal.returns-then-not-is_other-2
returns-then-not-is_other-2 c = λ kind h.
    not_true c.is_other-2.result c.if-not-is_other-2.true (c.is_other-2.ensures.1 (subst (λ z. IsOther z c.args.y.now) (sym c.bytes-2.ensures) h.1))

pub returns : goal.returns
returns c = (
  subst (λ z. IsOther z c.args.x.now) c.bytes.ensures (c.is_other.ensures.0 c.if-not-is_other.false),
  subst (λ z. IsOther z c.args.y.now) c.bytes-2.ensures (c.is_other-2.ensures.0 c.if-not-is_other-2.false),
  refl,
)
