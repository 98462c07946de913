-- A fault that is passed on.
use Rattle.std.proofs.Common.{◌≡◌, subst, sym, Result}
use Rattle.std.specs.declared.result.Result.TheVariants.{Ok, Err}
use Rattle.std.specs.Result.{IsErrAnd, IfErr}

pub err_on : {T E : Type 0} (Q : E → Type 0) (r : Result T E) (e : E) → IsErrAnd r (λ x. x ≡ e) → Q e → IfErr r Q
err_on Q (Ok x) e is h = absurd is
err_on Q (Err x) e is h = subst Q (sym is) h
