-- A fault that is passed on.
use Rattle.std.proofs.Common.{◌≡◌, subst, sym, Result, MatchResult}
use Rattle.std.specs.declared.result.Result.TheVariants.{Ok, Err}
use Rattle.std.specs.Result.{IsErrAnd, IfErr}

pub passed_on : {T E : Type 0} (P : T → Type 0) (Q : E → Type 0) (r : Result T E) (e : E) → IsErrAnd r (λ x. x ≡ e) → Q e → MatchResult r P Q
passed_on P Q (Ok x) e is h = absurd is
passed_on P Q (Err x) e is h = subst Q (sym is) h

pub err_on : {T E : Type 0} (Q : E → Type 0) (r : Result T E) (e : E) → IsErrAnd r (λ x. x ≡ e) → Q e → IfErr r Q
err_on Q (Ok x) e is h = absurd is
err_on Q (Err x) e is h = subst Q (sym is) h
