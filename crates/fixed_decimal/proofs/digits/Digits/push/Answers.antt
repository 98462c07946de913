use Rattle.std.proofs.Common.{arith, ℕ, ◌+◌, ◌*◌, subst, sym}
use Rattle.fixed_decimal.specs.inside.Kept.{Keeps}
use Rattle.fixed_decimal.proofs.Keeping.{keeps_more, keeps_on}
use Rattle.fixed_decimal.proofs.digits.Digits.push.Goals as goal

pub returns-then-self-le-KEPT_LIMIT-clause-keeps :
    goal.returns-then-self-le-KEPT_LIMIT-clause-keeps
returns-then-self-le-KEPT_LIMIT-clause-keeps c = λ n k.
    let P : ℕ → Type 0 = λ d. Keeps (n * 10 + c.args.digit) (record { kept = c.args.self.kept * 10 + d; dropped = c.args.self.dropped }) in
    subst P (sym c.from.ensures) (keeps_more n c.args.digit c.args.self c.requires.digit (omega arith) k)

pub returns-else-self-le-KEPT_LIMIT-clause-keeps :
    goal.returns-else-self-le-KEPT_LIMIT-clause-keeps
returns-else-self-le-KEPT_LIMIT-clause-keeps c = λ n k. keeps_on n c.args.digit c.args.self c.requires.digit (omega arith) k
