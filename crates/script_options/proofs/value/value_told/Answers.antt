use Rattle.std.proofs.Common.{◌≡◌, ◌↔◌, Err, sym, subst}
use Rattle.script_options.specs.Value.{Refuses}
use Rattle.script_options.proofs.value.value_told.Goals as goal

pub returns-in-Number-clause-refused : goal.returns-in-Number-clause-refused
returns-in-Number-clause-refused c = λ refused.
    subst (λ z. (c.number_told.result ≡ Err refused) ↔ Refuses z c.args.text.now refused) (sym c.in-Number.is) (c.number_told.ensures.refused refused)
