use Rattle.std.proofs.Common.{◌≡◌, ◌↔◌, Option, Some, IsTrue, sym, subst}
use Rattle.number_place.specs.declared.place.Refused.TheVariants.{Syntax}
use Rattle.script_options.specs.Value.{Refuses, Suits}
use Rattle.script_options.proofs.Refusals.{not_named, none_then}
use Rattle.script_options.proofs.value.value_refused.Goals as goal

pub returns-in-Name-clause-is : goal.returns-in-Name-clause-is
returns-in-Name-clause-is c = λ refused. subst (λ z. (c.syntax_unless.result ≡ Some refused) ↔ Refuses z c.args.text.now refused) (sym c.in-Name.is)
    (not_named c.syntax_unless.result c.is_name.result c.args.text.now c.is_name.ensures c.syntax_unless.ensures.is refused)

pub returns-in-Name-clause-fine : goal.returns-in-Name-clause-fine
returns-in-Name-clause-fine c = none_then c.syntax_unless.result (λ h. subst (λ z. Suits z c.args.text.now) (sym c.in-Name.is) (c.is_name.ensures.0 h)) c.syntax_unless.ensures.fine

pub returns-in-Start-clause-is : goal.returns-in-Start-clause-is
returns-in-Start-clause-is c = λ refused. subst (λ z. (c.syntax_unless-in-Start.result ≡ Some refused) ↔ Refuses z c.args.text.now refused) (sym c.in-Start.is)
    (subst (λ z. (c.syntax_unless-in-Start.result ≡ Some refused) ↔ ((refused ≡ Syntax) × (IsTrue z → ⊥))) c.is_start.ensures (c.syntax_unless-in-Start.ensures.is refused))

pub returns-in-Number-clause-is : goal.returns-in-Number-clause-is
returns-in-Number-clause-is c = λ refused. subst (λ z. (c.number_refused.result ≡ Some refused) ↔ Refuses z c.args.text.now refused) (sym c.in-Number.is) (c.number_refused.ensures.is refused)

pub returns-in-Names-clause-is : goal.returns-in-Names-clause-is
returns-in-Names-clause-is c = λ refused. subst (λ z. (c.names_refused.result ≡ Some refused) ↔ Refuses z c.args.text.now refused) (sym c.in-Names.is) (c.names_refused.ensures.is refused)

pub returns-in-Numbers-clause-is : goal.returns-in-Numbers-clause-is
returns-in-Numbers-clause-is c = λ refused. subst (λ z. (c.numbers_refused.result ≡ Some refused) ↔ Refuses z c.args.text.now refused) (sym c.in-Numbers.is) (c.numbers_refused.ensures.is refused)
