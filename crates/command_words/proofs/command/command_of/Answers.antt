use Rattle.std.proofs.Common.{◌<◌, IfOk, rules, length, codes, sym, subst}
use Rattle.command_words.specs.Words.{IsCommand}
use Rattle.command_words.proofs.Commands.{named_first}
use Rattle.command_words.proofs.command.command_of.Goals as goal

pub returns-then-eq-clause-command : goal.returns-then-eq-clause-command
returns-then-eq-clause-command c =
    let some : 0 < length c.args.words.now = search rules in
    subst (λ z. IfOk c.build.result (IsCommand z)) (named_first c.args.words.now _ (codes "build") some (sym c.if-eq.ensures)) c.build.ensures.command

pub returns-then-eq-2-clause-command : goal.returns-then-eq-2-clause-command
returns-then-eq-2-clause-command c =
    let some : 0 < length c.args.words.now = search rules in
    subst (λ z. IfOk c.solve.result (IsCommand z)) (named_first c.args.words.now _ (codes "solve") some (sym c.if-eq-2.ensures)) c.solve.ensures.command

pub returns-then-eq-3-clause-command : goal.returns-then-eq-3-clause-command
returns-then-eq-3-clause-command c =
    let some : 0 < length c.args.words.now = search rules in
    subst (λ z. IfOk c.check.result (IsCommand z)) (named_first c.args.words.now _ (codes "check") some (sym c.if-eq-3.ensures)) c.check.ensures.command

pub returns-then-eq-4-clause-command : goal.returns-then-eq-4-clause-command
returns-then-eq-4-clause-command c =
    let some : 0 < length c.args.words.now = search rules in
    subst (λ z. IfOk c.generate.result (IsCommand z)) (named_first c.args.words.now _ (codes "generate") some (sym c.if-eq-4.ensures)) c.generate.ensures.command

pub returns-then-eq-6-clause-command : goal.returns-then-eq-6-clause-command
returns-then-eq-6-clause-command c =
    let some : 0 < length c.args.words.now = search rules in
    subst (λ z. IfOk c.signoff.result (IsCommand z)) (named_first c.args.words.now _ (codes "signoff") some (sym c.if-eq-6.ensures)) c.signoff.ensures.command

pub returns-then-eq-5-clause-command : goal.returns-then-eq-5-clause-command
returns-then-eq-5-clause-command c =
    let some : 0 < length c.args.words.now = search rules in
    subst (λ z. IfOk c.step.result (IsCommand z)) (named_first c.args.words.now _ (codes "step") some (sym c.if-eq-5.ensures)) c.step.ensures.command
