use Rattle.std.proofs.Common.{inl}
use Rattle.std.proofs.lemmas.Result.{IfOk-weaker, MatchResult-weaker}
use Rattle.signing_off.specs.Inputs.{wired_texts}
use Rattle.signing_off.proofs.Refusing.{unsigned}
use Rattle.signing_off.proofs.Signs.{signs}
use Rattle.signing_off.proofs.whole.sign_off.Goals as goal

pub returns-in-Ok-clause-signed : goal.returns-in-Ok-clause-signed
returns-in-Ok-clause-signed g c =
    IfOk-weaker c.sign_records.result _ _ (λ signed is. signs (g.V.Solver.told c.args.solver.now) (wired_texts c.args.inputs.now) c.in-Ok.records signed c.in-Ok.ensures.records is) c.sign_records.ensures.signed

pub returns-in-Ok-clause-refused : goal.returns-in-Ok-clause-refused
returns-in-Ok-clause-refused g c =
    MatchResult-weaker c.sign_records.result c.sign_records.ensures.refused (λ signed is. is) (λ answer is. unsigned (wired_texts c.args.inputs.now) c.in-Ok.records answer c.in-Ok.ensures.records is)

pub returns-in-Err-clause-refused : goal.returns-in-Err-clause-refused
returns-in-Err-clause-refused g c = inl c.in-Err.ensures.refused
