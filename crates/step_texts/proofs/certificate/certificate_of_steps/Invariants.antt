use Rattle.std.proofs.Common.{◌≡◌, take}
use Rattle.std.specs.List.{flat_map, enumerate_from, zip}
use Rattle.step_texts.specs.Texts.{certified_step}
use Rattle.step_texts.proofs.certificate.certificate_of_steps.Given as goal

-- The steps before this one are written.
abbrev pub invariant-loop-step : goal.invariant-loop-step
invariant-loop-step l = l.text.items ≡ flat_map (certified_step l.names) (enumerate_from 0 (take l.step (zip l.high l.low)))
