-- Outputs are one whose texts and numbers are.
use Rattle.std.proofs.Common.{◌≡◌, ℕ, List, ap, ◌∙◌}
use Rattle.answers.specs.declared.built.Built.{Built as Numbers}
use Rattle.building.specs.declared.outputs.Outputs.{Outputs}

abbrev outputs_from : (def netlist certificate report : List ℕ) → Numbers → Outputs
outputs_from def netlist certificate report numbers = record { def = def; netlist = netlist; certificate = certificate; report = report; numbers = numbers }

pub same_outputs : (a b : Outputs) → a.def ≡ b.def → a.netlist ≡ b.netlist → a.certificate ≡ b.certificate → a.report ≡ b.report → a.numbers ≡ b.numbers → a ≡ b
same_outputs a b def netlist certificate report numbers =
    ap (λ (z : List ℕ). outputs_from z a.netlist a.certificate a.report a.numbers) def
    ∙ ap (λ (z : List ℕ). outputs_from b.def z a.certificate a.report a.numbers) netlist
    ∙ ap (λ (z : List ℕ). outputs_from b.def b.netlist z a.report a.numbers) certificate
    ∙ ap (λ (z : List ℕ). outputs_from b.def b.netlist b.certificate z a.numbers) report
    ∙ ap (outputs_from b.def b.netlist b.certificate b.report) numbers
