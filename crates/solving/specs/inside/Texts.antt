-- The texts of a certificate that is kept, and what its report says of the solutions of its network.
use Rattle.std.specs.Prelude.{◌≡◌, ℕ, ◌<◌, ℤ, List, length}
use Rattle.bound_check.specs.Certified.{Certificate, IsKept, LiesWithin, nanovolt, nanoampere}
use Rattle.certificate_file.specs.Written.{certificate_text}
use Rattle.grid_net.specs.Solution.{IsSolution}
use Rattle.signoff_report.specs.Limits.{resistor_at}
use Rattle.signoff_report.specs.Report.{written_report}
use Rattle.signoff_report.specs.Shown.{shown_voltage, shown_current}
use Rattle.solving.specs.declared.signed.Signed.{Signed}
use Rattle.solving.specs.Signed.{unlimited}

-- What was made of a certificate for nodes of these names: its text, its report, and the numbers.
pub record AreTextsOf (c : Certificate) (names : List (List ℕ)) (signed : Signed) : Type 0 where
  pub certificate : signed.certificate ≡ certificate_text names c.high c.low
  pub report : signed.report ≡ written_report c names (unlimited c.net)
  pub nodes : signed.nodes ≡ c.net.nodes
  pub resistors : signed.resistors ≡ length c.net.resistors
  pub sweeps : signed.sweeps ≡ c.sweeps

-- The certificate is a tight one, and every solution of its network lies within the intervals that are printed of it.
pub record ReportHolds (c : Certificate) : Type 0 where
  pub kept : IsKept c
  pub voltages : (q : ℕ) (p currents drawn : ℕ → ℤ) → IsSolution c.net q p currents drawn → (node : ℕ)
      → node < c.net.nodes → LiesWithin nanovolt q (p node) (shown_voltage c node)
  pub currents : (q : ℕ) (p currents drawn : ℕ → ℤ) → IsSolution c.net q p currents drawn → (k : ℕ)
      → k < length c.net.resistors → LiesWithin nanoampere q (currents k) (shown_current c (resistor_at c.net k))
