-- What a netlist is signed off with, and what that says of every solution of the netlist as it was written.
use Rattle.std.specs.Prelude.{◌≡◌, ℕ, ◌<◌, ℤ, List, [], Option, None, Ok, length, replicate, slice_index}
use Rattle.bound_check.specs.Certified.{Certificate, IsKept, LiesWithin, nanovolt, nanoampere}
use Rattle.bound_make.specs.Certifier.{LieInRange, MadeOfTold}
use Rattle.bound_make.specs.Scale.{Scale, IsScaleOf}
use Rattle.certificate_file.specs.declared.lists.Lists.{Lists}
use Rattle.certificate_file.specs.Format.{ReadsCertificate}
use Rattle.certificate_file.specs.Written.{certificate_text}
use Rattle.grid_net.specs.Certificate.{IsCertificate}
use Rattle.grid_net.specs.Level.{IsSupplied}
use Rattle.grid_net.specs.Network.{Network}
use Rattle.grid_net.specs.Shorted.{IsShortedSolution}
use Rattle.judging.specs.Stage.{GivesNetwork}
use Rattle.short_merge.specs.declared.merged.Merged.{Merged}
use Rattle.signoff_report.specs.declared.records.Limits.{Limits}
use Rattle.signoff_report.specs.Limits.{resistor_at}
use Rattle.signoff_report.specs.Report.{written_report}
use Rattle.signoff_report.specs.Shown.{shown_voltage, shown_current}
use Rattle.spice_grid.specs.declared.named.Named.{Named}
use Rattle.solving.specs.declared.signed.Signed.{Signed}

-- A chain of resistors joins each node to a pad.
abbrev pub EachIsSupplied : Network → Type 0
EachIsSupplied net = (i : ℕ) → i < net.nodes → IsSupplied net i

-- No limit is stated: no branch has one, and there are no nets.
abbrev pub unlimited : Network → Limits
unlimited net = record { branches = replicate (length net.resistors) None; nets = []; net_of = [] }

-- The certificate is a tight one of this network, its lists lie in the ranges of the network's own numbers, and they stand
-- to the starts of what the solver tells as certification has it.
pub record IsMadeOf (told : Option (List ℤ × List ℤ)) (net : Network) (c : Certificate) : Type 0 where
  pub net_is : c.net ≡ net
  pub kept : IsKept c
  pub scale : Scale
  pub scale_is : IsScaleOf net scale
  pub in_range : LieInRange net scale c.high c.low
  pub made : MadeOfTold net scale told c.high c.low

-- A netlist is signed off: its text gives the network of its groups, of which each is supplied; a tight certificate of
-- that network was made; and the texts are those of the certificate's two lists and of its report, with no limits.
pub record Signs (told : Option (List ℤ × List ℤ)) (text : List ℕ) (named : Named) (merged : Merged) (c : Certificate)
    (signed : Signed) : Type 0 where
  pub gives : GivesNetwork text named merged
  pub supplied : EachIsSupplied merged.net
  pub certified : IsMadeOf told merged.net c
  pub certificate : signed.certificate ≡ certificate_text merged.names c.high c.low
  pub report : signed.report ≡ written_report c merged.names (unlimited merged.net)
  pub nodes : signed.nodes ≡ merged.net.nodes
  pub resistors : signed.resistors ≡ length merged.net.resistors
  pub sweeps : signed.sweeps ≡ c.sweeps

-- Every solution of Ohm's and Kirchhoff's laws on the netlist as it was written lies within the printed intervals: over
-- every common denominator q, whatever is drawn within the ranges of the loads, and whatever flows through the shorts. The
-- voltage of a node lies within the interval of its group, and the current of a resistor within that of its branch.
pub record LieWithinReport (named : Named) (merged : Merged) (c : Certificate) : Type 0 where
  pub voltages : (q : ℕ) (p currents drawn shorted : ℕ → ℤ)
      → IsShortedSolution named.net named.shorts q p currents drawn shorted → (node : ℕ) → node < named.net.nodes
      → LiesWithin nanovolt q (p node) (shown_voltage c (slice_index merged.group node))
  pub currents : (q : ℕ) (p currents drawn shorted : ℕ → ℤ)
      → IsShortedSolution named.net named.shorts q p currents drawn shorted → (k : ℕ) → k < length named.net.resistors
      → LiesWithin nanoampere q (currents k) (shown_current c (resistor_at merged.net k))

-- Whoever checks the certificate finds that it holds: for the names of the groups its text reads as two lists, and these
-- pass the test of a certificate on the network of the groups.
pub record PassesCheck (merged : Merged) (signed : Signed) : Type 0 where
  pub lists : Lists
  pub reads : ReadsCertificate merged.names signed.certificate (Ok lists)
  pub holds : IsCertificate merged.net lists.high lists.low
