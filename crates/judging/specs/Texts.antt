-- What the texts of a netlist and of a certificate stand for, and what the test of a certificate tells of them.
use Rattle.std.specs.Prelude.{◌≡◌, ◌⊎◌, ℕ, ◌<◌, ℤ, pos, ◌*ℤ◌, ◌≤ℤ◌, List, Some, Result, Ok, slice_get, slice_index}
use Rattle.bound_check.specs.declared.fails.Fails.{Fails}
use Rattle.bound_check.specs.Failing.{first_failing}
use Rattle.certificate_file.specs.declared.lists.Lists.{Lists}
use Rattle.certificate_file.specs.declared.error.CertKind.{CertKind}
use Rattle.certificate_file.specs.declared.error.CertKind.TheVariants.{Want}
use Rattle.certificate_file.specs.Format.{ReadsCertificate}
use Rattle.grid_net.specs.Network.{entry_of}
use Rattle.grid_net.specs.Certificate.{IsCertificate}
use Rattle.grid_net.specs.Shorted.{IsShortedSolution}
use Rattle.group_net.specs.Merging.{PadsOfGroupsAgree}
use Rattle.reading.specs.declared.error.ReadError.{ReadError}
use Rattle.reading.specs.Error.{Agree}
use Rattle.short_merge.specs.declared.merged.Merged.{Merged}
use Rattle.short_merge.specs.Merged.{IsMerged}
use Rattle.spice_grid.specs.declared.named.Named.{Named}
use Rattle.spice_grid.specs.Netlist.{ReadsNetlist}
use Rattle.answers.specs.declared.answer.Answer.{Answer}
use Rattle.answers.specs.declared.answer.Answer.TheVariants.{Certified, NotCertified}

-- The text is a netlist with this network, names and shorts; any two pads that shorts join have one voltage; and this is
-- the network of its groups.
pub record HasNetwork (text : List ℕ) (named : Named) (merged : Merged) : Type 0 where
  pub netlist : ReadsNetlist text (Ok named)
  pub agree : PadsOfGroupsAgree named.net named.shorts
  pub merge : IsMerged named merged

-- The two texts stand for a netlist, the network of its groups, and two lists of voltages of the groups.
pub record StandFor (netlist_text certificate_text : List ℕ) (named : Named) (merged : Merged) (lists : Lists)
    : Type 0 where
  pub network : HasNetwork netlist_text named merged
  pub certificate : ReadsCertificate merged.names certificate_text (Ok lists)

-- As the certificate of nodes with these names the text gives two lists or one refusal, and nothing else.
abbrev pub GivesOne : List (List ℕ) → List ℕ → Type 0
GivesOne names text =
    (a b : Result Lists (ReadError CertKind)) → ReadsCertificate names text a → ReadsCertificate names text b
    → Agree Want a b

-- What the test of the certificate tells: that it holds, with the number of the groups; or the first test that fails, by
-- its node, its side and the number found.
abbrev pub IsVerdict : Merged → Lists → Answer → Type 0
IsVerdict merged lists answer =
    (IsCertificate merged.net lists.high lists.low × (answer ≡ Certified merged.net.nodes))
    ⊎ ((fails : Fails) × (node : List ℕ) × (first_failing merged.net lists.high lists.low ≡ Some fails)
    × (slice_get merged.names fails.node ≡ Some node) × (answer ≡ NotCertified node fails.side fails.found))

-- Every solution of Ohm's and Kirchhoff's laws on the netlist as it was written lies between the two lists: at each node
-- those of its group, over every common denominator q, whatever is drawn within the ranges of the loads, and whatever
-- flows through the shorts.
abbrev pub SolutionsLieBetween : Named → Merged → Lists → Type 0
SolutionsLieBetween named merged lists =
    (q : ℕ) (p c drawn shorted : ℕ → ℤ) → IsShortedSolution named.net named.shorts q p c drawn shorted → (node : ℕ)
    → node < named.net.nodes
    → ((pos q *ℤ entry_of lists.low (slice_index merged.group node)) ≤ℤ p node)
    × (p node ≤ℤ (pos q *ℤ entry_of lists.high (slice_index merged.group node)))
