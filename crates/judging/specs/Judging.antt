-- How the texts of a netlist and of a certificate are judged: the netlist's text is read, shorts are merged, the
-- certificate's text is read, and the certificate is tested. The first refusal in this order is answered.
use Rattle.std.specs.Prelude.{◌≡◌, ◌⊎◌, ℕ, ℤ, List, Ok, Err}
use Rattle.outside.specs.declared.place.Place.{Place}
use Rattle.certificate_file.specs.declared.lists.Lists.{Lists}
use Rattle.certificate_file.specs.declared.error.CertKind.{CertKind}
use Rattle.certificate_file.specs.declared.error.CertKind.TheVariants as cert
use Rattle.certificate_file.specs.Format.{ReadsCertificate}
use Rattle.grid_net.specs.Limits.{IsBuilt}
use Rattle.reading.specs.declared.error.ReadError.{ReadError}
use Rattle.short_merge.specs.declared.merged.Merged.{Merged}
use Rattle.short_merge.specs.declared.merged.MergeError.TheVariants as merging
use Rattle.short_merge.specs.Refusal.{IsMergeRefusal}
use Rattle.spice_grid.specs.declared.error.NetRefusal.{NetRefusal}
use Rattle.spice_grid.specs.declared.error.NetRefusal.TheVariants as net
use Rattle.spice_grid.specs.declared.error.SpiceError.{SpiceError}
use Rattle.spice_grid.specs.declared.error.SpiceKind.{SpiceKind}
use Rattle.spice_grid.specs.declared.error.SpiceKind.TheVariants as spice
use Rattle.spice_grid.specs.declared.named.Named.{Named}
use Rattle.spice_grid.specs.Netlist.{ReadsNetlist, NamedKeeps}
use Rattle.answers.specs.declared.kind.TextKind.TheVariants.{Syntax, OutOfProfileCard, FloatingSource, Number, OutOfRange, WrongNode}
use Rattle.answers.specs.declared.answer.Answer.{Answer}
use Rattle.answers.specs.declared.answer.Answer.TheVariants.{Want, Refused, Range, PadConflict}
use Rattle.judging.specs.Texts.{HasNetwork, StandFor, GivesOne, IsVerdict}

-- The answer to a network that is refused: the quantity that passes its limit, or the two pads of a node that differ.
abbrev pub network_answer : NetRefusal → Answer
network_answer (net.Range quantity at number) = Range quantity at number
network_answer (net.PadConflict node first second) = PadConflict node first second

-- The answer to a netlist that is refused, where its file has this name.
abbrev pub netlist_answer : List ℕ → Place → SpiceKind → Answer
netlist_answer file place spice.Syntax = Refused file place Syntax
netlist_answer file place spice.OutOfProfileCard = Refused file place OutOfProfileCard
netlist_answer file place spice.FloatingSource = Refused file place FloatingSource
netlist_answer file place (spice.Number error) = Refused file place (Number error)
netlist_answer file place spice.OutOfRange = Refused file place OutOfRange
netlist_answer file place (spice.Net refusal) = network_answer refusal
netlist_answer file place spice.Want = Want

-- The answer to a certificate that is refused, where its file has this name.
abbrev pub certificate_answer : List ℕ → Place → CertKind → Answer
certificate_answer file place cert.Syntax = Refused file place Syntax
certificate_answer file place cert.WrongNode = Refused file place WrongNode
certificate_answer file place (cert.Number error) = Refused file place (Number error)
certificate_answer file place cert.Want = Want

-- The text of the netlist is refused, and the answer tells why.
pub record RefusesNetlist (file text : List ℕ) (answer : Answer) : Type 0 where
  pub error : SpiceError
  pub refused : ReadsNetlist text (Err error)
  pub told : answer ≡ netlist_answer file error.place error.kind

-- The text is a netlist, whose network keeps the limits of networks, and two pads differ whose nodes shorts join.
pub record RefusesMerge (text : List ℕ) (answer : Answer) : Type 0 where
  pub named : Named
  pub netlist : ReadsNetlist text (Ok named)
  pub built : IsBuilt named.net
  pub node : List ℕ
  pub first : ℤ
  pub second : ℤ
  pub conflict : IsMergeRefusal named (merging.PadConflict node first second)
  pub told : answer ≡ PadConflict node first second

-- The text of the netlist has the network of its groups, and the text of the certificate is refused for the names of the
-- groups: the answer tells why.
pub record RefusesCertificate (file netlist_text certificate_text : List ℕ) (answer : Answer) : Type 0 where
  pub named : Named
  pub merged : Merged
  pub network : HasNetwork netlist_text named merged
  pub one : GivesOne merged.names certificate_text
  pub error : ReadError CertKind
  pub refused : ReadsCertificate merged.names certificate_text (Err error)
  pub told : answer ≡ certificate_answer file error.place error.kind

-- The two texts stand for a netlist, the network of its groups and two lists, and the test of the certificate is answered.
-- As each record of a netlist this one keeps what is asked of a merge, and both networks keep the limits of networks.
pub record Tests (netlist_text certificate_text : List ℕ) (answer : Answer) : Type 0 where
  pub named : Named
  pub merged : Merged
  pub lists : Lists
  pub texts : StandFor netlist_text certificate_text named merged lists
  pub one : GivesOne merged.names certificate_text
  pub keeps : NamedKeeps named
  pub built : IsBuilt named.net
  pub groups_built : IsBuilt merged.net
  pub verdict : IsVerdict merged lists answer

-- Why two texts, of files of these names, are judged so: memory ran out, which may be at any time; the netlist is
-- refused; two pads of a group differ; the certificate is refused; or it was tested.
abbrev pub Judges : (netlist certificate netlist_text certificate_text : List ℕ) → Answer → Type 0
Judges netlist certificate netlist_text certificate_text answer =
    (answer ≡ Want)
    ⊎ (RefusesNetlist netlist netlist_text answer
    ⊎ (RefusesMerge netlist_text answer
    ⊎ (RefusesCertificate certificate netlist_text certificate_text answer
    ⊎ Tests netlist_text certificate_text answer)))
