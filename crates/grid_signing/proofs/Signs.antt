-- What is signed off, stage by stage.
use Rattle.std.proofs.Common.{◌≡◌, ◌⊎◌, inl, inr, ℕ, ℤ, List, Option, Some, slice_get, ap, sym, subst, ◌∙◌}
use Rattle.answers.specs.declared.answer.Answer.{Answer}
use Rattle.answers.specs.declared.answer.Answer.TheVariants.{Want, Unsupplied}
use Rattle.bound_check.specs.Certified.{Certificate, IsKept}
use Rattle.bound_make.specs.Certifier.{LieInRange, MadeOfTold}
use Rattle.bound_make.specs.Scale.{Scale, IsScaleOf}
use Rattle.certificate_file.specs.Record.{lists_of}
use Rattle.certificate_file.specs.Written.{certificate_text}
use Rattle.grid_net.specs.declared.note.Note.{Note}
use Rattle.grid_net.specs.Certificate.{IsCertificate}
use Rattle.grid_net.specs.Level.{IsFirstUnsupplied}
use Rattle.grid_net.specs.Network.{Network}
use Rattle.grid_limits.specs.Limits.{AreGridLimits}
use Rattle.grid_network.specs.declared.branch.Branch.{Branch}
use Rattle.grid_network.specs.declared.extracted.Extracted.{Extracted}
use Rattle.grid_network.specs.declared.key.Key.{Key}
use Rattle.grid_pieces.specs.declared.grid.Grid.{Grid}
use Rattle.judging.specs.Texts.{StandFor}
use Rattle.network_texts.specs.Texts.{CanBeChecked}
use Rattle.signoff_report.specs.declared.records.Limits.{Limits}
use Rattle.solving.specs.Signed.{EachIsSupplied}
use Rattle.spice_grid.specs.Written.{written_netlist}
use Rattle.written_netlists.specs.Alone.{unmerged}
use Rattle.written_netlists.specs.Fits.{CanBeWritten, read_back}
use Rattle.grid_signing.specs.declared.signed.SignedGrid.{SignedGrid}
use Rattle.grid_signing.specs.Basis.{Base}
use Rattle.grid_signing.specs.Checked.{PassesCheck, SignsWith}
use Rattle.grid_signing.specs.Refusal.{LacksSupplyAt}
use Rattle.grid_signing.specs.Signing.{Signing, AreLimitsOver, AreSignedTexts}
use Rattle.grid_signing.specs.Solutions.{SolutionsKeep}
use Rattle.grid_signing.specs.inside.Stages.{AreTextsOf, SignsNetwork, signing_of}

-- What certification promises of its lists.
abbrev pub InScale : Option (List ℤ × List ℤ) → Network → Certificate → Type 0
InScale told net c = (s : Scale) × IsScaleOf net s × LieInRange net s c.high c.low × MadeOfTold net s told c.high c.low

-- The law of the texts of a network whose nodes have these names, as it is handed in.
abbrev pub Stand : List (List ℕ) → Type 0
Stand names = (net : Network) (notes : List Note) (high low : List ℤ) → CanBeChecked net names notes high low
    → StandFor (written_netlist net names notes) (certificate_text names high low) (read_back net names) (unmerged net names) (lists_of high low)

-- A tight certificate of a network that reads back is checked as it is written.
can_be_checked : (e : Extracted) (c : Certificate) → CanBeWritten e.net e.names e.notes → c.net ≡ e.net → IsKept c → CanBeChecked e.net e.names e.notes c.high c.low
can_be_checked e c written same kept = record {
  written = written;
  high_size = kept.high_size ∙ ap (λ (n : Network). n.nodes) same;
  low_size = kept.low_size ∙ ap (λ (n : Network). n.nodes) same;
  certificate = subst (λ (n : Network). IsCertificate n c.high c.low) same kept.certificate;
}

-- So whoever checks its texts finds that it holds.
passes : (s : Signing) (signed : SignedGrid) (grid : Grid) → AreSignedTexts grid s signed → CanBeChecked s.extracted.net s.extracted.names s.extracted.notes s.certificate.high s.certificate.low → Stand s.extracted.names → PassesCheck s signed
passes s signed grid are can stand =
    let e = s.extracted in
    let c = s.certificate in
    record {
      texts = subst (λ netlist. StandFor netlist signed.certificate (read_back e.net e.names) (unmerged e.net e.names) (lists_of c.high c.low)) (sym are.netlist)
          (subst (λ certificate. StandFor (written_netlist e.net e.names e.notes) certificate (read_back e.net e.names) (unmerged e.net e.names) (lists_of c.high c.low)) (sym are.certificate)
          (stand e.net e.notes c.high c.low can));
      holds = can.certificate;
    }

-- A network that is supplied and certified, and of which the texts were made, is signed off.
pub signs : (told : Option (List ℤ × List ℤ)) (grid : Grid) (e : Extracted) (limits : Limits) (c : Certificate) (signed : SignedGrid) → EachIsSupplied e.net → c.net ≡ e.net → InScale told e.net c → AreTextsOf grid c e.names e.notes limits signed
    → (EachIsSupplied e.net → CanBeWritten e.net e.names e.notes) → Stand e.names → SignsNetwork told grid e limits signed
signs told grid e limits c signed supplied same (scale, scale_is, in_range, made) texts written stand = record {
  certificate = c;
  supplied = supplied;
  certified = record { net_is = same; kept = texts.kept; scale = scale; scale_is = scale_is; in_range = in_range; made = made };
  are_texts = are;
  keep = subst (λ (n : Network). SolutionsKeep n c limits) same texts.keep;
  checked = passes (signing_of e limits c) signed grid are (can_be_checked e c (written supplied) same texts.kept) stand;
}
  where
    are : AreSignedTexts grid (signing_of e limits c) signed
    are = record {
      netlist = texts.netlist ∙ ap (λ (n : Network). written_netlist n e.names e.notes) same;
      certificate = texts.certificate;
      report = texts.report;
      numbers = texts.numbers;
    }

-- What is signed off with one network is signed off with a network of each kind that it is of.
pub of_kind : (Network : Extracted → Type 0) (told : Option (List ℤ × List ℤ)) (b : Base) (grid : Grid) (e : Extracted) (signed : SignedGrid) → Network e
    → SignsWith (λ d. d ≡ e) told b grid signed → SignsWith Network told b grid signed
of_kind Network told b grid e signed of is = record {
  signing = is.signing;
  is_signing = record {
    network = subst Network (sym is.is_signing.network) of;
    limits = is.is_signing.limits;
    supplied = is.is_signing.supplied;
    certified = is.is_signing.certified;
  };
  are_texts = is.are_texts;
  keep = is.keep;
  checked = is.checked;
}

-- The limits of lists that are the keys and branches of a network are the limits of the grid.
pub limits_of_grid : (b : Base) (grid : Grid) (e : Extracted) (limits : Limits) (keys : List Key) (branches : List Branch) → keys ≡ e.keys → branches ≡ e.branches → AreGridLimits b.tech grid keys branches b.bias limits
    → AreLimitsOver b grid e limits
limits_of_grid b grid e limits keys branches same_keys same_branches are =
    subst (λ (z : List Key). AreGridLimits b.tech grid z e.branches b.bias limits) same_keys (subst (λ (z : List Branch). AreGridLimits b.tech grid keys z b.bias limits) same_branches are)

-- A node of the network lacks supply.
pub lacks : (e : Extracted) (node : ℕ) (answer : Answer) → IsFirstUnsupplied e.net node → (answer ≡ Want) ⊎ ((name : List ℕ) × (slice_get e.names node ≡ Some name) × (answer ≡ Unsupplied name)) → LacksSupplyAt e answer
lacks e node answer first (inl want) = inl want
lacks e node answer first (inr named) = inr (node, first, named)
