-- What is written of a network and of a certificate of it passes the check.
use Rattle.std.proofs.Common.{◌≡◌, ◌≢◌, inl, inr, ◌<◌, ◌≤◌, ℕ, ℤ, pos, true, List, [], All, Ok, length, unsigned_abs, refl, sym, ◌∙◌, subst, arith}
use Rattle.std.specs.Prelude.{Result}
use Rattle.std.proofs.lemmas.List.Elements.{All-from_get_or, All-weaker, All-nil}
use Rattle.answers.specs.declared.answer.Answer.{Answer}
use Rattle.answers.specs.declared.answer.Answer.TheVariants.{Want, Certified}
use Rattle.certificate_file.specs.declared.lists.Lists.{Lists}
use Rattle.certificate_file.specs.declared.error.CertKind.{CertKind}
use Rattle.certificate_file.specs.declared.error.CertKind.TheVariants as cert
use Rattle.certificate_file.specs.Format.{ReadsCertificate}
use Rattle.certificate_file.specs.Record.{lists_of}
use Rattle.certificate_file.specs.Voltage.{limit}
use Rattle.certificate_file.specs.Written.{certificate_text}
use Rattle.certificate_file.specs.Written as certificates
use Rattle.grid_net.specs.declared.note.Note.{Note}
use Rattle.grid_net.specs.Certificate.{IsCertificate, ValuesWithin, value_limit}
use Rattle.grid_net.specs.Limits.{IsBuilt, IsInLimit}
use Rattle.grid_net.specs.Network.{Network, entry_of}
use Rattle.group_net.specs.Merging.{PadsOfGroupsAgree}
use Rattle.judging.specs.Judging.{Judges, Tests}
use Rattle.judging.specs.Texts.{HasNetwork, StandFor}
use Rattle.reading.specs.declared.error.ReadError.{ReadError}
use Rattle.reading.specs.Error.{Agree}
use Rattle.short_merge.specs.Merged.{IsMerged}
use Rattle.capacitors.specs.declared.Cap.{Cap}
use Rattle.spice_cards.specs.Number.{IsCapacitance}
use Rattle.spice_grid.specs.Caps.{IsAmong}
use Rattle.spice_grid.specs.Netlist.{ReadsNetlist, NamedKeeps}
use Rattle.spice_grid.specs.Written.{written_netlist}
use Rattle.text_lex.specs.Piece.{IsBare}
use Rattle.text_lex.specs.declared.word.Mode.TheVariants.{Lines}
use Rattle.written_netlists.specs.Fits.{IsNodeName, CanBeWritten, read_back}
use Rattle.written_netlists.specs.Alone.{unmerged}
use Rattle.network_texts.specs.Texts.{CanBeChecked}

-- The laws of netlists, of merging, of certificates with these names and of judging, as they are handed in.
pub record CheckLaws (names : List (List ℕ)) : Type 0 where
  pub netlist : (net : Network) (names : List (List ℕ)) (notes : List Note) → CanBeWritten net names notes →
      ReadsNetlist (written_netlist net names notes) (Ok (read_back net names))
  pub merged : (net : Network) (names : List (List ℕ)) → IsBuilt net → length names ≡ net.nodes → IsMerged (read_back net names) (unmerged net names)
  pub agree : (net : Network) → IsBuilt net → PadsOfGroupsAgree net []
  pub certificate : (high low : List ℤ) → certificates.CanBeWritten names high low → ReadsCertificate names (certificate_text names high low) (Ok (lists_of high low))
  pub one : (text : List ℕ) (a b : Result Lists (ReadError CertKind)) → ReadsCertificate names text a → ReadsCertificate names text b → Agree cert.Want a b
  pub once : (netlist certificate netlist_text certificate_text : List ℕ) (a b : Answer) → Judges netlist certificate netlist_text certificate_text a →
      Judges netlist certificate netlist_text certificate_text b → a ≢ Want → b ≢ Want → a ≡ b

in_limit : (z : ℤ) → IsInLimit value_limit z → unsigned_abs z ≤ limit
in_limit z within = grind arith

values : (net : Network) (x : List ℤ) → length x ≡ net.nodes → ValuesWithin net value_limit (entry_of x) → All (λ voltage. unsigned_abs voltage ≤ limit) x
values net x size within =
    All-from_get_or (λ voltage. unsigned_abs voltage ≤ limit) x (pos 0) (λ i below. in_limit (entry_of x i) (within i (subst (λ m. i < m) size below)))

module _ (names : List (List ℕ)) (laws : CheckLaws names) (net : Network) (notes : List Note) (high low : List ℤ) (can : CanBeChecked net names notes high low) where
  lists_fit : certificates.CanBeWritten names high low
  lists_fit = record {
    words = All-weaker IsNodeName (λ name. IsBare Lines true name []) (λ name is. is.word) names can.written.node_names;
    high_count = can.high_size ∙ sym can.written.one_name_a_node;
    low_count = can.low_size ∙ sym can.written.one_name_a_node;
    high_within = values net high can.high_size can.certificate.high_half.values;
    low_within = values net low can.low_size can.certificate.low_half.values;
  }

  pub stand : StandFor (written_netlist net names notes) (certificate_text names high low) (read_back net names) (unmerged net names) (lists_of high low)
  stand = record {
    network = record {
      netlist = laws.netlist net names notes can.written;
      agree = laws.agree net can.written.built;
      merge = laws.merged net names can.written.built can.written.one_name_a_node;
    };
    certificate = laws.certificate high low lists_fit;
  }

  pub tested : Tests (written_netlist net names notes) (certificate_text names high low) (Certified net.nodes)
  tested = record {
    named = read_back net names;
    merged = unmerged net names;
    lists = lists_of high low;
    texts = stand;
    one = laws.one (certificate_text names high low);
    keeps = record {
      one_name_per_node = can.written.one_name_a_node;
      in_byte_order = can.written.in_byte_order;
      shorts_are_nodes = All-nil (λ (s : ℕ × ℕ). (s.0 < net.nodes) × (s.1 < net.nodes));
      ends_among_nodes = All-nil (λ (cap : Cap). IsAmong net.nodes cap.a × IsAmong net.nodes cap.b);
      capacitances = All-nil (λ (cap : Cap). IsCapacitance cap.farads);
    };
    built = can.written.built;
    groups_built = can.written.built;
    verdict = inl (can.certificate, refl);
  }

  not_want : (nodes : ℕ) → Certified nodes ≢ Want
  not_want nodes e = cc

  pub alone : (netlist certificate : List ℕ) (answer : Answer) → Judges netlist certificate (written_netlist net names notes) (certificate_text names high low) answer →
      answer ≢ Want → answer ≡ Certified net.nodes
  alone netlist certificate answer h other =
      laws.once netlist certificate (written_netlist net names notes) (certificate_text names high low) answer (Certified net.nodes) h (inr (inr (inr (inr tested)))) other (not_want net.nodes)
