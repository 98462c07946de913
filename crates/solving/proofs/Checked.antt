-- The certificate that was written passes the check of whoever reads it.
use Rattle.std.proofs.Common.{◌≡◌, ◌<◌, ◌≤◌, ℕ, ℤ, pos, true, List, [], All, Contains, Ok, length, unsigned_abs, sym, subst, ◌∙◌, arith}
use Rattle.std.proofs.lemmas.List.Elements.{All-contains, All-from_get_or, All-get_or}
use Rattle.bound_check.specs.Certified.{Certificate, IsKept}
use Rattle.certificate_file.specs.Format.{ReadsCertificate}
use Rattle.certificate_file.specs.Record.{lists_of}
use Rattle.certificate_file.specs.Voltage.{limit}
use Rattle.certificate_file.specs.Written.{certificate_text, CanBeWritten}
use Rattle.grid_net.specs.Certificate.{IsCertificate, ValuesWithin, value_limit}
use Rattle.grid_net.specs.Limits.{IsInLimit}
use Rattle.grid_net.specs.Network.{Network, entry_of}
use Rattle.judging.specs.Stage.{GivesNetwork}
use Rattle.short_merge.specs.declared.merged.Merged.{Merged}
use Rattle.short_merge.specs.Merged.{IsMerged}
use Rattle.short_merge.specs.Netlist.{IsNetlist}
use Rattle.spice_grid.specs.declared.named.Named.{Named}
use Rattle.spice_grid.specs.Netlist.{ReadsNetlist}
use Rattle.text_lex.specs.Piece.{IsBare}
use Rattle.text_lex.specs.declared.word.Mode.TheVariants.{Lines}
use Rattle.solving.specs.declared.signed.Signed.{Signed}
use Rattle.solving.specs.Signed.{PassesCheck}

abbrev pub AreWords : List (List ℕ) → Type 0
AreWords names = All (λ name. IsBare Lines true name []) names

-- The laws of names and of written certificates, as they are handed in.
pub record AreTextLaws (names : List (List ℕ)) : Type 0 where
  pub words : (text : List ℕ) (named : Named) → ReadsNetlist text (Ok named) → AreWords named.names
  pub of_netlist : (named : Named) (merged : Merged) → IsNetlist named → IsMerged named merged → All (λ name. Contains named.names name) merged.names
  pub one_a_group : (named : Named) (merged : Merged) → IsMerged named merged → length merged.names ≡ merged.net.nodes
  pub reads : (high low : List ℤ) → CanBeWritten names high low → ReadsCertificate names (certificate_text names high low) (Ok (lists_of high low))

in_limit : (z : ℤ) → IsInLimit value_limit z → unsigned_abs z ≤ limit
in_limit z within = grind arith

values : (net : Network) (x : List ℤ) → length x ≡ net.nodes → ValuesWithin net value_limit (entry_of x) → All (λ voltage. unsigned_abs voltage ≤ limit) x
values net x size within =
    All-from_get_or (λ voltage. unsigned_abs voltage ≤ limit) x (pos 0) (λ i below. in_limit (entry_of x i) (within i (subst (λ m. i < m) size below)))

each : (P : List ℕ → Type 0) (all some : List (List ℕ)) → All P all → All (λ name. Contains all name) some → All P some
each P all some holds from =
    All-from_get_or P some [] (λ i below. All-contains P all _ holds (All-get_or (λ name. Contains all name) some i [] below from))

module _ (text : List ℕ) (named : Named) (merged : Merged) (laws : AreTextLaws merged.names) (c : Certificate) (gives : GivesNetwork text named merged) (same : c.net ≡ merged.net) (kept : IsKept c) where
  merge : IsMerged named merged
  merge = gives.network.merge

  is_netlist : IsNetlist named
  is_netlist = record { one_name_a_node = gives.keeps.one_name_per_node; shorts_are_nodes = gives.keeps.shorts_are_nodes; ends_among_nodes = gives.keeps.ends_among_nodes }

  as_many : c.net.nodes ≡ length merged.names
  as_many = subst (λ (n : Network). n.nodes ≡ length merged.names) (sym same) (sym (laws.one_a_group named merged merge))

  can_be_written : CanBeWritten merged.names c.high c.low
  can_be_written = record {
    words = each (λ name. IsBare Lines true name []) named.names merged.names (laws.words text named gives.network.netlist) (laws.of_netlist named merged is_netlist merge);
    high_count = kept.high_size ∙ as_many;
    low_count = kept.low_size ∙ as_many;
    high_within = values c.net c.high kept.high_size kept.certificate.high_half.values;
    low_within = values c.net c.low kept.low_size kept.certificate.low_half.values;
  }

  pub passes : (signed : Signed) → signed.certificate ≡ certificate_text merged.names c.high c.low → PassesCheck merged signed
  passes signed certificate = record {
    lists = lists_of c.high c.low;
    reads = subst (λ text. ReadsCertificate merged.names text (Ok (lists_of c.high c.low))) (sym certificate) (laws.reads c.high c.low can_be_written);
    holds = subst (λ (n : Network). IsCertificate n c.high c.low) same kept.certificate;
  }
