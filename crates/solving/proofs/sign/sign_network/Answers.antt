use Rattle.std.proofs.Common.{◌≡◌, ◌⊎◌, ℕ, List, Some, slice_get, refl, subst, ◌∙◌}
use Rattle.answers.specs.declared.answer.Answer.TheVariants.{Want, Unsupplied}
use Rattle.grid_net.specs.Network.{Network}
use Rattle.solving.specs.inside.Texts.{AreTextsOf}
use Rattle.solving.proofs.Checked.{AreTextLaws}
use Rattle.solving.proofs.Refused.{unsigned}
use Rattle.solving.proofs.Within.{AreGroupLaws, InScale, signs}
use Rattle.solving.proofs.sign.sign_network.Goals as goal

pub returns-in-Err-clause-refused : goal.returns-in-Err-clause-refused
returns-in-Err-clause-refused g c =
    let told : (c.unsupplied.result ≡ Want) ⊎ ((name : List ℕ) × (slice_get c.args.merged.names c.in-Err.node ≡ Some name) × (c.unsupplied.result ≡ Unsupplied name)) =
    subst (λ (names : List (List ℕ)). (c.unsupplied.result ≡ Want) ⊎ ((name : List ℕ) × (slice_get names c.in-Err.node ≡ Some name) × (c.unsupplied.result ≡ Unsupplied name))) c.as_slice-names.ensures c.unsupplied.ensures in
    unsigned c.args.merged c.in-Err.node c.unsupplied.result c.in-Err.ensures.first told

pub returns-in-Ok-texts-clause-signed : goal.returns-in-Ok-texts-clause-signed
returns-in-Ok-texts-clause-signed g c =
    let laws : AreGroupLaws = record { by_groups = c.solutions_by_groups.ensures.merged; at_nodes = c.solutions_by_groups.ensures.at_nodes } in
    let words : AreTextLaws c.args.merged.names = subst AreTextLaws c.as_slice-names.ensures (record {
      words = c.names_are_words.ensures;
      of_netlist = c.merged_names.ensures.of_netlist;
      one_a_group = c.merged_names.ensures.one_name_a_group;
      reads = c.written_certificates_read_back.ensures.reads;
    }) in
    let made = c.certify-certified.result in
    let told = g.V.Solver.told c.args.solver.now in
    let net : c.in-Ok.certifier ≡ c.args.merged.net = c.in-Ok.ensures.ok in
    let scale : InScale told c.args.merged.net made = subst (λ (n : Network). InScale told n made) net c.certify-certified.ensures.range in
    let texts : AreTextsOf made c.args.merged.names c.in-Ok-texts.signed = subst (λ (names : List (List ℕ)). AreTextsOf made names c.in-Ok-texts.signed) c.as_slice-names.ensures c.in-Ok-texts.ensures.texts in
    signs laws told c.args.merged words made c.in-Ok-texts.signed c.in_default.ensures.ok (c.certify-certified.ensures.net ∙ net) scale texts (c.in-Ok-texts.ensures.holds refl)
