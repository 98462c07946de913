use Rattle.std.proofs.Common.{◌≡◌, ◌<◌, ℕ, ℤ, List, Some, Ok, Err, inl, inr, length, slice_get, refl, sym, ap, subst, ◌∙◌}
use Rattle.answers.specs.declared.answer.Answer.TheVariants.{Certified}
use Rattle.bound_check.specs.Failing.{first_failing}
use Rattle.certificate_file.specs.Format.{ReadsCertificate}
use Rattle.grid_net.specs.Certificate.{IsCertificate}
use Rattle.grid_net.specs.Network.{entry_of}
use Rattle.judging.proofs.Failing.{failing_node}
use Rattle.judging.proofs.tested.judge_lists.Goals as goal

pub returns-in-Err-clause-judged : goal.returns-in-Err-clause-judged
returns-in-Err-clause-judged c =
    let reads : ReadsCertificate c.args.merged.now.names c.args.certificate_text.now (Err c.in-Err.error) =
    subst (λ (names : List (List ℕ)). ReadsCertificate names c.args.certificate_text.now (Err c.in-Err.error)) c.as_slice-names.ensures c.in-Err.ensures.reads in
    elim c.certificate_refused.ensures [ inl want ↦ inl want | inr told ↦ inr (inl (c.in-Err.error, reads, told)) ]

pub returns-in-Ok-is_certificate_in-clause-judged : goal.returns-in-Ok-is_certificate_in-clause-judged
returns-in-Ok-is_certificate_in-clause-judged c =
    let reads : ReadsCertificate c.args.merged.now.names c.args.certificate_text.now (Ok c.in-Ok.lists) =
    subst (λ (names : List (List ℕ)). ReadsCertificate names c.args.certificate_text.now (Ok c.in-Ok.lists)) c.as_slice-names.ensures c.in-Ok.ensures.reads in
    let holds : IsCertificate c.args.merged.now.net c.in-Ok.lists.high c.in-Ok.lists.low =
    subst (λ (low : List ℤ). IsCertificate c.args.merged.now.net c.in-Ok.lists.high low) c.as_slice-2.ensures
    (subst (λ (high : List ℤ). IsCertificate c.args.merged.now.net high c.as_slice-2.result.now) c.as_slice.ensures (c.in-Ok-is_certificate_in.ensures.ok.0 refl)) in
    inr (inr (c.in-Ok.lists, reads, inl (holds, ap Certified c.nodes-nodes.ensures.nodes)))

pub not_certified-requires : goal.not_certified-requires
not_certified-requires c =
    let size : length c.as_slice-names.result.now ≡ c.args.merged.now.net.nodes = ap length c.as_slice-names.ensures ∙ c.requires in
    subst (λ (n : ℕ). c.in-Err-is_certificate_in.fails.node < n) (sym size)
    (failing_node c.args.merged.now.net (entry_of c.as_slice.result.now) (entry_of c.as_slice-2.result.now) c.in-Err-is_certificate_in.fails.node c.in-Err-is_certificate_in.fails.side c.in-Err-is_certificate_in.fails.found c.nodes-nodes.ensures.built.is_network c.in-Err-is_certificate_in.ensures.fails)

pub returns-clause-judged : goal.returns-clause-judged
returns-clause-judged c =
    let reads : ReadsCertificate c.args.merged.now.names c.args.certificate_text.now (Ok c.in-Ok.lists) =
    subst (λ (names : List (List ℕ)). ReadsCertificate names c.args.certificate_text.now (Ok c.in-Ok.lists)) c.as_slice-names.ensures c.in-Ok.ensures.reads in
    let fails = c.in-Err-is_certificate_in.fails in
    let first : first_failing c.args.merged.now.net c.in-Ok.lists.high c.in-Ok.lists.low ≡ Some fails =
    subst (λ (low : List ℤ). first_failing c.args.merged.now.net c.in-Ok.lists.high low ≡ Some fails) c.as_slice-2.ensures
    (subst (λ (high : List ℤ). first_failing c.args.merged.now.net high c.as_slice-2.result.now ≡ Some fails) c.as_slice.ensures c.in-Err-is_certificate_in.ensures.first) in
    elim c.not_certified.ensures [
      | inl want ↦ inl want
      | inr named ↦
          let name : slice_get c.args.merged.now.names fails.node ≡ Some named.0 =
          subst (λ (names : List (List ℕ)). slice_get names fails.node ≡ Some named.0) c.as_slice-names.ensures named.1 in
          inr (inr (c.in-Ok.lists, reads, inr (fails, named.0, first, name, named.2)))
    ]
