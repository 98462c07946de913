use Rattle.std.proofs.Common.{◌≡◌, ℕ, ◌++◌, ap, ◌∙◌, take, replicate}
use Rattle.std.proofs.lemmas.List.{take-replicate}
use Rattle.signoff_report.proofs.numbers.append_zeros.Goals as goal

pub returns : goal.returns
returns c =
    let zeros : take c.args.count (replicate {A = ℕ} 15 48) ≡ replicate c.args.count 48 = take-replicate c.args.count 15 48 c.requires in
    c.in_ok-extend_from_slice.ensures.items ∙ ap (λ x. c.args.out.now.items ++ x) zeros
