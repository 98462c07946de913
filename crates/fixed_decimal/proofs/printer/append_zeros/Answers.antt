use Rattle.std.proofs.Common.{◌≡◌, ℕ, ◌++◌, ap, take, replicate}
use Rattle.std.proofs.lemmas.List.{take-replicate}
use Rattle.fixed_decimal.proofs.Printing.{written_on_ok}
use Rattle.fixed_decimal.proofs.printer.append_zeros.Goals as goal

pub returns-clause-ok : goal.returns-clause-ok
returns-clause-ok c =
    let zeros : take c.args.count (replicate {A = ℕ} 30 48) ≡ replicate c.args.count 48 = take-replicate c.args.count 30 48 c.requires in
    written_on_ok c.extend_from_slice.result c.extend_from_slice.new.self.items (c.args.out.now.items ++ take c.args.count (replicate {A = ℕ} 30 48)) c.args.out.now.items (c.args.out.now.items ++ replicate {A = ℕ} c.args.count 48) c.extend_from_slice.ensures.items (ap (λ x. c.args.out.now.items ++ x) zeros)
