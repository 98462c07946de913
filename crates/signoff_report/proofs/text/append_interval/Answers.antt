use Rattle.std.proofs.Common.{◌≡◌, ℕ, ℤ, List, [], ◌++◌, ◌∷◌, ap, ◌∙◌, to_z, of_z, rules}
use mir.Syntax.{w128}
use Rattle.fixed_decimal.specs.Printed.{printed}
use Rattle.signoff_report.proofs.Pieces.{interval_pieces}
use Rattle.signoff_report.proofs.text.append_interval.Goals as goal

pub returns : goal.returns
returns c =
    let low : to_z w128 (of_z w128 c.args.low) ≡ c.args.low = search rules in
    let high : to_z w128 (of_z w128 c.args.high) ≡ c.args.high = search rules in
    let upper : List ℕ = 32 ∷ printed (to_z w128 (of_z w128 c.args.high)) 9 in
    c.in_ok-append_end_of_interval-2.ensures ∙ ap (λ l. l ++ upper) c.in_ok-append_end_of_interval.ensures
    ∙ interval_pieces c.args.out.now.items _ _ _ _ low high
