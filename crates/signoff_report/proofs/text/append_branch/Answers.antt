use Rattle.std.proofs.Common.{◌≡◌, ◌+◌, ◌<◌, ℕ, List, [], length, get_or, ap, ◌∙◌, arith}
use Rattle.std.proofs.lemmas.List.{get_or_default}
use Rattle.grid_net.specs.declared.part.Resistor.{Resistor}
use Rattle.signoff_report.specs.Report.{name_of}
use Rattle.signoff_report.specs.Shown.{shown_current}
use Rattle.signoff_report.proofs.Pieces.{whole_branch}
use Rattle.signoff_report.proofs.text.append_branch.Goals as goal

pub returns : goal.returns
returns c =
    let names : List (List ℕ) = c.args.names.now in
    let r = c.resistor_at-resistor.result in
    let is = c.resistor_at-resistor.ensures.is in
    let a : r.a < length names = omega (arith, c.requires.names, c.resistor_at-resistor.ensures.ends.a_is_node) in
    let b : r.b < length names = omega (arith, c.requires.names, c.resistor_at-resistor.ensures.ends.b_is_node) in
    let from = c.bytes-from.ensures ∙ c.index-names-resistor.is ∙ get_or_default names r.a c.index-names-resistor.result [] a ∙ ap (λ (x : Resistor). name_of names x.a) is in
    let to = c.bytes-to.ensures ∙ c.index-names-resistor-2.is ∙ get_or_default names r.b c.index-names-resistor-2.result [] b ∙ ap (λ (x : Resistor). name_of names x.b) is in
    whole_branch _ _ _ (c.args.branch + 1) _ _ _ _ _ _ _ _ c.in_ok-append_ends.ensures c.in_ok-append_flow.ensures from to c.current_shown-shown.ensures.shown c.limit_at-limit.ensures
