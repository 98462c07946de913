-- The rails of one row after another.
use Rattle.std.proofs.Common.{◌≡◌, ℕ, ◌+◌, ◌<◌, List, [], ◌∷◌, ◌++◌, length, get_or, take, sym, ap, ◌∙◌, append_assoc}
use Rattle.std.proofs.lemmas.List.{take_more}
use Rattle.std.proofs.lemmas.List.Concat.{flat_map-append}
use Rattle.rail_layout.specs.declared.row.RowBox.{RowBox}
use Rattle.rail_layout.specs.declared.rule.RailRule.{RailRule}
use Rattle.rail_layout.specs.Rails.{lower_edge, upper_edge, rail_at, rails_of_row, rails_of}

pub rails_of-next : (rule : RailRule) (rows : List RowBox) (k : ℕ) (d : RowBox) → k < length rows
    → rails_of rule (take (k + 1) rows)
    ≡ rails_of rule (take k rows) ++ rail_at rule (get_or rows k d) (lower_edge (get_or rows k d)) ∷ [] ++ rail_at rule (get_or rows k d) (upper_edge (get_or rows k d)) ∷ []
rails_of-next rule rows k d within =
    let row = get_or rows k d in
    ap (rails_of rule) (take_more rows k d within) ∙ flat_map-append (rails_of_row rule) (take k rows) (row ∷ [])
    ∙ sym (append_assoc (rails_of rule (take k rows)) (rail_at rule row (lower_edge row) ∷ []) (rail_at rule row (upper_edge row) ∷ []))
