use Rattle.std.proofs.Common.{◌≡◌, ℕ, List, Some, ◌∙◌, sym}
use Rattle.std.proofs.lemmas.Map.Text.{btree_map_updates_str}
use Rattle.name_places.proofs.add.Goals as goal
use Rattle.name_places.proofs.Pushed.{new_or, kept_or}
use Rattle.name_places.specs.inside.Table.{place_in}

pub returns-then-contains_key : goal.returns-then-contains_key
returns-then-contains_key c = λ other. kept_or (place_in c.args.places.now) c.args.name.now other c.args.place (sym c.contains_key.ensures ∙ c.if-contains_key.true)

pub returns : goal.returns
returns c = λ other.
    btree_map_updates_str c.args.name.now c.args.places.now c.insert.new.self _ c.in_ok-insert.ensures.updates other
    ∙ new_or (place_in c.args.places.now) c.args.name.now other c.args.place (sym c.contains_key.ensures ∙ c.if-contains_key.false)
