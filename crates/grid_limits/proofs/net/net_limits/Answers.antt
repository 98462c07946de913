use Rattle.std.proofs.Common.{◌≡◌, ℕ, List, ◌∷◌, [], ◌++◌, map, take, length, get_or, ◌<◌, ap, sym, subst, ◌∙◌}
use Rattle.std.proofs.lemmas.List.{map_more}
use Rattle.grid_limits.specs.Limits.{net_limit}
use Rattle.grid_limits.proofs.net.net_limits.Goals as goal

pub loop-net-preserved : goal.loop-net-preserved
loop-net-preserved c =
    let nets : List (List ℕ) = c.args.grid.now.nets in
    let limit_of = net_limit c.args.bias.now in
    let i = c.loop-net.net-index in
    let net : List ℕ = c.net-item.result in
    let item : net ≡ get_or nets i net = subst (λ (xs : List (List ℕ)). net ≡ get_or xs i net) c.as_slice-net-items.ensures c.net-item.is in
    let below : i < length nets = subst (λ (xs : List (List ℕ)). i < length xs) c.as_slice-net-items.ensures c.loop-net-test.true in
    let limit = c.in_ok-net_limit.ensures ∙ ap limit_of item in
    c.in_ok-push.ensures.items ∙ ap (λ l. l ++ c.in_ok-net_limit.field-0 ∷ []) c.loop-net.invariant ∙ ap (λ x. map limit_of (take i nets) ++ x ∷ []) limit
    ∙ sym (map_more limit_of nets i net below)
