-- One more chain goes on by each of the vias.
use Rattle.std.proofs.Common.{◌≡◌, ◌+◌, List, [], ◌∷◌, ◌++◌, map, take, sym, ap, ◌∙◌, arith}
use Rattle.std.proofs.lemmas.List.{take_more, flat_map_more}
use Rattle.wire_chains.specs.declared.via.ViaAt.{ViaAt}
use Rattle.wire_chains.specs.inside.Run.{gone_on}
use Rattle.wire_chains.proofs.run.extended.Goals as goal

pub loop-chain-preserved : goal.loop-chain-preserved
loop-chain-preserved c =
    let paths = c.args.paths.now in
    let level = c.args.level.now in
    let i = c.loop-chain.chain-index in
    let x = c.chain-item.result in
    let f : List ViaAt → List (List ViaAt) = λ chain. map (λ (via : ViaAt). chain ++ via ∷ []) level in
    let more : take (i + 1) paths ≡ take i paths ++ x ∷ [] = take_more paths i x (omega arith) ∙ ap (λ y. take i paths ++ y ∷ []) (sym c.chain-item.is) in
    c.in_ok-add_extended.ensures ∙ ap (λ z. z ++ f x) c.loop-chain.invariant ∙ flat_map_more f [] (take i paths) x ∙ ap (gone_on level) (sym more)
