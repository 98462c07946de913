-- Each of the chains goes on by the one via.
use Rattle.std.proofs.Common.{◌≡◌, List, [], ◌∷◌, ◌++◌, length, set, map, take, drop, sym, ap, ◌∙◌, arith}
use Rattle.std.proofs.lemmas.List.{take_all, drop_all, append-nil}
use Rattle.std.proofs.lemmas.List.Concat.{flat_map_single}
use Rattle.std.proofs.lemmas.List.Edits.{map_over_more}
use Rattle.wire_chains.specs.declared.via.ViaAt.{ViaAt}
use Rattle.wire_chains.specs.inside.Run.{gone_on}
use Rattle.wire_chains.proofs.run.push_each.Goals as goal

pub loop-chain-preserved : goal.loop-chain-preserved
loop-chain-preserved c =
    let paths = c.args.paths.now in
    let level = c.args.level.now in
    let i = c.loop-chain.chain-index in
    let x = c.chain-item.result in
    let f : List ViaAt → List ViaAt = λ chain. chain ++ c.only-via.result ∷ [] in
    let pushed : c.push.new.self ≡ f x = c.in_ok-push.ensures ∙ ap f (sym c.chain-item.is) in
    ap (set c.loop-chain.paths i) pushed ∙ map_over_more f paths c.loop-chain.paths i x (omega arith) c.loop-chain.invariant c.chain-item.is

pub returns : goal.returns
returns c =
    let paths = c.args.paths.now in
    let level = c.args.level.now in
    let n = c.loop-chain.chain-index in
    let f : List ViaAt → List ViaAt = λ chain. chain ++ c.only-via.result ∷ [] in
    let done : take n paths ≡ paths = take_all n paths (omega arith) in
    let none : drop n paths ≡ [] = drop_all n paths (omega arith) in
    let one : level ≡ c.only-via.result ∷ [] = c.only-via.ensures in
    c.loop-chain.invariant ∙ ap (λ ps. map f ps ++ drop n paths) done ∙ ap (λ ps. map f paths ++ ps) none ∙ append-nil (map f paths) ∙ sym (flat_map_single f paths)
    ∙ ap (λ vias. gone_on vias paths) (sym one)
