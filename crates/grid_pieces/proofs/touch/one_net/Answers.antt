use Rattle.std.proofs.Common.{◌≡◌, ◌⊎◌, inl, inr, pos, get_or, take, Contains, subst, sym, ◌∙◌, arith}
use Rattle.std.proofs.lemmas.Bool.{false≢true}
use Rattle.std.proofs.lemmas.List.{take_all}
use Rattle.grid_pieces.specs.declared.metal.Metal.{Metal}
use Rattle.grid_pieces.specs.inside.Sweep.{OneNet, IsTwin}
use Rattle.grid_pieces.specs.Laws.Amongst.{Among-more}
use Rattle.grid_pieces.proofs.touch.one_net.Goals as goal
use Rattle.grid_pieces.proofs.touch.one_net.Goals.{else-is_twin-via-then-is_twin+else-m-one, else-is_twin-via-else-is_twin}

nothing : Metal
nothing = record { layer = 0; rect = record { x1 = pos 0; y1 = pos 0; x2 = pos 0; y2 = pos 0 }; net = 0 }

pub loop-m-preserved : goal.loop-m-preserved
unfolding nothing
loop-m-preserved c m has twin =
    by_place ((Among-more (λ (x : Metal). x ≡ m) c.args.metal.now c.loop-m.m-index nothing c.loop-m-test.true).0 (m, has, λ i. m))
  where
    at : IsTwin (get_or c.args.metal.now c.loop-m.m-index nothing) c.args.one c.args.second → (get_or c.args.metal.now c.loop-m.m-index nothing).net ≡ c.args.one.net
    at is =
        elim c.else-is_twin.branch [
          | else-is_twin-via-then-is_twin+else-m-one w ↦ omega (arith, w.if-m-one.false)
          | else-is_twin-via-else-is_twin w ↦ absurd (false≢true (sym w.if-is_twin.false ∙ c.is_twin.ensures.1 is))
        ]

    by_place : ((x : Metal) × Contains (take c.loop-m.m-index c.args.metal.now) x × (x ≡ m)) ⊎ (get_or c.args.metal.now c.loop-m.m-index nothing ≡ m) → m.net ≡ c.args.one.net
    by_place (inl w) = c.loop-m.invariant m (subst (Contains (take c.loop-m.m-index c.args.metal.now)) w.2 w.1) twin
    by_place (inr is) = subst (λ (x : Metal). x.net ≡ c.args.one.net) is (at (subst (λ (x : Metal). IsTwin x c.args.one c.args.second) (sym is) twin))

pub returns : goal.returns
returns c =
    let whole = take_all c.loop-m.m-index c.args.metal.now c.loop-m-test.false in
    subst (λ all. OneNet all c.args.one c.args.second) whole c.loop-m.invariant
