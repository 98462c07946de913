use Rattle.std.proofs.Common.{◌≡◌, List, AllPairs, MatchResult, subst, sym, ◌∙◌}
use Rattle.grid_pieces.specs.declared.piece.Piece.{Piece}
use Rattle.grid_stacks.specs.Crossing.{Stands}
use Rattle.grid_stacks.specs.Stacking.{LieApart}
use Rattle.macro_stacks.specs.inside.Mixed.{mixed}
use Rattle.macro_stacks.specs.inside.Places.{AreTooMany, Grows}
use Rattle.macro_stacks.proofs.Parted.{mixed_apart}
use Rattle.macro_stacks.proofs.places.add_mixed.Goals as goal

pub add_places-requires-clause-apart : goal.add_places-requires-clause-apart
add_places-requires-clause-apart c =
    let is : c.deref.result.now ≡ mixed c.args.flat.now c.args.upright.now = c.deref.ensures.value ∙ c.in_ok-pieces.ensures in
    subst (AllPairs LieApart) (sym is) (mixed_apart c.args.flat.now c.args.upright.now c.requires.apart c.requires.apart_too)

pub returns : goal.returns
returns c =
    let is : c.deref.result.now ≡ mixed c.args.flat.now c.args.upright.now = c.deref.ensures.value ∙ c.in_ok-pieces.ensures in
    subst
    (λ (pieces : List Piece). MatchResult c.add_places.result (λ _. Grows (Stands c.args.tech.now pieces c.args.connects.now c.args.blocks.now) c.args.sites.now.items c.add_places.new.sites.items)
    (AreTooMany (Stands c.args.tech.now pieces c.args.connects.now c.args.blocks.now))) is c.add_places.ensures
