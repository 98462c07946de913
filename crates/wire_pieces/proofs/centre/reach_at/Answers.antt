-- The first of a line, or one more of it.
use Rattle.std.proofs.Common.{◌≡◌, ◌-◌, pos, get_or, subst, sym, ◌∙◌, SFits, w64, rules, arith}
use Rattle.std.specs.Int.{int_max}
use Rattle.std.proofs.lemmas.Bool.{false≢true}
use Rattle.std.proofs.lemmas.Int.{to_z-of_z}
use Rattle.wire_pieces.specs.inside.Centre.{IsReach, piece_of}
use Rattle.wire_pieces.proofs.Reach.{reach_first, reach_more}
use Rattle.wire_pieces.proofs.centre.reach_at.Goals as goal

pub returns-then-at-eq0 : goal.returns-then-at-eq0
returns-then-at-eq0 c =
    let fits : SFits w64 (piece_of c.args.pieces.now c.args.at).to = search rules in
    simp to_z-of_z (reach_first c.args.pieces.now c.args.at c.requires.by_line c.requires.within (λ positive. absurd (omega arith)))

pub returns-then-are_alike : goal.returns-then-are_alike
returns-then-are_alike c =
    let end : SFits w64 (piece_of c.args.pieces.now c.args.at).to = search rules in
    let far : SFits w64 (get_or c.args.reaches.now (c.args.at - 1) (pos 0)) = search rules in
    let is : c.greater.result ≡ int_max (piece_of c.args.pieces.now c.args.at).to (get_or c.args.reaches.now (c.args.at - 1) (pos 0)) = simp to_z-of_z at c.greater.ensures in
    let fits : SFits w64 c.greater.result = search rules in
    simp to_z-of_z
    (subst (IsReach c.args.pieces.now c.args.at) (sym is)
    (reach_more c.args.pieces.now c.args.at (get_or c.args.reaches.now (c.args.at - 1) (pos 0)) (omega arith) (c.are_alike.ensures.0 c.if-are_alike.true) (c.requires.known.each (c.args.at - 1) (omega arith))))

pub returns : goal.returns
returns c =
    let fits : SFits w64 (piece_of c.args.pieces.now c.args.at).to = search rules in
    simp to_z-of_z (reach_first c.args.pieces.now c.args.at c.requires.by_line c.requires.within (λ positive alike. false≢true (sym c.if-are_alike.false ∙ c.are_alike.ensures.1 alike)))
