use Rattle.std.proofs.Common.{inr, refl, SFits, w64, rules}
use Rattle.std.proofs.lemmas.Bool.{false≢true}
use Rattle.std.proofs.lemmas.Int.{to_z-of_z}
use Rattle.wire_stacks.proofs.ends.check_one.Goals as goal

pub returns-then-not-have-2-clause-refused : goal.returns-then-not-have-2-clause-refused
returns-then-not-have-2-clause-refused c =
    let x : SFits w64 c.args.one.now.at.x = search rules in
    let y : SFits w64 c.args.one.now.at.y = search rules in
    let low = simp to_z-of_z at c.if-not-have.ensures in
    let high = simp to_z-of_z at c.if-not-have-2.ensures in
    simp to_z-of_z (inr (low.0 refl, λ held. false≢true (high.1 held), refl), refl, refl)

pub returns-clause-ends : goal.returns-clause-ends
returns-clause-ends c =
    let x : SFits w64 c.args.one.now.at.x = search rules in
    let y : SFits w64 c.args.one.now.at.y = search rules in
    let low = simp to_z-of_z at c.if-not-have.ensures in
    let high = simp to_z-of_z at c.if-not-have-2.ensures in
    (low.0 refl, high.0 refl)
