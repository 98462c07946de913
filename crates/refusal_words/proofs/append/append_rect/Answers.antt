-- The coordinates of a rectangle are numbers of 64 bits, so each is told as it is.
use Rattle.std.proofs.Common.{◌≡◌, to_z, of_z, rules, arith}
use Rattle.std.specs.Int.{w64}
use Rattle.std.proofs.lemmas.Grind.{common_steps}
use Rattle.refusal_words.proofs.append.append_rect.Goals as goal

pub returns : goal.returns
returns c =
    let x1 : to_z w64 (of_z w64 c.args.rect.x1) ≡ c.args.rect.x1 = search rules in
    let y1 : to_z w64 (of_z w64 c.args.rect.y1) ≡ c.args.rect.y1 = search rules in
    let x2 : to_z w64 (of_z w64 c.args.rect.x2) ≡ c.args.rect.x2 = search rules in
    let y2 : to_z w64 (of_z w64 c.args.rect.y2) ≡ c.args.rect.y2 = search rules in
    grind (arith, common_steps, x1, y1, x2, y2)
