use Rattle.std.proofs.Common.{Ok, ◌∙◌, ap, sym, subst, to_z, of_z}
use Rattle.std.specs.Int.{w64}
use Rattle.macro_blocks.specs.Number.{IsCoordinate}
use Rattle.macro_blocks.specs.inside.Value.{coordinate_in}
use Rattle.macro_blocks.proofs.Numbered.{kept_64}
use Rattle.reading.specs.Word.{heard_token}
use Rattle.macro_blocks.proofs.number.corner_of.Goals as goal

pub returns-clause-x : goal.returns-clause-x
returns-clause-x c = λ is.
    let word = c.args.x.now in
    subst (λ z. IsCoordinate (heard_token word) z) (sym (ap (λ z. to_z w64 (of_z w64 z)) c.coordinate.ensures ∙ kept_64 (heard_token word) (coordinate_in word.value) is)) is

pub returns-clause-y : goal.returns-clause-y
returns-clause-y c = λ is.
    let word = c.args.y.now in
    subst (λ z. IsCoordinate (heard_token word) z) (sym (ap (λ z. to_z w64 (of_z w64 z)) c.coordinate-2.ensures ∙ kept_64 (heard_token word) (coordinate_in word.value) is)) is
