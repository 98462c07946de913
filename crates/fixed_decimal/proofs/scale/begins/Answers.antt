use Rattle.std.proofs.Common.{◌≡◌, List, ℕ, length, take, ap, ◌∙◌, subst}
use Rattle.std.specs.Prelude.{Decides, bytes_eq}
use Rattle.std.specs.Str.{str_to_ascii_lowercase}
use Rattle.std.proofs.lemmas.Bool.Decides.{same_from_decides}
use Rattle.std.proofs.lemmas.Slice.Eq.{bytes_eq-Decides}
use Rattle.std.proofs.lemmas.List.{take_min}
use Rattle.fixed_decimal.proofs.scale.begins.Goals as goal

pub returns : goal.returns
returns c =
    let letters = c.args.letters.now in
    let prefix = c.args.prefix.now in
    let front : take c.min.result letters ≡ take (length prefix) letters = ap (λ n. take n letters) c.min.ensures ∙ take_min (length prefix) letters in
    let P : List ℕ → Type 0 = λ l. Decides c.eq_ignore_ascii_case.result (str_to_ascii_lowercase l ≡ str_to_ascii_lowercase prefix) in
    same_from_decides c.eq_ignore_ascii_case.result (bytes_eq (str_to_ascii_lowercase (take (length prefix) letters)) (str_to_ascii_lowercase prefix)) (subst P front c.eq_ignore_ascii_case.ensures.test) (bytes_eq-Decides (str_to_ascii_lowercase (take (length prefix) letters)) (str_to_ascii_lowercase prefix))
