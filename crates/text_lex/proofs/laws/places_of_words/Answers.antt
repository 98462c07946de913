use Rattle.std.proofs.Common.{◌≡◌, ◌∙◌, ap, refl, ℕ, ◌+◌, ◌==◌, cond}
use Rattle.std.proofs.lemmas.Bool.{cond_both}
use Rattle.text_lex.specs.Bytes.{count_of}
use Rattle.text_lex.specs.Split.{first_place, text_of, last_from, words_on, words_from}
use Rattle.text_lex.proofs.Places.{place_is, words_around}
use Rattle.text_lex.proofs.laws.places_of_words.Goals as goal

pub returns-clause-line : goal.returns-clause-line
returns-clause-line c pieces = (place_is first_place pieces).line

pub returns-clause-number : goal.returns-clause-number
returns-clause-number c pieces =
    let one : cond {A = ℕ} (count_of 10 (text_of pieces) == 0) 1 1 ≡ 1 = cond_both {A = ℕ} (count_of 10 (text_of pieces) == 0) 1 1 (λ x. x ≡ 1) (λ _. refl) (λ _. refl) in
    (place_is first_place pieces).number ∙ ap (λ k. k + words_on (last_from first_place pieces).line (words_from first_place pieces)) one

pub returns-clause-word : goal.returns-clause-word
returns-clause-word c before form text after = words_around first_place before form text after
