-- Words of lines, and the places of the words that a reader of DEF sees.
use Rattle.std.proofs.Common.{◌≡◌, ℕ, suc, true, List, [], ◌∷◌, ◌++◌, refl, ap}
use Rattle.outside.specs.declared.place.Place.{Place}
use Rattle.text_lex.specs.declared.word.Mode.TheVariants.{LefDef}
use Rattle.text_lex.specs.Piece.{IsBare}
use Rattle.reading.specs.Word.{form_of}
use Rattle.written_words.specs.Spelled.{Written, bare, IsWritten, tokens}

pub is_bare : (text : List ℕ) → IsBare LefDef true text [] → IsWritten (bare text)
is_bare text h b more ends = record { some = h.some; begins = h.begins; plain = h.plain; ends = ends }

-- The places, from the one after these words on.
abbrev pub past : List Written → (ℕ → Place) → ℕ → Place
past [] f = f
past (w ∷ ws) f = past ws (λ n. f (suc n))

pub tokens-append : (f : ℕ → Place) (xs ys : List Written) → tokens f (xs ++ ys) ≡ tokens f xs ++ tokens (past xs f) ys
tokens-append f [] ys = refl
tokens-append f (x ∷ xs) ys = ap (λ z. record { text = x.text; place = f 0; form = form_of x.form } ∷ z) (tokens-append (λ n. f (suc n)) xs ys)
