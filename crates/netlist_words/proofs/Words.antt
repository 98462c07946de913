-- Words of a line with their places and forms.
use Rattle.std.proofs.Common.{◌≡◌, ℕ, ◌+◌, List, [], ◌∷◌, length, refl, sym, ◌∙◌, ap, arith}
use Rattle.outside.specs.declared.place.Place.{Place}
use Rattle.reading.specs.declared.word.Form.{Form}
use Rattle.reading.specs.declared.word.Form.TheVariants.{Bare}
use Rattle.reading.specs.Word.{Token}
use Rattle.netlist_words.specs.Line.{placed}
use Rattle.netlist_words.specs.Text.{with_form}

abbrev pub next_place : Place → Place
next_place place = record { line = place.line; word = place.word + 1 }

-- The words of these texts from a place on, the first of which has this form.
abbrev pub formed : Form → Place → List (List ℕ) → List Token
formed form place texts = with_form form (placed place texts)

pub no_words : (form : Form) (place : Place) (texts : List (List ℕ)) → texts ≡ [] → formed form place texts ≡ []
no_words form place texts e = ap (formed form place) e

pub bare_same : (place : Place) (texts : List (List ℕ)) → formed Bare place texts ≡ placed place texts
bare_same place [] = refl
bare_same place (x ∷ xs) = refl

abbrev word_of : Form → Place → List ℕ → List Token → List Token
word_of form place text words = record { text = text; place = place; form = form } ∷ words

pub words_taken : (form : Form) (place : Place) (texts others : List (List ℕ)) (text : List ℕ) → texts ≡ text ∷ others →
    formed form place texts ≡ record { text = text; place = place; form = form } ∷ formed Bare (next_place place) others
words_taken form place texts others text e = ap (formed form place) e ∙ ap (word_of form place text) (sym (bare_same (next_place place) others))

abbrev end_by : Place → ℕ → Place
end_by place n = record { line = place.line; word = n }

pub end_kept : (place : Place) (texts others : List (List ℕ)) → others ≡ texts → end_by place (place.word + length others) ≡ end_by place (place.word + length texts)
end_kept place texts others e = ap (λ z. end_by place (place.word + length z)) e

pub end_taken : (place : Place) (texts others : List (List ℕ)) (text : List ℕ) → texts ≡ text ∷ others →
    end_by place (place.word + 1 + length others) ≡ end_by place (place.word + length texts)
end_taken place texts others text e =
    let n : place.word + 1 + length others ≡ place.word + length (text ∷ others) = omega arith in
    ap (end_by place) (n ∙ ap (λ z. place.word + length z) (sym e))

-- Where no word is left, the place is that after them.
pub end_is : (form : Form) (place : Place) (texts : List (List ℕ)) → formed form place texts ≡ [] → end_by place (place.word + length texts) ≡ place
end_is form place [] h = let n : place.word + 0 ≡ place.word = omega arith in ap (end_by place) n
end_is form place (x ∷ xs) h = absurd (cc)
