-- The bare words of a text in DEF.
use Rattle.std.proofs.Common.{◌≡◌, ℕ, Bool, true, List, [], ◌∷◌, ◌++◌, map, refl, sym, subst, inl, inr}
use Rattle.std.specs.Prelude.{Option, None, Some}
use Rattle.outside.specs.declared.place.Place.{Place}
use Rattle.text_lex.specs.declared.word.LexKind.{LexKind}
use Rattle.text_lex.specs.declared.word.Mode.TheVariants.{LefDef}
use Rattle.text_lex.specs.declared.word.Form.{Form as SplitForm}
use Rattle.text_lex.specs.declared.word.Form.TheVariants as split
use Rattle.text_lex.specs.Piece.{Piece, White, Joined, Comment, Item, IsBare, IsWord, command_after}
use Rattle.text_lex.specs.Split.{Split, IsSplit, IsMadeOf, words_from, place_after, first_place}
use Rattle.reading.specs.declared.word.Form.TheVariants.{Bare, End}
use Rattle.reading.specs.Pattern.{joined}
use Rattle.reading.specs.Reading.{Format, Text}
use Rattle.reading.specs.Outcome.{Hears}
use Rattle.reading.specs.Word.{Token, word_of, form_of, end_at, end_after, next_on_line, text_with, seen_text}

-- A bare word is one wherever it stands.
abbrev pub IsGood : Token → Type 0
IsGood w = w.form ≡ Bare → IsBare LefDef true w.text []

abbrev pub AreGood : List Token → Type 0
AreGood [] = Unit {0}
AreGood (w ∷ ws) = IsGood w × AreGood ws

pub good-append : (xs ys : List Token) → AreGood xs → AreGood ys → AreGood (xs ++ ys)
good-append [] ys h k = k
good-append (x ∷ xs) ys h k = (h.0, good-append xs ys h.1 k)

pub good-front : (xs ys : List Token) → AreGood (xs ++ ys) → AreGood xs
good-front [] ys h = tt
good-front (x ∷ xs) ys h = (h.0, good-front xs ys h.1)

pub good-rest : (xs ys : List Token) → AreGood (xs ++ ys) → AreGood ys
good-rest [] ys h = h
good-rest (x ∷ xs) ys h = good-rest xs ys h.1

good_item : (b : Bool) (form : SplitForm) (text more : List ℕ) (place : Place) → IsWord LefDef b form text more → IsGood (record { text = text; place = place; form = form_of form })
good_item b split.Bare text more place h = λ e. record { some = h.some; begins = h.begins; plain = h.plain; ends = refl }
good_item b split.Quoted text more place h = λ e. absurd (let t : Rattle.reading.specs.declared.word.Form.TheVariants.Quoted ≡ Bare = e in cc)
good_item b split.Braced text more place h = λ e. absurd (let t : Rattle.reading.specs.declared.word.Form.TheVariants.Braced ≡ Bare = e in cc)
good_item b split.Break text more place h = λ e. absurd (let t : Rattle.reading.specs.declared.word.Form.TheVariants.Break ≡ Bare = e in cc)
good_item b split.Semicolon text more place h = λ e. absurd (let t : Rattle.reading.specs.declared.word.Form.TheVariants.Semicolon ≡ Bare = e in cc)

good_words : (b : Bool) (p : Place) (pieces : List Piece) (refusal : Option LexKind) (text : List ℕ) → IsMadeOf LefDef b pieces refusal text → AreGood (map word_of (words_from p pieces))
good_words b p [] None text h = tt
good_words b p [] (Some kind) text h = tt
good_words b p (White byte ∷ pieces) refusal text h = good_words (command_after b (White byte)) (place_after p (White byte)) pieces refusal h.0 h.3
good_words b p (Joined bytes ∷ pieces) refusal text h = good_words (command_after b (Joined bytes)) (place_after p (Joined bytes)) pieces refusal h.0 h.3
good_words b p (Comment bytes ∷ pieces) refusal text h = good_words (command_after b (Comment bytes)) (place_after p (Comment bytes)) pieces refusal h.0 h.3
good_words b p (Item form word ∷ pieces) refusal text h = (
  good_item b form word h.0 p h.2,
  good_words (command_after b (Item form word)) (place_after p (Item form word)) pieces refusal h.0 h.3,
)

good_end : (place : Place) → IsGood (end_at place)
good_end place e = absurd (let t : End ≡ Bare = e in cc)

good_seen : (words : List Token) (last : Place) (refusal : Option LexKind) → AreGood words → AreGood (text_with words last refusal).words
good_seen words last None h = good-append words (end_at last ∷ []) h (good_end last, tt)
good_seen words last (Some kind) h = h

-- The words of a text that is split.
pub good_split : (bytes : List ℕ) (s : Split) → IsSplit LefDef bytes s → AreGood (seen_text s).words
good_split bytes s (pieces, made, is) =
    let words : AreGood (map word_of (words_from first_place pieces)) = good_words true first_place pieces s.refusal bytes made in
    subst (λ z. AreGood (seen_text z).words) (sym is) (good_seen (map word_of (words_from first_place pieces)) _ s.refusal words)

good_after : (words : List Token) → IsGood (end_after words)
good_after [] = good_end (record { line = 1; word = 1 })
good_after (w ∷ []) = good_end (next_on_line w.place)
good_after (v ∷ w ∷ words) = good_after (w ∷ words)

-- The words that are heard of it.
pub good_heard : {S K : Type 0} (f : Format Token S K) (text heard : Text Token) (n : ℕ) → Hears f text n heard → AreGood text.words → AreGood heard.words
good_heard f text heard n (inl past) h = subst (λ z. AreGood z.words) (sym past.1) h
good_heard f text heard n (inr (units, ending, first, within, is)) h =
    let front : AreGood (joined units) = good-front (joined units) ending.rest (subst AreGood ending.is h) in
    subst (λ z. AreGood z.words) (sym is) (good-append (joined units) (end_after (joined units) ∷ []) front (good_after (joined units), tt))
