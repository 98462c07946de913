-- A text of lines is split into their words.
use Rattle.std.proofs.Common.{◌≡◌, ℕ, zero, suc, Bool, true, List, [], ◌∷◌, ◌++◌, map, refl, ◌∙◌, ap, append_assoc}
use Rattle.std.specs.Prelude.{IsTrue, None}
use Rattle.std.specs.List.{join_with_byte}
use Rattle.outside.specs.declared.place.Place.{Place}
use Rattle.text_lex.specs.declared.word.Mode.TheVariants.{LefDef}
use Rattle.text_lex.specs.Bytes.{ends_bare}
use Rattle.text_lex.specs.Piece.{Piece, White, Item, IsPiece, ends_command}
use Rattle.text_lex.specs.Split.{IsMadeOf, place_after, words_from, last_from, first_place, split_from}
use Rattle.reading.specs.Pattern.{joined}
use Rattle.reading.specs.Word.{Token, word_of, form_of, end_at}
use Rattle.written_words.specs.Spelled.{Written, spell, IsWritten, AreWritten, AllWritten, bytes_of, text_bytes, tokens, IsSeen}

abbrev pub line_pieces : List Written → List Piece → List Piece
line_pieces [] more = White 10 ∷ more
line_pieces (w ∷ []) more = Item w.form w.text ∷ White 10 ∷ more
line_pieces (w ∷ v ∷ ws) more = Item w.form w.text ∷ White 32 ∷ line_pieces (v ∷ ws) more

abbrev pub IsMade : List Piece → List ℕ → Type 0
IsMade pieces bytes = (b : Bool) → IsMadeOf LefDef b pieces None bytes

item_made : (w : Written) (c : ℕ) (pieces : List Piece) (rest bytes : List ℕ) → IsWritten w → IsTrue (ends_bare LefDef (c ∷ rest)) → IsPiece LefDef true (White c) rest →
    bytes ≡ spell w ++ (c ∷ rest) → IsMade pieces rest → IsMade (Item w.form w.text ∷ White c ∷ pieces) bytes
item_made w c pieces rest bytes word ends white is made b =
    (c ∷ rest, is, word b (c ∷ rest) ends, (rest, refl, white, made (ends_command w.form)))

spread : (x j rest : List ℕ) → ((x ++ (32 ∷ j)) ++ 10 ∷ []) ++ rest ≡ x ++ (32 ∷ ((j ++ 10 ∷ []) ++ rest))
spread x j rest = ap (λ z. z ++ rest) (append_assoc x (32 ∷ j) (10 ∷ [])) ∙ append_assoc x (32 ∷ (j ++ 10 ∷ [])) rest

line_made : (ws : List Written) (pieces : List Piece) (rest : List ℕ) → AreWritten ws → IsMade pieces rest → IsMade (line_pieces ws pieces) (bytes_of ws ++ rest)
line_made [] pieces rest h made = λ b. (rest, refl, refl, made b)
line_made (w ∷ []) pieces rest h made = item_made w 10 pieces rest (bytes_of (w ∷ []) ++ rest) h.0 refl refl (append_assoc (spell w) (10 ∷ []) rest) made
line_made (w ∷ v ∷ ws) pieces rest h made =
    item_made w 32 (line_pieces (v ∷ ws) pieces) (bytes_of (v ∷ ws) ++ rest) (bytes_of (w ∷ v ∷ ws) ++ rest) h.0 refl refl
    (spread (spell w) (join_with_byte 32 (map spell (v ∷ ws))) rest) (line_made (v ∷ ws) pieces rest h.1 made)

abbrev pub text_pieces : List (List Written) → List Piece
text_pieces [] = []
text_pieces (line ∷ lines) = line_pieces line (text_pieces lines)

text_made : (lines : List (List Written)) → AllWritten lines → IsMade (text_pieces lines) (text_bytes lines)
text_made [] h = λ b. refl
text_made (line ∷ lines) h = line_made line (text_pieces lines) (text_bytes lines) h.0 (text_made lines h.1)

-- A place before others.
abbrev first_of : Place → (ℕ → Place) → ℕ → Place
first_of p f zero = p
first_of p f (suc n) = f n

abbrev seen_from : Place → List Piece → List Token
seen_from p pieces = map word_of (words_from p pieces) ++ end_at (last_from p pieces) ∷ []

-- The pieces are these words, wherever they begin, and then the end of the text.
pub record AreSeen (p : Place) (pieces : List Piece) (ws : List Written) : Type 0 where
  pub places : ℕ → Place
  pub end : Place
  pub is : seen_from p pieces ≡ tokens places ws ++ end_at end ∷ []

abbrev Sees : List Piece → List Written → Type 0
Sees pieces ws = (p : Place) → AreSeen p pieces ws

item_seen : (w : Written) (c : ℕ) (pieces : List Piece) (ws : List Written) → Sees pieces ws → Sees (Item w.form w.text ∷ White c ∷ pieces) (w ∷ ws)
item_seen w c pieces ws sees p =
    let more = sees (place_after (place_after p (Item w.form w.text)) (White c)) in
    record {
      places = first_of p more.places;
      end = more.end;
      is = ap (λ z. record { text = w.text; place = p; form = form_of w.form } ∷ z) more.is;
    }

white_seen : (c : ℕ) (pieces : List Piece) (ws : List Written) → Sees pieces ws → Sees (White c ∷ pieces) ws
white_seen c pieces ws sees p =
    let more = sees (place_after p (White c)) in record { places = more.places; end = more.end; is = more.is }

line_seen : (line : List Written) (pieces : List Piece) (ws : List Written) → Sees pieces ws → Sees (line_pieces line pieces) (line ++ ws)
line_seen [] pieces ws sees = white_seen 10 pieces ws sees
line_seen (w ∷ []) pieces ws sees = item_seen w 10 pieces ws sees
line_seen (w ∷ v ∷ line) pieces ws sees = item_seen w 32 (line_pieces (v ∷ line) pieces) ((v ∷ line) ++ ws) (line_seen (v ∷ line) pieces ws sees)

text_seen : (lines : List (List Written)) → Sees (text_pieces lines) (joined lines)
text_seen [] = λ p. record { places = λ n. p; end = p; is = refl }
text_seen (line ∷ lines) = line_seen line (text_pieces lines) (joined lines) (text_seen lines)

pub lines_seen : (lines : List (List Written)) → AllWritten lines → IsSeen (text_bytes lines) (joined lines)
lines_seen lines h =
    let pieces : List Piece = text_pieces lines in
    let seen : AreSeen first_place pieces (joined lines) = text_seen lines first_place in
    record {
      split = split_from first_place pieces None;
      is = (pieces, text_made lines h true, refl);
      whole = refl;
      places = seen.places;
      end = seen.end;
      words = seen.is;
    }
