-- A text is made of the pieces that are computed, and of no others.
use Rattle.std.proofs.Common.{◌≡◌, refl, sym, ap, ◌∙◌, subst, ℕ, zero, suc, ◌-◌, ◌<◌, ◌≤◌, Bool, true, List, [], ◌∷◌, ◌++◌, length, Option, None, Some, Result, Ok, Err, length-append, arith}
use Rattle.outside.specs.declared.place.Place.{Place}
use Rattle.text_lex.specs.Piece.{Piece, White, Joined, Comment, Item, spelled, spelled_word, IsPiece, IsWord, IsRefusedWord, command_after, ends_command}
use Rattle.text_lex.specs.Split.{Split, IsMadeOf, IsSplit, split_from, first_place, place_after, words_in, with_front}
use Rattle.text_lex.specs.inside.Splitting.{Pieces, pieces_of, piece_at, with_piece, words_left}
use Rattle.text_lex.specs.declared.word.Mode.{Mode}
use Rattle.text_lex.specs.declared.word.Form.{Form}
use Rattle.text_lex.specs.declared.word.LexKind.{LexKind}
use Rattle.text_lex.proofs.Pieces.{Tells, piece_tells}
use Rattle.text_lex.proofs.Complete.{piece_computed, refusal_computed}

-- After the bytes that are passed over.
pieces_after : (mode : Mode) (opens : Bool) (xs more : List ℕ) → pieces_of mode opens (length xs) (xs ++ more) ≡ pieces_of mode opens 0 more
unfolding pieces_of
pieces_after mode opens [] more = refl
pieces_after mode opens (x ∷ xs) more = pieces_after mode opens xs more

pieces_next : (mode : Mode) (opens : Bool) (piece : Piece) (b : ℕ) (bs more : List ℕ) → spelled piece ≡ b ∷ bs → piece_at mode opens b (bs ++ more) ≡ Ok piece →
    pieces_of mode opens 0 (b ∷ bs ++ more) ≡ with_piece piece (pieces_of mode (command_after opens piece) 0 more)
unfolding pieces_of
pieces_next mode opens piece b bs more is gives =
    let F : Result Piece LexKind → Pieces = λ r. elim r [
      | Ok p ↦ with_piece p (pieces_of mode (command_after opens p) (length (spelled p) - 1) (bs ++ more))
      | Err kind ↦ record { pieces = []; refusal = Some kind }
    ] in
    let len : length (spelled piece) - 1 ≡ length bs = ap (λ x. length x - 1) is ∙ omega arith in
    ap F gives ∙ ap (with_piece piece) (ap (λ n. pieces_of mode (command_after opens piece) n (bs ++ more)) len ∙ pieces_after mode (command_after opens piece) bs more)

-- A piece in front is the first of the pieces.
pub pieces_step : (mode : Mode) (opens : Bool) (piece : Piece) (more : List ℕ) → IsPiece mode opens piece more →
    pieces_of mode opens 0 (spelled piece ++ more) ≡ with_piece piece (pieces_of mode (command_after opens piece) 0 more)
pieces_step mode opens piece more h =
    let c = piece_computed mode opens piece more h in
    ap (λ x. pieces_of mode opens 0 (x ++ more)) c.is ∙ pieces_next mode opens piece c.first c.rest more c.is c.gives

pieces_stop : (mode : Mode) (opens : Bool) (kind : LexKind) (b : ℕ) (bs : List ℕ) → piece_at mode opens b bs ≡ Err kind → pieces_of mode opens 0 (b ∷ bs) ≡ record { pieces = []; refusal = Some kind }
unfolding pieces_of
pieces_stop mode opens kind b bs gives =
    let F : Result Piece LexKind → Pieces = λ r. elim r [
      | Ok p ↦ with_piece p (pieces_of mode (command_after opens p) (length (spelled p) - 1) bs)
      | Err k ↦ record { pieces = []; refusal = Some k }
    ] in
    ap F gives

-- A word in front that is refused ends the pieces.
pub pieces_refused : (mode : Mode) (opens : Bool) (kind : LexKind) (text : List ℕ) → IsRefusedWord mode opens kind text → pieces_of mode opens 0 text ≡ record { pieces = []; refusal = Some kind }
pieces_refused mode opens kind text h =
    let c = refusal_computed mode opens kind text h in
    ap (pieces_of mode opens 0) c.is ∙ pieces_stop mode opens kind c.first c.rest c.gives

pub pieces_end : (mode : Mode) (opens : Bool) → pieces_of mode opens 0 [] ≡ record { pieces = []; refusal = None }
unfolding pieces_of
pieces_end mode opens = refl

-- The text is made of no other pieces.
pub pieces_are : (mode : Mode) (opens : Bool) (pieces : List Piece) (refusal : Option LexKind) (text : List ℕ) → IsMadeOf mode opens pieces refusal text → pieces_of mode opens 0 text ≡ record { pieces = pieces; refusal = refusal }
pieces_are mode opens [] None text h = ap (pieces_of mode opens 0) h ∙ pieces_end mode opens
pieces_are mode opens [] (Some kind) text h = pieces_refused mode opens kind text h
pieces_are mode opens (piece ∷ pieces) refusal text h =
    ap (pieces_of mode opens 0) h.1 ∙ (pieces_step mode opens piece h.0 h.2
    ∙ ap (with_piece piece) (pieces_are mode (command_after opens piece) pieces refusal h.0 h.3))

-- A piece has a byte.
pub piece_some : (mode : Mode) (opens : Bool) (piece : Piece) (more : List ℕ) → IsPiece mode opens piece more → 0 < length (spelled piece)
piece_some mode opens piece more h =
    let c = piece_computed mode opens piece more h in
    let P : List ℕ → Type 0 = λ x. 0 < length x in
    subst P (sym c.is) (omega arith)

-- The text is made of these pieces.
abbrev IsMade : Mode → Bool → List ℕ → Pieces → Type 0
IsMade mode opens text made = IsMadeOf mode opens made.pieces made.refusal text

made_within : (mode : Mode) (n : ℕ) (opens : Bool) (text : List ℕ) → length text ≤ n → IsMade mode opens text (pieces_of mode opens 0 text)
made_within mode n opens [] h = subst (IsMade mode opens []) (sym (pieces_end mode opens)) refl
made_within mode zero opens (b ∷ bs) h = absurd (omega arith)
made_within mode (suc n) opens (b ∷ bs) h =
    let T : Result Piece LexKind → Type 0 = λ r. Tells mode opens (b ∷ bs) r → IsMade mode opens (b ∷ bs) (pieces_of mode opens 0 (b ∷ bs)) in
    (elim (piece_at mode opens b bs) as T [
      | Ok piece ↦ λ t.
          let shorter : length t.0 ≤ n = omega (arith, h, piece_some mode opens piece t.0 t.2, ap length t.1 ∙ length-append (spelled piece) t.0) in
          let is = ap (pieces_of mode opens 0) t.1 ∙ pieces_step mode opens piece t.0 t.2 in
          subst (IsMade mode opens (b ∷ bs)) (sym is) (t.0, t.1, t.2, made_within mode n (command_after opens piece) t.0 shorter)
      | Err kind ↦ λ t. subst (IsMade mode opens (b ∷ bs)) (sym (pieces_refused mode opens kind (b ∷ bs) t)) t
    ]) (piece_tells mode opens b bs)

pub made : (mode : Mode) (opens : Bool) (text : List ℕ) → IsMade mode opens text (pieces_of mode opens 0 text)
made mode opens text = made_within mode (length text) opens text (omega arith)

-- The words that are computed are those of the text, and no others are.
pub words_left_split : (mode : Mode) (text : List ℕ) → IsSplit mode text (words_left mode true first_place text)
words_left_split mode text = ((pieces_of mode true 0 text).pieces, made mode true text, refl)

pub split_is : (mode : Mode) (text : List ℕ) (split : Split) → IsSplit mode text split → split ≡ words_left mode true first_place text
split_is mode text split h =
    h.2 ∙ ap (λ (m : Pieces). split_from first_place m.pieces m.refusal) (sym (pieces_are mode true h.0 split.refusal text h.1))

pub split_one : (mode : Mode) (text : List ℕ) (a b : Split) → IsSplit mode text a → IsSplit mode text b → a ≡ b
split_one mode text a b g h = split_is mode text a g ∙ sym (split_is mode text b h)

-- What is split after the first piece.
abbrev split_made : Place → Pieces → Split
split_made place made = split_from place made.pieces made.refusal

pub left_end : (mode : Mode) (opens : Bool) (place : Place) → words_left mode opens place [] ≡ record { words = []; last = place; refusal = None }
left_end mode opens place = ap (split_made place) (pieces_end mode opens)

pub left_refused : (mode : Mode) (opens : Bool) (place : Place) (kind : LexKind) (text : List ℕ) → IsRefusedWord mode opens kind text → words_left mode opens place text ≡ record { words = []; last = place; refusal = Some kind }
left_refused mode opens place kind text h = ap (split_made place) (pieces_refused mode opens kind text h)

pub left_word : (mode : Mode) (opens : Bool) (place : Place) (form : Form) (text more : List ℕ) → IsWord mode opens form text more →
    words_left mode opens place (spelled_word form text ++ more)
    ≡ with_front (record { text = text; place = place; form = form }) (words_left mode (ends_command form) (place_after place (Item form text)) more)
left_word mode opens place form text more h = ap (split_made place) (pieces_step mode opens (Item form text) more h)

pub left_gap : (mode : Mode) (opens : Bool) (place : Place) (piece : Piece) (more : List ℕ) → IsPiece mode opens piece more → words_in piece ≡ 0 →
    words_left mode opens place (spelled piece ++ more) ≡ words_left mode opens (place_after place piece) more
left_gap mode opens place (White byte) more h none = ap (split_made place) (pieces_step mode opens (White byte) more h)
left_gap mode opens place (Joined bytes) more h none = ap (split_made place) (pieces_step mode opens (Joined bytes) more h)
left_gap mode opens place (Comment text) more h none = ap (split_made place) (pieces_step mode opens (Comment text) more h)
left_gap mode opens place (Item form text) more h none = absurd (omega (arith, none))
