-- What the modes refuse, which forms their words have, and how many words a text has.
use Rattle.std.proofs.Common.{◌≡◌, ◌≢◌, ◌⊎◌, inl, inr, ⊎_elim, refl, sym, ap, ◌∙◌, subst, ℕ, ◌≤◌, Bool, true, List, [], ◌∷◌, length, Option, None, Some, All, length-append, arith}
use Rattle.std.proofs.lemmas.Bool.{false≢true}
use Rattle.std.proofs.lemmas.List.Elements.{All-nil, All-cons}
use Rattle.outside.specs.declared.place.Place.{Place}
use Rattle.text_lex.specs.Piece.{Piece, White, Joined, Comment, Item, spelled, IsPiece, IsRefusedWord, command_after}
use Rattle.text_lex.specs.Split.{Split, Token, IsMadeOf, IsSplit, place_after, words_from}
use Rattle.text_lex.specs.declared.word.Mode.{Mode}
use Rattle.text_lex.specs.declared.word.Mode.TheVariants.{LefDef, Lines}
use Rattle.text_lex.specs.declared.word.Form.{Form}
use Rattle.text_lex.specs.declared.word.Form.TheVariants.{Bare, Quoted, Braced, Break, Semicolon}
use Rattle.text_lex.specs.declared.word.LexKind.{LexKind}
use Rattle.text_lex.specs.declared.word.LexKind.TheVariants.{BadString, Substitution}
use Rattle.text_lex.proofs.Made.{piece_some}

-- What ends the pieces with a refusal.
made_refused : (mode : Mode) (opens : Bool) (pieces : List Piece) (kind : LexKind) (text : List ℕ) → IsMadeOf mode opens pieces (Some kind) text → (o : Bool) × (t : List ℕ) × IsRefusedWord mode o kind t
made_refused mode opens [] kind text h = (opens, text, h)
made_refused mode opens (piece ∷ pieces) kind text h = made_refused mode (command_after opens piece) pieces kind h.0 h.3

not_in_lines : (opens : Bool) (kind : LexKind) (text : List ℕ) → IsRefusedWord Lines opens kind text → ⊥
not_in_lines opens BadString text h = ⊎_elim (λ q. false≢true q.quotes) (λ b. false≢true b.script) h
not_in_lines opens Substitution text h = ⊎_elim (λ q. false≢true q.script) (λ b. false≢true b.script) h

-- In lines no word is refused.
pub lines_refuse_none : (pieces : List Piece) (refusal : Option LexKind) (text : List ℕ) → IsMadeOf Lines true pieces refusal text → refusal ≡ None
lines_refuse_none pieces None text h = refl
lines_refuse_none pieces (Some kind) text h =
    let r = made_refused Lines true pieces kind text h in absurd (not_in_lines r.0 kind r.1 r.2)

-- In LEF and DEF nothing is substituted.
pub lef_def_substitutes_none : (pieces : List Piece) (refusal : Option LexKind) (text : List ℕ) → IsMadeOf LefDef true pieces refusal text → refusal ≢ Some Substitution
lef_def_substitutes_none pieces refusal text h is =
    let g = subst (λ r. IsMadeOf LefDef true pieces r text) is h in
    let r = made_refused LefDef true pieces Substitution text g in
    ⊎_elim (λ q. false≢true q.script) (λ b. false≢true b.script) r.2

-- A text has no more words than bytes.
pub words_within : (mode : Mode) (opens : Bool) (place : Place) (pieces : List Piece) (refusal : Option LexKind) (text : List ℕ) → IsMadeOf mode opens pieces refusal text → length (words_from place pieces) ≤ length text
words_within mode opens place [] refusal text h = omega arith
words_within mode opens place (White byte ∷ pieces) refusal text h =
    omega (arith, words_within mode opens (place_after place (White byte)) pieces refusal h.0 h.3, ap length h.1 ∙ length-append (byte ∷ []) h.0)
words_within mode opens place (Joined bytes ∷ pieces) refusal text h =
    omega (arith, words_within mode opens (place_after place (Joined bytes)) pieces refusal h.0 h.3, ap length h.1 ∙ length-append (92 ∷ bytes) h.0)
words_within mode opens place (Comment bytes ∷ pieces) refusal text h =
    omega (arith, words_within mode opens (place_after place (Comment bytes)) pieces refusal h.0 h.3, ap length h.1 ∙ length-append (35 ∷ bytes) h.0)
words_within mode opens place (Item form bytes ∷ pieces) refusal text h =
    omega (
      arith,
      words_within mode (command_after opens (Item form bytes)) (place_after place (Item form bytes)) pieces refusal h.0 h.3,
      ap length h.1 ∙ length-append (spelled (Item form bytes)) h.0,
      piece_some mode opens (Item form bytes) h.0 h.2,
    )

-- The forms of a mode's words.
abbrev pub HasForms : (Form → Type 0) → List Token → Type 0
HasForms F words = All (λ word. F word.form) words

forms_of : (mode : Mode) (F : Form → Type 0) → ((opens : Bool) (form : Form) (text more : List ℕ) → IsPiece mode opens (Item form text) more → F form) →
    (opens : Bool) (place : Place) (pieces : List Piece) (refusal : Option LexKind) (text : List ℕ) → IsMadeOf mode opens pieces refusal text → HasForms F (words_from place pieces)
forms_of mode F each opens place [] refusal text h = All-nil (λ word. F word.form)
forms_of mode F each opens place (White byte ∷ pieces) refusal text h = forms_of mode F each opens (place_after place (White byte)) pieces refusal h.0 h.3
forms_of mode F each opens place (Joined bytes ∷ pieces) refusal text h = forms_of mode F each opens (place_after place (Joined bytes)) pieces refusal h.0 h.3
forms_of mode F each opens place (Comment bytes ∷ pieces) refusal text h = forms_of mode F each opens (place_after place (Comment bytes)) pieces refusal h.0 h.3
forms_of mode F each opens place (Item form bytes ∷ pieces) refusal text h =
    All-cons (λ word. F word.form) _ _ (each opens form bytes h.0 h.2)
    (forms_of mode F each (command_after opens (Item form bytes)) (place_after place (Item form bytes)) pieces refusal h.0 h.3)

abbrev pub IsFormOfLefDef : Form → Type 0
IsFormOfLefDef form = (form ≡ Bare) ⊎ (form ≡ Quoted)

abbrev pub IsFormOfLines : Form → Type 0
IsFormOfLines form = (form ≡ Bare) ⊎ (form ≡ Break)

form_of_lef_def : (opens : Bool) (form : Form) (text more : List ℕ) → IsPiece LefDef opens (Item form text) more → IsFormOfLefDef form
form_of_lef_def opens Bare text more h = inl refl
form_of_lef_def opens Quoted text more h = inr refl
form_of_lef_def opens Braced text more h = absurd (false≢true h.script)
form_of_lef_def opens Break text more h = absurd (false≢true h.0)
form_of_lef_def opens Semicolon text more h = absurd (false≢true h.0)

form_of_lines : (opens : Bool) (form : Form) (text more : List ℕ) → IsPiece Lines opens (Item form text) more → IsFormOfLines form
form_of_lines opens Bare text more h = inl refl
form_of_lines opens Quoted text more h = absurd (false≢true h.quotes)
form_of_lines opens Braced text more h = absurd (false≢true h.script)
form_of_lines opens Break text more h = inr refl
form_of_lines opens Semicolon text more h = absurd (false≢true h.0)

pub forms_of_lef_def : (text : List ℕ) (split : Split) → IsSplit LefDef text split → HasForms IsFormOfLefDef split.words
forms_of_lef_def text split h =
    subst (λ (s : Split). HasForms IsFormOfLefDef s.words) (sym h.2) (forms_of LefDef IsFormOfLefDef form_of_lef_def true _ h.0 split.refusal text h.1)

pub forms_of_lines : (text : List ℕ) (split : Split) → IsSplit Lines text split → HasForms IsFormOfLines split.words
forms_of_lines text split h =
    subst (λ (s : Split). HasForms IsFormOfLines s.words) (sym h.2) (forms_of Lines IsFormOfLines form_of_lines true _ h.0 split.refusal text h.1)
