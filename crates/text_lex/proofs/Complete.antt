-- The piece that stands at a place is the one that is computed there.
use Rattle.std.proofs.Common.{◌≡◌, ◌⊎◌, inl, inr, ⊎_elim, refl, sym, ap, ◌∙◌, subst, ℕ, Bool, true, false, ◌&&◌, ◌||◌, ◌==◌, cond, not, List, [], ◌∷◌, ◌++◌, length, drop, Result, Ok, Err, get_or, append_assoc, arith}
use Rattle.std.specs.List.{list_all}
use Rattle.std.proofs.lemmas.Bool.{cond-true, cond-false, eqb-true, and_parts, not-true, both_ways, or_cases, false_from_ne_true, false≢true}
use Rattle.std.proofs.lemmas.List.{drop_at}
use Rattle.text_lex.specs.Bytes.{is_script, has_quotes, has_breaks, has_comment, is_white, begins_joined, begins_substitution, has_substitution, is_plain, begins_bare, ends_bare}
use Rattle.text_lex.specs.Piece.{Piece, White, Joined, Comment, Item, spelled, IsPiece, IsRefusedWord, IsNested, IsBare, IsQuoted, IsComment, HasOpenQuote, HasOpenBrace, SubstitutesInQuotes, SubstitutesInBare}
use Rattle.text_lex.specs.inside.Splitting.{before_byte, before_brace, plain_of, quoted_piece, braced_piece, bare_piece, piece_at}
use Rattle.text_lex.specs.declared.word.Mode.{Mode}
use Rattle.text_lex.specs.declared.word.Mode.TheVariants.{LefDef, Tcl, Lines}
use Rattle.text_lex.specs.declared.word.Form.TheVariants.{Bare, Quoted, Braced, Break, Semicolon}
use Rattle.text_lex.specs.declared.word.LexKind.{LexKind}
use Rattle.text_lex.specs.declared.word.LexKind.TheVariants.{BadString, Substitution}
use Rattle.text_lex.proofs.Finding.{before_byte-some, before_byte-none, before_brace-some, before_brace-none, line_of-append, plain_of-append}
use Rattle.text_lex.proofs.Pieces.{BeginsBare, and_swap}

-- After the end of a bare word no plain byte stands. (The tests of its first byte.)
not_plain_from_tests : (white feed script semicolon dollar bracket backslash returns : Bool) →
    (white || feed || (script && (semicolon || (backslash && returns)))) ≡ true →
    (not white && not feed && not (script && (semicolon || dollar || bracket || backslash))) ≡ false
not_plain_from_tests true feed script semicolon dollar bracket backslash returns h = refl
not_plain_from_tests false true script semicolon dollar bracket backslash returns h = refl
not_plain_from_tests false false false semicolon dollar bracket backslash returns h = absurd (cc)
not_plain_from_tests false false true true dollar bracket backslash returns h = refl
not_plain_from_tests false false true false true bracket backslash returns h = refl
not_plain_from_tests false false true false false true backslash returns h = refl
not_plain_from_tests false false true false false false true returns h = refl
not_plain_from_tests false false true false false false false returns h = absurd (cc)

pub not_plain_from_end : (mode : Mode) (more : List ℕ) → ends_bare mode more ≡ true → (more ≡ []) ⊎ (is_plain mode (get_or more 0 0) ≡ false)
not_plain_from_end mode [] h = inl refl
not_plain_from_end mode (x ∷ xs) h =
    inr (not_plain_from_tests (is_white mode x) (x == 10) (is_script mode) (x == 59) (x == 36) (x == 91) (x == 92)
    (get_or xs 0 0 == 10 || (get_or xs 0 0 == 13 && get_or xs 1 0 == 10)) h)

-- What is substituted is not plain.
not_plain_from_substitution : (white feed semicolon dollar bracket backslash joined : Bool) →
    (dollar || bracket || (backslash && not joined)) ≡ true →
    (not white && not feed && not (true && (semicolon || dollar || bracket || backslash))) ≡ false
not_plain_from_substitution true feed semicolon dollar bracket backslash joined h = refl
not_plain_from_substitution false true semicolon dollar bracket backslash joined h = refl
not_plain_from_substitution false false true dollar bracket backslash joined h = refl
not_plain_from_substitution false false false true bracket backslash joined h = refl
not_plain_from_substitution false false false false true backslash joined h = refl
not_plain_from_substitution false false false false false true joined h = refl
not_plain_from_substitution false false false false false false joined h = absurd (cc)

pub substitution_not_plain : (more : List ℕ) → begins_substitution more ≡ true → is_plain Tcl (get_or more 0 0) ≡ false
substitution_not_plain [] h = absurd (cc)
substitution_not_plain (x ∷ xs) h =
    not_plain_from_substitution (is_white Tcl x) (x == 10) (x == 59) (x == 36) (x == 91) (x == 92) (begins_joined (x ∷ xs)) h

-- A bare word does not end where something is substituted.
ends_apart : (x : ℕ) (xs : List ℕ) → ends_bare Tcl (x ∷ xs) ≡ true → begins_substitution (x ∷ xs) ≡ true → ⊥
ends_apart x xs ends h =
    let at : (n : ℕ) → (x == n) ≡ true → ends_bare Tcl (n ∷ xs) ≡ true = λ n e. ap (λ y. ends_bare Tcl (y ∷ xs)) (sym (eqb-true x n e)) ∙ ends in
    ⊎_elim
    (λ front. ⊎_elim (λ e. false≢true (at 36 e)) (λ e. false≢true (at 91 e)) (or_cases (x == 36) (x == 91) front))
    (λ back.
    let parts = and_parts (x == 92) _ back in
    both_ways (begins_joined (92 ∷ xs)) (ap (λ y. begins_joined (y ∷ xs)) (sym (eqb-true x 92 parts.0)) ∙ not-true _ parts.1) (at 92 parts.0))
    (or_cases (x == 36 || x == 91) _ h)

pub no_substitution_at_end : (mode : Mode) (more : List ℕ) → ends_bare mode more ≡ true → (is_script mode && begins_substitution more) ≡ false
no_substitution_at_end LefDef more h = refl
no_substitution_at_end Tcl [] h = refl
no_substitution_at_end Tcl (x ∷ xs) h = false_from_ne_true _ (λ e. ends_apart x xs h e)
no_substitution_at_end Lines more h = refl

-- A plain byte is no `;`, and begins no joined line.
semicolon_not_plain : (script semicolon dollar bracket backslash : Bool) → (script && (semicolon || dollar || bracket || backslash)) ≡ false → (script && semicolon) ≡ false
semicolon_not_plain false semicolon dollar bracket backslash h = refl
semicolon_not_plain true true dollar bracket backslash h = absurd (cc)
semicolon_not_plain true false dollar bracket backslash h = refl

joined_not_plain : (script semicolon dollar bracket backslash returns : Bool) → (script && (semicolon || dollar || bracket || backslash)) ≡ false → (script && (backslash && returns)) ≡ false
joined_not_plain false semicolon dollar bracket backslash returns h = refl
joined_not_plain true semicolon dollar bracket false returns h = refl
joined_not_plain true true dollar bracket true returns h = absurd (cc)
joined_not_plain true false true bracket true returns h = absurd (cc)
joined_not_plain true false false true true returns h = absurd (cc)
joined_not_plain true false false false true returns h = absurd (cc)

pub tests_from_plain : (mode : Mode) (opens : Bool) (b : ℕ) (bs : List ℕ) → begins_bare mode opens b ≡ true → is_plain mode b ≡ true → BeginsBare mode opens b bs
tests_from_plain mode opens b bs begins plain =
    let first = and_parts _ _ begins in
    let two = and_parts (not (b == 35 && has_comment mode opens)) _ first.0 in
    let ends = and_parts _ _ plain in
    let gaps = and_parts (not (is_white mode b)) _ ends.0 in
    let others = not-true _ ends.1 in record {
      white = not-true _ gaps.0;
      comment = not-true _ two.0;
      feed = not-true _ gaps.1;
      quote = not-true _ two.1;
      joined = joined_not_plain (is_script mode) (b == 59) (b == 36) (b == 91) (b == 92) (get_or bs 0 0 == 10 || (get_or bs 0 0 == 13 && get_or bs 1 0 == 10)) others;
      semicolon = semicolon_not_plain (is_script mode) (b == 59) (b == 36) (b == 91) (b == 92) others;
      brace = and_swap (is_script mode) (b == 123) ∙ not-true _ first.1;
    }

pub tests_from_substitution : (opens : Bool) (b : ℕ) (bs : List ℕ) → begins_substitution (b ∷ bs) ≡ true → BeginsBare Tcl opens b bs
tests_from_substitution opens b bs h =
    let P : ℕ → Type 0 = λ x. BeginsBare Tcl opens x bs in
    ⊎_elim
    (λ front. ⊎_elim
    (λ e. subst P (sym (eqb-true b 36 e)) (record { white = refl; comment = refl; feed = refl; quote = refl; joined = refl; semicolon = refl; brace = refl }))
    (λ e. subst P (sym (eqb-true b 91 e)) (record { white = refl; comment = refl; feed = refl; quote = refl; joined = refl; semicolon = refl; brace = refl }))
    (or_cases (b == 36) (b == 91) front))
    (λ back.
    let parts = and_parts (b == 92) _ back in
    let is = eqb-true b 92 parts.0 in
    subst P (sym is) (record { white = refl; comment = refl; feed = refl; quote = refl; joined = ap (λ y. begins_joined (y ∷ bs)) (sym is) ∙ not-true _ parts.1; semicolon = refl; brace = refl }))
    (or_cases (b == 36 || b == 91) _ h)

-- What is computed where no other piece begins.
at_bare : (mode : Mode) (opens : Bool) (b : ℕ) (bs : List ℕ) → BeginsBare mode opens b bs → piece_at mode opens b bs ≡ bare_piece mode (b ∷ bs)
unfolding piece_at
at_bare mode opens b bs t =
    cond-false (is_white mode b) _ _ t.white ∙ (cond-false (b == 35 && has_comment mode opens) _ _ t.comment
    ∙ (cond-false (b == 10) _ _ t.feed ∙ (cond-false (b == 34 && has_quotes mode) _ _ t.quote
    ∙ (cond-false (is_script mode && begins_joined (b ∷ bs)) _ _ t.joined ∙ (cond-false (is_script mode && b == 59) _ _ t.semicolon
    ∙ cond-false (is_script mode && b == 123) _ _ t.brace)))))

bare_is : (mode : Mode) (word more : List ℕ) → list_all (is_plain mode) word ≡ true → (more ≡ []) ⊎ (is_plain mode (get_or more 0 0) ≡ false) →
    bare_piece mode (word ++ more) ≡ cond {A = Result Piece LexKind} (is_script mode && begins_substitution more) (Err Substitution) (Ok (Item Bare word))
bare_is mode word more plain ends =
    let found : plain_of mode (word ++ more) ≡ word = plain_of-append mode word more plain ends in
    let G : List ℕ → Result Piece LexKind = λ w. cond (is_script mode && begins_substitution (drop (length w) (word ++ more))) (Err Substitution) (Ok (Item Bare w)) in
    let H : List ℕ → Result Piece LexKind = λ m. cond (is_script mode && begins_substitution m) (Err Substitution) (Ok (Item Bare word)) in
    ap G found ∙ ap H (drop_at word more (length word) refl)

-- The piece is computed at its first byte.
pub record IsComputed (mode : Mode) (opens : Bool) (piece : Piece) (more : List ℕ) : Type 0 where
  pub first : ℕ
  pub rest : List ℕ
  pub is : spelled piece ≡ first ∷ rest
  pub gives : piece_at mode opens first (rest ++ more) ≡ Ok piece

white_computed : (mode : Mode) (opens : Bool) (byte : ℕ) (more : List ℕ) → is_white mode byte ≡ true → IsComputed mode opens (White byte) more
unfolding piece_at
white_computed mode opens byte more h = record { first = byte; rest = []; is = refl; gives = cond-true (is_white mode byte) _ _ h }

joined_computed : (opens : Bool) (bytes more : List ℕ) → (bytes ≡ 10 ∷ []) ⊎ (bytes ≡ 13 ∷ 10 ∷ []) → IsComputed Tcl opens (Joined bytes) more
unfolding piece_at
joined_computed opens bytes more h =
    let P : List ℕ → Type 0 = λ x. IsComputed Tcl opens (Joined x) more in
    ⊎_elim
    (λ e. subst P (sym e) (record { first = 92; rest = 10 ∷ []; is = refl; gives = refl }))
    (λ e. subst P (sym e) (record { first = 92; rest = 13 ∷ 10 ∷ []; is = refl; gives = refl })) h

comment_computed : (mode : Mode) (opens : Bool) (text more : List ℕ) → IsComment mode opens text more → IsComputed mode opens (Comment text) more
unfolding piece_at
comment_computed mode opens text more h = record {
  first = 35;
  rest = text;
  is = refl;
  gives = cond-true (has_comment mode opens) _ _ h.begins ∙ ap (λ x. Ok (Comment x)) (line_of-append text more h.inside h.ends);
}

break_computed : (mode : Mode) (opens : Bool) (more : List ℕ) → has_breaks mode ≡ true → IsComputed mode opens (Item Break (10 ∷ [])) more
unfolding piece_at
break_computed mode opens more h = record { first = 10; rest = []; is = refl; gives = cond-false (not (has_breaks mode)) _ _ (ap not h) }

semicolon_computed : (opens : Bool) (more : List ℕ) → IsComputed Tcl opens (Item Semicolon (59 ∷ [])) more
unfolding piece_at
semicolon_computed opens more = record { first = 59; rest = []; is = refl; gives = refl }

-- What is computed at a quote and at a brace.
at_quote : (mode : Mode) (opens : Bool) (bs : List ℕ) → has_quotes mode ≡ true → piece_at mode opens 34 bs ≡ quoted_piece mode (before_byte 34 bs)
unfolding piece_at
at_quote mode opens bs h = cond-true (has_quotes mode) _ _ h

at_brace : (opens : Bool) (bs : List ℕ) → piece_at Tcl opens 123 bs ≡ braced_piece (before_brace 0 bs)
unfolding piece_at
at_brace opens bs = refl

no_substitution_in : (mode : Mode) (text : List ℕ) → (is_script mode ≡ true → has_substitution text ≡ false) → (is_script mode && has_substitution text) ≡ false
no_substitution_in LefDef text h = refl
no_substitution_in Tcl text h = h refl
no_substitution_in Lines text h = refl

quoted_computed : (mode : Mode) (opens : Bool) (text more : List ℕ) → IsQuoted mode text → IsComputed mode opens (Item Quoted text) more
quoted_computed mode opens text more h = record {
  first = 34;
  rest = text ++ 34 ∷ [];
  is = refl;
  gives = at_quote mode opens _ h.quotes
      ∙ (ap (λ x. quoted_piece mode (before_byte 34 x)) (append_assoc text (34 ∷ []) more)
      ∙ (ap (quoted_piece mode) (before_byte-some 34 text more h.inside) ∙ cond-false (is_script mode && has_substitution text) _ _ (no_substitution_in mode text h.kept)));
}

braced_computed : (opens : Bool) (text more : List ℕ) → IsNested text → IsComputed Tcl opens (Item Braced text) more
braced_computed opens text more h = record {
  first = 123;
  rest = text ++ 125 ∷ [];
  is = refl;
  gives = at_brace opens _
      ∙ (ap (λ x. braced_piece (before_brace 0 x)) (append_assoc text (125 ∷ []) more)
      ∙ ap braced_piece (before_brace-some 0 text more (λ n. omega (arith, h.none_before n)) (omega (arith, h.each))));
}

bare_computed : (mode : Mode) (opens : Bool) (text more : List ℕ) → IsBare mode opens text more → IsComputed mode opens (Item Bare text) more
bare_computed mode opens [] more h = absurd (omega (arith, h.some))
bare_computed mode opens (b ∷ bs) more h = record {
  first = b;
  rest = bs;
  is = refl;
  gives = at_bare mode opens b (bs ++ more) (tests_from_plain mode opens b (bs ++ more) h.begins ((and_parts (is_plain mode b) _ h.plain).0))
      ∙ (bare_is mode (b ∷ bs) more h.plain (not_plain_from_end mode more h.ends)
      ∙ cond-false (is_script mode && begins_substitution more) _ _ (no_substitution_at_end mode more h.ends));
}

pub piece_computed : (mode : Mode) (opens : Bool) (piece : Piece) (more : List ℕ) → IsPiece mode opens piece more → IsComputed mode opens piece more
piece_computed mode opens (White byte) more h = white_computed mode opens byte more h
piece_computed LefDef opens (Joined bytes) more h = absurd (false≢true h.0)
piece_computed Tcl opens (Joined bytes) more h = joined_computed opens bytes more h.1
piece_computed Lines opens (Joined bytes) more h = absurd (false≢true h.0)
piece_computed mode opens (Comment text) more h = comment_computed mode opens text more h
piece_computed mode opens (Item Bare text) more h = bare_computed mode opens text more h
piece_computed mode opens (Item Quoted text) more h = quoted_computed mode opens text more h
piece_computed LefDef opens (Item Braced text) more h = absurd (false≢true h.script)
piece_computed Tcl opens (Item Braced text) more h = braced_computed opens text more h.nested
piece_computed Lines opens (Item Braced text) more h = absurd (false≢true h.script)
piece_computed mode opens (Item Break text) more h =
    let P : List ℕ → Type 0 = λ x. IsComputed mode opens (Item Break x) more in
    subst P (sym h.1) (break_computed mode opens more h.0)
piece_computed LefDef opens (Item Semicolon text) more h = absurd (false≢true h.0)
piece_computed Tcl opens (Item Semicolon text) more h =
    let P : List ℕ → Type 0 = λ x. IsComputed Tcl opens (Item Semicolon x) more in
    subst P (sym h.1) (semicolon_computed opens more)
piece_computed Lines opens (Item Semicolon text) more h = absurd (false≢true h.0)

-- The refusal is computed at the word's first byte.
pub record IsRefusalComputed (mode : Mode) (opens : Bool) (kind : LexKind) (text : List ℕ) : Type 0 where
  pub first : ℕ
  pub rest : List ℕ
  pub is : text ≡ first ∷ rest
  pub gives : piece_at mode opens first rest ≡ Err kind

open_quote_computed : (mode : Mode) (opens : Bool) (text : List ℕ) → HasOpenQuote mode text → IsRefusalComputed mode opens BadString text
open_quote_computed mode opens text h = record {
  first = 34;
  rest = h.never.0;
  is = h.never.1;
  gives = at_quote mode opens h.never.0 h.quotes ∙ ap (quoted_piece mode) (before_byte-none 34 h.never.0 h.never.2);
}

open_brace_computed : (opens : Bool) (text : List ℕ) → HasOpenBrace Tcl text → IsRefusalComputed Tcl opens BadString text
open_brace_computed opens text h = record {
  first = 123;
  rest = h.never.0;
  is = h.never.1;
  gives = at_brace opens h.never.0 ∙ ap braced_piece (before_brace-none 0 h.never.0 (λ n. omega (arith, h.never.2 n)));
}

in_quotes_computed : (opens : Bool) (text : List ℕ) → SubstitutesInQuotes Tcl text → IsRefusalComputed Tcl opens Substitution text
in_quotes_computed opens text h = record {
  first = 34;
  rest = h.inside.0 ++ 34 ∷ h.inside.1;
  is = h.inside.2;
  gives = at_quote Tcl opens _ refl
      ∙ (ap (quoted_piece Tcl) (before_byte-some 34 h.inside.0 h.inside.1 h.inside.3)
      ∙ cond-true (has_substitution h.inside.0) _ _ h.inside.4);
}

in_bare_from : (opens : Bool) (word more : List ℕ) → begins_bare Tcl opens (get_or (word ++ more) 0 0) ≡ true → list_all (is_plain Tcl) word ≡ true → begins_substitution more ≡ true → IsRefusalComputed Tcl opens Substitution (word ++ more)
in_bare_from opens [] [] begins plain h = absurd (cc)
in_bare_from opens [] (b ∷ bs) begins plain h = record {
  first = b;
  rest = bs;
  is = refl;
  gives = at_bare Tcl opens b bs (tests_from_substitution opens b bs h)
      ∙ (bare_is Tcl [] (b ∷ bs) refl (inr (substitution_not_plain (b ∷ bs) h)) ∙ cond-true (begins_substitution (b ∷ bs)) _ _ h);
}
in_bare_from opens (b ∷ bs) more begins plain h = record {
  first = b;
  rest = bs ++ more;
  is = refl;
  gives = at_bare Tcl opens b (bs ++ more) (tests_from_plain Tcl opens b (bs ++ more) begins ((and_parts (is_plain Tcl b) _ plain).0))
      ∙ (bare_is Tcl (b ∷ bs) more plain (inr (substitution_not_plain more h)) ∙ cond-true (begins_substitution more) _ _ h);
}

in_bare_computed : (opens : Bool) (text : List ℕ) → SubstitutesInBare Tcl opens text → IsRefusalComputed Tcl opens Substitution text
in_bare_computed opens text h =
    let P : List ℕ → Type 0 = λ x. IsRefusalComputed Tcl opens Substitution x in
    let begins = ap (λ x. begins_bare Tcl opens (get_or x 0 0)) (sym h.inside.2) ∙ h.begins in
    subst P (sym h.inside.2) (in_bare_from opens h.inside.0 h.inside.1 begins h.inside.3 h.inside.4)

pub refusal_computed : (mode : Mode) (opens : Bool) (kind : LexKind) (text : List ℕ) → IsRefusedWord mode opens kind text → IsRefusalComputed mode opens kind text
refusal_computed LefDef opens BadString text h = ⊎_elim (λ q. open_quote_computed LefDef opens text q) (λ b. absurd (false≢true b.script)) h
refusal_computed Tcl opens BadString text h = ⊎_elim (λ q. open_quote_computed Tcl opens text q) (λ b. open_brace_computed opens text b) h
refusal_computed Lines opens BadString text h = ⊎_elim (λ q. absurd (false≢true q.quotes)) (λ b. absurd (false≢true b.script)) h
refusal_computed LefDef opens Substitution text h = ⊎_elim (λ q. absurd (false≢true q.script)) (λ b. absurd (false≢true b.script)) h
refusal_computed Tcl opens Substitution text h = ⊎_elim (λ q. in_quotes_computed opens text q) (λ b. in_bare_computed opens text b) h
refusal_computed Lines opens Substitution text h = ⊎_elim (λ q. absurd (false≢true q.script)) (λ b. absurd (false≢true b.script)) h
