-- The piece that is computed at a place is the one that stands there.
use Rattle.std.proofs.Common.{◌≡◌, ◌⊎◌, inl, inr, ⊎_elim, refl, sym, ap, ◌∙◌, subst, ℕ, ◌<◌, Bool, true, false, ◌&&◌, ◌||◌, ◌==◌, cond, not, List, [], ◌∷◌, ◌++◌, length, drop, Option, None, Some, Result, Ok, Err, get_or, append_assoc, arith}
use Rattle.std.proofs.lemmas.Bool.{cond_both, cond-true, cond-false, cases_Bool, eqb-true, and_parts, and_from, both_ways}
use Rattle.std.proofs.lemmas.List.{drop_at}
use Rattle.text_lex.specs.Bytes.{is_script, has_quotes, has_breaks, has_comment, is_white, begins_joined, begins_substitution, has_substitution, is_plain, begins_bare, ends_bare}
use Rattle.text_lex.specs.Piece.{Piece, Comment, Item, spelled, IsPiece, IsRefusedWord}
use Rattle.text_lex.specs.inside.Splitting.{line_of, plain_of, quoted_piece, braced_piece, bare_piece, joined_piece, piece_at}
use Rattle.text_lex.specs.declared.word.Mode.{Mode}
use Rattle.text_lex.specs.declared.word.Mode.TheVariants.{LefDef, Tcl, Lines}
use Rattle.text_lex.specs.declared.word.Form.TheVariants.{Bare, Quoted, Break, Semicolon}
use Rattle.text_lex.specs.declared.word.LexKind.{LexKind}
use Rattle.text_lex.specs.declared.word.LexKind.TheVariants.{Substitution}
use Rattle.text_lex.proofs.Finding.{FoundByte, found_byte, FoundBrace, found_brace, found_line, found_plain}

-- A text begins with this piece, or its first word is refused.
abbrev pub Tells : Mode → Bool → List ℕ → Result Piece LexKind → Type 0
Tells mode opens text (Ok piece) = (more : List ℕ) × (text ≡ spelled piece ++ more) × IsPiece mode opens piece more
Tells mode opens text (Err kind) = IsRefusedWord mode opens kind text

-- A line feed that is not white ends a line or a command.
breaks_if_not_white : (mode : Mode) → is_white mode 10 ≡ false → has_breaks mode ≡ true
breaks_if_not_white LefDef h = sym h
breaks_if_not_white Tcl h = refl
breaks_if_not_white Lines h = refl

tells_break : (mode : Mode) (opens : Bool) (b : ℕ) (bs : List ℕ) → (b == 10) ≡ true → is_white mode b ≡ false → Tells mode opens (b ∷ bs) (Ok (Item Break (10 ∷ [])))
tells_break mode opens b bs is h =
    let e = eqb-true b 10 is in
    (bs, ap (λ x. x ∷ bs) e, (breaks_if_not_white mode (ap (is_white mode) (sym e) ∙ h), refl))

tells_comment : (mode : Mode) (opens : Bool) (b : ℕ) (bs : List ℕ) → (b == 35 && has_comment mode opens) ≡ true → Tells mode opens (b ∷ bs) (Ok (Comment (line_of bs)))
tells_comment mode opens b bs h =
    let parts = and_parts (b == 35) _ h in
    let line = found_line bs in
    (line.more, ap (λ x. x ∷ bs) (eqb-true b 35 parts.0) ∙ ap (λ xs. 35 ∷ xs) line.is, record { begins = parts.1; inside = line.inside; ends = line.ends })

and_false : (x y : Bool) → (x && y) ≡ false → x ≡ true → y ≡ false
and_false true y h e = h
and_false false y h e = absurd (cc)

tells_quoted : (mode : Mode) (opens : Bool) (b : ℕ) (bs : List ℕ) (found : Option (List ℕ)) → (b == 34 && has_quotes mode) ≡ true → FoundByte 34 bs found → Tells mode opens (b ∷ bs) (quoted_piece mode found)
tells_quoted mode opens b bs None h f =
    let parts = and_parts (b == 34) _ h in
    inl (record { quotes = parts.1; never = (bs, ap (λ x. x ∷ bs) (eqb-true b 34 parts.0), f) })
tells_quoted mode opens b bs (Some text) h f =
    let parts = and_parts (b == 34) _ h in
    let is : b ∷ bs ≡ 34 ∷ text ++ 34 ∷ f.0 = ap (λ x. x ∷ bs) (eqb-true b 34 parts.0) ∙ ap (λ xs. 34 ∷ xs) f.1 in
    cond_both (is_script mode && has_substitution text) (Err Substitution) (Ok (Item Quoted text)) (Tells mode opens (b ∷ bs))
    (λ e.
    let both = and_parts (is_script mode) _ e in
    inl (record { script = both.0; inside = (text, f.0, is, f.2, both.1) }))
    (λ e. (f.0, is ∙ sym (append_assoc (34 ∷ text) (34 ∷ []) f.0), record { quotes = parts.1; inside = f.2; kept = λ script. and_false _ _ e script }))

tells_braced : (mode : Mode) (opens : Bool) (b : ℕ) (bs : List ℕ) (found : Option (List ℕ)) → (is_script mode && b == 123) ≡ true → FoundBrace 0 bs found → Tells mode opens (b ∷ bs) (braced_piece found)
tells_braced mode opens b bs None h f =
    let parts = and_parts (is_script mode) _ h in
    inr (record { script = parts.0; never = (bs, ap (λ x. x ∷ bs) (eqb-true b 123 parts.1), λ n. omega (arith, f n)) })
tells_braced mode opens b bs (Some text) h f =
    let parts = and_parts (is_script mode) _ h in
    let is : b ∷ bs ≡ 123 ∷ text ++ 125 ∷ f.0 = ap (λ x. x ∷ bs) (eqb-true b 123 parts.1) ∙ ap (λ xs. 123 ∷ xs) f.1 in
    (f.0, is ∙ sym (append_assoc (123 ∷ text) (125 ∷ []) f.0), record { script = parts.0; nested = record { none_before = λ n. omega (arith, f.2 n); each = omega (arith, f.3) } })

tells_semicolon : (mode : Mode) (opens : Bool) (b : ℕ) (bs : List ℕ) → (is_script mode && b == 59) ≡ true → Tells mode opens (b ∷ bs) (Ok (Item Semicolon (59 ∷ [])))
tells_semicolon mode opens b bs h =
    let parts = and_parts (is_script mode) _ h in
    (bs, ap (λ x. x ∷ bs) (eqb-true b 59 parts.1), (parts.0, refl))

-- What a text begins with, from its first bytes.
first_is : (n : ℕ) (bs : List ℕ) → 0 < n → get_or bs 0 0 ≡ n → (more : List ℕ) × (bs ≡ n ∷ more)
first_is n [] some e = absurd (omega (arith, e))
first_is n (x ∷ xs) some e = (xs, ap (λ y. y ∷ xs) e)

first_two : (n m : ℕ) (bs : List ℕ) → 0 < n → 0 < m → get_or bs 0 0 ≡ n → get_or bs 1 0 ≡ m → (more : List ℕ) × (bs ≡ n ∷ m ∷ more)
first_two n m [] some one e f = absurd (omega (arith, e))
first_two n m (x ∷ xs) some one e f = let rest = first_is m xs one f in (rest.0, ap (λ ys. x ∷ ys) rest.1 ∙ ap (λ y. y ∷ m ∷ rest.0) e)

-- The bytes of a joined line after its backslash.
abbrev pub JoinedBytes : List ℕ → List ℕ → Type 0
JoinedBytes bs bytes = (more : List ℕ) × (bs ≡ bytes ++ more) × ((bytes ≡ 10 ∷ []) ⊎ (bytes ≡ 13 ∷ 10 ∷ []))

joined_feed : (bs : List ℕ) → (get_or bs 0 0 == 10) ≡ true → JoinedBytes bs (10 ∷ [])
joined_feed bs e = let rest = first_is 10 bs (omega arith) (eqb-true (get_or bs 0 0) 10 e) in (rest.0, rest.1, inl refl)

joined_return : (bs : List ℕ) → (get_or bs 0 0 == 13 && get_or bs 1 0 == 10) ≡ true → JoinedBytes bs (13 ∷ 10 ∷ [])
joined_return bs h =
    let parts = and_parts (get_or bs 0 0 == 13) _ h in
    let rest = first_two 13 10 bs (omega arith) (omega arith) (eqb-true (get_or bs 0 0) 13 parts.0) (eqb-true (get_or bs 1 0) 10 parts.1) in
    (rest.0, rest.1, inr refl)

or_right_if : (x y : Bool) → (x || y) ≡ true → x ≡ false → y ≡ true
or_right_if true y h e = absurd (cc)
or_right_if false y h e = h

joined_bytes : (bs : List ℕ) → (get_or bs 0 0 == 10 || (get_or bs 0 0 == 13 && get_or bs 1 0 == 10)) ≡ true → JoinedBytes bs (cond {A = List ℕ} (get_or bs 0 0 == 10) (10 ∷ []) (13 ∷ 10 ∷ []))
joined_bytes bs h =
    cond_both (get_or bs 0 0 == 10) (10 ∷ []) (13 ∷ 10 ∷ []) (JoinedBytes bs) (λ e. joined_feed bs e)
    (λ e. joined_return bs (or_right_if (get_or bs 0 0 == 10) _ h e))

tells_joined : (mode : Mode) (opens : Bool) (b : ℕ) (bs : List ℕ) → (is_script mode && begins_joined (b ∷ bs)) ≡ true → Tells mode opens (b ∷ bs) (joined_piece bs)
tells_joined mode opens b bs h =
    let parts = and_parts (is_script mode) _ h in
    let joined = and_parts (b == 92) _ parts.1 in
    let bytes = joined_bytes bs joined.1 in
    (bytes.0, ap (λ x. x ∷ bs) (eqb-true b 92 joined.0) ∙ ap (λ xs. 92 ∷ xs) bytes.1, (parts.0, bytes.2))

-- After plain bytes stands the end of a bare word, or something that is substituted. (a to k are the tests of its first byte.)
ends_from_tests : (white feed script semicolon dollar bracket backslash joined : Bool) →
    (not white && not feed && not (script && (semicolon || dollar || bracket || backslash))) ≡ false →
    (script && (dollar || bracket || (backslash && not joined))) ≡ false → (white || feed || (script && (semicolon || joined))) ≡ true
ends_from_tests true feed script semicolon dollar bracket backslash joined h k = refl
ends_from_tests false true script semicolon dollar bracket backslash joined h k = refl
ends_from_tests false false false semicolon dollar bracket backslash joined h k = absurd (cc)
ends_from_tests false false true true dollar bracket backslash joined h k = refl
ends_from_tests false false true false true bracket backslash joined h k = absurd (cc)
ends_from_tests false false true false false true backslash joined h k = absurd (cc)
ends_from_tests false false true false false false false joined h k = absurd (cc)
ends_from_tests false false true false false false true false h k = absurd (cc)
ends_from_tests false false true false false false true true h k = refl

pub ends_from_plain : (mode : Mode) (more : List ℕ) → (more ≡ []) ⊎ (is_plain mode (get_or more 0 0) ≡ false) → (is_script mode && begins_substitution more) ≡ false → ends_bare mode more ≡ true
ends_from_plain mode [] ends h = refl
ends_from_plain mode (x ∷ xs) ends h =
    ends_from_tests (is_white mode x) (x == 10) (is_script mode) (x == 59) (x == 36) (x == 91) (x == 92) (begins_joined (x ∷ xs))
    (⊎_elim (λ e. cc) (λ e. e) ends) h

-- The tests by which a byte begins no other piece than a bare word.
pub record BeginsBare (mode : Mode) (opens : Bool) (b : ℕ) (bs : List ℕ) : Type 0 where
  pub white : is_white mode b ≡ false
  pub comment : (b == 35 && has_comment mode opens) ≡ false
  pub feed : (b == 10) ≡ false
  pub quote : (b == 34 && has_quotes mode) ≡ false
  pub joined : (is_script mode && begins_joined (b ∷ bs)) ≡ false
  pub semicolon : (is_script mode && b == 59) ≡ false
  pub brace : (is_script mode && b == 123) ≡ false

pub and_swap : (x y : Bool) → (x && y) ≡ (y && x)
and_swap true true = refl
and_swap true false = refl
and_swap false true = refl
and_swap false false = refl

pub begins_from_tests : (mode : Mode) (opens : Bool) (b : ℕ) (bs : List ℕ) → BeginsBare mode opens b bs → begins_bare mode opens b ≡ true
begins_from_tests mode opens b bs t =
    and_from _ _ (and_from _ _ (ap not t.comment) (ap not t.quote)) (ap not (and_swap (b == 123) (is_script mode) ∙ t.brace))

-- A byte that begins a bare word and is not plain begins a substitution.
pub substitution_from_tests : (white feed script semicolon dollar bracket backslash returns : Bool) →
    white ≡ false → feed ≡ false → (script && semicolon) ≡ false → (script && (backslash && returns)) ≡ false →
    (not white && not feed && not (script && (semicolon || dollar || bracket || backslash))) ≡ false →
    (script && (dollar || bracket || (backslash && not (backslash && returns)))) ≡ true
substitution_from_tests true feed script semicolon dollar bracket backslash returns w f s j h = absurd (cc)
substitution_from_tests false true script semicolon dollar bracket backslash returns w f s j h = absurd (cc)
substitution_from_tests false false false semicolon dollar bracket backslash returns w f s j h = sym h
substitution_from_tests false false true true dollar bracket backslash returns w f s j h = absurd (cc)
substitution_from_tests false false true false true bracket backslash returns w f s j h = refl
substitution_from_tests false false true false false true backslash returns w f s j h = refl
substitution_from_tests false false true false false false true true w f s j h = absurd (cc)
substitution_from_tests false false true false false false true false w f s j h = refl
substitution_from_tests false false true false false false false returns w f s j h = sym h

-- The plain bytes in front, where the first byte is plain.
plain_of-yes : (mode : Mode) (b : ℕ) (bs : List ℕ) → is_plain mode b ≡ true → plain_of mode (b ∷ bs) ≡ b ∷ plain_of mode bs
unfolding plain_of
plain_of-yes mode b bs e = cond-true (is_plain mode b) _ _ e

plain_of-no : (mode : Mode) (b : ℕ) (bs : List ℕ) → is_plain mode b ≡ false → plain_of mode (b ∷ bs) ≡ []
unfolding plain_of
plain_of-no mode b bs e = cond-false (is_plain mode b) _ _ e

tells_bare : (mode : Mode) (opens : Bool) (b : ℕ) (bs : List ℕ) → BeginsBare mode opens b bs → Tells mode opens (b ∷ bs) (bare_piece mode (b ∷ bs))
tells_bare mode opens b bs t =
    let word = plain_of mode (b ∷ bs) in
    let found = found_plain mode (b ∷ bs) in
    let is : b ∷ bs ≡ word ++ found.more = found.is in
    let after : drop (length word) (b ∷ bs) ≡ found.more = ap (drop (length word)) is ∙ drop_at word found.more (length word) refl in
    let begins = begins_from_tests mode opens b bs t in
    cond_both (is_script mode && begins_substitution (drop (length word) (b ∷ bs))) (Err Substitution) (Ok (Item Bare word)) (Tells mode opens (b ∷ bs))
    (λ e.
    let parts = and_parts (is_script mode) _ e in
    inr (record { script = parts.0; begins = begins; inside = (word, found.more, is, found.plain, ap begins_substitution (sym after) ∙ parts.1) }))
    (λ e.
    let none : (is_script mode && begins_substitution found.more) ≡ false = ap (λ x. is_script mode && begins_substitution x) (sym after) ∙ e in
    ⊎_elim
    (λ yes_plain.
    let w : word ≡ b ∷ plain_of mode bs = plain_of-yes mode b bs yes_plain in (
      found.more,
      is,
      record {
        some = subst (λ (x : List ℕ). 0 < length x) (sym w) (omega arith);
        begins = ap (λ x. begins_bare mode opens (get_or x 0 0)) w ∙ begins;
        plain = found.plain;
        ends = ends_from_plain mode found.more found.ends none;
      },
    ))
    (λ not_plain. absurd (
    let w : word ≡ [] = plain_of-no mode b bs not_plain in
    let all : found.more ≡ b ∷ bs = sym after ∙ ap (λ x. drop (length x) (b ∷ bs)) w in
    let yes_substitution = substitution_from_tests (is_white mode b) (b == 10) (is_script mode) (b == 59) (b == 36) (b == 91) (b == 92)
    (get_or bs 0 0 == 10 || (get_or bs 0 0 == 13 && get_or bs 1 0 == 10)) t.white t.feed t.semicolon t.joined not_plain in
    both_ways _ none (ap (λ x. is_script mode && begins_substitution x) all ∙ yes_substitution)))
    (cases_Bool (is_plain mode b)))

-- What is computed at a place stands there.
pub piece_tells : (mode : Mode) (opens : Bool) (b : ℕ) (bs : List ℕ) → Tells mode opens (b ∷ bs) (piece_at mode opens b bs)
unfolding piece_at
piece_tells mode opens b bs =
    let T = Tells mode opens (b ∷ bs) in
    cond_both (is_white mode b) _ _ T (λ e. (bs, refl, e))
    (λ white. cond_both (b == 35 && has_comment mode opens) _ _ T (λ e. tells_comment mode opens b bs e)
    (λ comment. cond_both (b == 10) _ _ T (λ e. tells_break mode opens b bs e white)
    (λ feed. cond_both (b == 34 && has_quotes mode) _ _ T (λ e. tells_quoted mode opens b bs _ e (found_byte 34 bs))
    (λ quote. cond_both (is_script mode && begins_joined (b ∷ bs)) _ _ T (λ e. tells_joined mode opens b bs e)
    (λ joined. cond_both (is_script mode && b == 59) _ _ T (λ e. tells_semicolon mode opens b bs e)
    (λ semicolon. cond_both (is_script mode && b == 123) _ _ T (λ e. tells_braced mode opens b bs _ e (found_brace 0 bs))
    (λ brace. tells_bare mode opens b bs (record { white = white; comment = comment; feed = feed; quote = quote; joined = joined; semicolon = semicolon; brace = brace }))))))))
