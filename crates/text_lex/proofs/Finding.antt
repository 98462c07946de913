-- What is found in a text, and that it is found: the bytes before a quote, before a closing brace, before a line feed, and the plain bytes.
use Rattle.std.proofs.Common.{◌≡◌, ◌≢◌, ◌⊎◌, inl, inr, ⊎_elim, refl, sym, ap, ◌∙◌, ℕ, zero, suc, ◌+◌, ◌-◌, ◌≤◌, Bool, true, false, ◌==◌, cond, List, [], ◌∷◌, ◌++◌, take, Option, None, Some, get_or, arith}
use Rattle.std.specs.List.{list_all}
use Rattle.std.proofs.lemmas.Bool.{cond_both, cond-true, cond-false, cases_Bool, eqb-true, eqb-false, eq-eqb, and_parts, and_from}
use Rattle.text_lex.specs.Bytes.{count_of, is_plain}
use Rattle.text_lex.specs.inside.Splitting.{after_byte, before_byte, before_brace, line_of, plain_of}
use Rattle.text_lex.specs.declared.word.Mode.{Mode}

-- A count that is 0 counts the first one not.
pub zero_count : (t : Bool) (n : ℕ) → cond t 1 0 + n ≡ 0 → (t ≡ false) × (n ≡ 0)
zero_count true n h = absurd (omega arith)
zero_count false n h = (refl, omega arith)

pub zero_counts : (t : Bool) (n : ℕ) → t ≡ false → n ≡ 0 → cond t 1 0 + n ≡ 0
zero_counts true n e h = absurd (cc)
zero_counts false n e h = omega arith

-- What was looked for is the text before the first byte of a kind, or there is none.
abbrev pub FoundByte : ℕ → List ℕ → Option (List ℕ) → Type 0
FoundByte byte text None = count_of byte text ≡ 0
FoundByte byte text (Some inside) = (more : List ℕ) × (text ≡ inside ++ byte ∷ more) × (count_of byte inside ≡ 0)

found_byte_after : (byte b : ℕ) (bs : List ℕ) (found : Option (List ℕ)) → (b == byte) ≡ false → FoundByte byte bs found → FoundByte byte (b ∷ bs) (after_byte b found)
found_byte_after byte b bs None e h = zero_counts (b == byte) _ e h
found_byte_after byte b bs (Some inside) e h = (h.0, ap (λ xs. b ∷ xs) h.1, zero_counts (b == byte) _ e h.2)

pub found_byte : (byte : ℕ) (text : List ℕ) → FoundByte byte text (before_byte byte text)
unfolding before_byte
found_byte byte [] = refl
found_byte byte (b ∷ bs) =
    cond_both (b == byte) (Some []) (after_byte b (before_byte byte bs)) (FoundByte byte (b ∷ bs))
    (λ e. (bs, ap (λ x. x ∷ bs) (eqb-true b byte e), refl))
    (λ e. found_byte_after byte b bs (before_byte byte bs) e (found_byte byte bs))

pub before_byte-some : (byte : ℕ) (inside more : List ℕ) → count_of byte inside ≡ 0 → before_byte byte (inside ++ byte ∷ more) ≡ Some inside
unfolding before_byte
before_byte-some byte [] more h = cond-true (byte == byte) _ _ (eq-eqb byte byte refl)
before_byte-some byte (b ∷ bs) more h =
    let parts = zero_count (b == byte) (count_of byte bs) h in
    cond-false (b == byte) _ _ parts.0 ∙ ap (after_byte b) (before_byte-some byte bs more parts.1)

pub before_byte-none : (byte : ℕ) (text : List ℕ) → count_of byte text ≡ 0 → before_byte byte text ≡ None
unfolding before_byte
before_byte-none byte [] h = refl
before_byte-none byte (b ∷ bs) h =
    let parts = zero_count (b == byte) (count_of byte bs) h in
    cond-false (b == byte) _ _ parts.0 ∙ ap (after_byte b) (before_byte-none byte bs parts.1)

-- In no front are more braces closed than opened, `open_braces` before it among these.
abbrev pub Fronts : ℕ → List ℕ → Type 0
Fronts open_braces text = (n : ℕ) → count_of 125 (take n text) ≤ open_braces + count_of 123 (take n text)

fronts_none : (d : ℕ) → Fronts d []
fronts_none d zero = omega arith
fronts_none d (suc n) = omega arith

fronts_after : (d e b : ℕ) (bs : List ℕ) → cond (b == 125) 1 0 + e ≤ d + cond (b == 123) 1 0 → Fronts e bs → Fronts d (b ∷ bs)
fronts_after d e b bs h fronts zero = omega arith
fronts_after d e b bs h fronts (suc n) = omega (arith, fronts n)

fronts_before : (d e b : ℕ) (bs : List ℕ) → d + cond (b == 123) 1 0 ≤ cond (b == 125) 1 0 + e → Fronts d (b ∷ bs) → Fronts e bs
fronts_before d e b bs h fronts n = omega (arith, fronts (suc n))

abbrev pub FoundBrace : ℕ → List ℕ → Option (List ℕ) → Type 0
FoundBrace d text None = Fronts d text
FoundBrace d text (Some inside) = (more : List ℕ) × (text ≡ inside ++ 125 ∷ more) × Fronts d inside × (count_of 125 inside ≡ d + count_of 123 inside)

found_brace_after : (d e b : ℕ) (bs : List ℕ) (found : Option (List ℕ)) → cond (b == 125) 1 0 + e ≡ d + cond (b == 123) 1 0 → FoundBrace e bs found → FoundBrace d (b ∷ bs) (after_byte b found)
found_brace_after d e b bs None h f = fronts_after d e b bs (omega arith) f
found_brace_after d e b bs (Some inside) h f =
    (f.0, ap (λ xs. b ∷ xs) f.1, fronts_after d e b inside (omega arith) f.2, omega (arith, f.3))

-- The count of one byte.
counts_yes : (b n : ℕ) → (b == n) ≡ true → ◌≡◌ {A = ℕ} (cond (b == n) 1 0) 1
counts_yes b n e = cond-true (b == n) 1 0 e

counts_no : (b n : ℕ) → (b == n) ≡ false → ◌≡◌ {A = ℕ} (cond (b == n) 1 0) 0
counts_no b n e = cond-false (b == n) 1 0 e

counts_other : (b n m : ℕ) → (n == m) ≡ false → (b == n) ≡ true → ◌≡◌ {A = ℕ} (cond (b == m) 1 0) 0
counts_other b n m ne e = counts_no b m (ap (λ x. x == m) (eqb-true b n e) ∙ ne)

pub found_brace : (d : ℕ) (text : List ℕ) → FoundBrace d text (before_brace d text)
unfolding before_brace
found_brace d [] = fronts_none d
found_brace d (b ∷ bs) =
    cond_both (b == 123) _ _ (FoundBrace d (b ∷ bs))
    (λ opens. found_brace_after d (suc d) b bs _ (omega (arith, counts_yes b 123 opens, counts_other b 123 125 refl opens)) (found_brace (suc d) bs))
    (λ e. cond_both (b == 125) _ _ (FoundBrace d (b ∷ bs))
    (λ closes. cond_both (d == 0) _ _ (FoundBrace d (b ∷ bs))
    (λ none. (bs, ap (λ x. x ∷ bs) (eqb-true b 125 closes), fronts_none d, sym (eqb-true d 0 none) ∙ omega arith))
    (λ some. found_brace_after d (d - 1) b bs _ (let ne : d ≢ 0 = eqb-false d 0 some in omega (arith, counts_yes b 125 closes, counts_no b 123 e)) (found_brace (d - 1) bs)))
    (λ f. found_brace_after d d b bs _ (omega (arith, counts_no b 125 f, counts_no b 123 e)) (found_brace d bs)))

pub before_brace-some : (d : ℕ) (inside more : List ℕ) → Fronts d inside → count_of 125 inside ≡ d + count_of 123 inside → before_brace d (inside ++ 125 ∷ more) ≡ Some inside
unfolding before_brace
before_brace-some d [] more fronts each = let e : (d == 0) ≡ true = eq-eqb d 0 (omega (arith, each)) in cond-true (d == 0) _ _ e
before_brace-some d (b ∷ bs) more fronts each =
    let P : Option (List ℕ) → Type 0 = λ x. x ≡ Some (b ∷ bs) in
    cond_both (b == 123) _ _ P
    (λ opens.
    let f : Fronts (suc d) bs = fronts_before d (suc d) b bs (omega (arith, counts_yes b 123 opens, counts_other b 123 125 refl opens)) fronts in
    ap (after_byte b) (before_brace-some (suc d) bs more f (omega (arith, each, counts_yes b 123 opens, counts_other b 123 125 refl opens))))
    (λ e. cond_both (b == 125) _ _ P
    (λ closes.
    let some : 1 ≤ d = omega (arith, fronts 1, counts_yes b 125 closes, counts_no b 123 e) in
    cond_both (d == 0) _ _ P
    (λ none. absurd (omega (arith, eqb-true d 0 none)))
    (λ _.
    let f : Fronts (d - 1) bs = fronts_before d (d - 1) b bs (omega (arith, counts_yes b 125 closes, counts_no b 123 e)) fronts in
    ap (after_byte b) (before_brace-some (d - 1) bs more f (omega (arith, each, counts_yes b 125 closes, counts_no b 123 e)))))
    (λ g.
    let f : Fronts d bs = fronts_before d d b bs (omega (arith, counts_no b 125 g, counts_no b 123 e)) fronts in
    ap (after_byte b) (before_brace-some d bs more f (omega (arith, each, counts_no b 125 g, counts_no b 123 e)))))

pub before_brace-none : (d : ℕ) (text : List ℕ) → Fronts d text → before_brace d text ≡ None
unfolding before_brace
before_brace-none d [] fronts = refl
before_brace-none d (b ∷ bs) fronts =
    let P : Option (List ℕ) → Type 0 = λ x. x ≡ None in
    cond_both (b == 123) _ _ P
    (λ opens.
    let f : Fronts (suc d) bs = fronts_before d (suc d) b bs (omega (arith, counts_yes b 123 opens, counts_other b 123 125 refl opens)) fronts in
    ap (after_byte b) (before_brace-none (suc d) bs f))
    (λ e. cond_both (b == 125) _ _ P
    (λ closes.
    let some : 1 ≤ d = omega (arith, fronts 1, counts_yes b 125 closes, counts_no b 123 e) in
    cond_both (d == 0) _ _ P
    (λ none. absurd (omega (arith, eqb-true d 0 none)))
    (λ _.
    let f : Fronts (d - 1) bs = fronts_before d (d - 1) b bs (omega (arith, counts_yes b 125 closes, counts_no b 123 e)) fronts in
    ap (after_byte b) (before_brace-none (d - 1) bs f)))
    (λ g.
    let f : Fronts d bs = fronts_before d d b bs (omega (arith, counts_no b 125 g, counts_no b 123 e)) fronts in
    ap (after_byte b) (before_brace-none d bs f)))

-- The first line, and what stands after it.
pub record FoundLine (text : List ℕ) : Type 0 where
  pub more : List ℕ
  pub is : text ≡ line_of text ++ more
  pub inside : count_of 10 (line_of text) ≡ 0
  pub ends : (more ≡ []) ⊎ (get_or more 0 0 ≡ 10)

pub found_line : (text : List ℕ) → FoundLine text
unfolding line_of
found_line [] = record { more = []; is = refl; inside = refl; ends = inl refl }
found_line (b ∷ bs) =
    let rest = found_line bs in
    ⊎_elim
    (λ e. record { more = b ∷ bs; is = ap (λ x. x ++ b ∷ bs) (sym (cond-true (b == 10) [] (b ∷ line_of bs) e)); inside = ap (count_of 10) (cond-true (b == 10) [] (b ∷ line_of bs) e); ends = inr (eqb-true b 10 e) })
    (λ e. record {
      more = rest.more;
      is = ap (λ x. b ∷ x) rest.is ∙ ap (λ x. x ++ rest.more) (sym (cond-false (b == 10) [] (b ∷ line_of bs) e));
      inside = ap (count_of 10) (cond-false (b == 10) [] (b ∷ line_of bs) e) ∙ zero_counts (b == 10) _ e rest.inside;
      ends = rest.ends;
    })
    (cases_Bool (b == 10))

line_of_end : (more : List ℕ) → (more ≡ []) ⊎ (get_or more 0 0 ≡ 10) → line_of more ≡ []
unfolding line_of
line_of_end [] ends = refl
line_of_end (b ∷ bs) ends = cond-true (b == 10) _ _ (⊎_elim (λ e. cc) (λ e. eq-eqb b 10 e) ends)

pub line_of-append : (text more : List ℕ) → count_of 10 text ≡ 0 → (more ≡ []) ⊎ (get_or more 0 0 ≡ 10) → line_of (text ++ more) ≡ text
unfolding line_of
line_of-append [] more h ends = line_of_end more ends
line_of-append (b ∷ bs) more h ends =
    let parts = zero_count (b == 10) (count_of 10 bs) h in
    cond-false (b == 10) _ _ parts.0 ∙ ap (λ x. b ∷ x) (line_of-append bs more parts.1 ends)

-- The plain bytes in front, and what stands after them.
pub record FoundPlain (mode : Mode) (text : List ℕ) : Type 0 where
  pub more : List ℕ
  pub is : text ≡ plain_of mode text ++ more
  pub plain : list_all (is_plain mode) (plain_of mode text) ≡ true
  pub ends : (more ≡ []) ⊎ (is_plain mode (get_or more 0 0) ≡ false)

pub found_plain : (mode : Mode) (text : List ℕ) → FoundPlain mode text
unfolding plain_of
found_plain mode [] = record { more = []; is = refl; plain = refl; ends = inl refl }
found_plain mode (b ∷ bs) =
    let rest = found_plain mode bs in
    ⊎_elim
    (λ e. record {
      more = rest.more;
      is = ap (λ x. b ∷ x) rest.is ∙ ap (λ x. x ++ rest.more) (sym (cond-true (is_plain mode b) (b ∷ plain_of mode bs) [] e));
      plain = ap (list_all (is_plain mode)) (cond-true (is_plain mode b) (b ∷ plain_of mode bs) [] e) ∙ and_from (is_plain mode b) _ e rest.plain;
      ends = rest.ends;
    })
    (λ e. record { more = b ∷ bs; is = ap (λ x. x ++ b ∷ bs) (sym (cond-false (is_plain mode b) (b ∷ plain_of mode bs) [] e)); plain = ap (list_all (is_plain mode)) (cond-false (is_plain mode b) (b ∷ plain_of mode bs) [] e); ends = inr e })
    (cases_Bool (is_plain mode b))

plain_of_end : (mode : Mode) (more : List ℕ) → (more ≡ []) ⊎ (is_plain mode (get_or more 0 0) ≡ false) → plain_of mode more ≡ []
unfolding plain_of
plain_of_end mode [] ends = refl
plain_of_end mode (b ∷ bs) ends = cond-false (is_plain mode b) _ _ (⊎_elim (λ e. cc) (λ e. e) ends)

pub plain_of-append : (mode : Mode) (text more : List ℕ) → list_all (is_plain mode) text ≡ true → (more ≡ []) ⊎ (is_plain mode (get_or more 0 0) ≡ false) → plain_of mode (text ++ more) ≡ text
unfolding plain_of
plain_of-append mode [] more h ends = plain_of_end mode more ends
plain_of-append mode (b ∷ bs) more h ends =
    let parts = and_parts (is_plain mode b) _ h in
    cond-true (is_plain mode b) _ _ parts.0 ∙ ap (λ x. b ∷ x) (plain_of-append mode bs more parts.1 ends)
