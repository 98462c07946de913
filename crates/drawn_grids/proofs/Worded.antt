-- The name of a node is one word of a line.
use Rattle.std.proofs.Common.{◌≡◌, ℕ, zero, suc, ◌+◌, ◌/◌, ◌%◌, ◌<◌, ◌&&◌, ◌||◌, Bool, true, false, cond, eqb, ltb, not, IsTrue, length, ℤ, pos, negsuc, List, [], ◌∷◌, ◌++◌, All, get_or, refl, sym, subst, arith}
use Rattle.std.specs.Prelude.{decimal}
use Rattle.std.specs.Fmt.{digits, digits_onto, digit_glyph, signed_decimal}
use Rattle.std.specs.List.{list_all}
use Rattle.std.proofs.lemmas.Bool.{false≢true, and_parts, and_from}
use Rattle.std.proofs.lemmas.Bool.Decides.{nat_tests}
use Rattle.std.proofs.lemmas.List.Elements.{All-map}
use Rattle.text_lex.specs.Bytes.{is_plain}
use Rattle.text_lex.specs.Piece.{IsBare}
use Rattle.text_lex.specs.declared.word.Mode.TheVariants.{Lines}
use Rattle.lef_tech.specs.declared.tech.Tech.{Tech}
use Rattle.grid_network.specs.declared.extracted.Extracted.{Extracted}
use Rattle.grid_network.specs.declared.key.Key.{Key}
use Rattle.grid_network.specs.Drawing.{Drawing}
use Rattle.grid_network.specs.Network.{IsNetworkOf}
use Rattle.grid_network.specs.Nodes.{layer_number, name_of}

-- each byte is one of a word
abbrev IsPlain : List ℕ → Type 0
IsPlain text = IsTrue (list_all (is_plain Lines) text)

unlike : (c n : ℕ) → n < c → eqb c n ≡ false
unlike c n h = grind (arith, nat_tests)

all_unlike : (blank tab back line : Bool) → blank ≡ false → tab ≡ false → back ≡ false → line ≡ false
    → (not (blank || tab || back || (line && false)) && not line && true) ≡ true
all_unlike false false false false p q r s = refl
all_unlike true tab back line p q r s = absurd (false≢true (sym p))
all_unlike false true back line p q r s = absurd (false≢true (sym q))
all_unlike false false true line p q r s = absurd (false≢true (sym r))
all_unlike false false false true p q r s = absurd (false≢true (sym s))

-- a byte above the blank
plain_byte : (c : ℕ) → 32 < c → is_plain Lines c ≡ true
plain_byte c high =
    all_unlike (eqb c 32) (eqb c 9) (eqb c 13) (eqb c 10) (unlike c 32 high) (unlike c 9 (omega arith)) (unlike c 13 (omega arith)) (unlike c 10 (omega arith))

plain_more : (c : ℕ) (text : List ℕ) → 32 < c → IsPlain text → IsPlain (c ∷ text)
plain_more c text high plain = and_from (is_plain Lines c) (list_all (is_plain Lines) text) (plain_byte c high) plain

plain_both : (xs ys : List ℕ) → IsPlain xs → IsPlain ys → IsPlain (xs ++ ys)
plain_both [] ys p q = q
plain_both (x ∷ xs) ys p q =
    let h = and_parts (is_plain Lines x) (list_all (is_plain Lines) xs) p in
    and_from (is_plain Lines x) (list_all (is_plain Lines) (xs ++ ys)) h.0 (plain_both xs ys h.1 q)

-- ## numbers

glyph_high : (n : ℕ) → 32 < digit_glyph false (n % 10)
glyph_high n = by (ltb (n % 10) 10)
  where
    by : (b : Bool) → 32 < cond b (48 + n % 10) (87 + n % 10)
    by true = omega arith
    by false = omega arith

onto_plain : (k n : ℕ) (front : List ℕ) → IsPlain front → IsPlain (digits_onto k 10 false n front)
onto_plain zero n front plain = plain
onto_plain (suc k) n front plain =
    by (eqb (n / 10) 0) (digit_glyph false (n % 10) ∷ front) (digits_onto k 10 false (n / 10) (digit_glyph false (n % 10) ∷ front))
    (plain_more (digit_glyph false (n % 10)) front (glyph_high n) plain)
    (onto_plain k (n / 10) (digit_glyph false (n % 10) ∷ front) (plain_more (digit_glyph false (n % 10)) front (glyph_high n) plain))
  where
    by : (b : Bool) (xs ys : List ℕ) → IsPlain xs → IsPlain ys → IsPlain (cond b xs ys)
    by true xs ys p q = p
    by false xs ys p q = q

decimal_plain : (n : ℕ) → IsPlain (decimal n)
unfolding digits
decimal_plain n = onto_plain 64 n [] refl

signed_plain : (z : ℤ) → IsPlain (signed_decimal z)
signed_plain (pos n) = decimal_plain n
signed_plain (negsuc n) = plain_more 45 (decimal (suc n)) (omega arith) (decimal_plain (suc n))

-- ## names

word_of : (text : List ℕ) → IsPlain text → IsBare Lines true (110 ∷ text) []
word_of text plain = record { some = omega arith; begins = refl; plain = plain_more 110 text (omega arith) plain; ends = refl }

name_is : (layers : ℕ) (key : Key) → IsBare Lines true (name_of layers key) []
name_is layers key =
    let number = decimal (layer_number layers key.net key.layer) in
    let x = signed_decimal key.x in
    let y = signed_decimal key.y in
    let bar : IsPlain (95 ∷ []) = refl in
    word_of ((((number ++ (95 ∷ [])) ++ x) ++ (95 ∷ [])) ++ y)
    (plain_both (((number ++ (95 ∷ [])) ++ x) ++ (95 ∷ [])) y
    (plain_both ((number ++ (95 ∷ [])) ++ x) (95 ∷ [])
    (plain_both (number ++ (95 ∷ [])) x (plain_both number (95 ∷ []) (decimal_plain (layer_number layers key.net key.layer)) bar) (signed_plain key.x)) bar)
    (signed_plain key.y))

pub names_are : (d : Drawing) (tech : Tech) (e : Extracted) → IsNetworkOf d tech e → All (λ (name : List ℕ). IsBare Lines true name []) e.names
names_are d tech e is =
    subst (All (λ (name : List ℕ). IsBare Lines true name [])) (sym is.names)
    (All-map (λ (name : List ℕ). IsBare Lines true name []) (name_of (length tech.routing)) e.keys (λ k k_key within. name_is (length tech.routing) (get_or e.keys k k_key)))
