-- One more line.
use Rattle.std.proofs.Common.{◌≡◌, ◌↔◌, inl, inr, ◌≤ℤ◌, IsTrue, ℕ, ◌<◌, ◌≤◌, ◌^◌, ◌==◌, Bool, true, false, ◌&&◌, List, [], ◌∷◌, ◌++◌, length, slice_get, Contains, ℤ, Result, Ok, Err, OnOk, Some, refl, sym, ◌∙◌, ap, subst, arith, to_z, of_z}
use Rattle.std.specs.Prelude.{unsigned_abs}
use Rattle.std.specs.Int.{w64, w128}
use Rattle.name_table.specs.Numbering.{TakesName}
use Rattle.bias_file.specs.declared.error.BiasKind.TheVariants.{Twice}
use Rattle.bias_file.specs.declared.sort.Sort.{Sort}
use Rattle.bias_file.specs.declared.sort.Sort.TheVariants.{Supply, DropLimit, Pad, Cell, Instance}
use Rattle.bias_file.specs.Sort.{sort_of, the, number_of, all_sorts, listed}
use Rattle.bias_file.specs.Rule.{has_value, has_range, has_place, name_on, is_line, is_name, is_number, is_end, is_any, name, number, end, value_line, current_line, pad_line, pattern}
use Rattle.bias_file.specs.Number.{amperes}
use Rattle.bias_file.specs.Record.{SaysAmps}
use Rattle.bias_file.specs.declared.section.Section.{Section}
use Rattle.bias_file.specs.declared.section.Section.TheVariants.{LineStart, Remark, Nothing}
use Rattle.bias_file.specs.declared.record.PadAt.{PadAt}
use Rattle.bias_file.specs.declared.record.Amps.{Amps}
use Rattle.bias_file.specs.Section.{section_of, section_after}
use Rattle.bias_file.specs.Fault.{names_of}
use Rattle.std.proofs.lemmas.Int.{to_z-of_z, fits_signed_from_abs}
use Rattle.bias_file.specs.Format.{format}
use Rattle.bias_file.specs.declared.held.NetVolts.{NetVolts}
use Rattle.bias_file.specs.declared.held.NameAmps.{NameAmps}
use Rattle.bias_file.specs.declared.value.Value.{Value}
use Rattle.bias_file.specs.declared.value.Value.TheVariants.{Line}
use Rattle.bias_file.specs.inside.Held.{HoldsLines, Takes, FindsVolts, FindsAmps}
use Rattle.bias_file.specs.inside.Value.{IsSmall, SaysThird, SaysHigh, SaysFourth, line_of, small_of, says}
use Rattle.named_entries.specs.Named.{NamedList}
use Rattle.std.specs.declared.alloc.AllocError.{AllocError}
use Rattle.named_entries.specs.Laws.{named-added, named-kept}
use Rattle.number_place.specs.declared.place.NumberPlace.{NumberPlace}
use Rattle.number_place.specs.Place.{IsNumberAt}
use Rattle.reading.specs.Grammar.{AreHeard, IsTaken}
use Rattle.reading.specs.Pattern.{Pattern, One, Then, Or, Matches}
use Rattle.reading.specs.Reading.{IsFine}
use Rattle.reading.specs.declared.word.Heard.{Heard}
use Rattle.reading.specs.declared.word.Form.TheVariants.{Bare}
use Rattle.reading.specs.Word.{Token, heard_token}

pub stands_by : (word this : Sort) (units : List (List Token)) (names : List (List ℕ)) (name : List ℕ) (there : Bool) → word ≡ this → has_value this ≡ true →
    names ≡ names_of this units → IsTrue there ↔ Contains names name → IsTrue there ↔ ((has_value word ≡ true) × Contains (names_of word units) name)
stands_by word this units names name there e value same tells = (
  (λ h. (ap has_value e ∙ value, subst (λ z. Contains z name) (same ∙ ap (λ z. names_of z units) (sym e)) (tells.0 h))),
  (λ h. tells.1 (subst (λ z. Contains z name) (ap (λ z. names_of z units) e ∙ sym same) h.1)),
)

-- ## units by the number of their words

abbrev pub no_word : Heard Value
no_word = record { word = record { text = record { ref_ptr = (0, 0); now = [] }; place = record { line = 0; word = 0 }; form = Bare }; value = Line Supply }

-- ## one more line

fresh : (word : Sort) (units : List (List Token)) (first name : Token) (words : List Token) → sort_of first ≡ word → has_value word ≡ true →
    IsTaken format units (first ∷ name ∷ words) → Contains (names_of word units) name.text → ⊥
fresh word units first name words e value taken there =
    taken.fine.1.0 (record { at = 1; kind = Twice }) (refl, (refl, ap has_value e ∙ value, subst (λ z. Contains (names_of z units) name.text) (sym e) there))

-- A line that says an entry is taken with it.
pub line_taken : {E : Type 0} (says : List Token → E → Type 0) (word : Sort) (old new : NamedList E) (first name : Token) (words : List Token) (entry : E) (r : Result (Unit {0}) AllocError) →
    sort_of first ≡ word → has_value word ≡ true → is_line word (first ∷ name ∷ words) ≡ true →
    ((units : List (List Token)) → IsTaken format units (first ∷ name ∷ words) → says (first ∷ name ∷ words) entry) →
    OnOk r (TakesName old.names new.names name.text) → OnOk r (new.entries ≡ old.entries ++ entry ∷ []) →
    OnOk r (Takes (HoldsLines says word old) (HoldsLines says word new) (first ∷ name ∷ words))
line_taken says word old new first name words entry (Err x) e value is s taken entries = tt
line_taken says word old new first name words entry (Ok x) e value is s taken entries = λ units t h.
    named-added says name_on (is_line word) units (first ∷ name ∷ words) old new entry is h (fresh word units first name words e value t) (s units t) taken entries

-- What follows from what is heard, where all went well.
pub on_heard : (A B : Type 0) (r : Result (Unit {0}) AllocError) → (A → OnOk r B) → OnOk r (A → B)
on_heard A B (Err x) h = tt
on_heard A B (Ok x) h = h

-- A unit that is no line with this first word leaves what is held.
pub line_kept : {E : Type 0} (says : List Token → E → Type 0) (word : Sort) (named : NamedList E) (unit : List Token) → is_line word unit ≡ false →
    Takes (HoldsLines says word named) (HoldsLines says word named) unit
line_kept says word named unit is = λ units t h. named-kept says name_on (is_line word) units unit named is h

and_false : (b : Bool) → (b && false) ≡ false
and_false true = refl
and_false false = refl

pub not_begun : (b c : Bool) → c ≡ false → (b && c) ≡ false
not_begun b c e = ap (λ z. b && z) e ∙ and_false b

pub has_both : (b c : Bool) → b ≡ true → c ≡ true → (b && c) ≡ true
has_both true c h k = k
has_both false c h k = absurd (let t : false ≡ true = h in cc)

pub range_value : (word : Sort) → has_range word ≡ true → has_value word ≡ true
range_value Cell h = refl
range_value Instance h = refl
range_value word h = absurd (let t : false ≡ true = h in cc)

range_no_place : (word : Sort) → has_range word ≡ true → has_place word ≡ false
range_no_place Cell h = refl
range_no_place Instance h = refl
range_no_place word h = absurd (let t : false ≡ true = h in cc)

-- A current's line has four words or five.
pub no_current : (word : Sort) → has_range word ≡ true → (xs : List Token) → (length xs ≡ 4 → ⊥) → (length xs ≡ 5 → ⊥) → is_line word xs ≡ false
no_current word range (a ∷ b ∷ c ∷ d ∷ []) h k = absurd (h refl)
no_current word range (a ∷ b ∷ c ∷ d ∷ e ∷ []) h k = absurd (k refl)
no_current word range (a ∷ b ∷ c ∷ d ∷ e ∷ f ∷ []) h k = ap (λ z. z && the word (sort_of a)) (range_no_place word range)
no_current word range xs h k = refl

-- A pad's line has six words.
pub not_pad : (xs : List Token) → (length xs ≡ 6 → ⊥) → is_line Pad xs ≡ false
not_pad (a ∷ b ∷ c ∷ d ∷ []) h = refl
not_pad (a ∷ b ∷ c ∷ d ∷ e ∷ []) h = refl
not_pad (a ∷ b ∷ c ∷ d ∷ e ∷ f ∷ []) h = absurd (h refl)
not_pad xs h = refl

number_same : (a b : Sort) → (number_of a == number_of b) ≡ true → a ≡ b
number_same a b h =
    let e : number_of a ≡ number_of b = grind (arith, h) in
    let t : slice_get all_sorts (number_of a) ≡ Some b = ap (λ z. slice_get all_sorts z) e ∙ listed b in
    let s : Some a ≡ Some b = sym (listed a) ∙ t in
    cc

pub begun_with : (word sort : Sort) → the word sort ≡ true → sort ≡ word
begun_with word sort h = number_same sort word h

-- ## numbers as the machine keeps them

pub kept_128 : (v : ℤ) → unsigned_abs v ≤ 10 ^ 37 → to_z w128 (of_z w128 v) ≡ v
kept_128 v h = to_z-of_z w128 v (fits_signed_from_abs w128 v (omega arith))

pub kept_64 : (v : ℤ) → unsigned_abs v ≤ 10 ^ 18 → to_z w64 (of_z w64 v) ≡ v
kept_64 v h = to_z-of_z w64 v (fits_signed_from_abs w64 v (omega arith))

pub number_kept : (place : NumberPlace) (text : List ℕ) (v : ℤ) → place.limit ≤ 10 ^ 37 → IsNumberAt place text (Ok v) → to_z w128 (of_z w128 v) ≡ v
number_kept place text v limit is =
    let within : unsigned_abs v ≤ place.limit = is.1.2.within in
    kept_128 v (omega (arith, limit, within))

-- ## entries

abbrev the_amps : Amps → Amps
the_amps a = a

abbrev the_pad : PadAt → PadAt
the_pad a = a

pub amps_is : (line : ℕ) (a b : List ℕ) (v w x y : ℤ) → a ≡ b → v ≡ w → x ≡ y → the_amps (record { line = line; name = a; low = v; high = x }) ≡ record { line = line; name = b; low = w; high = y }
amps_is line a b v w x y e f g =
    ap (λ z. the_amps (record { line = line; name = z; low = v; high = x })) e ∙ ap (λ z. the_amps (record { line = line; name = b; low = z; high = x })) f
    ∙ ap (λ z. the_amps (record { line = line; name = b; low = w; high = z })) g

pub pad_is : (line : ℕ) (a b m n : List ℕ) (v w x y : ℤ) → a ≡ b → m ≡ n → v ≡ w → x ≡ y → the_pad (record { line = line; net = a; layer = m; x = v; y = x }) ≡ record { line = line; net = b; layer = n; x = w; y = y }
pad_is line a b m n v w x y e f g h =
    ap (λ z. the_pad (record { line = line; net = z; layer = m; x = v; y = x })) e ∙ ap (λ z. the_pad (record { line = line; net = b; layer = z; x = v; y = x })) f
    ∙ ap (λ z. the_pad (record { line = line; net = b; layer = n; x = z; y = x })) g ∙ ap (λ z. the_pad (record { line = line; net = b; layer = n; x = w; y = z })) h

-- ## lines of volts

has_second : (b c : Bool) → (b && c) ≡ true → c ≡ true
has_second true c h = h
has_second false c h = absurd (let t : false ≡ true = h in cc)

-- A line of volts is taken with the entry that is made of it.
pub volts_taken : {E : Type 0} (says : List Token → E → Type 0) (make : ℕ → List ℕ → ℤ → E) (word : Sort) (place : NumberPlace) (old new : NamedList E) (unit : List Token) (found : NetVolts) (name : List ℕ) (r : Result (Unit {0}) AllocError) →
    place.limit ≤ 10 ^ 37 → has_value word ≡ true → FindsVolts word place unit (Some found) →
    ((first net value stop : Token) (v : ℤ) → IsNumberAt place value.text (Ok v) → says (first ∷ net ∷ value ∷ stop ∷ []) (make first.place.line net.text v)) →
    name ≡ found.net.now → OnOk r (TakesName old.names new.names found.net.now) →
    OnOk r (new.entries ≡ old.entries ++ make found.line name (to_z w128 (of_z w128 found.volts)) ∷ []) →
    OnOk r (Takes (HoldsLines says word old) (HoldsLines says word new) unit)
volts_taken says make word place old new (first ∷ net ∷ value ∷ stop ∷ []) found name r limit gives h said e taken entries =
    let kept = to_z w128 (of_z w128 found.volts) in
    let made = ap (λ z. make z name kept) h.1.0 ∙ ap (λ z. make first.place.line z kept) (e ∙ h.1.1)
    ∙ ap (λ z. make first.place.line net.text z) (number_kept place value.text found.volts limit h.1.2) in
    line_taken says word old new first net (value ∷ stop ∷ []) (make found.line name kept) r (begun_with word _ (has_second _ _ h.0)) gives h.0
    (λ units t. subst (λ z. says (first ∷ net ∷ value ∷ stop ∷ []) z) (sym made) (said first net value stop found.volts h.1.2))
    (subst (λ z. OnOk r (TakesName old.names new.names z)) h.1.1 taken) entries
volts_taken says make word place old new unit found name r limit gives h said e taken entries = absurd h.1

-- ## lines of currents

third_current : (word : Sort) (text : List ℕ) (value : Value) → has_range word ≡ true → SaysThird word text value → IsSmall amperes text value
third_current Cell text value h k = k
third_current Instance text value h k = k
third_current word text value h k = absurd (let t : false ≡ true = h in cc)

fourth_current : (word : Sort) (third fourth : Token) (value : Value) → has_range word ≡ true → SaysFourth word third fourth value → SaysHigh third fourth value
fourth_current Cell third fourth value h k = k
fourth_current Instance third fourth value h k = k
fourth_current word third fourth value h k = absurd (let t : false ≡ true = h in cc)

peel : (class : Sort → Bool) (p : Pattern Sort) (a : Token) (words : List Token) → Matches sort_of (Then (One class) p) (a ∷ words) → (class (sort_of a) ≡ true) × Matches sort_of p words
peel class p a words h =
    let whole : a ∷ words ≡ h.2.0 ∷ h.1 = h.4 ∙ ap (λ z. z ++ h.1) h.2.2 in
    let first : h.2.0 ≡ a = cc in
    let rest : h.1 ≡ words = cc in
    (subst (λ z. class (sort_of z) ≡ true) first h.2.1, subst (λ z. Matches sort_of p z) rest h.3)

not_one : (class : Sort → Bool) (a b : Token) (words : List Token) → Matches sort_of (One class) (a ∷ b ∷ words) → ⊥
not_one class a b words h = let e : a ∷ b ∷ words ≡ h.0 ∷ [] = h.2 in cc

not_none : (class : Sort → Bool) → Matches sort_of (One class) [] → ⊥
not_none class h = let e : [] ≡ h.0 ∷ [] = h.2 in cc

abbrev with_range : Pattern Sort
with_range = Or end (Then number end)

five_of_current : (word : Sort) (a b c d e : Token) → Matches sort_of (current_line word) (a ∷ b ∷ c ∷ d ∷ e ∷ []) → is_number (sort_of d) ≡ true
five_of_current word a b c d e h =
    let second = (peel (the word) (Then name (Then number with_range)) a (b ∷ c ∷ d ∷ e ∷ []) h).1 in
    let third = (peel is_name (Then number with_range) b (c ∷ d ∷ e ∷ []) second).1 in
    let rest : Matches sort_of with_range (d ∷ e ∷ []) = (peel is_number with_range c (d ∷ e ∷ []) third).1 in
    elim rest [ inl z ↦ absurd (not_one is_end d e [] z) | inr z ↦ (peel is_number end d (e ∷ []) z).0 ]

no_five_of_value : (word : Sort) (a b c d e : Token) → Matches sort_of (value_line word) (a ∷ b ∷ c ∷ d ∷ e ∷ []) → ⊥
no_five_of_value word a b c d e h =
    let second = (peel (the word) (Then name (Then number end)) a (b ∷ c ∷ d ∷ e ∷ []) h).1 in
    let third = (peel is_name (Then number end) b (c ∷ d ∷ e ∷ []) second).1 in
    not_one is_end d e [] (peel is_number end c (d ∷ e ∷ []) third).1

no_five_of_pad : (a b c d e : Token) → Matches sort_of pad_line (a ∷ b ∷ c ∷ d ∷ e ∷ []) → ⊥
no_five_of_pad a b c d e h =
    let second = (peel (the Pad) (Then name (Then name (Then number (Then number end)))) a (b ∷ c ∷ d ∷ e ∷ []) h).1 in
    let third = (peel is_name (Then name (Then number (Then number end))) b (c ∷ d ∷ e ∷ []) second).1 in
    let fourth = (peel is_name (Then number (Then number end)) c (d ∷ e ∷ []) third).1 in
    let fifth = (peel is_number (Then number end) d (e ∷ []) fourth).1 in
    not_none is_end (peel is_number end e [] fifth).1

-- Of a whole unit of five words the fourth stands in the place of a number.
fourth_number : (section : Section) (a b c d e : Token) → Matches sort_of (pattern section) (a ∷ b ∷ c ∷ d ∷ e ∷ []) → is_number (sort_of d) ≡ true
fourth_number LineStart a b c d e h = elim h [
  | inl x ↦ absurd (no_five_of_value Supply a b c d e x)
  | inr x ↦ elim x [
    | inl y ↦ absurd (no_five_of_value DropLimit a b c d e y)
    | inr y ↦ elim y [
      | inl z ↦ absurd (no_five_of_pad a b c d e z)
      | inr z ↦ elim z [
        | inl u ↦ five_of_current Cell a b c d e u
        | inr u ↦ elim u [
          | inl v ↦ five_of_current Instance a b c d e v
          | inr v ↦ absurd (not_one is_end a b (c ∷ d ∷ e ∷ []) v)
        ]
      ]
    ]
  ]
]
fourth_number Remark a b c d e h = absurd (not_one is_any a b (c ∷ d ∷ e ∷ []) h)
fourth_number Nothing a b c d e h = absurd h

-- What is found of a line with one current, and of one with two.
pub current_found : (word : Sort) (a b c d : Heard Value) (found : NameAmps) → has_range word ≡ true → the word (line_of a.value) ≡ true →
    found.line ≡ a.word.place.line → found.name.now ≡ b.word.text.now → (unsigned_abs (small_of c.value) ≤ 10 ^ 18 → found.low ≡ small_of c.value) → found.high ≡ found.low →
    AreHeard says [] (a ∷ b ∷ c ∷ d ∷ []) → FindsAmps word (heard_token a ∷ heard_token b ∷ heard_token c ∷ heard_token d ∷ []) (Some found)
current_found word a b c d found range is line named kept high heard =
    let begun : sort_of (heard_token a) ≡ word = sym heard.0 ∙ begun_with word _ is in
    let said = third_current word c.word.text.now c.value range (subst (λ z. SaysThird z c.word.text.now c.value) begun heard.1.1.0) in (
      has_both _ _ (range_value word range) (ap (the word) (sym heard.0) ∙ is),
      (line, named),
      λ units t. (subst (λ z. IsNumberAt amperes c.word.text.now (Ok z)) (sym (kept said.1.2.within)) said, high),
    )

pub range_found : (word : Sort) (a b c d e : Heard Value) (found : NameAmps) → has_range word ≡ true → the word (line_of a.value) ≡ true →
    found.line ≡ a.word.place.line → found.name.now ≡ b.word.text.now → (unsigned_abs (small_of c.value) ≤ 10 ^ 18 → found.low ≡ small_of c.value) →
    (unsigned_abs (small_of d.value) ≤ 10 ^ 18 → found.high ≡ small_of d.value) → AreHeard says [] (a ∷ b ∷ c ∷ d ∷ e ∷ []) →
    FindsAmps word (heard_token a ∷ heard_token b ∷ heard_token c ∷ heard_token d ∷ heard_token e ∷ []) (Some found)
range_found word a b c d e found range is line named low_kept high_kept heard =
    let begun : sort_of (heard_token a) ≡ word = sym heard.0 ∙ begun_with word _ is in
    let low = third_current word c.word.text.now c.value range (subst (λ z. SaysThird z c.word.text.now c.value) begun heard.1.1.0) in
    let least = subst (λ z. IsNumberAt amperes c.word.text.now (Ok z)) (sym (low_kept low.1.2.within)) low in
    let second = fourth_current word (heard_token c) (heard_token d) d.value range (subst (λ z. SaysFourth z (heard_token c) (heard_token d) d.value) begun heard.1.1.1.0) in (
      has_both _ _ range (ap (the word) (sym heard.0) ∙ is),
      (line, named),
      λ units t.
          let high = second (fourth_number (section_of units) (heard_token a) (heard_token b) (heard_token c) (heard_token d) (heard_token e) t.matches) in
          let same = high_kept high.0.1.2.within in
          (least, subst (λ z. IsNumberAt amperes d.word.text.now (Ok z)) (sym same) high.0, subst (λ z. found.low ≤ℤ z) (sym same) (high.1 found.low least)),
    )

-- A line of a current is taken with the entry that is made of it.
pub amps_taken : (word : Sort) (old new : NamedList Amps) (unit : List Token) (found : NameAmps) (name : List ℕ) (r : Result (Unit {0}) AllocError) →
    has_range word ≡ true → FindsAmps word unit (Some found) → name ≡ found.name.now → OnOk r (TakesName old.names new.names found.name.now) →
    OnOk r (new.entries ≡ old.entries ++ record { line = found.line; name = name; low = to_z w64 (of_z w64 found.low); high = to_z w64 (of_z w64 found.high) } ∷ []) →
    OnOk r (Takes (HoldsLines SaysAmps word old) (HoldsLines SaysAmps word new) unit)
amps_taken word old new (first ∷ named ∷ value ∷ stop ∷ []) found name r range h e taken entries =
    line_taken SaysAmps word old new first named (value ∷ stop ∷ []) _ r (begun_with word _ (has_second _ _ h.0)) (range_value word range) h.0
    (λ units t. let s = h.2 units t in
    let kept = kept_64 found.low s.0.1.2.within in
    let high_kept : to_z w64 (of_z w64 found.high) ≡ found.low = subst (λ z. to_z w64 (of_z w64 z) ≡ found.low) (sym s.1) kept in (
      found.low,
      s.0,
      ap (λ z. the_amps (record { line = z; name = name; low = to_z w64 (of_z w64 found.low); high = to_z w64 (of_z w64 found.high) })) h.1.0
          ∙ amps_is _ _ _ _ _ _ _ (e ∙ h.1.1) kept high_kept,
    ))
    (subst (λ z. OnOk r (TakesName old.names new.names z)) h.1.1 taken) entries
amps_taken word old new (first ∷ named ∷ low ∷ high ∷ stop ∷ []) found name r range h e taken entries =
    line_taken SaysAmps word old new first named (low ∷ high ∷ stop ∷ []) _ r (begun_with word _ (has_second _ _ h.0)) (range_value word range) h.0
    (λ units t. let s = h.2 units t in (
      found.low,
      found.high,
      s.0,
      s.1,
      s.2,
      ap (λ z. the_amps (record { line = z; name = name; low = to_z w64 (of_z w64 found.low); high = to_z w64 (of_z w64 found.high) })) h.1.0
          ∙ amps_is _ _ _ _ _ _ _ (e ∙ h.1.1) (kept_64 found.low s.0.1.2.within) (kept_64 found.high s.1.1.2.within),
    ))
    (subst (λ z. OnOk r (TakesName old.names new.names z)) h.1.1 taken) entries
amps_taken word old new unit found name (Err x) range h e taken entries = tt
amps_taken word old new unit found name (Ok x) range h e taken entries = λ units t k. absurd (h.2 units t)

-- ## sections

pub section_more : (units : List (List Token)) (unit : List Token) → section_of (units ++ unit ∷ []) ≡ section_after unit
section_more [] unit = refl
section_more (u ∷ []) unit = refl
section_more (u ∷ v ∷ units) unit = section_more (v ∷ units) unit

-- ## units that show no fault

pub short_fine : (units : List (List Token)) (part : List Token) → length part < 2 → IsFine format units part
short_fine units [] h = λ a k. k
short_fine units (x ∷ []) h = λ a k. k
short_fine units (x ∷ y ∷ part) h = absurd (omega arith)

pub long_fine : (units : List (List Token)) (part : List Token) → 6 ≤ length part → IsFine format units part
long_fine units (a ∷ b ∷ c ∷ d ∷ e ∷ f ∷ part) h = λ x k. k
long_fine units [] h = absurd (omega arith)
long_fine units (a ∷ []) h = absurd (omega arith)
long_fine units (a ∷ b ∷ []) h = absurd (omega arith)
long_fine units (a ∷ b ∷ c ∷ []) h = absurd (omega arith)
long_fine units (a ∷ b ∷ c ∷ d ∷ []) h = absurd (omega arith)
long_fine units (a ∷ b ∷ c ∷ d ∷ e ∷ []) h = absurd (omega arith)

pub long_said : (part : List Token) (value : Value) → 6 ≤ length part → says part value
long_said (a ∷ b ∷ c ∷ d ∷ e ∷ f ∷ part) value h = tt
long_said [] value h = absurd (omega arith)
long_said (a ∷ []) value h = absurd (omega arith)
long_said (a ∷ b ∷ []) value h = absurd (omega arith)
long_said (a ∷ b ∷ c ∷ []) value h = absurd (omega arith)
long_said (a ∷ b ∷ c ∷ d ∷ []) value h = absurd (omega arith)
long_said (a ∷ b ∷ c ∷ d ∷ e ∷ []) value h = absurd (omega arith)
