-- Words that set each option once: no parse of them fails, and what it gives are their values; and back.
use Rattle.std.proofs.Common.{◌≡◌, ◌⊎◌, inl, inr, ℕ, zero, suc, Bool, true, false, not, ◌&&◌, ◌||◌, ◌<◌, ◌≤◌, ◌+◌, List, [], ◌∷◌, ◌++◌, map, length, get_or, take, All, Contains, Option, Some, None, is_some, Result, Ok, Err, refl, sym, ◌∙◌, ap, ap₂, subst, arith}
use Rattle.std.specs.List.{list_all}
use Rattle.std.specs.Prelude.{⊤, IfOk}
use Rattle.std.specs.Str.{bytes_eq}
use Rattle.std.proofs.lemmas.Slice.Eq.{bytes_eq-Decides}
use Rattle.std.proofs.lemmas.List.{append_assoc, get_or-map, length-map, map-append, take_more}
use Rattle.std.proofs.Common.{length-append}
use Rattle.std.proofs.lemmas.List.Elements.{All-nil, All-cons, All-head, All-tail, Contains-append_left, Contains-append_right, Contains-append_cases, Contains-push, Contains-push_cases}
use Rattle.clap.specs.Walk.{Row, Text, first_of, has_row}
use Rattle.clap.specs.Takes.{is_given}
use Rattle.clap.specs.Simple.{matches_of}
use Rattle.clap.specs.Faults.{fault_of}
use Rattle.command_words.specs.Setting.{IsValue, AreSettings, SetsEach, value_of, values_of, with_value}
use Rattle.command_words.specs.inside.Parsed.{app, are_names, dashed, dashed_all, distinct, is_name, known, names, values_by}
use Rattle.command_words.specs.declared.command.WordsError.{WordsError}
use Rattle.command_words.specs.declared.table.OptionText.{OptionText}
use Rattle.command_words.proofs.Bridge.{back, dash, given_is, value_is}
use Rattle.command_words.proofs.Counted.{at_least, covers, covers_by, differs, repeats_are_more}
use Rattle.command_words.proofs.Spelling.{text_plain}
use Rattle.command_words.proofs.Taken.{not_dashes, not_dashes_alone, value_plain, AreRaw, AreSet, IsName, all_given, dashes, fresh, has_no_dashes, matches_taken, read_back, row, row_of_setting, taken}
use Rattle.command_words.proofs.Truth.{is_not, joined, not_is, two}

-- ## names

name_is : (n : Text) → is_name n ≡ true → IsName n
name_is [] h = cc
name_is (x ∷ xs) h = ((λ e. let bad : x ∷ xs ≡ [] = e in cc), text_plain (x ∷ xs) h)

name_of : (ns : List Text) (n : Text) → list_all is_name ns ≡ true → known ns n ≡ true → IsName n
name_of [] n h k = cc
name_of (x ∷ xs) n h k = go (bytes_eq x n) refl (λ j. name_of xs n (two _ _ h).1 j)
  where
    go : (t : Bool) → bytes_eq x n ≡ t → (known xs n ≡ true → IsName n) → IsName n
    go true e more = subst IsName ((bytes_eq-Decides x n).0 e) (name_is x (two (is_name x) (list_all is_name xs) h).0)
    go false e more = more (rw e at k)

-- A list with an element in front has it and the others.
in_front : (x : Text) (xs : List Text) → Contains (x ∷ xs) x
in_front x xs = Contains-append_left (x ∷ []) xs x (Contains-push [] x)

in_rest : (x y : Text) (xs : List Text) → Contains xs y → Contains (x ∷ xs) y
in_rest x y xs h = Contains-append_right (x ∷ []) xs y h

in_cases : (x y : Text) (xs : List Text) → Contains (x ∷ xs) y → (x ≡ y) ⊎ Contains xs y
in_cases x y xs h = elim (Contains-append_cases (x ∷ []) xs y h) [
  | inl first ↦ elim (Contains-push_cases [] x y first) [
    | inl none ↦ absurd (let k : none.0 < 0 = none.1 in omega arith)
    | inr same ↦ inl same
  ]
  | inr rest ↦ inr rest
]

dashed_known : (ns : List Text) (n : Text) → known ns n ≡ true → Contains (dashed_all ns) (dashed n)
dashed_known [] n h = cc
dashed_known (x ∷ xs) n h = go (bytes_eq x n) refl (λ k. dashed_known xs n k)
  where
    go : (t : Bool) → bytes_eq x n ≡ t → (known xs n ≡ true → Contains (dashed_all xs) (dashed n)) → Contains (dashed_all (x ∷ xs)) (dashed n)
    go true e more = subst (λ z. Contains (dashed_all (x ∷ xs)) (dashed z)) ((bytes_eq-Decides x n).0 e) (in_front (dashed x) (dashed_all xs))
    go false e more = in_rest (dashed x) (dashed n) (dashed_all xs) (more (rw e at h))

abbrev NameOf : List Text → Text → Type 0
NameOf ns o = (n : Text) × (o ≡ dashed n) × (known ns n ≡ true)

here : (x : Text) (xs : List Text) → known (x ∷ xs) x ≡ true
here x xs = let e : bytes_eq x x ≡ true = (bytes_eq-Decides x x).1 refl in rw e refl

later : (x m : Text) (xs : List Text) → known xs m ≡ true → known (x ∷ xs) m ≡ true
later x m xs h = go (bytes_eq x m) refl
  where
    go : (t : Bool) → bytes_eq x m ≡ t → known (x ∷ xs) m ≡ true
    go true e = rw e refl
    go false e = rw e h

known_dashed : (ns : List Text) (o : Text) → Contains (dashed_all ns) o → NameOf ns o
known_dashed [] o h = absurd (let k : h.0 < 0 = h.1 in omega arith)
known_dashed (x ∷ xs) o h = elim (in_cases (dashed x) o (dashed_all xs) h) [
  | inl same ↦ (x, sym same, here x xs)
  | inr rest ↦ let r = known_dashed xs o rest in (r.0, r.1, later x r.0 xs r.2)
]

-- ## the names that settings set

abbrev pub keys : List (Text × Text) → List Text
keys [] = []
keys (s ∷ ss) = s.0 ∷ keys ss

keys_append : (ls rs : List (Text × Text)) → keys (ls ++ rs) ≡ keys ls ++ keys rs
keys_append [] rs = refl
keys_append (s ∷ ls) rs = ap (λ z. s.0 ∷ z) (keys_append ls rs)

length_keys : (ss : List (Text × Text)) → length (keys ss) ≡ length ss
length_keys [] = refl
length_keys (s ∷ ss) = ap suc (length_keys ss)

row_keys : (ss : List (Text × Text)) (n : Text) → has_row n (map row_of_setting ss) ≡ known (keys ss) n
row_keys [] n = refl
row_keys (s ∷ ss) n = ap (λ z. bytes_eq s.0 n || z) (row_keys ss n)

given_keys : (ss : List (Text × Text)) (n : Text) → is_given n (map row_of_setting ss) ≡ known (keys ss) n
given_keys [] n = refl
given_keys (s ∷ ss) n = go (bytes_eq s.0 n) refl (given_keys ss n)
  where
    go : (t : Bool) → bytes_eq s.0 n ≡ t → is_given n (map row_of_setting ss) ≡ known (keys ss) n → is_given n (map row_of_setting (s ∷ ss)) ≡ known (keys (s ∷ ss)) n
    go true e more = rw e refl
    go false e more = rw e more

all_covered : (ns : List Text) (ss : List (Text × Text)) → all_given ns (map row_of_setting ss) ≡ covers ns (keys ss)
all_covered [] ss = refl
all_covered (n ∷ ns) ss = ap₂ (λ a b. a && b) (given_keys ss n) (all_covered ns ss)

-- ## no option twice

known_append : (ls rs : List Text) (n : Text) → known (ls ++ rs) n ≡ (known ls n || known rs n)
known_append [] rs n = refl
known_append (a ∷ ls) rs n = go (bytes_eq a n) refl (known_append ls rs n)
  where
    go : (t : Bool) → bytes_eq a n ≡ t → known (ls ++ rs) n ≡ (known ls n || known rs n) → known ((a ∷ ls) ++ rs) n ≡ (known (a ∷ ls) n || known rs n)
    go true e more = rw e refl
    go false e more = rw e more

moved : (ls rs : List Text) (k n : Text) → known (ls ++ k ∷ rs) n ≡ true → known (k ∷ (ls ++ rs)) n ≡ true
moved ls rs k n h = go (known ls n) (bytes_eq k n) refl refl (rw (known_append ls (k ∷ rs) n) at h) (known_append ls rs n)
  where
    go : (t u : Bool) → known ls n ≡ t → bytes_eq k n ≡ u → (known ls n || (bytes_eq k n || known rs n)) ≡ true → known (ls ++ rs) n ≡ (known ls n || known rs n) → known (k ∷ (ls ++ rs)) n ≡ true
    go t true e f g is = rw f refl
    go true false e f g is = rw (f, is, e) refl
    go false false e f g is = rw (f, is, e) (rw (e, f) at g)

-- As many settings as options, all of them set: none is set twice.
fresh_by : (ns : List Text) (before after : List (Text × Text)) → distinct ns ≡ true → covers ns (keys before ++ keys after) ≡ true → length before + length after ≤ length ns → fresh after (map row_of_setting before) ≡ true
fresh_by ns before [] d h few = refl
fresh_by ns before (s ∷ ss) d h few =
    joined (not (has_row s.0 (map row_of_setting before))) (fresh ss (map row_of_setting before ++ row_of_setting s ∷ []))
    (not_is (has_row s.0 (map row_of_setting before)) (row_keys before s.0 ∙ alone (known (keys before) s.0) refl))
    (subst (λ z. fresh ss z ≡ true) (map-append row_of_setting before (s ∷ []))
    (fresh_by ns (before ++ s ∷ []) ss d (subst (λ z. covers ns z ≡ true) same h) (let count = length-append before (s ∷ []) in omega arith)))
  where
    same : keys before ++ s.0 ∷ keys ss ≡ keys (before ++ s ∷ []) ++ keys ss
    same = sym (ap (λ z. z ++ keys ss) (keys_append before (s ∷ [])) ∙ append_assoc (keys before) (s.0 ∷ []) (keys ss))

    alone : (t : Bool) → known (keys before) s.0 ≡ t → t ≡ false
    alone true e =
        let again : known (keys before ++ keys ss) s.0 ≡ true = rw (known_append (keys before) (keys ss) s.0, e) refl in
        let all = covers_by ns (keys before ++ s.0 ∷ keys ss) (s.0 ∷ (keys before ++ keys ss)) (λ m k. moved (keys before) (keys ss) s.0 m k) h in
        let least = repeats_are_more ns (keys before ++ keys ss) s.0 d all again in
        let count = length-append (keys before) (keys ss) in
        let a = length_keys before in
        let b = length_keys ss in
        absurd (omega arith)
    alone false e = refl

in_rows : (n m v : Text) (rs : List Row) → has_row n (rs ++ row m v ∷ []) ≡ (has_row n rs || bytes_eq m n)
in_rows n m v [] = go (bytes_eq m n)
  where
    go : (t : Bool) → (t || false) ≡ t
    go true = refl
    go false = refl
in_rows n m v (r ∷ rs) = go (bytes_eq r.id n) refl (in_rows n m v rs)
  where
    go : (t : Bool) → bytes_eq r.id n ≡ t → has_row n (rs ++ row m v ∷ []) ≡ (has_row n rs || bytes_eq m n) → has_row n ((r ∷ rs) ++ row m v ∷ []) ≡ (has_row n (r ∷ rs) || bytes_eq m n)
    go true e more = rw e refl
    go false e more = rw e more

away : (ss : List (Text × Text)) (rs : List Row) (n : Text) → fresh ss rs ≡ true → has_row n rs ≡ true → known (keys ss) n ≡ false
away [] rs n h k = refl
away (s ∷ ss) rs n h k =
    let parts = two (not (has_row s.0 rs)) (fresh ss (rs ++ row s.0 s.1 ∷ [])) h in
    let still : has_row n (rs ++ row s.0 s.1 ∷ []) ≡ true = in_rows n s.0 s.1 rs ∙ ap (λ z. z || bytes_eq s.0 n) k in
    go (bytes_eq s.0 n) refl (is_not _ parts.0) (away ss (rs ++ row s.0 s.1 ∷ []) n parts.1 still)
  where
    go : (t : Bool) → bytes_eq s.0 n ≡ t → has_row s.0 rs ≡ false → known (keys ss) n ≡ false → known (keys (s ∷ ss)) n ≡ false
    go true e none more = let bad : true ≡ false = sym k ∙ ap (λ z. has_row z rs) (sym ((bytes_eq-Decides s.0 n).0 e)) ∙ none in cc
    go false e none more = rw e more

fresh_distinct : (ss : List (Text × Text)) (rs : List Row) → fresh ss rs ≡ true → distinct (keys ss) ≡ true
fresh_distinct [] rs h = refl
fresh_distinct (s ∷ ss) rs h =
    let parts = two (not (has_row s.0 rs)) (fresh ss (rs ++ row s.0 s.1 ∷ [])) h in
    let same : bytes_eq s.0 s.0 ≡ true = (bytes_eq-Decides s.0 s.0).1 refl in
    let there : has_row s.0 (rs ++ row s.0 s.1 ∷ []) ≡ true = in_rows s.0 s.0 s.1 rs ∙ at_right (has_row s.0 rs) (bytes_eq s.0 s.0) same in
    joined (not (known (keys ss) s.0)) (distinct (keys ss)) (not_is _ (away ss (rs ++ row s.0 s.1 ∷ []) s.0 parts.1 there)) (fresh_distinct ss (rs ++ row s.0 s.1 ∷ []) parts.1)
  where
    at_right : (a b : Bool) → b ≡ true → (a || b) ≡ true
    at_right true b h = refl
    at_right false b h = h

-- ## values

abbrev Split : Option Text → Option (List Text) → List Text → Type 0
Split a b values = (v : Text) × (vs : List Text) × (a ≡ Some v) × (b ≡ Some vs) × (values ≡ v ∷ vs)

pub split_some : (a : Option Text) (b : Option (List Text)) (values : List Text) → with_value a b ≡ Some values → Split a b values
split_some None b values h = absurd (let t : ◌≡◌ {A = Option (List Text)} None (Some values) = h in cc)
split_some (Some v) None values h = absurd (let t : ◌≡◌ {A = Option (List Text)} None (Some values) = h in cc)
split_some (Some v) (Some vs) values h = (v, vs, refl, refl, (let t : Some (v ∷ vs) ≡ Some values = h in cc))

pub values_same : (f g : Text → Option Text) (ns : List Text) → ((n : Text) → f n ≡ g n) → values_by f ns ≡ values_by g ns
values_same f g [] h = refl
values_same f g (n ∷ ns) h = ap₂ (λ a b. with_value a b) (h n) (values_same f g ns h)

values_are : (ss : List (Text × Text)) (ns : List Text) → values_of (map dash ss) (dashed_all ns) ≡ values_by (λ n. first_of n (map row_of_setting ss)) ns
values_are ss [] = refl
values_are ss (n ∷ ns) = ap₂ (λ a b. with_value a b) (sym (value_is ss n)) (values_are ss ns)

all_set : (ss : List (Text × Text)) (ns values : List Text) → values_of (map dash ss) (dashed_all ns) ≡ Some values → covers ns (keys ss) ≡ true
all_set ss [] values h = refl
all_set ss (n ∷ ns) values h =
    let s = split_some (value_of (map dash ss) (dashed n)) (values_of (map dash ss) (dashed_all ns)) values h in
    joined (known (keys ss) n) (covers ns (keys ss)) (sym (given_keys ss n) ∙ given_is ss n ∙ ap (λ z. is_some z) s.2) (all_set ss ns s.1 s.3)

value_good : (options : List Text) (ss : List (Text × Text)) (words : List Text) (o v : Text) → AreSettings options ss words → value_of ss o ≡ Some v → IsValue v
value_good options [] words o v h e = absurd (let t : ◌≡◌ {A = Option Text} None (Some v) = e in cc)
value_good options (s ∷ ss) words o v h e = go (bytes_eq s.0 o) refl (λ k. value_good options ss h.0 o v h.3 k)
  where
    go : (t : Bool) → bytes_eq s.0 o ≡ t → (value_of ss o ≡ Some v → IsValue v) → IsValue v
    go true f more = let is : ◌≡◌ {A = Option Text} (Some s.1) (Some v) = rw f at e in let same : s.1 ≡ v = cc in subst IsValue same h.2.is_value
    go false f more = more (rw f at e)

values_good : (options : List Text) (ss : List (Text × Text)) (words os values : List Text) → AreSettings options ss words → values_of ss os ≡ Some values → All IsValue values
values_good options ss words [] values h e = let t : ◌≡◌ {A = Option (List Text)} (Some []) (Some values) = e in let none : [] ≡ values = cc in subst (λ z. All IsValue z) none (All-nil IsValue)
values_good options ss words (o ∷ os) values h e =
    let s = split_some (value_of ss o) (values_of ss os) values e in
    subst (λ z. All IsValue z) (sym s.4) (All-cons IsValue s.0 s.1 (value_good options ss words o s.0 h s.2) (values_good options ss words os s.1 h s.3))

-- the value of a known name is one of the values
value_among : (f : Text → Option Text) (ns values : List Text) (n v : Text) → values_by f ns ≡ Some values → All IsValue values → known ns n ≡ true → f n ≡ Some v → IsValue v
value_among f [] values n v e all k is = cc
value_among f (x ∷ xs) values n v e all k is =
    let s = split_some (f x) (values_by f xs) values e in
    go (bytes_eq x n) refl s (λ j. value_among f xs s.1 n v s.3 (All-tail IsValue s.0 s.1 (subst (λ z. All IsValue z) s.4 all)) j is)
  where
    go : (t : Bool) → bytes_eq x n ≡ t → Split (f x) (values_by f xs) values → (known xs n ≡ true → IsValue v) → IsValue v
    go true h s more =
        let one : Some s.0 ≡ Some v = sym s.2 ∙ ap f ((bytes_eq-Decides x n).0 h) ∙ is in
        let same : s.0 ≡ v = cc in
        subst IsValue same (All-head IsValue s.0 s.1 (subst (λ z. All IsValue z) s.4 all))
    go false h s more = more (rw h at k)

abbrev Good : List (Text × Text) → Type 0
Good [] = ⊤
Good (s ∷ ss) = IsValue s.1 × Good ss

-- where no option is set twice, each value is that of its option
all_good : (ss : List (Text × Text)) → distinct (keys ss) ≡ true → ((n v : Text) → known (keys ss) n ≡ true → first_of n (map row_of_setting ss) ≡ Some v → IsValue v) → Good ss
all_good [] d h = tt
all_good (s ∷ ss) d h =
    let parts = two (not (known (keys ss) s.0)) (distinct (keys ss)) d in
    let same : bytes_eq s.0 s.0 ≡ true = (bytes_eq-Decides s.0 s.0).1 refl in (
      h s.0 s.1 (here s.0 (keys ss)) (rw same refl),
      all_good ss parts.1 (λ n v k e. h n v (later s.0 n (keys ss) k) (passed n v (differs (keys ss) s.0 n (is_not _ parts.0) k) e)),
    )
  where
    passed : (n v : Text) → bytes_eq s.0 n ≡ false → first_of n (map row_of_setting ss) ≡ Some v → first_of n (map row_of_setting (s ∷ ss)) ≡ Some v
    passed n v f e = rw f e

keys_known : (ns : List Text) (ss : List (Text × Text)) (words : List Text) → AreRaw ns ss words → covers (keys ss) ns ≡ true
keys_known ns [] words h = refl
keys_known ns (s ∷ ss) words h = joined (known ns s.0) (covers (keys ss) ns) h.1 (keys_known ns ss h.0 h.3)

are_settings : (ns : List Text) (ss : List (Text × Text)) (words : List Text) → AreRaw ns ss words → Good ss → AreSettings (dashed_all ns) (map dash ss) words
are_settings ns [] words h good = h
are_settings ns (s ∷ ss) words h good = (h.0, dashed_known ns s.0 h.1, record { is_value = good.0; spelled = h.2 }, are_settings ns ss h.0 h.3 good.1)

-- ## `--`

set_no_dashes : (ns : List Text) (ss : List (Text × Text)) (words : List Text) → list_all is_name ns ≡ true → AreSet ns ss words → has_no_dashes words ≡ true
set_no_dashes ns [] words named h = rw h refl
set_no_dashes ns (s ∷ ss) words named h =
    let more = set_no_dashes ns ss h.0 named h.4 in
    let name = name_of ns s.0 named h.1 in
    elim h.3 [
      | inl e ↦ rw (e, not_dashes_alone s.0 name, (value_plain s.1 h.2).0) more
      | inr e ↦ rw (e, not_dashes s.0 (61 ∷ s.1) name) more
    ]

dashes_among : (words : List Text) → has_no_dashes words ≡ true → Contains words dashes → ⊥
dashes_among [] h k = absurd (let j : k.0 < 0 = k.1 in omega arith)
dashes_among (w ∷ words) h k =
    let parts = two (not (bytes_eq w dashes)) (has_no_dashes words) h in
    elim (in_cases w dashes words k) [
      | inl same ↦ absurd (let bad : true ≡ false = sym ((bytes_eq-Decides w dashes).1 same) ∙ is_not _ parts.0 in cc)
      | inr rest ↦ dashes_among words parts.1 rest
    ]

pub no_dashes_among : (words : List Text) → (Contains words dashes → ⊥) → has_no_dashes words ≡ true
no_dashes_among [] h = refl
no_dashes_among (w ∷ words) h = joined (not (bytes_eq w dashes)) (has_no_dashes words) (not_is _ (differ (bytes_eq w dashes) refl)) (no_dashes_among words (λ k. h (in_rest w dashes words k)))
  where
    differ : (t : Bool) → bytes_eq w dashes ≡ t → t ≡ false
    differ true e = absurd (h (subst (λ z. Contains (w ∷ words) z) ((bytes_eq-Decides w dashes).0 e) (in_front w words)))
    differ false e = refl

-- ## the whole

-- What the parse makes of words that set each option once.
pub record Parses (name : Text) (ns words values : List Text) : Type 0 where
  pub no_dashes : Contains words dashes → ⊥
  pub no_fault : fault_of (app name ns) words ≡ []
  pub values_are : values_by (λ n. first_of n (matches_of (app name ns) words)) ns ≡ Some values
  pub are_values : All IsValue values

pub parses : (name : Text) (ns words values : List Text) → are_names ns ≡ true → SetsEach (dashed_all ns) words values → Parses name ns words values
parses name ns words values named h =
    let parts = two (list_all is_name ns) (distinct ns) named in
    let b = back ns h.settings words (known_dashed ns) h.are in
    let ss = b.0 in
    let is : values_of (map dash ss) (dashed_all ns) ≡ Some values = ap (λ z. values_of z (dashed_all ns)) (sym b.1) ∙ h.values_are in
    let all = all_set ss ns values is in
    let count : length ss ≡ length ns = sym (length-map ss dash) ∙ ap length (sym b.1) ∙ h.as_many ∙ length-map ns dashed in
    let new = fresh_by ns [] ss parts.1 all (omega arith) in
    let good = λ (n : Text) (k : known ns n ≡ true). name_of ns n parts.0 k in
    let given = all_covered ns ss ∙ all in
    record {
      no_dashes = dashes_among words (set_no_dashes ns ss words parts.0 b.2);
      no_fault = taken name ns good ss words b.2 new given;
      values_are = values_same _ _ ns (λ n. ap (λ z. first_of n z) (matches_taken name ns good ss words b.2 new)) ∙ sym (values_are ss ns) ∙ is;
      are_values = values_good (dashed_all ns) h.settings words (dashed_all ns) values h.are h.values_are;
    }

pub sets_each : (name : Text) (ns words values : List Text) → are_names ns ≡ true → (Contains words dashes → ⊥) → fault_of (app name ns) words ≡ []
    → values_by (λ n. first_of n (matches_of (app name ns) words)) ns ≡ Some values → All IsValue values → SetsEach (dashed_all ns) words values
sets_each name ns words values named plain none is all =
    let parts = two (list_all is_name ns) (distinct ns) named in
    let r = read_back name ns words (no_dashes_among words plain) none in
    let ss = r.settings in
    let apart = fresh_distinct ss [] r.fresh in
    let by_rows : values_by (λ n. first_of n (map row_of_setting ss)) ns ≡ Some values = values_same _ _ ns (λ n. ap (λ z. first_of n z) (sym r.rows)) ∙ is in
    let within = keys_known ns ss words r.are in
    let good = all_good ss apart (λ n v k e. value_among (λ m. first_of m (map row_of_setting ss)) ns values n v by_rows all (known_by (keys ss) ns n within k) e) in
    let least = at_least ns (keys ss) parts.1 (sym (all_covered ns ss) ∙ r.given) in
    let most = at_least (keys ss) ns apart within in
    let count = length_keys ss in
    let many = length-map ss dash in
    let options = length-map ns dashed in
    record {
      settings = map dash ss;
      are = are_settings ns ss words r.are good;
      as_many = omega arith;
      values_are = values_are ss ns ∙ by_rows;
    }
  where
    known_by : (ks ns : List Text) (n : Text) → covers ks ns ≡ true → known ks n ≡ true → known ns n ≡ true
    known_by [] ns n c k = cc
    known_by (x ∷ xs) ns n c k = go (bytes_eq x n) refl (λ j. known_by xs ns n (two _ _ c).1 j)
      where
        go : (t : Bool) → bytes_eq x n ≡ t → (known xs n ≡ true → known ns n ≡ true) → known ns n ≡ true
        go true e more = subst (λ z. known ns z ≡ true) ((bytes_eq-Decides x n).0 e) (two (known ns x) (covers xs ns) c).0
        go false e more = more (rw e at k)

-- ## values one after the other

pub values_more : (f : Text → Option Text) (ns values : List Text) (n v : Text) → values_by f ns ≡ Some values → f n ≡ Some v → values_by f (ns ++ n ∷ []) ≡ Some (values ++ v ∷ [])
values_more f [] values n v h e =
    let t : ◌≡◌ {A = Option (List Text)} (Some []) (Some values) = h in
    let none : [] ≡ values = cc in
    ap (λ z. with_value z (Some [])) e ∙ ap (λ z. Some (z ++ v ∷ [])) none
values_more f (x ∷ xs) values n v h e =
    let s = split_some (f x) (values_by f xs) values h in
    ap₂ (λ a b. with_value a b) s.2 (values_more f xs s.1 n v s.3 e) ∙ ap (λ z. Some (z ++ v ∷ [])) (sym s.4)

pub value_bad : (f : Text → Option Text) (ns values : List Text) (i : ℕ) → i < length ns → ((v : Text) → f (get_or ns i []) ≡ Some v → IsValue v → ⊥) → values_by f ns ≡ Some values → All IsValue values → ⊥
value_bad f [] values i h never e all = absurd (omega arith)
value_bad f (x ∷ xs) values zero h never e all =
    let s = split_some (f x) (values_by f xs) values e in
    never s.0 s.2 (All-head IsValue s.0 s.1 (subst (λ z. All IsValue z) s.4 all))
value_bad f (x ∷ xs) values (suc i) h never e all =
    let s = split_some (f x) (values_by f xs) values e in
    value_bad f xs s.1 i (omega arith) never s.3 (All-tail IsValue s.0 s.1 (subst (λ z. All IsValue z) s.4 all))

-- ## the names of the table

pub name_at : (options : List OptionText) (i : ℕ) (d : OptionText) → i < length options → get_or (names options) i [] ≡ (get_or options i d).name.now
name_at options i d h = get_or-map (λ option. option.name.now) options i d [] h

pub names_more : (options : List OptionText) (i : ℕ) (d : OptionText) → i < length options → names (take (i + 1) options) ≡ names (take i options) ++ (get_or options i d).name.now ∷ []
names_more options i d h = ap names (take_more options i d h) ∙ map-append (λ option. option.name.now) (take i options) (get_or options i d ∷ [])

-- ## answers

pub both_ok : {A E : Type 0} (P Q R : A → Type 0) (r : Result A E) → IfOk r P → IfOk r Q → ((x : A) → P x → Q x → R x) → IfOk r R
both_ok P Q R (Ok x) p q f = f x p q
both_ok P Q R (Err e) p q f = tt

pub error_of : {A : Type 0} (a b : WordsError) → ◌≡◌ {A = Result A WordsError} (Err a) (Err b) → a ≡ b
error_of a b h = cc
