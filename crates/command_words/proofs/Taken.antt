-- What `clap` makes of words that set options, each a long name with one value.
use Rattle.std.proofs.Common.{◌≡◌, ◌⊎◌, inl, inr, ℕ, suc, Bool, true, false, not, ◌&&◌, ◌+◌, List, [], ◌∷◌, ◌++◌, map, Option, Some, None, refl, sym, ◌∙◌, ap, subst, arith}
use Rattle.std.proofs.Common.{◌≢◌, ◌==◌}
use Rattle.std.proofs.lemmas.Bool.{ne_eqb}
use Rattle.command_words.specs.Setting.{IsValue}
use Rattle.command_words.specs.inside.Parsed.{asked, app, known}
use Rattle.clap.proofs.CutLemmas.{Lacks}
use Rattle.clap.proofs.LexerLemmas.{name_and_value-at, name_and_value-without}
use Rattle.std.specs.List.{before_first, after_first, prefix_len}
use Rattle.std.specs.Str.{chars}
use Rattle.std.specs.Prelude.{⊤, unwrap_or, slice_get, take, drop}
use Rattle.clap.specs.Lexer.{short_of_rest, has_byte, strip_byte, long_of_rest}
use Rattle.clap.specs.Walk.{arg_by_short, arg_by_index, bundle_met}
use Rattle.clap.specs.Faults.{flags_fault, use_fault}
use Rattle.clap.specs.declared.error.kind.ErrorKind.TheVariants as kind
use Rattle.std.proofs.lemmas.Bool.Decides.{nat_tests}
use Rattle.std.specs.Prelude.{fold, is_some}
use Rattle.std.specs.List.{list_all, list_any}
use Rattle.std.specs.Str.{bytes_eq}
use Rattle.std.proofs.lemmas.Slice.Eq.{bytes_eq-Decides}
use Rattle.clap.specs.Lexer.{long_of, short_of}
use Rattle.clap.specs.Values.{reading_of}
use Rattle.clap.specs.declared.parser.matches.ValueSource.TheVariants.{CommandLine}
use Rattle.std.proofs.lemmas.List.{append_assoc}
use Rattle.clap.specs.Walk.{at_row, has_row, more_values, Held, Row, Rule, Text, Walk, arg_by_id, arg_by_long, option, reacted, settled, settled_rows, used, walk, walk_from, walked}
use Rattle.clap.specs.Simple.{Shape, built, filled_from, is_simple, new_rule, new_shape}
use Rattle.clap.specs.Kinds.{Kinds, or_else}
use Rattle.clap.proofs.FaultLemmas.{leaf_fault}
use Rattle.clap.specs.Takes.{is_given}
use Rattle.clap.specs.Walk.{finished, nothing_held, with_default, is_early_multiple}
use Rattle.clap.specs.Simple.{matches_of}
use Rattle.clap.specs.Faults.{check_fault, defaults_fault, is_simple_and_free}
use Rattle.std.specs.Prelude.{count_by, if◌then◌else◌}
use Rattle.clap.specs.Faults.{built_fault, fault_of, level_fault, react_fault, settle_fault, turn_fault, walk_fault}
use Rattle.clap.specs.declared.builder.action.ArgAction.TheVariants.{Set}
use Rattle.clap.specs.declared.builder.value_parser.ValueParser.TheVariants as vp
use Rattle.command_words.proofs.Truth.{is_not, joined, not_is, two}

-- The rule of an option, as it is built.
abbrev pub rule : Text → Rule
rule n = record (new_rule n) {
  long = Some n;
  value_names = 1;
  action = Some Set;
  range = Some (record { start_inclusive = 1; end_inclusive = 1 });
  parser = Some vp.String;
  required = true;
}

abbrev pub shape : Text → List Text → Shape
shape name ns = record (new_shape name) {
  rules = map rule ns;
  no_binary_name = true;
  disable_help_flag = true;
  disable_help_subcommand = true;
  is_built = true;
}

filled_are : (ns : List Text) → filled_from 1 (map asked ns) ≡ map rule ns
filled_are [] = refl
filled_are (n ∷ ns) = ap (λ z. rule n ∷ z) (filled_are ns)

pub built_is : (name : Text) (ns : List Text) → built (app name ns) ≡ record { top = shape name ns; subs = [] }
built_is name ns = ap (λ z. record { top = record (shape name ns) { rules = z }; subs = [] }) (filled_are ns)

pub by_long : (ns : List Text) (n : Text) → known ns n ≡ true → arg_by_long (map rule ns) n ≡ Some (rule n)
by_long [] n h = cc
by_long (x ∷ xs) n h = go (bytes_eq x n) refl (λ k. by_long xs n k)
  where
    go : (t : Bool) → bytes_eq x n ≡ t → (known xs n ≡ true → arg_by_long (map rule xs) n ≡ Some (rule n)) → arg_by_long (map rule (x ∷ xs)) n ≡ Some (rule n)
    go true e more = rw e (ap (λ z. Some (rule z)) ((bytes_eq-Decides x n).0 e))
    go false e more = rw e (more (rw e at h))

pub by_id : (ns : List Text) (n : Text) → known ns n ≡ true → arg_by_id (map rule ns) n ≡ Some (rule n)
by_id [] n h = cc
by_id (x ∷ xs) n h = go (bytes_eq x n) refl (λ k. by_id xs n k)
  where
    go : (t : Bool) → bytes_eq x n ≡ t → (known xs n ≡ true → arg_by_id (map rule xs) n ≡ Some (rule n)) → arg_by_id (map rule (x ∷ xs)) n ≡ Some (rule n)
    go true e more = rw e (ap (λ z. Some (rule z)) ((bytes_eq-Decides x n).0 e))
    go false e more = rw e (more (rw e at h))

pub no_long : (ns : List Text) (n : Text) → known ns n ≡ false → arg_by_long (map rule ns) n ≡ None
no_long [] n h = refl
no_long (x ∷ xs) n h = go (bytes_eq x n) refl (λ k. no_long xs n k)
  where
    go : (t : Bool) → bytes_eq x n ≡ t → (known xs n ≡ false → arg_by_long (map rule xs) n ≡ None) → arg_by_long (map rule (x ∷ xs)) n ≡ None
    go true e more = let bad : true ≡ false = rw e at h in cc
    go false e more = rw e (more (rw e at h))

abbrev pub dashes : Text
dashes = 45 ∷ 45 ∷ []

abbrev pub at_idle : Held → Walk
at_idle h = walk_from h

-- `--n=v` at rest
pub turn_equals : (name : Text) (ns : List Text) (h : Held) (word n v : Text) → bytes_eq word dashes ≡ false → long_of word ≡ Some (n, Some v) → known ns n ≡ true
    → turn_fault (shape name ns) [] (walk_from h) word ≡ or_else (react_fault (map rule ns) false (rule n) (v ∷ []) h) []
turn_equals name ns h word n v d l k = rw (d, l, by_long ns n k) refl

pub walked_equals : (ns : List Text) (h : Held) (word n v : Text) → bytes_eq word dashes ≡ false → long_of word ≡ Some (n, Some v) → known ns n ≡ true
    → walked (map rule ns) [] (walk_from h) word ≡ walk_from (reacted (map rule ns) (rule n) (v ∷ []) h)
unfolding walked
walked_equals ns h word n v d l k = rw (d, l, by_long ns n k) refl

-- `--n` at rest: the option waits
pub turn_waits : (name : Text) (ns : List Text) (h : Held) (word n : Text) → bytes_eq word dashes ≡ false → long_of word ≡ Some (n, None) → known ns n ≡ true
    → turn_fault (shape name ns) [] (walk_from h) word ≡ or_else (settle_fault (map rule ns) false h) []
turn_waits name ns h word n d l k = rw (d, l, by_long ns n k) refl

abbrev pub waiting_at : Text → Held → Walk
waiting_at n h = record (walk_from h) { waiting = option n }

pub walked_waits : (ns : List Text) (h : Held) (word n : Text) → bytes_eq word dashes ≡ false → long_of word ≡ Some (n, None) → known ns n ≡ true
    → walked (map rule ns) [] (walk_from h) word ≡ waiting_at n (record (settled (map rule ns) h) { pending = Some (n, []) })
unfolding walked
walked_waits ns h word n d l k = rw (d, l, by_long ns n k) refl

-- the value of the option that waits
pub turn_value : (name : Text) (ns : List Text) (h : Held) (word n : Text) → h.pending ≡ Some (n, []) → bytes_eq word dashes ≡ false → long_of word ≡ None → short_of word ≡ None → known ns n ≡ true
    → turn_fault (shape name ns) [] (waiting_at n h) word ≡ []
turn_value name ns h word n p d l s k = rw (d, l, s) refl

same : (n : Text) → bytes_eq n n ≡ true
same n = (bytes_eq-Decides n n).1 refl

pub walked_value : (ns : List Text) (rs : List Row) (word n : Text) → bytes_eq word dashes ≡ false → long_of word ≡ None → short_of word ≡ None → known ns n ≡ true
    → walked (map rule ns) [] (waiting_at n (record { rows = rs; pending = Some (n, []); skip = 0 })) word ≡ walk_from (record { rows = rs; pending = Some (n, word ∷ []); skip = 0 })
unfolding walked
walked_value ns rs word n d l s k = rw (d, l, s, by_id ns n k, same n) refl

abbrev pub row : Text → Text → Row
row n v = record { id = n; values = v ∷ []; count = None; source = Some CommandLine; reading = reading_of vp.String }

at_end : (n : Text) (change : Row → List Row) (missing rs : List Row) → has_row n rs ≡ false → at_row n change missing rs ≡ rs ++ missing
at_end n change missing [] h = refl
at_end n change missing (r ∷ rs) h = go (bytes_eq r.id n) refl (λ k. at_end n change missing rs k)
  where
    go : (t : Bool) → bytes_eq r.id n ≡ t → (has_row n rs ≡ false → at_row n change missing rs ≡ rs ++ missing) → at_row n change missing (r ∷ rs) ≡ (r ∷ rs) ++ missing
    go true e more = let bad : true ≡ false = rw e at h in cc
    go false e more = rw e (ap (λ z. r ∷ z) (more (rw e at h)))

no_end : (rs : List Row) → rs ++ [] ≡ rs
no_end [] = refl
no_end (r ∷ rs) = ap (λ z. r ∷ z) (no_end rs)

pub used_new : (n v : Text) (rs : List Row) → has_row n rs ≡ false → used (rule n) (v ∷ []) rs ≡ rs ++ row n v ∷ []
used_new n v rs h = rw (at_end n (λ _. []) [] rs h, no_end rs) (at_end n (more_values CommandLine (v ∷ [])) (row n v ∷ []) rs h)

abbrev pub held_at : List Row → Option (Text × List Text) → Held
held_at rs p = record { rows = rs; pending = p; skip = 0 }

-- What is held between two settings, whose rows are these: the last value may still be pending.
pub data IsAt (ns : List Text) (rs : List Row) (h : Held) : Type 0 where
  here : h ≡ held_at rs None → IsAt ns rs h
  later : (before : List Row) (n v : Text) → h ≡ held_at before (Some (n, v ∷ [])) → known ns n ≡ true → has_row n before ≡ false → rs ≡ before ++ row n v ∷ [] → IsAt ns rs h

pub settles : (ns : List Text) (rs : List Row) (h : Held) → IsAt ns rs h → (settle_fault (map rule ns) false h ≡ []) × (settled_rows (map rule ns) h.pending h.rows ≡ rs) × (h.skip ≡ 0)
settles ns rs h (here e) = rw e (refl, refl, refl)
settles ns rs h (later before n v e k new is) = rw (e, by_id ns n k, new, used_new n v before new, is) (refl, refl, refl)

-- ## words that are settings

abbrev pub Raw : Text → Text → List Text → List Text → Type 0
Raw n v words others = (words ≡ (45 ∷ 45 ∷ n) ∷ v ∷ others) ⊎ (words ≡ (45 ∷ 45 ∷ (n ++ (61 ∷ v))) ∷ others)

abbrev pub AreSet : List Text → List (Text × Text) → List Text → Type 0
AreSet ns [] words = words ≡ []
AreSet ns (s ∷ ss) words = (others : List Text) × (known ns s.0 ≡ true) × IsValue s.1 × Raw s.0 s.1 words others × AreSet ns ss others

abbrev pub row_of_setting : Text × Text → Row
row_of_setting s = row s.0 s.1

abbrev pub fresh : List (Text × Text) → List Row → Bool
fresh [] rs = true
fresh (s ∷ ss) rs = not (has_row s.0 rs) && fresh ss (rs ++ row s.0 s.1 ∷ [])

-- a name has a byte, and no `=`
abbrev pub IsName : Text → Type 0
IsName n = (n ≢ []) × Lacks 61 n

long_equals : (n v : Text) → IsName n → long_of (45 ∷ 45 ∷ (n ++ (61 ∷ v))) ≡ Some (n, Some v)
long_equals [] v h = absurd (h.0 refl)
long_equals (x ∷ xs) v h = ap Some (name_and_value-at (x ∷ xs) v h.1)

long_alone : (n : Text) → IsName n → long_of (45 ∷ 45 ∷ n) ≡ Some (n, None)
long_alone [] h = absurd (h.0 refl)
long_alone (x ∷ xs) h = ap Some (name_and_value-without (x ∷ xs) h.1)

pub not_dashes : (n rest : Text) → IsName n → bytes_eq (45 ∷ 45 ∷ (n ++ rest)) dashes ≡ false
not_dashes [] rest h = absurd (h.0 refl)
not_dashes (x ∷ xs) rest h = refl

pub not_dashes_alone : (n : Text) → IsName n → bytes_eq (45 ∷ 45 ∷ n) dashes ≡ false
not_dashes_alone [] h = absurd (h.0 refl)
not_dashes_alone (x ∷ xs) h = refl

pub value_plain : (v : Text) → IsValue v → (bytes_eq v dashes ≡ false) × (long_of v ≡ None) × (short_of v ≡ None)
value_plain [] h = absurd h
value_plain (x ∷ xs) h = let e : (x == 45) ≡ false = ne_eqb x 45 h.0 in rw e (refl, refl, refl)

pub record Goes (name : Text) (ns : List Text) (w : Walk) (words : List Text) (rs : List Row) : Type 0 where
  pub passes : walk_fault (shape name ns) [] w words ≡ []
  pub end : Held
  pub ends : fold (walked (map rule ns) []) w words ≡ walk_from end
  pub is_at : IsAt ns rs end

turn_then : (name : Text) (ns : List Text) (w after : Walk) (word : Text) (words : List Text) (rs : List Row) → turn_fault (shape name ns) [] w word ≡ [] → walked (map rule ns) [] w word ≡ after
    → Goes name ns after words rs → Goes name ns w (word ∷ words) rs
unfolding walk_fault
turn_then name ns w after word words rs t e g = record {
  passes = rw (t, e) g.passes;
  end = g.end;
  ends = rw e g.ends;
  is_at = g.is_at;
}

none_left : (name : Text) (ns : List Text) (h : Held) (rs : List Row) → IsAt ns rs h → Goes name ns (walk_from h) [] rs
unfolding walk_fault
none_left name ns h rs at = record { passes = refl; end = h; ends = refl; is_at = at }

-- one setting
equals_then : (name : Text) (ns : List Text) (h : Held) (n v : Text) (words : List Text) (rs all : List Row) → IsAt ns rs h → known ns n ≡ true → IsName n → has_row n rs ≡ false
    → ((after : Held) → IsAt ns (rs ++ row n v ∷ []) after → Goes name ns (walk_from after) words all) → Goes name ns (walk_from h) ((45 ∷ 45 ∷ (n ++ (61 ∷ v))) ∷ words) all
equals_then name ns h n v words rs all at k is new more =
    let word = 45 ∷ 45 ∷ (n ++ (61 ∷ v)) in
    let d = not_dashes n (61 ∷ v) is in
    let l = long_equals n v is in
    let s = settles ns rs h at in
    let react : react_fault (map rule ns) false (rule n) (v ∷ []) h ≡ [] = rw (s.0, s.1, new) refl in
    let now : reacted (map rule ns) (rule n) (v ∷ []) h ≡ held_at (rs ++ row n v ∷ []) None = rw (s.1, s.2) (ap (λ z. held_at z None) (used_new n v rs new)) in
    turn_then name ns (walk_from h) (walk_from (held_at (rs ++ row n v ∷ []) None)) word words all
    (turn_equals name ns h word n v d l k ∙ ap (λ z. or_else z []) react)
    (walked_equals ns h word n v d l k ∙ ap walk_from now)
    (more (held_at (rs ++ row n v ∷ []) None) (here refl))

alone_then : (name : Text) (ns : List Text) (h : Held) (n v : Text) (words : List Text) (rs all : List Row) → IsAt ns rs h → known ns n ≡ true → IsName n → has_row n rs ≡ false → IsValue v
    → ((after : Held) → IsAt ns (rs ++ row n v ∷ []) after → Goes name ns (walk_from after) words all) → Goes name ns (walk_from h) ((45 ∷ 45 ∷ n) ∷ v ∷ words) all
alone_then name ns h n v words rs all at k is new value more =
    let d = not_dashes_alone n is in
    let l = long_alone n is in
    let s = settles ns rs h at in
    let p = value_plain v value in
    let now : waiting_at n (record (settled (map rule ns) h) { pending = Some (n, []) }) ≡ waiting_at n (held_at rs (Some (n, []))) = rw (s.1, s.2) refl in
    turn_then name ns (walk_from h) (waiting_at n (held_at rs (Some (n, [])))) (45 ∷ 45 ∷ n) (v ∷ words) all
    (turn_waits name ns h (45 ∷ 45 ∷ n) n d l k ∙ ap (λ z. or_else z []) s.0)
    (walked_waits ns h (45 ∷ 45 ∷ n) n d l k ∙ now)
    (turn_then name ns (waiting_at n (held_at rs (Some (n, [])))) (walk_from (held_at rs (Some (n, v ∷ [])))) v words all
    (turn_value name ns (held_at rs (Some (n, []))) v n refl p.0 p.1 p.2 k)
    (walked_value ns rs v n p.0 p.1 p.2 k)
    (more (held_at rs (Some (n, v ∷ []))) (later rs n v refl k new refl)))

-- Words that are settings, no two of one option, are walked without a fault.
pub goes : (name : Text) (ns : List Text) → ((n : Text) → known ns n ≡ true → IsName n) → (ss : List (Text × Text)) (words : List Text) (h : Held) (rs : List Row) → IsAt ns rs h → AreSet ns ss words → fresh ss rs ≡ true
    → Goes name ns (walk_from h) words (rs ++ map row_of_setting ss)
goes name ns good [] words h rs at are new = rw (are, no_end rs) (none_left name ns h rs at)
goes name ns good (s ∷ ss) words h rs at are new =
    let parts = two _ _ new in
    let no = is_not _ parts.0 in
    let more : (after : Held) → IsAt ns (rs ++ row s.0 s.1 ∷ []) after → Goes name ns (walk_from after) are.0 (rs ++ row_of_setting s ∷ map row_of_setting ss) =
    λ after z. subst (λ y. Goes name ns (walk_from after) are.0 y) (append_assoc rs (row s.0 s.1 ∷ []) (map row_of_setting ss)) (goes name ns good ss are.0 after (rs ++ row s.0 s.1 ∷ []) z are.4 parts.1) in
    elim are.3 [
      | inl e ↦ rw e (alone_then name ns h s.0 s.1 are.0 rs _ at are.1 (good s.0 are.1) no are.2 more)
      | inr e ↦ rw e (equals_then name ns h s.0 s.1 are.0 rs _ at are.1 (good s.0 are.1) no more)
    ]

-- ## words without a fault are settings

no_short : (ns : List Text) (y : ℕ) → arg_by_short (map rule ns) y ≡ None
no_short [] y = refl
no_short (x ∷ xs) y = no_short xs y

no_index : (ns : List Text) (i : ℕ) → arg_by_index (map rule ns) i ≡ None
no_index [] i = refl
no_index (x ∷ xs) i = no_index xs i

-- at rest, only `--n` and `--n=v` have no fault
stray_plain : (name : Text) (ns : List Text) (h : Held) (word : Text) → bytes_eq word dashes ≡ false → long_of word ≡ None → short_of word ≡ None
    → turn_fault (shape name ns) [] (walk_from h) word ≡ kind.UnknownArgument ∷ []
stray_plain name ns h word d l s = rw (d, l, s, no_index ns 1) refl

stray_short : (name : Text) (ns : List Text) (h : Held) (word : Text) (x : ℕ) (xs : Text) (o : Option ℕ) → h.skip ≡ 0 → slice_get (chars (x ∷ xs)) 0 ≡ o → bytes_eq word dashes ≡ false → long_of word ≡ None → short_of word ≡ Some (x ∷ xs)
    → turn_fault (shape name ns) [] (walk_from h) word ≡ kind.UnknownArgument ∷ []
unfolding flags_fault bundle_met
stray_short name ns h word x xs None z o d l s = rw (d, l, s, z, o, no_index ns 1) refl
stray_short name ns h word x xs (Some y) z o d l s = rw (d, l, s, z, o, no_short ns y) refl

stray_long : (name : Text) (ns : List Text) (h : Held) (word n : Text) (v : Option Text) → bytes_eq word dashes ≡ false → long_of word ≡ Some (n, v) → known ns n ≡ false
    → turn_fault (shape name ns) [] (walk_from h) word ≡ kind.UnknownArgument ∷ []
stray_long name ns h word n v d l k = rw (d, l, no_long ns n k) refl

-- an option that waits takes no long word
wait_unknown : (name : Text) (ns : List Text) (h : Held) (m word n : Text) (v : Option Text) → bytes_eq word dashes ≡ false → long_of word ≡ Some (n, v) → known ns n ≡ false
    → turn_fault (shape name ns) [] (waiting_at m h) word ≡ kind.UnknownArgument ∷ []
wait_unknown name ns h m word n v d l k = rw (d, l, no_long ns n k) refl

wait_long : (name : Text) (ns : List Text) (rs : List Row) (m word n : Text) (v : Option Text) → bytes_eq word dashes ≡ false → long_of word ≡ Some (n, v) → known ns n ≡ true → known ns m ≡ true
    → turn_fault (shape name ns) [] (waiting_at m (held_at rs (Some (m, [])))) word ≡ kind.InvalidValue ∷ []
wait_long name ns rs m word n None d l k j = rw (d, l, by_long ns n k, by_id ns m j) refl
wait_long name ns rs m word n (Some v) d l k j = rw (d, l, by_long ns n k, by_id ns m j) refl

wait_short : (name : Text) (ns : List Text) (rs : List Row) (m word : Text) (x : ℕ) (xs : Text) (y : ℕ) → slice_get (chars (x ∷ xs)) 0 ≡ Some y → bytes_eq word dashes ≡ false → long_of word ≡ None → short_of word ≡ Some (x ∷ xs)
    → turn_fault (shape name ns) [] (waiting_at m (held_at rs (Some (m, [])))) word ≡ kind.UnknownArgument ∷ []
unfolding flags_fault bundle_met
wait_short name ns rs m word x xs y o d l s = rw (d, l, s, o, no_short ns y) refl

-- bytes that are no text: the value begins with `-`, and is refused later
wait_odd : (ns : List Text) (rs : List Row) (n word : Text) (x : ℕ) (xs : Text) → slice_get (chars (x ∷ xs)) 0 ≡ None → bytes_eq word dashes ≡ false → long_of word ≡ None → short_of word ≡ Some (x ∷ xs) → known ns n ≡ true
    → walked (map rule ns) [] (waiting_at n (held_at rs (Some (n, [])))) word ≡ walk_from (held_at rs (Some (n, word ∷ [])))
unfolding walked flags_fault bundle_met
wait_odd ns rs n word x xs o d l s k = rw (d, l, s, o, by_id ns n k, same n) refl

-- ## a word from its parts

cut_back : (text : Text) → has_byte 61 text ≡ true → text ≡ before_first (λ x. x == 61) text ++ (61 ∷ after_first (λ x. x == 61) text)
cut_back [] h = cc
cut_back (x ∷ xs) h = go (x == 61) refl (λ k. cut_back xs k)
  where
    go : (t : Bool) → (x == 61) ≡ t → (has_byte 61 xs ≡ true → xs ≡ before_first (λ x. x == 61) xs ++ (61 ∷ after_first (λ x. x == 61) xs))
        → x ∷ xs ≡ before_first (λ x. x == 61) (x ∷ xs) ++ (61 ∷ after_first (λ x. x == 61) (x ∷ xs))
    go true e more = let is : x ≡ 61 = grind (arith, nat_tests) in rw e (ap (λ z. z ∷ xs) is)
    go false e more =
        let k = prefix_len (λ y. not (y == 61)) xs in
        let one : 1 + k ≡ suc k = omega arith in
        let next : k + 1 ≡ suc k = omega arith in
        let there : xs ≡ take k xs ++ (61 ∷ drop (suc k) xs) = subst (λ z. xs ≡ take k xs ++ (61 ∷ drop z xs)) next (more (rw e at h)) in
        let three : 1 + k + 1 ≡ suc (suc k) = omega arith in
        rw e (subst (λ z. x ∷ xs ≡ take z (x ∷ xs) ++ (61 ∷ drop (1 + k + 1) (x ∷ xs))) (sym one)
        (subst (λ z. x ∷ xs ≡ take (suc k) (x ∷ xs) ++ (61 ∷ drop z (x ∷ xs))) (sym three) (ap (λ z. x ∷ z) there)))

no_cut_back : (text : Text) → has_byte 61 text ≡ false → before_first (λ x. x == 61) text ≡ text
no_cut_back [] h = refl
no_cut_back (x ∷ xs) h = go (x == 61) refl (λ k. no_cut_back xs k)
  where
    go : (t : Bool) → (x == 61) ≡ t → (has_byte 61 xs ≡ false → before_first (λ x. x == 61) xs ≡ xs) → before_first (λ x. x == 61) (x ∷ xs) ≡ x ∷ xs
    go true e more = let bad : true ≡ false = rw e at h in cc
    go false e more =
        let k = prefix_len (λ y. not (y == 61)) xs in
        let one : 1 + k ≡ suc k = omega arith in
        rw e (subst (λ z. take z (x ∷ xs) ≡ x ∷ xs) (sym one) (ap (λ z. x ∷ z) (more (rw e at h))))

pub record IsLong (word n : Text) (v : Option Text) : Type 0 where
  pub is_equals : (w : Text) → v ≡ Some w → word ≡ 45 ∷ 45 ∷ (n ++ (61 ∷ w))
  pub is_alone : v ≡ None → word ≡ 45 ∷ 45 ∷ n

some_is : (a b : Text) → Some a ≡ Some b → a ≡ b
some_is a b e = cc

pair_is : (a c : Text) (b d : Option Text) → ◌≡◌ {A = Option (Text × Option Text)} (Some (a, b)) (Some (c, d)) → (a ≡ c) × (b ≡ d)
pair_is a c b d e =
    let whole : Text × Option Text = (c, d) in
    (ap (λ (o : Option (Text × Option Text)). (unwrap_or o whole).0) e, ap (λ (o : Option (Text × Option Text)). (unwrap_or o whole).1) e)

rest_is : (text n : Text) (v : Option Text) → long_of_rest text ≡ Some (n, v) → ((w : Text) → v ≡ Some w → text ≡ n ++ (61 ∷ w)) × (v ≡ None → text ≡ n)
rest_is [] n v h = cc
rest_is (x ∷ xs) n v h = go (has_byte 61 (x ∷ xs)) refl
  where
    go : (t : Bool) → has_byte 61 (x ∷ xs) ≡ t → ((w : Text) → v ≡ Some w → x ∷ xs ≡ n ++ (61 ∷ w)) × (v ≡ None → x ∷ xs ≡ n)
    go true e =
        let p = pair_is (before_first (λ y. y == 61) (x ∷ xs)) n (Some (after_first (λ y. y == 61) (x ∷ xs))) v (rw e at h) in (
          λ w is. cut_back (x ∷ xs) e ∙ ap (λ z. z ++ (61 ∷ after_first (λ y. y == 61) (x ∷ xs))) p.0 ∙ ap (λ z. n ++ (61 ∷ z)) (some_is _ w (p.1 ∙ is)),
          λ is. let bad : Some (after_first (λ y. y == 61) (x ∷ xs)) ≡ None = p.1 ∙ is in cc,
        )
    go false e =
        let p = pair_is (before_first (λ y. y == 61) (x ∷ xs)) n None v (rw e at h) in
        (λ w is. let bad : None ≡ Some w = p.1 ∙ is in cc, λ is. sym (no_cut_back (x ∷ xs) e) ∙ p.0)

byte_off : (c : ℕ) (word rest : Text) → strip_byte c word ≡ Some rest → word ≡ c ∷ rest
byte_off c [] rest h = cc
byte_off c (x ∷ xs) rest h = go (x == c) refl
  where
    go : (t : Bool) → (x == c) ≡ t → x ∷ xs ≡ c ∷ rest
    go true e = let is : x ≡ c = grind (arith, nat_tests) in ap (λ z. z ∷ xs) is ∙ ap (λ z. c ∷ z) (some_is xs rest (rw e at h))
    go false e = let bad : None ≡ Some rest = rw e at h in cc

long_is : (word n : Text) (v : Option Text) → long_of word ≡ Some (n, v) → IsLong word n v
long_is word n v h = go (strip_byte 45 word) refl
  where
    last : (a b : Text) → strip_byte 45 word ≡ Some a → strip_byte 45 a ≡ Some b → IsLong word n v
    last a b e f =
        let is = byte_off 45 word a e ∙ ap (λ z. 45 ∷ z) (byte_off 45 a b f) in
        let r = rest_is b n v (rw (e, f) at h) in
        record { is_equals = λ w k. is ∙ ap (λ z. 45 ∷ 45 ∷ z) (r.0 w k); is_alone = λ k. is ∙ ap (λ z. 45 ∷ 45 ∷ z) (r.1 k) }

    next : (a : Text) (o : Option Text) → strip_byte 45 word ≡ Some a → strip_byte 45 a ≡ o → IsLong word n v
    next a None e f = let bad : ◌≡◌ {A = Option (Text × Option Text)} None (Some (n, v)) = rw (e, f) at h in cc
    next a (Some b) e f = last a b e f

    go : (o : Option Text) → strip_byte 45 word ≡ o → IsLong word n v
    go None e = let bad : ◌≡◌ {A = Option (Text × Option Text)} None (Some (n, v)) = rw e at h in cc
    go (Some a) e = next a (strip_byte 45 a) e refl

-- ## the walk without a fault, from its front

abbrev pub AreRaw : List Text → List (Text × Text) → List Text → Type 0
AreRaw ns [] words = words ≡ []
AreRaw ns (s ∷ ss) words = (others : List Text) × (known ns s.0 ≡ true) × Raw s.0 s.1 words others × AreRaw ns ss others

abbrev pub begin : List Row → Option (Text × Text) → Held
begin rs None = held_at rs None
begin rs (Some q) = held_at rs (Some (q.0, q.1 ∷ []))

abbrev pub full : List Row → Option (Text × Text) → List Row
full rs None = rs
full rs (Some q) = rs ++ row q.0 q.1 ∷ []

abbrev pub IsNew : List Row → Option (Text × Text) → Type 0
IsNew rs None = ⊤
IsNew rs (Some q) = has_row q.0 rs ≡ false

abbrev pub Knows : List Text → Option (Text × Text) → Type 0
Knows ns None = ⊤
Knows ns (Some q) = known ns q.0 ≡ true

none_both : (a b : Kinds) → or_else a b ≡ [] → (a ≡ []) × (b ≡ [])
none_both [] b h = (refl, h)
none_both (k ∷ ks) b h = cc

firm : (ns : List Text) (rs : List Row) (p : Option (Text × Text)) → Knows ns p → settle_fault (map rule ns) false (begin rs p) ≡ [] → IsNew rs p × (settled_rows (map rule ns) (begin rs p).pending (begin rs p).rows ≡ full rs p)
firm ns rs None k h = (tt, refl)
firm ns rs (Some q) k h = go (has_row q.0 rs) refl
  where
    go : (t : Bool) → has_row q.0 rs ≡ t → IsNew rs (Some q) × (settled_rows (map rule ns) (begin rs (Some q)).pending (begin rs (Some q)).rows ≡ full rs (Some q))
    go true e = let bad : kind.ArgumentConflict ∷ [] ≡ [] = rw (by_id ns q.0 k, e) at h in cc
    go false e = (e, rw (by_id ns q.0 k) (used_new q.0 q.1 rs e))

unused : (n v : Text) (rs : List Row) → use_fault false (rule n) (v ∷ []) rs ≡ [] → has_row n rs ≡ false
unused n v rs h = go (has_row n rs) refl
  where
    go : (t : Bool) → has_row n rs ≡ t → has_row n rs ≡ false
    go true e = let bad : kind.ArgumentConflict ∷ [] ≡ [] = rw e at h in cc
    go false e = e

abbrev pub rows_end : List Text → Walk → List Text → List Row
rows_end ns w words = settled_rows (map rule ns) (fold (walked (map rule ns) []) w words).held.pending (fold (walked (map rule ns) []) w words).held.rows

pub record Reads (ns : List Text) (words : List Text) (rs : List Row) (p : Option (Text × Text)) : Type 0 where
  pub settings : List (Text × Text)
  pub are : AreRaw ns settings words
  pub new : IsNew rs p
  pub rows : rows_end ns (walk_from (begin rs p)) words ≡ full rs p ++ map row_of_setting settings
  pub fresh : fresh settings (full rs p) ≡ true

abbrev pub Passes : Text → List Text → Walk → List Text → Type 0
Passes name ns w words = (walk_fault (shape name ns) [] w words ≡ []) × (settle_fault (map rule ns) false (fold (walked (map rule ns) []) w words).held ≡ [])

abbrev pub Next : Text → List Text → List Text → Type 0
Next name ns words = (rs : List Row) (p : Option (Text × Text)) → Knows ns p → Passes name ns (walk_from (begin rs p)) words → Reads ns words rs p

first_turn : (name : Text) (ns : List Text) (w after : Walk) (word : Text) (words : List Text) → walked (map rule ns) [] w word ≡ after → Passes name ns w (word ∷ words) → (turn_fault (shape name ns) [] w word ≡ []) × Passes name ns after words
unfolding walk_fault
first_turn name ns w after word words e h =
    let b = none_both _ _ h.0 in
    (b.0, (subst (λ z. walk_fault (shape name ns) [] z words ≡ []) e b.1, subst (λ z. settle_fault (map rule ns) false (fold (walked (map rule ns) []) z words).held ≡ []) e h.1))

only_turn : (name : Text) (ns : List Text) (w : Walk) (word : Text) (words : List Text) → Passes name ns w (word ∷ words) → turn_fault (shape name ns) [] w word ≡ []
only_turn name ns w word words h = (first_turn name ns w (walked (map rule ns) [] w word) word words refl h).0

skips : (rs : List Row) (q : Option (Text × Text)) → (begin rs q).skip ≡ 0
skips rs None = refl
skips rs (Some x) = refl

-- the rows after one setting more
equals_rows : (ns : List Text) (rs : List Row) (n v word : Text) (w : Walk) (words : List Text) (rest : List Row) → walked (map rule ns) [] w word ≡ walk_from (held_at (rs ++ row n v ∷ []) None)
    → rows_end ns (walk_from (held_at (rs ++ row n v ∷ []) None)) words ≡ (rs ++ row n v ∷ []) ++ rest → rows_end ns w (word ∷ words) ≡ rs ++ row n v ∷ rest
equals_rows ns rs n v word w words rest step rows = ap (λ z. rows_end ns z words) step ∙ rows ∙ append_assoc rs (row n v ∷ []) rest

alone_rows : (ns : List Text) (rs : List Row) (n v word : Text) (w : Walk) (words others : List Text) (rest : List Row) → walked (map rule ns) [] w word ≡ waiting_at n (held_at rs (Some (n, [])))
    → words ≡ v ∷ others → walked (map rule ns) [] (waiting_at n (held_at rs (Some (n, [])))) v ≡ walk_from (held_at rs (Some (n, v ∷ [])))
    → rows_end ns (walk_from (held_at rs (Some (n, v ∷ [])))) others ≡ (rs ++ row n v ∷ []) ++ rest → rows_end ns w (word ∷ words) ≡ rs ++ row n v ∷ rest
alone_rows ns rs n v word w words others rest step is turn rows =
    let wait = waiting_at n (held_at rs (Some (n, []))) in
    ap (λ z. rows_end ns z words) step ∙ ap (λ z. rows_end ns wait z) is ∙ ap (λ z. rows_end ns z others) turn ∙ rows ∙ append_assoc rs (row n v ∷ []) rest

equals_reads : (ns : List Text) (rs : List Row) (p : Option (Text × Text)) (word n v : Text) (words : List Text) → long_of word ≡ Some (n, Some v) → known ns n ≡ true → IsNew rs p → has_row n (full rs p) ≡ false
    → walked (map rule ns) [] (walk_from (begin rs p)) word ≡ walk_from (held_at (full rs p ++ row n v ∷ []) None) → Reads ns words (full rs p ++ row n v ∷ []) None → Reads ns (word ∷ words) rs p
equals_reads ns rs p word n v words l k before new step r = record {
  settings = (n, v) ∷ r.settings;
  are = (words, k, inr (ap (λ z. z ∷ words) ((long_is word n (Some v) l).is_equals v refl)), r.are);
  new = before;
  rows = equals_rows ns (full rs p) n v word (walk_from (begin rs p)) words (map row_of_setting r.settings) step r.rows;
  fresh = joined (not (has_row n (full rs p))) (fresh r.settings (full rs p ++ row n v ∷ [])) (not_is (has_row n (full rs p)) new) r.fresh;
}

read_equals : (name : Text) (ns : List Text) (rs : List Row) (p : Option (Text × Text)) (word n v : Text) (words : List Text) → Knows ns p → bytes_eq word dashes ≡ false → long_of word ≡ Some (n, Some v) → known ns n ≡ true
    → Passes name ns (walk_from (begin rs p)) (word ∷ words) → Next name ns words → Reads ns (word ∷ words) rs p
read_equals name ns rs p word n v words knows d l k h next =
    let c = map rule ns in
    let turn = only_turn name ns (walk_from (begin rs p)) word words h in
    let react = (none_both _ _ (sym (turn_equals name ns (begin rs p) word n v d l k) ∙ turn)).0 in
    let parts = none_both _ _ react in
    let f = firm ns rs p knows parts.0 in
    let new : has_row n (full rs p) ≡ false = unused n v (full rs p) (subst (λ z. use_fault false (rule n) (v ∷ []) z ≡ []) f.1 parts.1) in
    let now : reacted c (rule n) (v ∷ []) (begin rs p) ≡ held_at (full rs p ++ row n v ∷ []) None =
    rw (f.1, skips rs p) (ap (λ z. held_at z None) (used_new n v (full rs p) new)) in
    let step = walked_equals ns (begin rs p) word n v d l k ∙ ap walk_from now in
    equals_reads ns rs p word n v words l k f.0 new step
    (next (full rs p ++ row n v ∷ []) None tt (first_turn name ns (walk_from (begin rs p)) (walk_from (held_at (full rs p ++ row n v ∷ []) None)) word words step h).1)

-- an option and its value, which is at rest again
abbrev pub Waits : Text → List Text → Text → List Text → Type 0
Waits name ns n words = (rs : List Row) → Passes name ns (waiting_at n (held_at rs (Some (n, [])))) words
    → (v : Text) × (others : List Text) × (words ≡ v ∷ others) × Next name ns others × Passes name ns (walk_from (held_at rs (Some (n, v ∷ [])))) others
    × (walked (map rule ns) [] (waiting_at n (held_at rs (Some (n, [])))) v ≡ walk_from (held_at rs (Some (n, v ∷ []))))

no_error : (k : _) (ks : Kinds) → ◌≡◌ {A = Kinds} (k ∷ ks) [] → ⊥
no_error k ks e = cc

waits_none : (name : Text) (ns : List Text) (n : Text) → known ns n ≡ true → Waits name ns n []
waits_none name ns n k rs h = let bad : kind.InvalidValue ∷ [] ≡ [] = rw (by_id ns n k) at h.1 in absurd (no_error kind.InvalidValue [] bad)

short_cons : (word flags : Text) → short_of word ≡ Some flags → (x : ℕ) × (xs : Text) × (flags ≡ x ∷ xs)
short_cons word [] h = absurd (none_empty word h)
  where
    empty_not : (rest : Text) → short_of_rest rest ≡ Some [] → ⊥
    empty_not [] h = cc
    empty_not (x ∷ xs) h = go (x == 45) refl
      where
        go : (t : Bool) → (x == 45) ≡ t → ⊥
        go true e = let bad : ◌≡◌ {A = Option Text} None (Some []) = rw e at h in cc
        go false e = let bad : ◌≡◌ {A = Option Text} (Some (x ∷ xs)) (Some []) = rw e at h in cc

    none_empty : (word : Text) → short_of word ≡ Some [] → ⊥
    none_empty [] h = cc
    none_empty (x ∷ xs) h = go (x == 45) refl
      where
        go : (t : Bool) → (x == 45) ≡ t → ⊥
        go true e = empty_not xs (rw e at h)
        go false e = let bad : ◌≡◌ {A = Option Text} None (Some []) = rw e at h in cc
short_cons word (x ∷ xs) h = (x, xs, refl)

waits_more : (name : Text) (ns : List Text) (n word : Text) (words : List Text) → known ns n ≡ true → bytes_eq word dashes ≡ false → Next name ns words → Waits name ns n (word ∷ words)
waits_more name ns n word words k d next rs h = by_word (long_of word) refl
  where
    w : Walk
    w = waiting_at n (held_at rs (Some (n, [])))

    ends : walked (map rule ns) [] w word ≡ walk_from (held_at rs (Some (n, word ∷ [])))
        → (v : Text) × (others : List Text) × (word ∷ words ≡ v ∷ others) × Next name ns others × Passes name ns (walk_from (held_at rs (Some (n, v ∷ [])))) others
        × (walked (map rule ns) [] (waiting_at n (held_at rs (Some (n, [])))) v ≡ walk_from (held_at rs (Some (n, v ∷ []))))
    ends e = (word, words, refl, next, (first_turn name ns w (walk_from (held_at rs (Some (n, word ∷ [])))) word words e h).1, e)

    never : (k : _) → turn_fault (shape name ns) [] w word ≡ k ∷ [] → ⊥
    never k e = no_error k [] (sym e ∙ only_turn name ns w word words h)

    by_char : (x : ℕ) (xs : Text) (o : Option ℕ) → slice_get (chars (x ∷ xs)) 0 ≡ o → long_of word ≡ None → short_of word ≡ Some (x ∷ xs) → walked (map rule ns) [] w word ≡ walk_from (held_at rs (Some (n, word ∷ [])))
    by_char x xs None o l s = wait_odd ns rs n word x xs o d l s k
    by_char x xs (Some y) o l s = absurd (never kind.UnknownArgument (wait_short name ns rs n word x xs y o d l s))

    by_short : (o : Option Text) → short_of word ≡ o → long_of word ≡ None → walked (map rule ns) [] w word ≡ walk_from (held_at rs (Some (n, word ∷ [])))
    by_short None s l = walked_value ns rs word n d l s k
    by_short (Some flags) s l =
        let is = short_cons word flags s in
        by_char is.0 is.1 (slice_get (chars (is.0 ∷ is.1)) 0) refl l (s ∙ ap (λ z. Some z) is.2)

    by_known : (m : Text) (v : Option Text) (t : Bool) → known ns m ≡ t → long_of word ≡ Some (m, v) → ⊥
    by_known m v true j l = never kind.InvalidValue (wait_long name ns rs n word m v d l j k)
    by_known m v false j l = never kind.UnknownArgument (wait_unknown name ns (held_at rs (Some (n, []))) n word m v d l j)

    by_word : (o : Option (Text × Option Text)) → long_of word ≡ o
        → (v : Text) × (others : List Text) × (word ∷ words ≡ v ∷ others) × Next name ns others × Passes name ns (walk_from (held_at rs (Some (n, v ∷ [])))) others
        × (walked (map rule ns) [] (waiting_at n (held_at rs (Some (n, [])))) v ≡ walk_from (held_at rs (Some (n, v ∷ []))))
    by_word None l = ends (by_short (short_of word) refl l)
    by_word (Some q) l = absurd (by_known q.0 q.1 (known ns q.0) refl l)

alone_reads : (ns : List Text) (rs : List Row) (p : Option (Text × Text)) (word n v : Text) (words others : List Text) → long_of word ≡ Some (n, None) → known ns n ≡ true → IsNew rs p
    → walked (map rule ns) [] (walk_from (begin rs p)) word ≡ waiting_at n (held_at (full rs p) (Some (n, []))) → words ≡ v ∷ others
    → walked (map rule ns) [] (waiting_at n (held_at (full rs p) (Some (n, [])))) v ≡ walk_from (held_at (full rs p) (Some (n, v ∷ []))) → Reads ns others (full rs p) (Some (n, v)) → Reads ns (word ∷ words) rs p
alone_reads ns rs p word n v words others l k before step is turn r = record {
  settings = (n, v) ∷ r.settings;
  are = (others, k, inl (ap (λ z. z ∷ words) ((long_is word n None l).is_alone refl) ∙ ap (λ z. (45 ∷ 45 ∷ n) ∷ z) is), r.are);
  new = before;
  rows = alone_rows ns (full rs p) n v word (walk_from (begin rs p)) words others (map row_of_setting r.settings) step is turn r.rows;
  fresh = joined (not (has_row n (full rs p))) (fresh r.settings (full rs p ++ row n v ∷ [])) (not_is (has_row n (full rs p)) r.new) r.fresh;
}

read_alone : (name : Text) (ns : List Text) (rs : List Row) (p : Option (Text × Text)) (word n : Text) (words : List Text) → Knows ns p → bytes_eq word dashes ≡ false → long_of word ≡ Some (n, None) → known ns n ≡ true
    → Passes name ns (walk_from (begin rs p)) (word ∷ words) → Waits name ns n words → Reads ns (word ∷ words) rs p
read_alone name ns rs p word n words knows d l k h waits =
    let c = map rule ns in
    let turn = only_turn name ns (walk_from (begin rs p)) word words h in
    let settle = (none_both _ _ (sym (turn_waits name ns (begin rs p) word n d l k) ∙ turn)).0 in
    let f = firm ns rs p knows settle in
    let now : waiting_at n (record (settled c (begin rs p)) { pending = Some (n, []) }) ≡ waiting_at n (held_at (full rs p) (Some (n, []))) = rw (f.1, skips rs p) refl in
    let step = walked_waits ns (begin rs p) word n d l k ∙ now in
    let pair = waits (full rs p) (first_turn name ns (walk_from (begin rs p)) (waiting_at n (held_at (full rs p) (Some (n, [])))) word words step h).1 in
    alone_reads ns rs p word n pair.0 words pair.1 l k f.0 step pair.2 pair.5 (pair.3 (full rs p) (Some (n, pair.0)) k pair.4)

read_first : (name : Text) (ns : List Text) (word : Text) (words : List Text) → bytes_eq word dashes ≡ false → Next name ns words → ((n : Text) → known ns n ≡ true → Waits name ns n words) → Next name ns (word ∷ words)
read_first name ns word words d next waits rs p knows h = by_word (long_of word) refl
  where
    never : (k : _) → turn_fault (shape name ns) [] (walk_from (begin rs p)) word ≡ k ∷ [] → ⊥
    never k e = no_error k [] (sym e ∙ only_turn name ns (walk_from (begin rs p)) word words h)

    by_known : (m : Text) (v : Option Text) (t : Bool) → known ns m ≡ t → long_of word ≡ Some (m, v) → Reads ns (word ∷ words) rs p
    by_known m None true j l = read_alone name ns rs p word m words knows d l j h (waits m j)
    by_known m (Some v) true j l = read_equals name ns rs p word m v words knows d l j h next
    by_known m v false j l = absurd (never kind.UnknownArgument (stray_long name ns (begin rs p) word m v d l j))

    by_short : (o : Option Text) → short_of word ≡ o → long_of word ≡ None → ⊥
    by_short None s l = never kind.UnknownArgument (stray_plain name ns (begin rs p) word d l s)
    by_short (Some flags) s l =
        let is = short_cons word flags s in
        never kind.UnknownArgument (stray_short name ns (begin rs p) word is.0 is.1 (slice_get (chars (is.0 ∷ is.1)) 0) (skips rs p) refl d l (s ∙ ap (λ z. Some z) is.2))

    by_word : (o : Option (Text × Option Text)) → long_of word ≡ o → Reads ns (word ∷ words) rs p
    by_word None l = absurd (by_short (short_of word) refl l)
    by_word (Some q) l = by_known q.0 q.1 (known ns q.0) refl l

abbrev pub has_no_dashes : List Text → Bool
has_no_dashes words = list_all (λ word. not (bytes_eq word dashes)) words

-- Words without `--` that are walked without a fault are settings, no two of one option.
pub reads : (name : Text) (ns : List Text) (words : List Text) → has_no_dashes words ≡ true → Next name ns words
reads name ns [] d = λ rs p k h.
    let f = firm ns rs p k h.1 in
    record { settings = []; are = refl; new = f.0; rows = f.1 ∙ sym (no_end (full rs p)); fresh = refl }
reads name ns (word ∷ []) d =
    read_first name ns word [] (is_not _ (two _ _ d).0) (reads name ns [] refl) (λ n k. waits_none name ns n k)
reads name ns (word ∷ value ∷ words) d =
    let first = two _ _ d in
    let second = two _ _ first.1 in
    read_first name ns word (value ∷ words) (is_not _ first.0) (reads name ns (value ∷ words) first.1)
    (λ n k. waits_more name ns n value words k (is_not _ second.0) (reads name ns words second.1))

-- ## the whole parse

pub fault_is : (name : Text) (ns words : List Text) → fault_of (app name ns) words ≡ level_fault (shape name ns) [] nothing_held words false []
fault_is name ns words = ap (λ z. built_fault z nothing_held words) (built_is name ns) ∙ leaf_fault (record { top = shape name ns; subs = [] }) nothing_held words refl

no_default : (rows : List Row) (n : Text) → with_default rows (rule n) ≡ rows
no_default rows n = go (has_row n rows) refl
  where
    go : (t : Bool) → has_row n rows ≡ t → with_default rows (rule n) ≡ rows
    go true e = rw e refl
    go false e = rw e refl

no_defaults : (rows : List Row) (ns : List Text) → fold with_default rows (map rule ns) ≡ rows
no_defaults rows [] = refl
no_defaults rows (n ∷ ns) = ap (λ z. fold with_default z (map rule ns)) (no_default rows n) ∙ no_defaults rows ns

no_default_fault : (rows : List Row) (ns : List Text) → defaults_fault rows (map rule ns) ≡ []
unfolding defaults_fault
no_default_fault rows [] = refl
no_default_fault rows (n ∷ ns) = go (has_row n rows) refl (no_default_fault rows ns)
  where
    go : (t : Bool) → has_row n rows ≡ t → defaults_fault rows (map rule ns) ≡ [] → defaults_fault rows (map rule (n ∷ ns)) ≡ []
    go true e more = rw e more
    go false e more = rw e more

-- each option has a row
abbrev pub all_given : List Text → List Row → Bool
all_given ns rows = list_all (λ n. is_given n rows) ns

check_given : (name : Text) (ns all : List Text) (rows : List Row) → all_given ns rows ≡ true → list_any (λ (a : Rule). a.required && not (is_given a.id rows)) (map rule ns) ≡ false
check_given name [] all rows h = refl
check_given name (n ∷ ns) all rows h =
    let b = two (is_given n rows) (all_given ns rows) h in
    rw (b.0) (check_given name ns all rows b.1)

given_checked : (ns : List Text) (rows : List Row) → list_any (λ (a : Rule). a.required && not (is_given a.id rows)) (map rule ns) ≡ false → all_given ns rows ≡ true
given_checked [] rows h = refl
given_checked (n ∷ ns) rows h = go (is_given n rows) refl (λ k. given_checked ns rows k)
  where
    go : (t : Bool) → is_given n rows ≡ t → (list_any (λ (a : Rule). a.required && not (is_given a.id rows)) (map rule ns) ≡ false → all_given ns rows ≡ true) → all_given (n ∷ ns) rows ≡ true
    go true e more = rw e (more (rw e at h))
    go false e more = let bad : true ≡ false = rw e at h in cc

-- Words that set each option once: no parse of them fails, but for want of memory.
pub taken : (name : Text) (ns : List Text) → ((n : Text) → known ns n ≡ true → IsName n) → (ss : List (Text × Text)) (words : List Text) → AreSet ns ss words → fresh ss [] ≡ true → all_given ns (map row_of_setting ss) ≡ true
    → fault_of (app name ns) words ≡ []
taken name ns good ss words are new given =
    let g = goes name ns good ss words nothing_held [] (here refl) are new in
    let s = settles ns (map row_of_setting ss) g.end g.is_at in
    let c = map rule ns in
    fault_is name ns words ∙ rw (g.passes, g.ends, s.0, s.1, no_default_fault (map row_of_setting ss) ns, no_defaults (map row_of_setting ss) ns, check_given name ns ns (map row_of_setting ss) given) refl

matches_are : (name : Text) (ns words : List Text) → matches_of (app name ns) words ≡ finished (map rule ns) (walk (map rule ns) [] nothing_held words).held
matches_are name ns words = ap (λ z. finished z (walk z [] nothing_held words).held) (filled_are ns)

pub matches_taken : (name : Text) (ns : List Text) → ((n : Text) → known ns n ≡ true → IsName n) → (ss : List (Text × Text)) (words : List Text) → AreSet ns ss words → fresh ss [] ≡ true
    → matches_of (app name ns) words ≡ map row_of_setting ss
matches_taken name ns good ss words are new =
    let g = goes name ns good ss words nothing_held [] (here refl) are new in
    let c = map rule ns in
    let end = (walk c [] nothing_held words).held in
    let rows : settled_rows c end.pending end.rows ≡ map row_of_setting ss = ap (λ z. settled_rows c z.held.pending z.held.rows) g.ends ∙ (settles ns (map row_of_setting ss) g.end g.is_at).1 in
    matches_are name ns words ∙ (no_defaults (settled_rows c end.pending end.rows) ns ∙ rows)

pub record ReadBack (name : Text) (ns words : List Text) : Type 0 where
  pub settings : List (Text × Text)
  pub are : AreRaw ns settings words
  pub rows : matches_of (app name ns) words ≡ map row_of_setting settings
  pub fresh : fresh settings [] ≡ true
  pub given : all_given ns (map row_of_setting settings) ≡ true

no_missing : (b : Bool) → ◌≡◌ {A = Kinds} (if b then kind.MissingRequiredArgument ∷ [] else []) [] → b ≡ false
no_missing true h = absurd (no_error kind.MissingRequiredArgument [] h)
no_missing false h = refl

-- Where a parse of words without `--` has no fault, they set each option once, and these are its matches.
pub read_back : (name : Text) (ns words : List Text) → has_no_dashes words ≡ true → fault_of (app name ns) words ≡ [] → ReadBack name ns words
read_back name ns words d h =
    let c = map rule ns in
    let end = (walk c [] nothing_held words).held in
    let level : level_fault (shape name ns) [] nothing_held words false [] ≡ [] = sym (fault_is name ns words) ∙ h in
    let one = none_both _ _ level in
    let second = none_both _ _ one.1 in
    let three = none_both _ _ second.1 in
    let r = reads name ns words d [] None tt (one.0, second.0) in
    let done : finished c end ≡ map row_of_setting r.settings = no_defaults (settled_rows c end.pending end.rows) ns ∙ r.rows in
    let checked = subst (λ z. check_fault (shape name ns) z false ≡ []) done three.1 in
    record {
      settings = r.settings;
      are = r.are;
      rows = matches_are name ns words ∙ done;
      fresh = r.fresh;
      given = given_checked ns (map row_of_setting r.settings) (no_missing _ checked);
    }

-- The command is one of which the contracts of a parse say all.
all_simple : (ns : List Text) → list_all (λ (a : Rule). a.is_simple) (map rule ns) ≡ true
all_simple [] = refl
all_simple (n ∷ ns) = all_simple ns

asked_simple : (ns : List Text) → list_all (λ (a : Rule). a.is_simple) (map asked ns) ≡ true
asked_simple [] = refl
asked_simple (n ∷ ns) = asked_simple ns

all_free : (ns : List Text) → list_all (λ (a : Rule). a.is_free) (map rule ns) ≡ true
all_free [] = refl
all_free (n ∷ ns) = all_free ns

in_order : (k : ℕ) (ns : List Text) → list_any (is_early_multiple k) (map rule ns) ≡ false
in_order k [] = refl
in_order k (n ∷ ns) = in_order k ns

pub is_read_simply : (name : Text) (ns : List Text) → is_simple (app name ns) ≡ true
is_read_simply name ns = rw (asked_simple ns, filled_are ns, all_simple ns, in_order (count_by (λ (a : Rule). is_some a.index) (map rule ns)) ns) refl

pub is_read_freely : (name : Text) (ns : List Text) → is_simple_and_free (app name ns) ≡ true
is_read_freely name ns = rw (is_read_simply name ns, filled_are ns, all_free ns) refl
