-- The names of the nets and of the generated vias of wiring. Many types of its reader are private to `def_wiring`; here they
-- go by the definitions that have them.
use Rattle.std.proofs.Common.{◌≡◌, ◌⊎◌, ℕ, ◌==◌, ◌&&◌, Bool, true, false, if◌then◌else◌, List, [], ◌∷◌, ◌++◌, length, codes, All, refl, sym, ◌∙◌, ap, subst, inl, inr, arith, Ok}
use Rattle.std.specs.Prelude.{◌||◌, ◌<◌, Option, None, Some, slice_get, slice_index_or}
use Rattle.std.specs.List.{AllByRecursion}
use Rattle.std.specs.Str.{bytes_eq}
use Rattle.std.proofs.lemmas.List.Elements.{All-from_recursion}
use Rattle.std.proofs.lemmas.Option.{slice_get_within, get_or_from_slice_get}
use Rattle.std.proofs.lemmas.Slice.Eq.{bytes_eq-Decides}
use Rattle.text_lex.specs.Name.{IsName}
use Rattle.entry_list.specs.InTurn.{InTurn}
use Rattle.reading.specs.declared.word.Form.{Form}
use Rattle.reading.specs.declared.word.Form.TheVariants.{Bare, Quoted as QuotedForm, Braced, Break, Semicolon as SemicolonForm, End as EndForm}
use Rattle.reading.specs.Pattern.{Then, Matches, joined}
use Rattle.reading.specs.Reading.{Follows}
use Rattle.reading.specs.Word.{Token, seen_text}
use Rattle.def_wiring.specs.declared.record.ViaDef.{ViaDef}
use Rattle.def_wiring.specs.declared.record.WiredNet.{WiredNet}
use Rattle.def_wiring.specs.declared.record.Wires.{Wires}
use Rattle.def_wiring.specs.Act.{via_form, is_whole, is_more, takes, kept, passes, asked_act, inner_act, via_act, net_act}
use Rattle.def_wiring.specs.Format.{format, ReadsWires}
use Rattle.def_wiring.specs.Record.{SaidVia, SaidNet, Asked, Said, Heard, net_of, noted, said_by, opened_via, opened_net, said_unit, heard_after, heard_from, heard_of, SaysVia, SaysNet}
use Rattle.def_wiring.specs.Rule.{is_name, key, name, end_of, pattern}
use Rattle.def_wiring.specs.Section.{section_number, all_sections, listed as section_listed}
use Rattle.def_wiring.specs.Sort.{number_of, all_sorts, the, listed, sort_of, sort_with, sort_of_text}
use Rattle.def_wiring.specs.Standing.{headed, after_entries, after_via, after_words, section_by, section_in, section_with, at_start}
use Rattle.def_wiring.specs.Laws.Acts.{same_act}
use Rattle.lef_statements.specs.declared.passing.Passing.{Passing}
use Rattle.read_names.specs.Laws.Words.{IsGood, AreGood, good-front, good-rest, good_split, good_heard}

-- ## types

abbrev Given : {A B : Type 0} → (A → B) → Type 0
Given {A} {B} f = A

abbrev Item : {A : Type 0} → List A → Type 0
Item {A} xs = A

abbrev Sort : Type 0
Sort = Given number_of

abbrev Section : Type 0
Section = Given section_number

abbrev Standing : Type 0
Standing = Given section_in

abbrev Act : Type 0
Act = Given section_by

abbrev Ask : Type 0
Ask = Item via_form

-- ## lists

no_false : false ≡ true → ⊥
no_false h = cc

-- What holds of each of a list holds of one that stands in it.
in_list : {S : Type 0} (P : S → Type 0) (list : List S) → AllByRecursion P list → (n : ℕ) (s : S) → slice_get list n ≡ Some s → P s
in_list P list all n s at = subst P (get_or_from_slice_get list n s s at) (All-from_recursion P list all n s (slice_get_within list n s at))

by_sort : (P : Sort → Type 0) → AllByRecursion P all_sorts → (s : Sort) → P s
by_sort P all s = in_list P all_sorts all (number_of s) s (listed s)

all_append : {S : Type 0} (P : S → Type 0) (xs ys : List S) → AllByRecursion P xs → AllByRecursion P ys → AllByRecursion P (xs ++ ys)
all_append P [] ys h k = k
all_append P (x ∷ xs) ys h k = (h.0, all_append P xs ys h.1 k)

if_split : {A : Type 0} (P : A → Type 0) (b : Bool) (x y : A) → P x → P y → P (if b then x else y)
if_split P true x y h k = h
if_split P false x y h k = k

-- ## names

-- The text is no other than a name.
abbrev HasName : List ℕ → Type 0
HasName text = (IsName text → ⊥) → ⊥

is_true : (b : Bool) → ((b ≡ true → ⊥) → ⊥) → b ≡ true
is_true true h = refl
is_true false h = absurd (h no_false)

some_bytes : (text : List ℕ) → HasName text → 0 < length text
some_bytes [] h = absurd (h (λ n. let some = n.0.some in omega arith))
some_bytes (byte ∷ text) h = omega arith

name_is : (text : List ℕ) → HasName text → IsName text
name_is text h = (
  record {
    some = some_bytes text h;
    begins = is_true _ (λ no. h (λ n. no n.0.begins));
    plain = is_true _ (λ no. h (λ n. no n.0.plain));
    ends = is_true _ (λ no. h (λ n. no n.0.ends));
  },
  λ e. h (λ n. n.1 e),
)

name_text_by : (text : List ℕ) (b : Bool) → bytes_eq text (codes ";") ≡ b → is_name (sort_of_text text) ≡ true → text ≡ codes ";" → ⊥
name_text_by text true e h same = no_false (sym (ap (λ z. is_name (sort_of_text z)) same) ∙ h)
name_text_by text false e h same = no_false (sym e ∙ (bytes_eq-Decides text (codes ";")).1 same)

-- A word of a name's sort is bare, and not `;`.
name_of : (w : Token) (form : Form) → w.form ≡ form → is_name (sort_with form w.text) ≡ true → IsGood w → IsName w.text
name_of w Bare e h good = (good e, name_text_by w.text (bytes_eq w.text (codes ";")) refl h)
name_of w QuotedForm e h good = absurd (no_false h)
name_of w Braced e h good = absurd (no_false h)
name_of w Break e h good = absurd (no_false h)
name_of w SemicolonForm e h good = absurd (no_false h)
name_of w EndForm e h good = absurd (no_false h)

-- ## what is said

-- The vias and nets that are said have names.
record Good (said : Said) : Type 0 where
  vias : AllByRecursion (λ (via : SaidVia). HasName via.name) said.vias
  nets : AllByRecursion (λ (net : SaidNet). HasName net.name) said.nets

all_stable : {S : Type 0} (text : S → List ℕ) (xs : List S) → ((AllByRecursion (λ x. HasName (text x)) xs → ⊥) → ⊥) → AllByRecursion (λ x. HasName (text x)) xs
all_stable text [] h = tt
all_stable text (x ∷ xs) h = (λ no. h (λ all. all.0 no), all_stable text xs (λ no. h (λ all. no all.1)))

good_stable : (said : Said) → ((Good said → ⊥) → ⊥) → Good said
good_stable said h = record {
  vias = all_stable (λ (via : SaidVia). via.name) said.vias (λ no. h (λ g. no g.vias));
  nets = all_stable (λ (net : SaidNet). net.name) said.nets (λ no. h (λ g. no g.nets));
}

good_noted : (power : Option Bool) (asked : Asked) (said : Said) → Good said → Good (noted power asked said)
good_noted None asked said g = record { vias = g.vias; nets = g.nets }
good_noted (Some power) asked said g = g

net_named : (power : Option Bool) (text : List ℕ) (said : Said) → HasName text → AllByRecursion (λ (net : SaidNet). HasName net.name) (net_of power text said)
net_named None text said h = tt
net_named (Some power) text said h = (h, tt)

-- Whatever a word does.
good_by : (act : Act) (standing : Standing) (word : Token) (said : Said) → HasName standing.name → Good said → Good (said_by act standing word said)
good_by act standing word said named g = good_stable (said_by act standing word said) (λ no. no (subst Good (sym (same_act act
    (λ e. no (subst (λ a. Good (said_by a standing word said)) (sym e) (record { vias = all_append (λ (via : SaidVia). HasName via.name) said.vias _ g.vias (named, tt); nets = g.nets })))
    (λ e. no (subst (λ a. Good (said_by a standing word said)) (sym e) (record { vias = g.vias; nets = g.nets })))
    (λ e. no (subst (λ a. Good (said_by a standing word said)) (sym e) (record { vias = g.vias; nets = g.nets })))
    (λ e. no (subst (λ a. Good (said_by a standing word said)) (sym e)
    (record { vias = g.vias; nets = all_append (λ (net : SaidNet). HasName net.name) said.nets _ g.nets (net_named standing.power standing.name said named) })))
    standing word said)) g))

-- ## where units lead

-- A section in which an entry is open.
abbrev IsEntry : Section → Type 0
IsEntry section = ((section_number section == 2) || (section_number section == 4)) ≡ true

-- An open entry has a name.
abbrev Named : Standing → Type 0
Named standing = IsEntry standing.section → HasName standing.name

entry_in : (section : Section) (passing : Option Passing) → IsEntry (section_with section passing) → IsEntry section
entry_in section None h = h
entry_in section (Some passing) h = absurd (no_false h)

headed_open : (s : Sort) → IsEntry (headed s) → ⊥
headed_open s = by_sort (λ s. IsEntry (headed s) → ⊥) (search (no_false)) s

abbrev semicolon : Sort
semicolon = sort_of_text (codes ";")

abbrev minus : Sort
minus = sort_of_text (codes "-")

abbrev unread : Sort
unread = sort_of_text (codes "ORIGIN")

-- `- name` opens an entry.
opened : (entry : Section) (word : Token) (standing : Standing) (s : Sort) → (the minus s ≡ true → HasName word.text) → Named (after_entries entry s word standing)
opened entry word standing s h =
    by_sort (λ s. (the minus s ≡ true → HasName word.text) → Named (after_entries entry s word standing))
    (search (no_false)) s h

-- What holds of what each word of an entry of VIAS may do.
via_acts : (P : Act → Type 0) → P (via_act 22 semicolon) → P (inner_act 23 unread) → AllByRecursion (λ (ask : Ask). P (kept ask)) via_form
    → AllByRecursion (λ (s : Sort). P (passes s)) all_sorts → (words : ℕ) (s : Sort) → P (via_act words s)
via_acts P whole part keeps other words s =
    if_split P (is_whole words && the semicolon s) (via_act 22 semicolon) (inner_act words s) whole
    (if_split P (is_more words && the unread s) (inner_act 23 unread) (asked_act (slice_get via_form words) s) part
    (asked (slice_get via_form words) refl))
  where
    asked : (ask : Option Ask) → slice_get via_form words ≡ ask → P (asked_act ask s)
    asked None e = by_sort (λ s. P (passes s)) other s
    asked (Some ask) e = if_split P (takes ask s) (kept ask) (passes s) (in_list (λ ask. P (kept ask)) via_form keeps words ask e) (by_sort (λ s. P (passes s)) other s)

-- ## one unit

-- What a unit in this section says and where it leads.
abbrev Step : Section → Type 0
Step section = (standing : Standing) (said : Said) (u : List Token) → Matches sort_of (pattern section) u → AreGood u → (IsEntry section → HasName standing.name)
    → Named standing → Good said → Named (after_words section u standing) × Good (said_unit section standing u said)

-- The sections, by their numbers.
abbrev section_at : ℕ → Section
section_at n = slice_index_or all_sections n at_start.section

abbrev second_text : List Token → List ℕ
second_text (a ∷ b ∷ u) = b.text
second_text _ = []

-- The second word of `- name`.
second : (u : List Token) → Matches sort_of (Then (key minus) name) u → AreGood u → HasName (second_text u)
second u (x, y, (w, is, same), (v, named, same'), whole) good =
    let all : u ≡ w ∷ v ∷ [] = whole ∙ ap (λ z. z ++ y) same ∙ ap (λ z. w ∷ z) same' in
    let g : AreGood (w ∷ v ∷ []) = subst AreGood all good in
    subst (λ z. HasName (second_text z)) (sym all) (λ no. no (name_of v v.form refl named g.1.0))

abbrev first_sort : List Token → Sort → Sort
first_sort [] s = s
first_sort (w ∷ u) s = sort_of w

-- The first word of the end of a section is no `-`.
ends : (section : Sort) (u : List Token) → Matches sort_of (end_of section) u → the minus (first_sort u minus) ≡ true → ⊥
ends section u (x, y, (w, is, same), rest, whole) h =
    let all : u ≡ w ∷ y = whole ∙ ap (λ z. z ++ y) same in
    let first : the minus (sort_of w) ≡ true = sym (ap (λ z. the minus (first_sort z minus)) all) ∙ h in
    grind (arith, is, first)

named_by : (section : Sort) (a b : Token) → Matches sort_of (Then (key minus) name) (a ∷ b ∷ []) ⊎ Matches sort_of (end_of section) (a ∷ b ∷ []) → AreGood (a ∷ b ∷ [])
    → the minus (sort_of a) ≡ true → HasName b.text
named_by section a b (inl m) good h = second (a ∷ b ∷ []) m good
named_by section a b (inr m) good h = absurd (ends section (a ∷ b ∷ []) m h)

via_open : (word : Token) (said : Said) → Good said → (s : Sort) → Good (opened_via s word said)
via_open word said g s = by_sort (λ s. Good (opened_via s word said)) (search (g.vias, g.nets)) s

net_open : (word : Token) (said : Said) → Good said → (s : Sort) → Good (opened_net s word said)
net_open word said g s = by_sort (λ s. Good (opened_net s word said)) (search (g.vias, g.nets)) s

top : Step (section_at 0)
top standing said [] m good known named g = (named, g)
top standing said (a ∷ []) m good known named g = (named, g)
top standing said (a ∷ b ∷ []) m good known named g = (λ e. absurd (no_false e), g)
top standing said (a ∷ b ∷ c ∷ []) m good known named g = (λ e. absurd (headed_open (sort_of a) e), g)
top standing said (a ∷ b ∷ c ∷ d ∷ u) m good known named g = (named, g)

vias : Step (section_at 1)
vias standing said [] m good known named g = (named, g)
vias standing said (a ∷ []) m good known named g = (named, g)
vias standing said (a ∷ b ∷ []) m good known named g = (opened (section_at 2) b standing (sort_of a) (named_by (sort_of_text (codes "VIAS")) a b m good), via_open b said g (sort_of a))
vias standing said (a ∷ b ∷ c ∷ []) m good known named g = (λ e. absurd (headed_open (sort_of a) e), g)
vias standing said (a ∷ b ∷ c ∷ d ∷ u) m good known named g = (named, g)

via : Step (section_at 2)
via standing said [] m good known named g = (named, g)
via standing said (a ∷ []) m good known named g =
    let n : HasName standing.name = known refl in (
      via_acts (λ act. Named (after_via act a standing)) (λ e. n) (λ e. n) (search) (search (n)) (length standing.entry) (sort_of a),
      good_by (via_act (length standing.entry) (sort_of a)) standing a _ n (good_noted standing.power _ said g),
    )
via standing said (a ∷ b ∷ []) m good known named g = (named, g)
via standing said (a ∷ b ∷ c ∷ []) m good known named g = (λ e. absurd (headed_open (sort_of a) e), g)
via standing said (a ∷ b ∷ c ∷ d ∷ u) m good known named g = (named, g)

nets : Step (section_at 3)
nets standing said [] m good known named g = (named, g)
nets standing said (a ∷ []) m good known named g = (named, g)
nets standing said (a ∷ b ∷ []) m good known named g = (opened (section_at 4) b standing (sort_of a) (named_by (sort_of_text (codes "SPECIALNETS")) a b m good), net_open b said g (sort_of a))
nets standing said (a ∷ b ∷ c ∷ []) m good known named g = (λ e. absurd (headed_open (sort_of a) e), g)
nets standing said (a ∷ b ∷ c ∷ d ∷ u) m good known named g = (named, g)

net : Step (section_at 4)
net standing said [] m good known named g = (named, g)
net standing said (a ∷ []) m good known named g =
    (λ e. known refl, good_by (net_act standing.stage (sort_of a)) standing a _ (known refl) (good_noted standing.power _ said g))
net standing said (a ∷ b ∷ []) m good known named g = (named, g)
net standing said (a ∷ b ∷ c ∷ []) m good known named g = (λ e. absurd (headed_open (sort_of a) e), g)
net standing said (a ∷ b ∷ c ∷ d ∷ u) m good known named g = (named, g)

passed : Step (section_at 5)
passed standing said [] m good known named g = (named, g)
passed standing said (a ∷ []) m good known named g = (named, g)
passed standing said (a ∷ b ∷ []) m good known named g = (named, g)
passed standing said (a ∷ b ∷ c ∷ []) m good known named g = (λ e. absurd (headed_open (sort_of a) e), g)
passed standing said (a ∷ b ∷ c ∷ d ∷ u) m good known named g = (named, g)

ended : Step (section_at 6)
ended standing said [] m good known named g = (named, g)
ended standing said (a ∷ []) m good known named g = (named, g)
ended standing said (a ∷ b ∷ []) m good known named g = (named, g)
ended standing said (a ∷ b ∷ c ∷ []) m good known named g = (λ e. absurd (headed_open (sort_of a) e), g)
ended standing said (a ∷ b ∷ c ∷ d ∷ u) m good known named g = (named, g)

step : (section : Section) → Step section
step section = in_list Step all_sections (top, (vias, (via, (nets, (net, (passed, (ended, tt))))))) (section_number section) section (section_listed section)

-- ## all units

more_from : (heard : Heard) (units : List (List Token)) (unit : List Token) → heard_from heard (units ++ unit ∷ []) ≡ heard_after (heard_from heard units) unit
more_from heard [] unit = refl
more_from heard (u ∷ units) unit = more_from (heard_after heard u) units unit

heard_more : (units : List (List Token)) (unit : List Token) → heard_of (units ++ unit ∷ []) ≡ heard_after (heard_of units) unit
heard_more units unit = more_from _ units unit

all_said : (before units : List (List Token)) → Follows format before units → AreGood (joined units) → (heard : Heard) → heard ≡ heard_of before → Named heard.standing
    → Good heard.said → Good (heard_from heard units).said
all_said before [] follows good heard is named g = g
all_said before (u ∷ units) follows good heard is named g =
    let m : Matches sort_of (pattern (section_in heard.standing)) u =
    subst (λ (z : Heard). Matches sort_of (pattern (section_in z.standing)) u) (sym is) follows.1 in
    let next = step (section_in heard.standing) heard.standing heard.said u m (good-front u (joined units) good)
    (λ e. named (entry_in heard.standing.section heard.standing.passing e)) named g in
    all_said (before ++ u ∷ []) units follows.2 (good-rest u (joined units) good) (heard_after heard u) (ap (λ z. heard_after z u) is ∙ sym (heard_more before u))
    next.0 next.1

-- ## the record

nets_in_turn : (lines : List SaidNet) (nets : List WiredNet) → InTurn SaysNet lines nets → AllByRecursion (λ (net : SaidNet). HasName net.name) lines
    → AllByRecursion (λ (net : WiredNet). IsName net.name) nets
nets_in_turn [] [] says h = tt
nets_in_turn [] (net ∷ nets) says h = absurd says
nets_in_turn (line ∷ lines) [] says h = absurd says
nets_in_turn (line ∷ lines) (net ∷ nets) says h = (subst IsName (sym says.0.name) (name_is line.name h.0), nets_in_turn lines nets says.1 h.1)

vias_in_turn : (lines : List SaidVia) (vias : List ViaDef) → InTurn SaysVia lines vias → AllByRecursion (λ (via : SaidVia). HasName via.name) lines
    → AllByRecursion (λ (via : ViaDef). IsName via.name) vias
vias_in_turn [] [] says h = tt
vias_in_turn [] (via ∷ vias) says h = absurd says
vias_in_turn (line ∷ lines) [] says h = absurd says
vias_in_turn (line ∷ lines) (via ∷ vias) says h = (subst IsName (sym says.0.name) (name_is line.name h.0), vias_in_turn lines vias says.1 h.1)

-- What the record of a text names.
pub record Names (wires : Wires) : Type 0 where
  pub nets : All (λ (net : WiredNet). IsName net.name) wires.nets
  pub vias : All (λ (via : ViaDef). IsName via.name) wires.vias

pub names_are : (text : List ℕ) (wires : Wires) → ReadsWires text (Ok wires) → Names wires
names_are text wires (split, is, units, (heard, hears, read), says) =
    let good : AreGood heard.words = good_heard format (seen_text split) heard (length heard.words) hears (good_split text split is) in
    let said : Good (heard_of units).said =
    all_said [] units read.whole (subst AreGood read.is good) (heard_of []) refl (λ e. absurd (no_false e)) (record { vias = tt; nets = tt }) in
    record {
      nets = All-from_recursion (λ (net : WiredNet). IsName net.name) wires.nets (nets_in_turn (heard_of units).said.nets wires.nets says.nets said.nets);
      vias = All-from_recursion (λ (via : ViaDef). IsName via.name) wires.vias (vias_in_turn (heard_of units).said.vias wires.vias says.vias said.vias);
    }
