-- Lines and the changes that they say.
use Rattle.std.proofs.Common.{◌≡◌, ◌↔◌, IsTrue, ℕ, zero, suc, ◌+◌, ◌-◌, ◌<◌, ◌≤◌, Bool, true, false, cond, List, [], ◌∷◌, length, map, get_or, slice_get, Contains, Bor, Option, Some, None, inl, inr, refl, sym, ◌∙◌, ap, subst, arith}
use Rattle.std.specs.Prelude.{option_copied}
use Rattle.std.specs.List.{position_from}
use Rattle.std.specs.Str.{bytes_eq}
use Rattle.std.proofs.lemmas.Bool.{true≢false}
use Rattle.std.proofs.lemmas.Slice.Eq.{bytes_eq-Decides}
use Rattle.entry_list.specs.InTurn.{InTurn}
use Rattle.name_places.specs.Places.{place_of}
use Rattle.name_table.specs.Laws.{member_cases, member_head, member_tail}
use Rattle.reading.specs.Word.{Token}
use Rattle.wave_file.specs.declared.record.Change.{Change}
use Rattle.wave_file.specs.declared.spots.Spot.{Spot}
use Rattle.wave_file.specs.declared.held.Held.{Held}
use Rattle.wave_file.specs.Rule.{lines, step_on, name_on}
use Rattle.wave_file.specs.Number.{IsStep}
use Rattle.wave_file.specs.Record.{SaysChange}
use Rattle.wave_file.specs.Fault.{last_line, FallsBelow, IsTwice}
use Rattle.wave_file.specs.inside.Held.{Holds, spot_of}
use Rattle.wave_file.proofs.Numbers.{HasOne, one_step}

-- ## places of names

no_member : {X : Type 0} (x : X) → Contains [] x → ⊥
no_member x (k, h, e) = omega arith

-- The first place from i on is that of the name, and is below the end of the list.
abbrev IsPlace : ℕ → List (List ℕ) → List ℕ → ℕ → Type 0
IsPlace i names name n = (i ≤ n) × (n < i + length names) × (get_or names (n - i) [] ≡ name)

place_by : (i : ℕ) (x : List ℕ) (xs : List (List ℕ)) (name : List ℕ) (n : ℕ) (b : Bool) → bytes_eq x name ≡ b → position_from (λ (other : List ℕ). bytes_eq other name) i (x ∷ xs) ≡ Some n →
    (position_from (λ (other : List ℕ). bytes_eq other name) (i + 1) xs ≡ Some n → IsPlace (i + 1) xs name n) → IsPlace i (x ∷ xs) name n
place_by i x xs name n true t e more =
    let s : Some i ≡ Some n = sym (ap (λ z. cond z (Some i) (position_from (λ (other : List ℕ). bytes_eq other name) (i + 1) xs)) t) ∙ e in
    let here : i ≡ n = cc in
    let none : n - i ≡ 0 = omega arith in
    (omega arith, omega arith, ap (λ z. get_or (x ∷ xs) z []) none ∙ (bytes_eq-Decides x name).0 t)
place_by i x xs name n false t e more =
    let found = more (sym (ap (λ z. cond z (Some i) (position_from (λ (other : List ℕ). bytes_eq other name) (i + 1) xs)) t) ∙ e) in
    let from : i + 1 ≤ n = found.0 in
    let below : n < i + 1 + length xs = found.1 in
    let next : n - i ≡ suc (n - (i + 1)) = omega arith in
    (omega arith, omega arith, ap (λ z. get_or (x ∷ xs) z []) next ∙ found.2)

place_found : (i : ℕ) (names : List (List ℕ)) (name : List ℕ) (n : ℕ) → position_from (λ (other : List ℕ). bytes_eq other name) i names ≡ Some n → IsPlace i names name n
place_found i [] name n e = absurd (let t : None ≡ Some n = e in cc)
place_found i (x ∷ xs) name n e = place_by i x xs name n (bytes_eq x name) refl e (place_found (i + 1) xs name n)

pub place_below : (names : List (List ℕ)) (name : List ℕ) (n : ℕ) → place_of names name ≡ Some n → n < length names
place_below names name n e = let found = (place_found 0 names name n e).1 in omega arith

place_is : (names : List (List ℕ)) (name : List ℕ) (n : ℕ) → place_of names name ≡ Some n → get_or names n [] ≡ name
place_is names name n e =
    let same : n - 0 ≡ n = omega arith in
    sym (ap (λ z. get_or names z []) same) ∙ (place_found 0 names name n e).2

-- A name with a place is one of the names, and one name at most has a place.
member_at : (xs : List (List ℕ)) (k : ℕ) → k < length xs → Contains xs (get_or xs k [])
member_at [] k h = absurd (omega arith)
member_at (x ∷ xs) zero h = member_head x xs
member_at (x ∷ xs) (suc k) h = member_tail x xs (get_or xs k []) (member_at xs k (omega arith))

pub placed : (names : List (List ℕ)) (name : List ℕ) (n : ℕ) → place_of names name ≡ Some n → Contains names name
placed names name n e = subst (Contains names) (place_is names name n e) (member_at names n (place_below names name n e))

pub same_place : (names : List (List ℕ)) (a b : List ℕ) (n : ℕ) → place_of names a ≡ Some n → place_of names b ≡ Some n → a ≡ b
same_place names a b n e f = sym (place_is names a n e) ∙ place_is names b n f

none_placed_by : (i : ℕ) (x : List ℕ) (xs : List (List ℕ)) (name : List ℕ) (b : Bool) → bytes_eq x name ≡ b → position_from (λ (other : List ℕ). bytes_eq other name) i (x ∷ xs) ≡ None →
    (position_from (λ (other : List ℕ). bytes_eq other name) (i + 1) xs ≡ None → Contains xs name → ⊥) → Contains (x ∷ xs) name → ⊥
none_placed_by i x xs name true t e more there =
    let s : Some i ≡ None = sym (ap (λ z. cond z (Some i) (position_from (λ (other : List ℕ). bytes_eq other name) (i + 1) xs)) t) ∙ e in cc
none_placed_by i x xs name false t e more there = elim (member_cases x xs name there) [
  | inl same ↦ true≢false (sym ((bytes_eq-Decides x name).1 same) ∙ t)
  | inr after ↦ more (sym (ap (λ z. cond z (Some i) (position_from (λ (other : List ℕ). bytes_eq other name) (i + 1) xs)) t) ∙ e) after
]

no_place : (i : ℕ) (names : List (List ℕ)) (name : List ℕ) → position_from (λ (other : List ℕ). bytes_eq other name) i names ≡ None → Contains names name → ⊥
no_place i [] name e there = no_member name there
no_place i (x ∷ xs) name e there = none_placed_by i x xs name (bytes_eq x name) refl e (no_place (i + 1) xs name) there

-- A name without a place is none of the names.
pub not_placed : (names : List (List ℕ)) (name : List ℕ) → place_of names name ≡ None → Contains names name → ⊥
not_placed names name e = no_place 0 names name e

-- ## what a line says

pub says_step : (names : List (List ℕ)) (line : List Token) (change : Change) → SaysChange names line change → IsStep (step_on line) change.step
says_step names (first ∷ step ∷ name ∷ value ∷ stop ∷ []) change h = h.0
says_step names (first ∷ step ∷ name ∷ low ∷ high ∷ stop ∷ []) change h = h.0
says_step names line change h = absurd h

pub says_place : (names : List (List ℕ)) (line : List Token) (change : Change) → SaysChange names line change → place_of names (name_on line) ≡ Some change.node
says_place names (first ∷ step ∷ name ∷ value ∷ stop ∷ []) change h = h.1
says_place names (first ∷ step ∷ name ∷ low ∷ high ∷ stop ∷ []) change h = h.1
says_place names line change h = absurd h

-- ## the last line

abbrev pub last_change : List Change → Option Change
last_change [] = None
last_change (change ∷ []) = Some change
last_change (change ∷ next ∷ more) = last_change (next ∷ more)

last_at : (xs : List Change) (n : ℕ) (x : Change) → n + 1 ≡ length xs → slice_get xs n ≡ Some x → last_change xs ≡ Some x
last_at [] n w h e = cc
last_at (x ∷ []) zero w h e = let same : x ≡ w = cc in ap (λ z. Some z) same
last_at (x ∷ []) (suc n) w h e = absurd (omega arith)
last_at (x ∷ y ∷ xs) zero w h e = absurd (omega arith)
last_at (x ∷ y ∷ xs) (suc n) w h e = last_at (y ∷ xs) n w (omega arith) e

last_is : (xs : List Change) (x : Change) → slice_get xs (length xs - 1) ≡ Some x → last_change xs ≡ Some x
last_is [] w e = cc
last_is (x ∷ xs) w e = last_at (x ∷ xs) (length (x ∷ xs) - 1) w (omega arith) e

pub last_some : (xs : List Change) (x : Bor Change) → option_copied (Some x) ≡ slice_get xs (length xs - 1) → last_change xs ≡ Some x.now
last_some xs x e = last_is xs x.now (sym e)

some_at : (xs : List Change) (n : ℕ) → n < length xs → slice_get xs n ≡ None → ⊥
some_at [] n h e = omega arith
some_at (x ∷ xs) zero h e = cc
some_at (x ∷ xs) (suc n) h e = some_at xs n (omega arith) e

none_of : (xs : List Change) → slice_get xs (length xs - 1) ≡ None → xs ≡ []
none_of [] e = refl
none_of (x ∷ xs) e = absurd (some_at (x ∷ xs) (length (x ∷ xs) - 1) (omega arith) e)

pub last_none : (xs : List Change) → None ≡ slice_get xs (length xs - 1) → last_change xs ≡ None
last_none xs e = ap last_change (none_of xs (sym e))

abbrev LastSays : List (List ℕ) → Option (List Token) → Option Change → Type 0
LastSays names None None = Unit {0}
LastSays names (Some line) (Some change) = SaysChange names line change
LastSays names _ _ = ⊥

turn_last : (names : List (List ℕ)) (ls : List (List Token)) (cs : List Change) → InTurn (SaysChange names) ls cs → LastSays names (last_line ls) (last_change cs)
turn_last names [] [] h = tt
turn_last names (l ∷ []) (c ∷ []) h = h.0
turn_last names (l ∷ m ∷ ls) (c ∷ d ∷ cs) h = turn_last names (m ∷ ls) (d ∷ cs) h.1
turn_last names (l ∷ []) (c ∷ d ∷ cs) h = absurd h.1
turn_last names (l ∷ m ∷ ls) (c ∷ []) h = absurd h.1
turn_last names [] (c ∷ cs) h = absurd h
turn_last names (l ∷ ls) [] h = absurd h

line_is : (a b : List Token) → Some a ≡ Some b → a ≡ b
line_is a b e = cc

-- A step below that of the last change falls.
falls_by : (names : List (List ℕ)) (units : List (List Token)) (text : List ℕ) (k : ℕ) (change : Change) (last : Option (List Token)) →
    last_line (lines units) ≡ last → LastSays names last (Some change) → IsStep text k → k < change.step → FallsBelow units text
falls_by names units text k change None e h is below = absurd h
falls_by names units text k change (Some line) e h is below = (k, is, line, e, change.step, says_step names line change h, below)

last_of : (names : List (List ℕ)) (units : List (List Token)) (held : Held) (last : Option Change) → Holds names units held → last_change held.changes.items ≡ last → LastSays names (last_line (lines units)) last
last_of names units held last h e = subst (LastSays names (last_line (lines units))) e (turn_last names (lines units) held.changes.items h.changes)

pub falls_if : (names : List (List ℕ)) (units : List (List Token)) (held : Held) (text : List ℕ) (k : ℕ) (change : Change) → Holds names units held →
    last_change held.changes.items ≡ Some change → IsStep text k → k < change.step → FallsBelow units text
falls_if names units held text k change h e is below = falls_by names units text k change (last_line (lines units)) refl (last_of names units held (Some change) h e) is below

-- A step that falls is below that of the last change.
below_by : HasOne → (names : List (List ℕ)) (text : List ℕ) (k before : ℕ) (line : List Token) (change : Change) (last : Option (List Token)) →
    last ≡ Some line → LastSays names last (Some change) → IsStep (step_on line) before → k < before → k < change.step
below_by one names text k before line change None e h is below = absurd h
below_by one names text k before line change (Some found) e h is below =
    let same = line_is found line e in
    subst (λ z. k < z) (one_step one (step_on line) before change.step is (says_step names line change (subst (λ z. SaysChange names z change) same h))) below

pub below_told : HasOne → (names : List (List ℕ)) (units : List (List Token)) (held : Held) (text : List ℕ) (k : ℕ) (change : Change) (less : Bool) → Holds names units held →
    last_change held.changes.items ≡ Some change → IsStep text k → IsTrue less ↔ (k < change.step) → IsTrue less ↔ FallsBelow units text
below_told one names units held text k change less h e is tells = (
  (λ t. falls_if names units held text k change h e is (tells.0 t)),
  (λ f.
      let now : f.0 ≡ k = one_step one text f.0 k f.1 is in
      tells.1 (subst (λ z. z < change.step) now (below_by one names text f.0 f.4 f.2 change (last_line (lines units)) f.3 (last_of names units held (Some change) h e) f.5 f.6))),
)

none_by : (names : List (List ℕ)) (last : Option (List Token)) (line : List Token) → last ≡ Some line → LastSays names last None → ⊥
none_by names None line e h = cc
none_by names (Some l) line e h = h

pub none_below : (names : List (List ℕ)) (units : List (List Token)) (held : Held) (text : List ℕ) → Holds names units held →
    last_change held.changes.items ≡ None → FallsBelow units text → ⊥
none_below names units held text h e f =
    none_by names (last_line (lines units)) f.2 f.3 (last_of names units held None h e)

-- ## where changes stand

abbrev spot : ℕ → ℕ → Spot
spot step node = record { step = step; node = node }

same_spot : (a b c d : ℕ) → a ≡ b → c ≡ d → spot a c ≡ spot b d
same_spot a b c d e f = ap (λ z. spot z c) e ∙ ap (λ z. spot b z) f

node_is : (m n : ℕ) → Some m ≡ Some n → m ≡ n
node_is m n h = cc

-- Of a spot that is there a line tells.
abbrev Tells : List (List ℕ) → List (List Token) → ℕ → ℕ → Type 0
Tells names ls k n = (line : List Token) × Contains ls line × IsStep (step_on line) k × (place_of names (name_on line) ≡ Some n)

spot_there : (names : List (List ℕ)) (ls : List (List Token)) (cs : List Change) (k n : ℕ) → InTurn (SaysChange names) ls cs → Contains (map spot_of cs) (spot k n) → Tells names ls k n
spot_there names [] [] k n h there = absurd (no_member (spot k n) there)
spot_there names (l ∷ ls) (c ∷ cs) k n h there = elim (member_cases (spot_of c) (map spot_of cs) (spot k n) there) [
  | inl e ↦ (l, member_head l ls, subst (IsStep (step_on l)) (ap (λ (z : Spot). z.step) e) (says_step names l c h.0), says_place names l c h.0 ∙ ap (λ (z : Spot). Some z.node) e)
  | inr more ↦ let t = spot_there names ls cs k n h.1 more in (t.0, member_tail l ls t.0 t.1, t.2, t.3)
]
spot_there names [] (c ∷ cs) k n h there = absurd h
spot_there names (l ∷ ls) [] k n h there = absurd h

spot_back : HasOne → (names : List (List ℕ)) (ls : List (List Token)) (cs : List Change) (line : List Token) (k n : ℕ) → InTurn (SaysChange names) ls cs → Contains ls line →
    IsStep (step_on line) k → place_of names (name_on line) ≡ Some n → Contains (map spot_of cs) (spot k n)
spot_back one names [] [] line k n h there is place = absurd (no_member line there)
spot_back one names (l ∷ ls) (c ∷ cs) line k n h there is place = elim (member_cases l ls line there) [
  | inl e ↦
      let step = one_step one (step_on l) c.step k (says_step names l c h.0) (subst (λ z. IsStep (step_on z) k) (sym e) is) in
      let node = node_is c.node n (sym (says_place names l c h.0) ∙ ap (λ z. place_of names (name_on z)) e ∙ place) in
      subst (Contains (map spot_of (c ∷ cs))) (same_spot c.step k c.node n step node) (member_head (spot_of c) (map spot_of cs))
  | inr more ↦ member_tail (spot_of c) (map spot_of cs) (spot k n) (spot_back one names ls cs line k n h.1 more is place)
]
spot_back one names [] (c ∷ cs) line k n h there is place = absurd h
spot_back one names (l ∷ ls) [] line k n h there is place = absurd h

-- Where a spot is held, a line before has its step and its name.
pub twice_if : (names : List (List ℕ)) (units : List (List Token)) (held : Held) (text name : List ℕ) (k n : ℕ) → Holds names units held →
    IsStep text k → place_of names name ≡ Some n → Contains held.spots (spot k n) → IsTwice units text name
twice_if names units held text name k n h is place there =
    let line = spot_there names (lines units) held.changes.items k n h.changes (subst (λ z. Contains z (spot k n)) h.spots there) in
    (k, is, line.0, line.1, line.2, same_place names (name_on line.0) name n line.3 place)

pub twice_told : HasOne → (names : List (List ℕ)) (units : List (List Token)) (held : Held) (text name : List ℕ) (k n : ℕ) (there : Bool) → Holds names units held →
    IsStep text k → place_of names name ≡ Some n → IsTrue there ↔ Contains held.spots (spot k n) → IsTrue there ↔ IsTwice units text name
twice_told one names units held text name k n there h is place tells = (
  (λ t. twice_if names units held text name k n h is place (tells.0 t)),
  (λ w.
      let now : w.0 ≡ k = one_step one text w.0 k w.1 is in
      tells.1 (subst (λ z. Contains z (spot k n)) (sym h.spots)
      (spot_back one names (lines units) held.changes.items w.2 k n h.changes w.3 (subst (IsStep (step_on w.2)) now w.4) (ap (place_of names) w.5 ∙ place)))),
)
