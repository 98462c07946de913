-- One more entry of lists that are made entry after entry.
use Rattle.std.proofs.Common.{◌≡◌, ℕ, zero, suc, ◌+◌, ◌<◌, ◌⊎◌, inl, inr, Bool, true, false, cond, ◌||◌, AllPairs, Bor, Bor, ◌↔◌, List, [], ◌∷◌, ◌++◌, Contains, length, take, drop, map, get_or, Option, Some, None, refl, sym, ◌∙◌, ap, subst, arith, add-one}
use Rattle.std.proofs.Math.Seq.{drop-cons}
use Rattle.std.specs.List.{filter_map, cons_option, list_any, position, position_from}
use Rattle.std.specs.Option.{option_to_list, is_some}
use Rattle.std.specs.Str.{bytes_eq}
use Rattle.std.proofs.lemmas.List.{take_more, append-nil}
use Rattle.std.proofs.lemmas.List.Elements.{filter_map-append, Contains-append_left, Contains-append_right, Contains-append_cases}
use Rattle.entry_list.specs.InTurn.{InTurn}
use Rattle.entry_list.specs.Laws.{in-turn-more}
use Rattle.geom_rect.specs.declared.rect.Rect.{Rect}
use Rattle.rail_layout.specs.declared.row.RowBox.{RowBox}
use Rattle.name_places.specs.Places.{place_of}
use Rattle.name_table.specs.Numbering.{TakesName}
use Rattle.pdn_script.specs.declared.record.Domain.{Domain}
use Rattle.grid_plan.specs.declared.record.GridAt.{GridAt}
use Rattle.std.specs.List.Sorted.{IsPermutation}
use Rattle.std.specs.Ordering.{is_gt}
use Rattle.std.proofs.lemmas.List.Sorted.{Contains-permutation, IsPermutation-sym}
use Rattle.def_design.specs.declared.record.Design.{Design}
use Rattle.grid_pieces.specs.declared.grid.DomainAt.{DomainAt}
use Rattle.grid_stacks.specs.declared.connect.Connect.{Connect}
use Rattle.name_table.specs.ByteOrder.{IsInByteOrder}
use Rattle.pdn_script.specs.declared.record.Script.{Script}
use Rattle.grid_plan.specs.declared.order.PlacedConnect.{PlacedConnect}
use Rattle.grid_pieces.specs.declared.error.DrawError.{DrawError}
use Rattle.grid_pieces.specs.declared.error.DrawError.TheVariants.{Want}
use Rattle.grid_plan.specs.Names.{Names, HaveNets, AreNets, domain_nets, powers_of}
use Rattle.grid_plan.specs.Order.{place_order}
use Rattle.grid_plan.specs.Planning.{stated_in, added_in, AreConnects, or_else}
use Rattle.grid_plan.specs.Resolved.{IsDomainAt, region_at}
use Rattle.grid_plan.specs.Regions.{regions_meet, paired, first_meeting_from, is_bare, first_bare_from}

-- ## kept entries

cons_none : {Y : Type 0} (o : Option Y) → cons_option o [] ≡ option_to_list o
cons_none None = refl
cons_none (Some y) = refl

kept_one : {X Y : Type 0} (h : X → Option Y) (x : X) (o : Option Y) → h x ≡ o → filter_map h (x ∷ []) ≡ option_to_list o
kept_one h x o e = cons_none (h x) ∙ ap option_to_list e

pub kept_more : {X Y : Type 0} (h : X → Option Y) (xs : List X) (i : ℕ) (e : X) (y : Y) → i < length xs → e ≡ get_or xs i e
    → h e ≡ Some y → filter_map h (take (i + 1) xs) ≡ filter_map h (take i xs) ++ y ∷ []
kept_more h xs i e y within is some = ap (filter_map h) (take_more xs i e within) ∙ filter_map-append h (take i xs) (get_or xs i e ∷ [])
    ∙ ap (λ ys. filter_map h (take i xs) ++ ys) (kept_one h (get_or xs i e) (Some y) (ap h (sym is) ∙ some))

pub kept_none : {X Y : Type 0} (h : X → Option Y) (xs : List X) (i : ℕ) (e : X) → i < length xs → e ≡ get_or xs i e
    → h e ≡ None → filter_map h (take (i + 1) xs) ≡ filter_map h (take i xs)
kept_none h xs i e within is none = ap (filter_map h) (take_more xs i e within) ∙ filter_map-append h (take i xs) (get_or xs i e ∷ [])
    ∙ ap (λ ys. filter_map h (take i xs) ++ ys) (kept_one h (get_or xs i e) None (ap h (sym is) ∙ none)) ∙ append-nil (filter_map h (take i xs))

-- ## entries in turn

pub turn_more : {L E : Type 0} (says : L → E → Type 0) (lines : List L) (entries : List E) (i : ℕ) (line : L) (entry : E) → i < length lines
    → line ≡ get_or lines i line → InTurn says (take i lines) entries → says line entry → InTurn says (take (i + 1) lines) (entries ++ entry ∷ [])
turn_more {L} {E} says lines entries i line entry within is turn said =
    subst (λ (ls : List L). InTurn says ls (entries ++ entry ∷ [])) (ap (λ (l : L). take i lines ++ l ∷ []) is ∙ sym (take_more lines i line within))
    (in-turn-more says (take i lines) entries line entry turn said)

-- ## the first domains

pub meeting_step : (regions : List (Option Rect)) (i : ℕ) (d : Option Rect) → i < length regions
    → position (regions_meet (get_or regions i d)) (drop (i + 1) regions) ≡ None
    → first_meeting_from i (drop i regions) ≡ first_meeting_from (i + 1) (drop (i + 1) regions)
meeting_step regions i d within none = ap (first_meeting_from i) (drop-cons regions i d within ∙ ap (λ k. get_or regions i d ∷ drop k regions) (sym (add-one i)))
    ∙ ap (λ o. paired i o (first_meeting_from (i + 1) (drop (i + 1) regions))) none

pub meeting_found : (regions : List (Option Rect)) (i j : ℕ) (d : Option Rect) → i < length regions
    → position (regions_meet (get_or regions i d)) (drop (i + 1) regions) ≡ Some j
    → first_meeting_from i (drop i regions) ≡ Some (i, i + 1 + j)
meeting_found regions i j d within found = ap (first_meeting_from i) (drop-cons regions i d within ∙ ap (λ k. get_or regions i d ∷ drop k regions) (sym (add-one i)))
    ∙ ap (λ o. paired i o (first_meeting_from (i + 1) (drop (i + 1) regions))) found

pub bare_step : (all : List (Option Rect)) (rows : List RowBox) (grids : List GridAt) (i : ℕ) (d : Option Rect) (b : Bool) → i < length all
    → is_bare all rows grids i (get_or all i d) ≡ b
    → first_bare_from all rows grids i (drop i all) ≡ cond b (Some i) (first_bare_from all rows grids (i + 1) (drop (i + 1) all))
bare_step all rows grids i d b within is = ap (first_bare_from all rows grids i) (drop-cons all i d within ∙ ap (λ k. get_or all i d ∷ drop k all) (sym (add-one i)))
    ∙ ap (λ z. cond z (Some i) (first_bare_from all rows grids (i + 1) (drop (i + 1) all))) is

-- ## names

some_or : (b : Bool) (k : ℕ) (o : Option ℕ) (z : Bool) → is_some o ≡ z → is_some (cond b (Some k) o) ≡ (b || z)
some_or true k o z h = refl
some_or false k o z h = h

place_some : {X : Type 0} (f : X → List ℕ) (q : List ℕ) (k : ℕ) (xs : List X)
    → is_some (position_from (λ (n : List ℕ). bytes_eq n q) k (map f xs)) ≡ list_any (λ (x : X). bytes_eq (f x) q) xs
place_some f q k [] = refl
place_some {X} f q k (x ∷ xs) = some_or (bytes_eq (f x) q) k (position_from (λ (n : List ℕ). bytes_eq n q) (k + 1) (map f xs))
    (list_any (λ (y : X). bytes_eq (f y) q) xs) (place_some f q (k + 1) xs)

-- A name is among those of entries exactly where an entry has it.
pub is_named_by : {X : Type 0} (f : X → List ℕ) (q : List ℕ) (xs : List X)
    → is_some (place_of (map f xs) q) ≡ list_any (λ (x : X). bytes_eq (f x) q) xs
is_named_by f q xs = place_some f q 0 xs

-- What a table has after a name was asked for.
pub takes : (old new : List (List ℕ)) (name q : List ℕ) → TakesName old new name → Contains new q ↔ (Contains old q ⊎ (name ≡ q))
takes old new name q (inl (there, e)) = (λ h. inl (subst (λ (ns : List (List ℕ)). Contains ns q) e h), back)
  where
    back : Contains old q ⊎ (name ≡ q) → Contains new q
    back (inl h) = subst (λ (ns : List (List ℕ)). Contains ns q) (sym e) h
    back (inr same) = subst (λ (ns : List (List ℕ)). Contains ns q) (sym e) (subst (λ (n : List ℕ). Contains old n) same there)
takes old new name q (inr (none, e)) = (λ h. forth (Contains-append_cases old (name ∷ []) q (subst (λ (ns : List (List ℕ)). Contains ns q) e h)), back)
  where
    one : Contains (name ∷ []) q → name ≡ q
    one (zero, h, same) = same
    one (suc k, h, same) = absurd (omega arith)

    forth : Contains old q ⊎ Contains (name ∷ []) q → Contains old q ⊎ (name ≡ q)
    forth (inl h) = inl h
    forth (inr h) = inr (one h)

    back : Contains old q ⊎ (name ≡ q) → Contains new q
    back (inl h) = subst (λ (ns : List (List ℕ)). Contains ns q) (sym e) (Contains-append_left old (name ∷ []) q h)
    back (inr same) = subst (λ (ns : List (List ℕ)). Contains ns q) (sym e) (Contains-append_right old (name ∷ []) q (0, omega arith, same))

-- The powers among nets, by their table.
pub powers_from : {X N : Type 0} (f : X → List ℕ) (xs : List X) (now : N → List ℕ) (nets : List N)
    → map (λ (n : N). is_some (place_of (map f xs) (now n))) nets ≡ map (λ (q : List ℕ). list_any (λ (x : X). bytes_eq (f x) q) xs) (map now nets)
powers_from f xs now [] = refl
powers_from {X} {N} f xs now (n ∷ nets) =
    ap (λ b. b ∷ map (λ (m : N). is_some (place_of (map f xs) (now m))) nets) (is_named_by f (now n) xs)
    ∙ ap (λ bs. list_any (λ (x : X). bytes_eq (f x) (now n)) xs ∷ bs) (powers_from f xs now nets)

-- The nets of one more domain.
pub nets_more : (domains : List Domain) (i : ℕ) (e : Domain) (none one two : List (List ℕ)) → i < length domains → e ≡ get_or domains i e
    → HaveNets (take i domains) none → TakesName none one e.power → TakesName one two e.ground → HaveNets (take (i + 1) domains) two
nets_more domains i e none one two within is have first second name = (λ h. forth ((takes one two e.ground name second).0 h), back)
  where
    longer : take (i + 1) domains ≡ take i domains ++ e ∷ []
    longer = take_more domains i e within ∙ ap (λ (d : Domain). take i domains ++ d ∷ []) (sym is)

    OfOne : Type 0
    OfOne = (d : Domain) × Contains (take (i + 1) domains) d × Contains (domain_nets d) name

    last : Contains (domain_nets e) name → OfOne
    last h = (e, subst (λ (ds : List Domain). Contains ds e) (sym longer) (Contains-append_right (take i domains) (e ∷ []) e (0, omega arith, refl)), h)

    before : Contains none name → OfOne
    before h = let (d, there, has) = (have name).0 h in (d, subst (λ (ds : List Domain). Contains ds d) (sym longer) (Contains-append_left (take i domains) (e ∷ []) d there), has)

    middle : Contains none name ⊎ (e.power ≡ name) → OfOne
    middle (inl h) = before h
    middle (inr same) = last (0, omega arith, same)

    forth : Contains one name ⊎ (e.ground ≡ name) → OfOne
    forth (inl h) = middle ((takes none one e.power name first).0 h)
    forth (inr same) = last (1, omega arith, same)

    named : Contains (domain_nets e) name → Contains two name
    named (zero, within, same) = (takes one two e.ground name second).1 (inl ((takes none one e.power name first).1 (inr same)))
    named (suc zero, within, same) = (takes one two e.ground name second).1 (inr same)
    named (suc (suc k), within, same) = absurd (omega arith)

    by_domain : (d : Domain) → Contains (domain_nets d) name → Contains (take i domains) d ⊎ Contains (e ∷ []) d → Contains two name
    by_domain d has (inl there) = (takes one two e.ground name second).1 (inl ((takes none one e.power name first).1 (inl ((have name).1 (d, there, has)))))
    by_domain d has (inr (zero, within, same)) = named (subst (λ (x : Domain). Contains (domain_nets x) name) (sym same) has)
    by_domain d has (inr (suc k, within, same)) = absurd (omega arith)

    back : OfOne → Contains two name
    back (d, there, has) = by_domain d has (Contains-append_cases (take i domains) (e ∷ []) d (subst (λ (ds : List Domain). Contains ds d) longer there))

-- What a table in byte order has.
pub are_nets : (script : Script) (table ordered nets : List (List ℕ)) → IsPermutation table ordered → IsInByteOrder ordered
    → HaveNets script.domains table → nets ≡ ordered → AreNets script nets
are_nets script table ordered nets same order have is = subst (AreNets script) (sym is) (record {
  in_order = order;
  are = λ name. (
    (λ h. (have name).0 (Contains-permutation ordered table name (IsPermutation-sym table ordered same) h)),
    (λ h. Contains-permutation table ordered name same ((have name).1 h)),
  );
})

-- The connects in their order.
pub are_connects : (names : Names) (script : Script) (stated all placed : List PlacedConnect) (connects : List Connect)
    → stated ≡ [] ++ stated_in names script.connects → all ≡ stated ++ added_in names script.rings → IsPermutation all placed
    → AllPairs (λ (a b : PlacedConnect). is_gt (place_order a.place b.place) ≡ false) placed
    → connects ≡ map (λ (c : PlacedConnect). c.connect) placed → AreConnects names script connects
are_connects names script stated all placed connects first more same order are = record {
  placed = placed;
  same = subst (λ (xs : List PlacedConnect). IsPermutation xs placed) (more ∙ ap (λ (xs : List PlacedConnect). xs ++ added_in names script.rings) first) same;
  in_order = order;
  are = are;
}

-- The regions of the domains of a plan.
pub regions_turn : (names : Names) (nets : List (List ℕ)) (design : Design) (domains : List Domain) (ats : List DomainAt)
    → InTurn (IsDomainAt names nets design) domains ats
    → map (λ (at : DomainAt). at.region) ats ≡ map (λ (d : Domain). region_at names design d.region) domains
regions_turn names nets design [] [] turn = refl
regions_turn names nets design (d ∷ domains) (at ∷ ats) turn =
    ap (λ r. r ∷ map (λ (a : DomainAt). a.region) ats) turn.0.region
    ∙ ap (λ rs. region_at names design d.region ∷ rs) (regions_turn names nets design domains ats turn.1)
regions_turn names nets design [] (at ∷ ats) turn = absurd turn
regions_turn names nets design (d ∷ domains) [] turn = absurd turn

-- The powers among the nets of a table.
pub powers_are : (script : Script) (table nets : List (List ℕ)) (names : List (Bor (List ℕ))) (power : List Bool)
    → table ≡ map (λ (domain : Domain). domain.power) script.domains → map (λ (n : Bor (List ℕ)). n.now) names ≡ nets
    → power ≡ map (λ (n : Bor (List ℕ)). is_some (place_of table n.now)) names → power ≡ powers_of script nets
powers_are script table nets names power of_table of_nets is =
    is ∙ ap (λ (t : List (List ℕ)). map (λ (n : Bor (List ℕ)). is_some (place_of t n.now)) names) of_table
    ∙ powers_from (λ (domain : Domain). domain.power) script.domains (λ (n : Bor (List ℕ)). n.now) names
    ∙ ap (powers_of script) of_nets

-- The last of three refuses.
pub last_refuses : (a b c : Option DrawError) (e : DrawError) → a ≡ None → b ≡ None → (e ≡ Want) ⊎ (c ≡ Some e)
    → (e ≡ Want) ⊎ (or_else a (or_else b c) ≡ Some e)
last_refuses a b c e first second (inl want) = inl want
last_refuses a b c e first second (inr is) =
    inr (ap (λ o. or_else o (or_else b c)) first ∙ ap (λ o. or_else o c) second ∙ is)

pub nets_are : (script : Script) (table nets : List (List ℕ)) → HaveNets script.domains table → IsPermutation table nets → IsInByteOrder nets → AreNets script nets
nets_are script table nets have same order = are_nets script table nets nets same order have refl
