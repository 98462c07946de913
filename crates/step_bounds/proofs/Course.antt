-- The loads from step to step.
use Rattle.std.proofs.Common.{◌≡◌, ◌≢◌, ℕ, zero, suc, ◌+◌, ◌-◌, ◌<◌, ◌≤◌, inl, inr, pos, arith, refl, sym, ap, ◌∙◌, List, [], ◌∷◌, ◌++◌, length, get_or, take, drop, set, map, append-nil, subst, Bool, true, false, cond, eqb, eqb-true, eq-eqb, leb}
use Rattle.std.specs.List.{slice_range}
use Rattle.std.specs.List.Sorted.{IsNonDecreasing}
use Rattle.std.proofs.lemmas.Bool.{cases_eq}
use Rattle.std.proofs.lemmas.Bool.Decides.{nat_tests}
use Rattle.std.proofs.lemmas.List.{take_all, take_more, get_or-set_same, get_or-set_other, length-set}
use Rattle.std.proofs.lemmas.List.FromFn.{length-map-range_with_len, get_or-map-range_with_len, fill_by_all}
use Rattle.grid_net.specs.declared.part.Load.{Load}
use Rattle.grid_net.specs.declared.part.LoadRange.{LoadRange}
use Rattle.grid_net.specs.Network.{Network, load_range}
use Rattle.wave_file.specs.declared.record.Change.{Change}
use Rattle.step_bounds.specs.Changes.{range_after, changes_until, load_entry, step_loads}
use Rattle.step_bounds.specs.inside.Loads.{loads_after, IsEnd}

-- Changes one after the other.
pub after_both : (cs ds : List Change) (i : ℕ) (r : LoadRange) → range_after (cs ++ ds) i r ≡ range_after ds i (range_after cs i r)
after_both [] ds i r = refl
after_both (c ∷ cs) ds i r = after_both cs ds i (cond (eqb c.node i) (record { low = c.low; high = c.high }) r)

abbrev none : Load
none = record { node = 0; low = pos 0; high = pos 0 }

-- One more change.
module _ (f : ℕ → LoadRange) (cs : List Change) (k : ℕ) (d : Change) (in_list : k < length cs) (n : ℕ) (ls : List Load)
    (so_far : ls ≡ loads_after f (take k cs) n) (at_node : (get_or cs k d).node < n) where
  abbrev c : Change
  c = get_or cs k d

  abbrev told : Load
  told = record { node = c.node; low = c.low; high = c.high }

  later : (i : ℕ) → range_after (take (k + 1) cs) i (f i) ≡ cond (eqb c.node i) (record { low = c.low; high = c.high }) (range_after (take k cs) i (f i))
  later i = ap (λ (ds : List Change). range_after ds i (f i)) (take_more cs k d in_list) ∙ after_both (take k cs) (c ∷ []) i (f i)

  long : length ls ≡ n
  long = ap length so_far ∙ length-map-range_with_len (load_entry (λ i. range_after (take k cs) i (f i))) 0 n

  apart : (a b : ℕ) (x y : LoadRange) → a ≢ b → cond (eqb a b) x y ≡ y
  apart a b x y ne = by_test (eqb a b) refl
    where
      by_test : (t : Bool) → eqb a b ≡ t → cond t x y ≡ y
      by_test true e = absurd (ne (eqb-true a b e))
      by_test false e = refl

  entry : (i : ℕ) → i < n → get_or (set ls c.node told) i none ≡ load_entry (λ j. range_after (take (k + 1) cs) j (f j)) i
  entry i l = elim (cases_eq i c.node) [
    | inl e ↦ (
        let here : range_after (take (k + 1) cs) i (f i) ≡ record { low = c.low; high = c.high } =
        later i ∙ ap (λ (b : Bool). cond b (record { low = c.low; high = c.high }) (range_after (take k cs) i (f i))) (eq-eqb c.node i (sym e)) in
        ap (λ (j : ℕ). get_or (set ls c.node told) j none) e
        ∙ get_or-set_same ls c.node told none (omega (arith, long, at_node))
        ∙ ap (λ (r : LoadRange). record { node = c.node; low = r.low; high = r.high }) (sym here)
        ∙ ap (λ (j : ℕ). record { node = j; low = (range_after (take (k + 1) cs) i (f i)).low; high = (range_after (take (k + 1) cs) i (f i)).high }) (sym e))
    | inr ne ↦ (
        let here : range_after (take (k + 1) cs) i (f i) ≡ range_after (take k cs) i (f i) =
        later i ∙ apart c.node i (record { low = c.low; high = c.high }) (range_after (take k cs) i (f i)) (λ same. ne (sym same)) in
        get_or-set_other ls c.node i told none ne
        ∙ ap (λ (ms : List Load). get_or ms i none) so_far
        ∙ get_or-map-range_with_len (load_entry (λ j. range_after (take k cs) j (f j))) 0 n i i none l (omega arith)
        ∙ ap (λ (r : LoadRange). record { node = i; low = r.low; high = r.high }) (sym here))
  ]

  pub apply_next : set ls c.node told ≡ loads_after f (take (k + 1) cs) n
  apply_next = fill_by_all (load_entry (λ j. range_after (take (k + 1) cs) j (f j))) (set ls c.node told) n none
      (length-set ls c.node told ∙ long) entry

nil_of : {X : Type 0} (m : ℕ) → ◌≡◌ {A = List X} (take m []) []
nil_of zero = refl
nil_of (suc m) = refl

-- The changes up to a place, and then those up to a later one.
pub pieces : {X : Type 0} (xs : List X) (a b : ℕ) → a ≤ b → take a xs ++ slice_range xs a b ≡ take b xs
pieces xs zero b l = ap (λ (m : ℕ). take m xs) (let e : b - 0 ≡ b = omega arith in e)
pieces {X = X} [] (suc a) b l = nil_of {X = X} (b - suc a) ∙ sym (nil_of {X = X} b)
pieces (x ∷ xs) (suc a) zero l = absurd (omega arith)
pieces (x ∷ xs) (suc a) (suc b) l = ap (λ ys. x ∷ ys)
    (ap (λ (m : ℕ). take a xs ++ take m (drop a xs)) (let e : suc b - suc a ≡ b - a = omega arith in e) ∙ pieces xs a b (omega arith))

pub after_pieces : (f : ℕ → LoadRange) (cs : List Change) (a b n : ℕ) → a ≤ b
    → loads_after (λ i. range_after (take a cs) i (f i)) (slice_range cs a b) n ≡ loads_after f (take b cs) n
after_pieces f cs a b n l =
    fill_by_all (load_entry (λ i. range_after (take b cs) i (f i))) (loads_after (λ i. range_after (take a cs) i (f i)) (slice_range cs a b) n) n none
    (length-map-range_with_len (load_entry (λ i. range_after (slice_range cs a b) i (range_after (take a cs) i (f i)))) 0 n)
    (λ i h.
    get_or-map-range_with_len (load_entry (λ i. range_after (slice_range cs a b) i (range_after (take a cs) i (f i)))) 0 n i i none h (omega arith)
    ∙ ap (λ (r : LoadRange). record { node = i; low = r.low; high = r.high })
    (sym (after_both (take a cs) (slice_range cs a b) i (f i)) ∙ ap (λ (ds : List Change). range_after ds i (f i)) (pieces cs a b l)))

-- ---- the changes of a step
step_at : (cs : List Change) (k : ℕ) (d : Change) (z : ℕ) → k < length cs → get_or (map (λ c. c.step) cs) k z ≡ (get_or cs k d).step
step_at [] k d z l = absurd (omega arith)
step_at (c ∷ cs) zero d z l = refl
step_at (c ∷ cs) (suc k) d z l = step_at cs k d z (omega arith)

length_steps : (cs : List Change) → length (map (λ c. c.step) cs) ≡ length cs
length_steps [] = refl
length_steps (c ∷ cs) = ap suc (length_steps cs)

-- Where one change is of a later step, so is each after it.
pub later_above : (cs : List Change) → IsNonDecreasing (map (λ c. c.step) cs) → (step end : ℕ) (e : Change) → end < length cs
    → step < (get_or cs end e).step → (k : ℕ) (d : Change) → end ≤ k → k < length cs → step < (get_or cs k d).step
later_above cs up step end e l h k d le m =
    let r = up end k 0 le (omega (arith, m, length_steps cs)) in
    let a = step_at cs end e 0 l in
    let b = step_at cs k d 0 m in
    omega (arith, r, a, b, h)

-- The first so many changes are those of a step that is at most this one.
pub until_is : (cs : List Change) (step end : ℕ) → IsEnd cs step end → take end cs ≡ changes_until cs step
until_is [] step zero h = refl
until_is [] step (suc end) h = absurd (let l = h.within in omega arith)
until_is (c ∷ cs) step zero h =
    none_kept (c ∷ cs) (λ k d l. h.above k d (omega arith) l)
  where
    no : (a b : ℕ) → b < a → leb a b ≡ false
    no a b l = grind (arith, nat_tests)

    none_kept : (ds : List Change) → ((k : ℕ) (d : Change) → k < length ds → step < (get_or ds k d).step) → [] ≡ changes_until ds step
    none_kept [] later = refl
    none_kept (d ∷ ds) later =
        none_kept ds (λ k e l. later (suc k) e (omega arith))
        ∙ ap (λ (b : Bool). cond b (d ∷ changes_until ds step) (changes_until ds step)) (sym (no d.step step (later 0 d (omega arith))))
until_is (c ∷ cs) step (suc end) h =
    ap (λ ds. c ∷ ds) (until_is cs step end (record {
      within = (let l = h.within in omega arith);
      below = λ k d l. h.below (suc k) d (omega arith);
      above = λ k d g l. h.above (suc k) d (omega arith) (omega arith);
    }))
    ∙ ap (λ (b : Bool). cond b (c ∷ changes_until cs step) (changes_until cs step)) (sym (yes c.step step (h.below 0 c (omega arith))))
  where
    yes : (a b : ℕ) → a ≤ b → leb a b ≡ true
    yes a b l = grind (arith, nat_tests)

-- The loads after so many changes, from those that the code had before.
module _ (f : ℕ → LoadRange) (cs : List Change) (n : ℕ) (old new : List Load) (from to : ℕ)
    (so_far : old ≡ loads_after f (take from cs) n)
    (told : (g : ℕ → LoadRange) → old ≡ loads_after g (take from cs) (length old) → new ≡ loads_after g (take to cs) (length old)) where
  pub advanced : new ≡ loads_after f (take to cs) n
  advanced =
      let long : length old ≡ n = ap length so_far ∙ length-map-range_with_len (load_entry (λ i. range_after (take from cs) i (f i))) 0 n in
      told f (so_far ∙ ap (λ (m : ℕ). loads_after f (take from cs) m) (sym long)) ∙ ap (λ (m : ℕ). loads_after f (take to cs) m) long

-- They are the loads of a step.
pub loads_are : (net : Network) (cs : List Change) (t : ℕ) (new list : List Load) (to : ℕ)
    → new ≡ loads_after (load_range net) (take to cs) net.nodes → IsEnd cs (t + 1) to → list ≡ new → list ≡ step_loads net cs (suc t)
loads_are net cs t new list to e end same =
    same ∙ e ∙ ap (λ (ds : List Change). loads_after (load_range net) ds net.nodes)
    (until_is cs (suc t) to (let P : ℕ → Type 0 = λ s. IsEnd cs s to in let next : t + 1 ≡ suc t = omega arith in subst P next end))

-- A list that is written back whole.
nothing_left : {X : Type 0} (n : ℕ) (xs : List X) → length xs ≤ n → drop n xs ≡ []
nothing_left zero [] l = refl
nothing_left zero (x ∷ xs) l = absurd (omega arith)
nothing_left (suc n) [] l = refl
nothing_left (suc n) (x ∷ xs) l = nothing_left n xs (omega arith)

pub written_back : {X : Type 0} (n : ℕ) (new old : List X) → n ≡ length old → length new ≡ length old
    → take n (new ++ drop (length new) old) ≡ new
written_back n new old e f =
    ap (λ ys. take n (new ++ ys)) (nothing_left (length new) old (omega (arith, f)))
    ∙ ap (take n) (append-nil new)
    ∙ take_all n new (omega (arith, e, f))
