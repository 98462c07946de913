-- There is one list of the maximal runs of the cells with a property.
use Rattle.std.proofs.Common.{◌≡◌, zero, suc, ◌⊎◌, inl, inr, ℤ, pos, ◌-ℤ◌, ◌<ℤ◌, List, [], ◌∷◌, All, AllPairs, Contains, subst, refl, sym, ap, ◌∙◌, arith}
use Rattle.std.proofs.lemmas.Int.{ints, by_lt_z}
use Rattle.std.proofs.lemmas.List.Elements.{All-contains}
use Rattle.geom_rect.specs.declared.run.Run.{Run}
use Rattle.geom_rect.specs.Run.{HasCell, IsMaximal, AreMaximalRuns}

-- the first element of a list, or one after it
Contains-cases : (x : Run) (xs : List Run) (y : Run) → Contains (x ∷ xs) y → (x ≡ y) ⊎ Contains xs y
Contains-cases x xs y (zero, within, is) = inl is
Contains-cases x xs y (suc k, within, is) = inr (k, omega arith, is)

Contains-first : (x : Run) (xs : List Run) → Contains (x ∷ xs) x
Contains-first x xs = (0, omega arith, refl)

Contains-after : (x : Run) (xs : List Run) (y : Run) → Contains xs y → Contains (x ∷ xs) y
Contains-after x xs y among = (suc among.0, omega (arith, among.1), among.2)

abbrev BeginsBefore : Run → Run → Type 0
BeginsBefore a b = a.from <ℤ b.from

first_before : (x : Run) (xs : List Run) → AllPairs BeginsBefore (x ∷ xs) → All (BeginsBefore x) xs
first_before x xs rising k d within = rising 0 (suc k) d (omega arith) (omega arith)

others_rise : (x : Run) (xs : List Run) → AllPairs BeginsBefore (x ∷ xs) → AllPairs BeginsBefore xs
others_rise x xs rising i j d less within = rising (suc i) (suc j) d (omega arith) (omega arith)

-- two rising lists with the same runs are the same
same_rising : (xs ys : List Run) → AllPairs BeginsBefore xs → AllPairs BeginsBefore ys → ((r : Run) → Contains xs r → Contains ys r) → ((r : Run) → Contains ys r → Contains xs r) → xs ≡ ys
same_rising [] [] x_rises y_rises there back = refl
same_rising [] (y ∷ ys) x_rises y_rises there back = absurd (omega (arith, (back y (Contains-first y ys)).1))
same_rising (x ∷ xs) [] x_rises y_rises there back = absurd (omega (arith, (there x (Contains-first x xs)).1))
same_rising (x ∷ xs) (y ∷ ys) x_rises y_rises there back =
    let same_first : x ≡ y = same (Contains-cases y ys x (there x (Contains-first x xs))) (Contains-cases x xs y (back y (Contains-first y ys))) in
    let same_others : xs ≡ ys = same_rising xs ys (others_rise x xs x_rises) (others_rise y ys y_rises)
    (λ r among. after x xs y ys r x_rises same_first among (Contains-cases y ys r (there r (Contains-after x xs r among))))
    (λ r among. after y ys x xs r y_rises (sym same_first) among (Contains-cases x xs r (back r (Contains-after y ys r among)))) in
    ap (λ (r : Run). r ∷ xs) same_first ∙ ap (λ rs. y ∷ rs) same_others
  where
    same : (y ≡ x) ⊎ Contains ys x → (x ≡ y) ⊎ Contains xs y → x ≡ y
    same (inl equal) _ = sym equal
    same (inr _) (inl equal) = equal
    same (inr x_after) (inr y_after) =
        let later : y.from <ℤ x.from = All-contains (BeginsBefore y) ys x (first_before y ys y_rises) x_after in
        let earlier : x.from <ℤ y.from = All-contains (BeginsBefore x) xs y (first_before x xs x_rises) y_after in
        absurd (omega (arith, ints))

    after : (a : Run) (others : List Run) (b : Run) (rest : List Run) (r : Run) → AllPairs BeginsBefore (a ∷ others) → a ≡ b → Contains others r → (b ≡ r) ⊎ Contains rest r → Contains rest r
    after a others b rest r rises equal among (inl is_first) =
        let later : a.from <ℤ r.from = All-contains (BeginsBefore a) others r (first_before a others rises) among in
        let at : a.from ≡ r.from = ap (λ (run : Run). run.from) (equal ∙ is_first) in
        absurd (omega (arith, ints))
    after a others b rest r rises equal among (inr found) = found

-- two maximal runs that begin with one and the same cell in common are the same
same_run : (P : ℤ → Type 0) (a b : Run) → IsMaximal P a → IsMaximal P b → HasCell b a.from → a ≡ b
same_run P a b a_is b_is has =
    let a_some = a_is.some in
    let b_some = b_is.some in
    let low = has.0 in
    let high = has.1 in
    let from : a.from ≡ b.from =
    by_lt_z b.from a.from (λ before. absurd (a_is.before (b_is.each (a.from -ℤ pos 1) (omega (arith, ints), omega (arith, ints))))) (λ not_before. omega (arith, ints)) in
    let to : a.to ≡ b.to =
    by_lt_z a.to b.to (λ shorter. absurd (a_is.after (b_is.each a.to (omega (arith, ints), shorter))))
    (λ not_shorter. by_lt_z b.to a.to (λ longer. absurd (b_is.after (a_is.each b.to (omega (arith, ints), longer)))) (λ not_longer. omega (arith, ints))) in
    λ i. record { from = from i; to = to i }

-- each maximal run is in the list
maximal_among : (P : ℤ → Type 0) (runs : List Run) (run : Run) → AreMaximalRuns P runs → IsMaximal P run → Contains runs run
maximal_among P runs run are is =
    let some = is.some in
    let held = are.every run.from (is.each run.from (omega (arith, ints), some)) in
    let same : run ≡ held.0 = same_run P run held.0 is (All-contains (IsMaximal P) runs held.0 are.maximal held.1) held.2 in
    subst (Contains runs) (sym same) held.1

pub maximal_runs_same : (P : ℤ → Type 0) (one other : List Run) → AreMaximalRuns P one → AreMaximalRuns P other → one ≡ other
maximal_runs_same P one other one_are other_are =
    same_rising one other one_are.rising other_are.rising
    (λ run among. maximal_among P other run other_are (All-contains (IsMaximal P) one run one_are.maximal among))
    (λ run among. maximal_among P one run one_are (All-contains (IsMaximal P) other run other_are.maximal among))
