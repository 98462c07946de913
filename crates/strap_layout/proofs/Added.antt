-- One strap after another, in the order of the lines.
use Rattle.std.proofs.Common.{◌≡◌, ℕ, ◌+◌, ◌<◌, ◌≤◌, ◌⊎◌, inl, inr, List, [], ◌∷◌, ◌++◌, length, Contains, subst, refl, sym, ap, ◌∙◌, arith}
use Rattle.std.proofs.lemmas.Bool.{cases_lt}
use Rattle.std.proofs.lemmas.List.{map_push, length-map, length-append}
use Rattle.std.proofs.lemmas.List.Elements.{All-push, All-weaker, Contains-append_left, Contains-push}
use Rattle.std.proofs.lemmas.List.Quantifiers.{all_pairs_push}
use Rattle.geom_rect.specs.declared.drawn.Drawn.{Drawn}
use Rattle.geom_rect.specs.declared.rect.Rect.{Rect}
use Rattle.geom_rect.specs.declared.run.Run.{Run}
use Rattle.strap_layout.specs.declared.rule.StrapRule.{StrapRule}
use Rattle.strap_layout.specs.Lines.{LineAt, line_at, IsDrawnLine, ComesBefore, strap_of, AreStrapsOf, AreStraps, DrawsMore}
use Rattle.strap_layout.specs.inside.Lines.{AreStrapsBefore}

-- the same lines by another property
same_lines : (P Q : LineAt → Type 0) (rule : StrapRule) (core : Rect) (reach : List Run) (straps : List Drawn)
    → ((line : LineAt) → P line → Q line) → ((line : LineAt) → Q line → P line) → AreStrapsOf P rule core reach straps → AreStrapsOf Q rule core reach straps
same_lines P Q rule core reach straps there back are = record {
  lines = are.lines;
  each = All-weaker P Q there are.lines are.each;
  every = λ line q. are.every line (back line q);
  in_order = are.in_order;
  drawn = are.drawn;
}

-- one more line, after all others
one_more : (P Q : LineAt → Type 0) (rule : StrapRule) (core : Rect) (reach : List Run) (straps : List Drawn) (last : LineAt) → Q last
    → ((line : LineAt) → P line → ComesBefore line last) → ((line : LineAt) → P line → Q line) → ((line : LineAt) → Q line → P line ⊎ (last ≡ line))
    → AreStrapsOf P rule core reach straps → AreStrapsOf Q rule core reach (straps ++ strap_of rule core reach last ∷ [])
one_more P Q rule core reach straps last has before there back are = record {
  lines = are.lines ++ last ∷ [];
  each = All-push Q are.lines last (All-weaker P Q there are.lines are.each) has;
  every = λ line q. by_case line (back line q);
  in_order = all_pairs_push ComesBefore are.lines last are.in_order (All-weaker P (λ line. ComesBefore line last) before are.lines are.each);
  drawn = ap (λ (all : List Drawn). all ++ strap_of rule core reach last ∷ []) are.drawn ∙ sym (map_push (strap_of rule core reach) are.lines last);
}
  where
    by_case : (line : LineAt) → P line ⊎ (last ≡ line) → Contains (are.lines ++ last ∷ []) line
    by_case line (inl p) = Contains-append_left are.lines (last ∷ []) line (are.every line p)
    by_case line (inr is) = subst (Contains (are.lines ++ last ∷ [])) is (Contains-push are.lines last)

-- the next line of a net
pub AreStrapsBefore-push : (rule : StrapRule) (core : Rect) (reach : List Run) (straps : List Drawn) (place number : ℕ) → IsDrawnLine rule core (line_at place number)
    → AreStrapsBefore rule core reach (line_at place number) straps
    → AreStrapsBefore rule core reach (line_at place (number + 1)) (straps ++ strap_of rule core reach (line_at place number) ∷ [])
AreStrapsBefore-push rule core reach straps place number drawn =
    one_more _ _ rule core reach straps (line_at place number) (drawn, inr (refl, omega arith)) (λ line p. p.1) (λ line p. (p.0, later line p.1)) (λ line q. earlier line q.0 q.1)
  where
    later : (line : LineAt) → ComesBefore line (line_at place number) → ComesBefore line (line_at place (number + 1))
    later line (inl net) = inl net
    later line (inr (same, less)) = inr (same, omega arith)

    earlier : (line : LineAt) → IsDrawnLine rule core line → ComesBefore line (line_at place (number + 1))
        → (IsDrawnLine rule core line × ComesBefore line (line_at place number)) ⊎ (line_at place number ≡ line)
    earlier line is (inl net) = inl (is, inl net)
    earlier line is (inr (same, less)) = by_number (cases_lt line.number number)
      where
        by_number : (line.number < number) ⊎ (number ≤ line.number)
            → (IsDrawnLine rule core line × ComesBefore line (line_at place number)) ⊎ (line_at place number ≡ line)
        by_number (inl below) = inl (is, inr (same, below))
        by_number (inr reached) =
            let at_place : place ≡ line.place = sym same in
            let at_number : number ≡ line.number = omega arith in
            inr (λ i. record { place = at_place i; number = at_number i })

-- the lines of a net below the first that is drawn are none
pub AreStrapsBefore-first : (rule : StrapRule) (core : Rect) (reach : List Run) (straps : List Drawn) (place first : ℕ)
    → ((number : ℕ) → IsDrawnLine rule core (line_at place number) → first ≤ number)
    → AreStrapsBefore rule core reach (line_at place 0) straps → AreStrapsBefore rule core reach (line_at place first) straps
AreStrapsBefore-first rule core reach straps place first none =
    same_lines _ _ rule core reach straps (λ line p. (p.0, there line p.1)) (λ line q. (q.0, back line q.0 q.1))
  where
    there : (line : LineAt) → ComesBefore line (line_at place 0) → ComesBefore line (line_at place first)
    there line (inl net) = inl net
    there line (inr (same, less)) = absurd (omega arith)

    back : (line : LineAt) → IsDrawnLine rule core line → ComesBefore line (line_at place first) → ComesBefore line (line_at place 0)
    back line is (inl net) = inl net
    back line is (inr (same, less)) =
        let at : line ≡ line_at place line.number = λ i. record { place = same i; number = line.number } in
        let reached : first ≤ line.number = none line.number (subst (IsDrawnLine rule core) at is) in
        absurd (omega arith)

-- once no more of them is drawn, the next net begins
pub AreStrapsBefore-next : (rule : StrapRule) (core : Rect) (reach : List Run) (straps : List Drawn) (place number : ℕ)
    → ((k : ℕ) → IsDrawnLine rule core (line_at place k) → k < number)
    → AreStrapsBefore rule core reach (line_at place number) straps → AreStrapsBefore rule core reach (line_at (place + 1) 0) straps
AreStrapsBefore-next rule core reach straps place number all =
    same_lines _ _ rule core reach straps (λ line p. (p.0, there line p.1)) (λ line q. (q.0, back line q.0 q.1))
  where
    there : (line : LineAt) → ComesBefore line (line_at place number) → ComesBefore line (line_at (place + 1) 0)
    there line (inl net) = inl (omega arith)
    there line (inr (same, less)) = inl (omega arith)

    back : (line : LineAt) → IsDrawnLine rule core line → ComesBefore line (line_at (place + 1) 0) → ComesBefore line (line_at place number)
    back line is (inl net) = by_place (cases_lt line.place place)
      where
        by_place : (line.place < place) ⊎ (place ≤ line.place) → ComesBefore line (line_at place number)
        by_place (inl less) = inl less
        by_place (inr reached) =
            let same : line.place ≡ place = omega arith in
            let at : line ≡ line_at place line.number = λ i. record { place = same i; number = line.number } in
            inr (same, all line.number (subst (IsDrawnLine rule core) at is))
    back line is (inr (same, less)) = absurd (omega arith)

-- before the first net there is none
pub AreStrapsBefore-none : (rule : StrapRule) (core : Rect) (reach : List Run) → AreStrapsBefore rule core reach (line_at 0 0) []
AreStrapsBefore-none rule core reach = record {
  lines = [];
  each = λ k d below. absurd (omega arith);
  every = λ line p. absurd (nothing_before line p.1);
  in_order = λ i j d less below. absurd (omega arith);
  drawn = refl;
}
  where
    nothing_before : (line : LineAt) → ComesBefore line (line_at 0 0) → ⊥
    nothing_before line (inl net) = omega arith
    nothing_before line (inr (same, less)) = omega arith

-- after the last net there are all
pub AreStrapsBefore-all : (rule : StrapRule) (core : Rect) (reach : List Run) (straps : List Drawn) (count : ℕ) → length rule.nets ≤ count
    → AreStrapsBefore rule core reach (line_at count 0) straps → AreStraps rule core reach straps
AreStrapsBefore-all rule core reach straps count all =
    same_lines _ _ rule core reach straps (λ line p. p.0) (λ line drawn. (drawn, inl (let net = drawn.net in omega arith)))

-- Where as many stand as may, and one more line is drawn, the rule draws more.
pub DrawsMore-next : (rule : StrapRule) (core : Rect) (reach : List Run) (straps : List Drawn) (place number most : ℕ) → IsDrawnLine rule core (line_at place number)
    → most ≤ length straps → AreStrapsBefore rule core reach (line_at place number) straps → DrawsMore most rule core
DrawsMore-next rule core reach straps place number most drawn full are =
    let last : LineAt = line_at place number in
    let many : length straps ≡ length are.lines = ap length are.drawn ∙ length-map are.lines (strap_of rule core reach) in
    let longer : length (are.lines ++ last ∷ []) ≡ length are.lines + 1 = length-append are.lines (last ∷ []) in
    record {
      lines = are.lines ++ last ∷ [];
      each = All-push (IsDrawnLine rule core) are.lines last (All-weaker (λ (line : LineAt). IsDrawnLine rule core line × ComesBefore line last) (IsDrawnLine rule core) (λ line (p : IsDrawnLine rule core line × ComesBefore line last). p.0) are.lines are.each) drawn;
      in_order = all_pairs_push ComesBefore are.lines last are.in_order (All-weaker (λ (line : LineAt). IsDrawnLine rule core line × ComesBefore line last) (λ (line : LineAt). ComesBefore line last) (λ line (p : IsDrawnLine rule core line × ComesBefore line last). p.1) are.lines are.each);
      more = omega arith;
    }
