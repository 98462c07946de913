-- The segments in the order of their rows.
use Rattle.std.proofs.Common.{◌≡◌, ◌≢◌, ◌⊎◌, inl, inr, ℕ, ◌<◌, false, true≢false, min, max, ℤ, Some, List, map, AllPairs, Contains, length, get_or, slice_get, refl, sym, subst, ap, ◌∙◌, arith}
use Rattle.std.specs.Cmp.{IsTotalOrder}
use Rattle.std.specs.List.Sorted.{IsSortedBy}
use Rattle.std.specs.Ordering.{ordering_then, nat_cmp, int_cmp, is_lt, MatchOrdering}
use Rattle.std.specs.declared.cmp.Ordering.{Ordering}
use Rattle.std.specs.declared.cmp.Ordering.TheVariants.{Less, Equal, Greater}
use Rattle.std.proofs.lemmas.Bool.{cases_eq}
use Rattle.std.proofs.lemmas.Cmp.{ranked}
use Rattle.std.proofs.lemmas.Int.{ints}
use Rattle.std.proofs.lemmas.List.{get_or_default, length-map}
use Rattle.std.proofs.lemmas.List.Elements.{Contains-get_or}
use Rattle.std.proofs.lemmas.List.Sorted.{ranks_by, sorted_far}
use Rattle.std.proofs.Math.ListN.{get_or-map}
use Rattle.lef_tech.specs.declared.tech.Tech.{Tech}
use Rattle.grid_pieces.specs.declared.piece.Piece.{Piece}
use Rattle.grid_network.specs.declared.branch.Branch.{Branch}
use Rattle.grid_network.specs.declared.branch.Branch.TheVariants.{Wire, Cuts}
use Rattle.grid_network.specs.declared.key.Key.{Key}
use Rattle.grid_network.specs.declared.row.Row.{Row}
use Rattle.grid_network.specs.declared.segment.Segment.{Segment}
use Rattle.grid_network.specs.contracts.branch.BranchOrd.TheImpl as branch_ord
use Rattle.grid_network.specs.contracts.row.RowOrd.TheImpl as row_ord
use Rattle.grid_network.specs.contracts.row.RowOrd.TheImpl.Laws.{total-law}
use Rattle.grid_network.specs.Listing.{ListsAll, EachOnce}
use Rattle.grid_network.specs.Drawing.{Drawing, piece_at, key_on}
use Rattle.grid_network.specs.Nodes.{IsNode, number_of}
use Rattle.grid_network.specs.Segments.{wire_between, cut_array, IsWire, IsCutArray, IsSegment, IsEarlier, LessThen, ComesBefore}
use Rattle.grid_network.specs.inside.Steps.{branch_cmp, row_cmp, row_of_segment}
use Rattle.grid_network.proofs.Numbered.{number_found}
use Rattle.grid_network.proofs.Once.{along_same, wire_same, cuts_same, wire_no_cuts}

-- ---- nodes with one number are one

abbrev pub Differ : List Key → Type 0
Differ keys = (i j : ℕ) (d : Key) → i < j → j < length keys → get_or keys i d ≢ get_or keys j d

key_same : (keys : List Key) → Differ keys → (a b : Key) → Contains keys a → Contains keys b → number_of keys a ≡ number_of keys b → a ≡ b
key_same keys once a b (k, below, e) (l, within, g) h =
    let p : k ≡ number_of keys a = number_found keys a k below e once in
    let q : l ≡ number_of keys b = number_found keys b l within g once in
    let same : k ≡ l = p ∙ h ∙ sym q in
    sym e ∙ ap (λ n. get_or keys n a) same ∙ get_or_default keys l a b within ∙ g

-- ---- two segments with one row are one

abbrev TwoWays : ℕ → ℕ → ℕ → ℕ → Type 0
TwoWays i j k l = ((i ≡ k) × (j ≡ l)) ⊎ ((i ≡ l) × (j ≡ k))

two_ways : (i j k l : ℕ) → min i j ≡ min k l → max i j ≡ max k l → TwoWays i j k l
two_ways i j k l low high = by (cases_eq i k)
  where
    by : ((i ≡ k) ⊎ (i ≡ k → ⊥)) → TwoWays i j k l
    by (inl e) = inl (e, omega (arith, low, high, e))
    by (inr n) = inr (grind arith, grind arith)

module _ (d : Drawing) (tech : Tech) (keys : List Key) (nodes : ListsAll (IsNode d) keys) (once : Differ keys) where
  one_wire : (s t : Segment) → IsWire d tech s → IsWire d tech t → min (number_of keys s.first) (number_of keys s.second) ≡ min (number_of keys t.first) (number_of keys t.second)
      → max (number_of keys s.first) (number_of keys s.second) ≡ max (number_of keys t.first) (number_of keys t.second) → s.branch ≡ t.branch → s ≡ t
  one_wire s t (k, near, far, nb, e) (l, near', far', nb', e') low high b =
      let number : k ≡ l = wire_same k l (sym (ap (λ q. q.branch) e) ∙ b ∙ ap (λ q. q.branch) e') in
      by number (two_ways (number_of keys s.first) (number_of keys s.second) (number_of keys t.first) (number_of keys t.second) low high)
    where
      p : ℕ → Piece
      p n = piece_at d.grid.pieces n

      first_there : Contains keys s.first
      first_there = subst (Contains keys) (sym (ap (λ q. q.first) e)) ((nodes (key_on (p k) near)).1 (inl (k, near, nb.near_joins, refl)))

      second_there : Contains keys s.second
      second_there = subst (Contains keys) (sym (ap (λ q. q.second) e)) ((nodes (key_on (p k) far)).1 (inl (k, far, nb.far_joins, refl)))

      first_there' : Contains keys t.first
      first_there' = subst (Contains keys) (sym (ap (λ q. q.first) e')) ((nodes (key_on (p l) near')).1 (inl (l, near', nb'.near_joins, refl)))

      second_there' : Contains keys t.second
      second_there' = subst (Contains keys) (sym (ap (λ q. q.second) e')) ((nodes (key_on (p l) far')).1 (inl (l, far', nb'.far_joins, refl)))

      along : k ≡ l → (a c : ℤ) → key_on (p k) a ≡ key_on (p l) c → a ≡ c
      along number a c g = along_same (p l) a c (ap (λ n. key_on (p n) a) (sym number) ∙ g)

      by : k ≡ l → TwoWays (number_of keys s.first) (number_of keys s.second) (number_of keys t.first) (number_of keys t.second) → s ≡ t
      by number (inl (f, g)) =
          let u = along number near near' (sym (ap (λ q. q.first) e) ∙ key_same keys once s.first t.first first_there first_there' f ∙ ap (λ q. q.first) e') in
          let v = along number far far' (sym (ap (λ q. q.second) e) ∙ key_same keys once s.second t.second second_there second_there' g ∙ ap (λ q. q.second) e') in
          e ∙ ap (λ n. wire_between tech.routing d.grid.pieces n near far) number ∙ ap (λ z. wire_between tech.routing d.grid.pieces l z far) u
          ∙ ap (λ z. wire_between tech.routing d.grid.pieces l near' z) v ∙ sym e'
      by number (inr (f, g)) =
          let u = along number near far' (sym (ap (λ q. q.first) e) ∙ key_same keys once s.first t.second first_there second_there' f ∙ ap (λ q. q.second) e') in
          let v = along number far near' (sym (ap (λ q. q.second) e) ∙ key_same keys once s.second t.first second_there first_there' g ∙ ap (λ q. q.first) e') in
          let up = nb.rising in
          let up' = nb'.rising in
          absurd (omega (arith, ints, up, up', u, v))

  some_same : {X : Type 0} (x y : X) → Some x ≡ Some y → x ≡ y
  some_same x y e = cc

  one_array : (s t : Segment) → IsCutArray d s → IsCutArray d t → s.branch ≡ t.branch → s ≡ t
  one_array s t (k, stack, level, at, within, e) (l, stack', level', at', within', e') b =
      let same = cuts_same k level l level' (sym (ap (λ q. q.branch) e) ∙ b ∙ ap (λ q. q.branch) e') in
      let one = some_same stack stack' (sym at ∙ ap (λ n. slice_get d.grid.stacks n) same.0 ∙ at') in
      e ∙ ap (λ n. cut_array n k level) one ∙ ap (λ n. cut_array stack' n level) same.0 ∙ ap (λ n. cut_array stack' l n) same.1 ∙ sym e'

  one_segment : (s t : Segment) → IsSegment d tech s → IsSegment d tech t → min (number_of keys s.first) (number_of keys s.second) ≡ min (number_of keys t.first) (number_of keys t.second)
      → max (number_of keys s.first) (number_of keys s.second) ≡ max (number_of keys t.first) (number_of keys t.second) → s.branch ≡ t.branch → s ≡ t
  one_segment s t (inl h) (inl k) low high b = one_wire s t h k low high b
  one_segment s t (inl h) (inr k) low high b = absurd (wire_no_cuts h.0 k.0 k.2 (sym (ap (λ q. q.branch) h.4) ∙ b ∙ ap (λ q. q.branch) k.5))
  one_segment s t (inr h) (inl k) low high b = absurd (wire_no_cuts k.0 h.0 h.2 (sym (ap (λ q. q.branch) k.4) ∙ sym b ∙ ap (λ q. q.branch) h.5))
  one_segment s t (inr h) (inr k) low high b = one_array s t h k b

-- ---- what is not less comes after

then_not_less : (m n : ℕ) (o p : Ordering) (P : Type 0) → MatchOrdering o (n < m) (n ≡ m) (m < n) → is_lt (ordering_then o p) ≡ false → (n ≡ m → is_lt p ≡ false → P) → LessThen m n P
then_not_less m n Less p P rank h f = absurd (true≢false h)
then_not_less m n Equal p P rank h f = inr (sym rank, f rank h)
then_not_less m n Greater p P rank h f = inl rank

wire_earlier : (k l : ℕ) (o p : Ordering) → MatchOrdering o (l < k) (l ≡ k) (k < l) → is_lt (ordering_then o p) ≡ false → (k ≡ l → ⊥) → k < l
wire_earlier k l Less p rank h ne = absurd (true≢false h)
wire_earlier k l Equal p rank h ne = absurd (ne (sym rank))
wire_earlier k l Greater p rank h ne = rank

cuts_earlier : (k i l j : ℕ) (o q p : Ordering) → MatchOrdering o (l < k) (l ≡ k) (k < l) → MatchOrdering q (j < i) (j ≡ i) (i < j) → is_lt (ordering_then (ordering_then o q) p) ≡ false
    → (k ≡ l → i ≡ j → ⊥) → (k < l) ⊎ ((k ≡ l) × (i < j))
cuts_earlier k i l j Less q p rank more h ne = absurd (true≢false h)
cuts_earlier k i l j Equal Less p rank more h ne = absurd (true≢false h)
cuts_earlier k i l j Equal Equal p rank more h ne = absurd (ne (sym rank) (sym more))
cuts_earlier k i l j Equal Greater p rank more h ne = inr (sym rank, more)
cuts_earlier k i l j Greater q p rank more h ne = inl rank

earlier : (b c : Branch) (p : Ordering) → is_lt (ordering_then (branch_cmp c b) p) ≡ false → (b ≡ c → ⊥) → IsEarlier b c
earlier (Wire k) (Wire l) p h ne = wire_earlier k l (nat_cmp l k) p (ranked l k (nat_cmp l k) refl) h (λ e. ne (ap Wire e))
earlier (Wire k) (Cuts l j) p h ne = tt
earlier (Cuts k i) (Wire l) p h ne = absurd (true≢false h)
earlier (Cuts k i) (Cuts l j) p h ne =
    cuts_earlier k i l j (nat_cmp l k) (nat_cmp j i) p (ranked l k (nat_cmp l k) refl) (ranked j i (nat_cmp j i) refl) h (λ e g. ne (ap (λ n. Cuts n i) e ∙ ap (λ n. Cuts l n) g))

comes : (keys : List Key) (s t : Segment) → is_lt (row_cmp (row_of_segment keys t) (row_of_segment keys s)) ≡ false
    → ((row_of_segment keys s).a ≡ (row_of_segment keys t).a → (row_of_segment keys s).b ≡ (row_of_segment keys t).b → s.branch ≡ t.branch → ⊥) → ComesBefore keys s t
comes keys s t h ne =
    let q : Row = row_of_segment keys s in
    let r : Row = row_of_segment keys t in
    then_not_less q.a r.a (nat_cmp r.a q.a) (ordering_then (nat_cmp r.b q.b) (ordering_then (branch_cmp r.branch q.branch) (int_cmp r.ohms q.ohms))) (LessThen q.b r.b (IsEarlier s.branch t.branch)) (ranked r.a q.a (nat_cmp r.a q.a) refl) h
    (λ ea h2. then_not_less q.b r.b (nat_cmp r.b q.b) (ordering_then (branch_cmp r.branch q.branch) (int_cmp r.ohms q.ohms)) (IsEarlier s.branch t.branch) (ranked r.b q.b (nat_cmp r.b q.b) refl) h2
    (λ eb h3. earlier s.branch t.branch (int_cmp r.ohms q.ohms) h3 (λ e. ne (sym ea) (sym eb) e)))

-- ---- the order of the sort is that of the rows

branches_by : (b c : Branch) → branch_ord.ghosts.cmp b c ≡ branch_cmp b c
branches_by (Wire k) (Wire l) = refl
branches_by (Wire k) (Cuts l j) = refl
branches_by (Cuts k i) (Wire l) = refl
branches_by (Cuts k i) (Cuts l j) = refl

rows_by : (q r : Row) → row_ord.ghosts.cmp q r ≡ row_cmp q r
rows_by q r = ap (λ o. ordering_then (nat_cmp q.a r.a) (ordering_then (nat_cmp q.b r.b) (ordering_then o (int_cmp q.ohms r.ohms)))) (branches_by q.branch r.branch)

row_total : IsTotalOrder row_ord.ghosts.cmp
row_total = total-law

pub sorted_rows : (rows : List Row) → IsSortedBy (λ q r. is_lt (row_ord.ghosts.cmp q r)) rows → (i j : ℕ) (x : Row) → i < j → j < length rows → is_lt (row_cmp (get_or rows j x) (get_or rows i x)) ≡ false
sorted_rows rows up i j x below within =
    sym (ap is_lt (rows_by (get_or rows j x) (get_or rows i x))) ∙ sorted_far (λ q r. is_lt (row_ord.ghosts.cmp q r)) (ranks_by row_total (λ r. r)) rows up i j x (omega arith) within

pub in_order : (d : Drawing) (tech : Tech) (keys : List Key) → ListsAll (IsNode d) keys → Differ keys → (segments : List Segment) → ListsAll (IsSegment d tech) segments → EachOnce segments
    → IsSortedBy (λ q r. is_lt (row_ord.ghosts.cmp q r)) (map (row_of_segment keys) segments) → AllPairs (ComesBefore keys) segments
in_order d tech keys nodes once segments all apart up i j x below within =
    let f : Segment → Row = row_of_segment keys in
    let s : Segment = get_or segments i x in
    let t : Segment = get_or segments j x in
    let long = length-map segments f in
    let h = sorted_rows (map f segments) up i j (f x) below (omega (arith, long, within)) in
    let h' : is_lt (row_cmp (f t) (f s)) ≡ false = ap (λ (r : Row). is_lt (row_cmp r (f s))) (sym (get_or-map f segments j x)) ∙ ap (λ (q : Row). is_lt (row_cmp (get_or (map f segments) j (f x)) q)) (sym (get_or-map f segments i x)) ∙ h in
    comes keys s t h' (λ ea eb e. apart i j x below within (one_segment d tech keys nodes once s t ((all s).0 (Contains-get_or segments i x (omega arith))) ((all t).0 (Contains-get_or segments j x within)) ea eb e))
