use Rattle.std.proofs.Common.{◌≡◌, ℕ, List, Contains, Some, slice_get, length, ap, sym, subst, ◌∙◌, inl, refl, arith}
use Rattle.std.proofs.lemmas.List.{length-map}
use Rattle.name_table.specs.Numbering.{TakesName, AreDistinct}
use Rattle.name_table.proofs.NumberingLemmas.{names_of, distinct_names, is_named, is_not_named, takes_name, name_at, name_at_position}
use Rattle.name_table.proofs.table.NameTable.number.Goals as goal

pub returns-in_default-clause-full : goal.returns-in_default-clause-full
returns-in_default-clause-full c =
    let count : length c.args.self.now ≡ length (names_of c.self.inside.names.keys) = ap length (sym c.self.view_is) in
    let none = is_not_named c.args.name.now c.self.inside.names.keys (sym c.in_default.ensures.found) in
    let N : List (List ℕ) → Type 0 = λ names. Contains names c.args.name.now → ⊥ in
    (λ _. (omega (arith, count, length-map c.self.inside.names.keys (λ k. k.name.now), c.len.ensures.len, c.if-len-eq-MOST_NAMES.true), subst N c.self.view_is none), λ _. refl)

pub returns-in_default-clause-distinct : goal.returns-in_default-clause-distinct
returns-in_default-clause-distinct c =
    subst AreDistinct c.self.view_is (distinct_names c.self.inside.names.keys c.len.ensures.unique)

pub returns-then-len-eq-MOST_NAMES-clause-number :
    goal.returns-then-len-eq-MOST_NAMES-clause-number
returns-then-len-eq-MOST_NAMES-clause-number c =
    let P : List (List ℕ) → Type 0 = λ names. slice_get names c.in-Some.number ≡ Some c.args.name.now in
    subst P c.self.view_is (name_at_position c.self.inside.names.keys c.in-Some.number (record { name = c.args.name }) (sym c.in-Some.ensures.index))

pub returns-then-len-eq-MOST_NAMES-clause-taken : goal.returns-then-len-eq-MOST_NAMES-clause-taken
returns-then-len-eq-MOST_NAMES-clause-taken c =
    let P : List (List ℕ) → Type 0 = λ names. TakesName names names c.args.name.now in
    subst P c.self.view_is (inl (is_named c.args.name.now c.self.inside.names.keys (sym c.in-Some.ensures.found), refl))

pub returns-then-len-eq-MOST_NAMES-clause-full : goal.returns-then-len-eq-MOST_NAMES-clause-full
returns-then-len-eq-MOST_NAMES-clause-full c =
    let N : List (List ℕ) → Type 0 = λ names. Contains names c.args.name.now in
    let there = subst N c.self.view_is (is_named c.args.name.now c.self.inside.names.keys (sym c.in-Some.ensures.found)) in
    (λ e. cc, λ h. absurd (h.1 there))

pub returns-then-len-eq-MOST_NAMES-clause-distinct :
    goal.returns-then-len-eq-MOST_NAMES-clause-distinct
returns-then-len-eq-MOST_NAMES-clause-distinct c =
    subst AreDistinct c.self.view_is (distinct_names c.self.inside.names.keys c.len.ensures.unique)

pub returns-in_default-insert_full-clause-want : goal.returns-in_default-insert_full-clause-want
returns-in_default-insert_full-clause-want c _ =
    let N : List (List ℕ) → Type 0 = λ names. Contains names c.args.name.now → ⊥ in
    subst N c.self.view_is (is_not_named c.args.name.now c.self.inside.names.keys c.in_default-insert_full.ensures.absent)

pub returns-in_default-insert_full-clause-distinct :
    goal.returns-in_default-insert_full-clause-distinct
returns-in_default-insert_full-clause-distinct c =
    distinct_names c.insert_full.new.self.keys c.insert_full.ensures.unique

pub returns-clause-number : goal.returns-clause-number
returns-clause-number c =
    let stored = c.in-Ok.ensures.stored in
    name_at c.insert_full.new.self.keys c.in-Ok.number (record { name = c.args.name }) stored.0 (ap (λ i. slice_get c.insert_full.new.self.keys i) c.in-Ok.number-is ∙ stored.1) stored.2

pub returns-clause-taken : goal.returns-clause-taken
returns-clause-taken c =
    let P : List (List ℕ) → Type 0 = λ names. TakesName names (names_of c.insert_full.new.self.keys) c.args.name.now in
    let Q : List (List ℕ) → Type 0 = λ names. TakesName (names_of c.self.inside.names.keys) names c.args.name.now in
    subst P c.self.view_is (subst Q (ap names_of (sym c.in-Ok.ensures.keys)) (takes_name c.self.inside.names.keys (record { name = c.args.name })))

pub returns-clause-distinct : goal.returns-clause-distinct
returns-clause-distinct c = distinct_names c.insert_full.new.self.keys c.insert_full.ensures.unique
