-- Wiring has one record with places for its names, or one reason why it has none.
use Rattle.std.proofs.Common.{◌≡◌, ◌≢◌, ◌⊎◌, inl, inr, ℕ, Bool, true, false, cond, List, [], ◌∷◌, length, get_or, map, filter, All, Option, Some, None, subst, refl, sym, ap, ◌∙◌}
use Rattle.std.specs.Bool.{MatchBool}
use Rattle.std.specs.List.{flat_map}
use Rattle.std.proofs.lemmas.List.{length-map}
use Rattle.std.proofs.lemmas.List.Elements.{All-nil, All-cons, All-contains, All-filter, All-map}
use Rattle.text_lex.specs.Name.{IsName}
use Rattle.name_table.specs.ByteOrder.{IsBefore}
use Rattle.lef_tech.specs.declared.tech.Tech.{Tech}
use Rattle.def_wiring.specs.declared.record.WiredNet.{WiredNet}
use Rattle.def_wiring.specs.declared.record.Wires.{Wires}
use Rattle.wire_names.specs.declared.record.NamedWires.{NamedWires}
use Rattle.wire_names.specs.Names.{names_of, first_unknown}
use Rattle.wire_names.specs.Nets.{is_wired, wired_nets}
use Rattle.wire_names.specs.Wiring.{AreNamed, AreOtherNets, shapes_of, spots_of}
use Rattle.wired_grid.specs.declared.error.WiredError.{WiredError}
use Rattle.wired_grid.specs.declared.error.WiredError.TheVariants.{UnknownName, NetCount}
use Rattle.wired_grid.specs.Wired.{two_in_order}
use Rattle.one_drawing.specs.Laws.Listed.{has_first}
use Rattle.one_drawing.specs.Laws.Ordered.{names_one_way}
use Rattle.one_wired_grid.proofs.Ways.{One}
use Rattle.one_wired_grid.proofs.Firsts.{some_same}

only : (xs : List (List ℕ)) (a b : List ℕ) → xs ≡ a ∷ [] → xs ≡ b ∷ [] → a ≡ b
only xs a b x y = ap (λ (l : List (List ℕ)). get_or l 0 []) (sym x ∙ y)

order_same : (b c : Bool) (power ground : List ℕ) → MatchBool b (IsBefore power ground) (IsBefore ground power) → MatchBool c (IsBefore power ground) (IsBefore ground power) → b ≡ c
order_same true true power ground h k = refl
order_same true false power ground h k = absurd (names_one_way power ground h k)
order_same false true power ground h k = absurd (names_one_way power ground k h)
order_same false false power ground h k = refl

pub one_named : (tech : Tech) (wires : Wires) (a b : NamedWires) → AreNamed tech wires a → AreNamed tech wires b → a ≡ b
one_named tech wires a b x y =
    let power : a.power ≡ b.power = only _ a.power b.power x.power y.power in
    let ground : a.ground ≡ b.ground = only _ a.ground b.ground x.ground y.ground in
    let moved : MatchBool a.power_first (IsBefore b.power b.ground) (IsBefore b.ground b.power) =
    subst (λ p. MatchBool a.power_first (IsBefore p b.ground) (IsBefore b.ground p)) power
    (subst (λ g. MatchBool a.power_first (IsBefore a.power g) (IsBefore g a.power)) ground x.order) in
    let order : a.power_first ≡ b.power_first = order_same a.power_first b.power_first b.power b.ground moved y.order in
    let vias = x.vias ∙ sym y.vias in
    let shapes = x.shapes ∙ ap (λ first. flat_map (shapes_of (names_of tech wires) first) wires.nets) order ∙ sym y.shapes in
    let spots = x.spots ∙ ap (λ first. flat_map (spots_of (names_of tech wires) first) wires.nets) order ∙ sym y.spots in
    λ i. record { power = power i; ground = ground i; power_first = order i; vias = vias i; shapes = shapes i; spots = spots i }

-- ## what refuses them

abbrev pub BadName : Tech → Wires → WiredError → Type 0
BadName tech wires e = (name : List ℕ) × (first_unknown (names_of tech wires) wires ≡ Some name) × (e ≡ UnknownName name)

abbrev pub BadCount : Tech → Wires → WiredError → Type 0
BadCount tech wires e = (power : ℕ) × (ground : ℕ) × AreOtherNets tech wires power ground × (e ≡ NetCount power ground)

abbrev pub BadNames : Tech → Wires → WiredError → Type 0
BadNames tech wires e = BadName tech wires e ⊎ BadCount tech wires e

abbrev pub SomeNamed : Tech → Wires → Type 0
SomeNamed tech wires = (named : NamedWires) × AreNamed tech wires named

none_some : {X : Type 0} (o : Option X) (x : X) → o ≡ None → o ≡ Some x → ⊥
none_some o x none some = absurd (let same : None ≡ Some x = sym none ∙ some in cc)

one_net : (nets : List WiredNet) (name : List ℕ) → map (λ (net : WiredNet). net.name) nets ≡ name ∷ [] → length nets ≡ 1
one_net nets name is = sym (length-map nets (λ (net : WiredNet). net.name)) ∙ ap length is

not_other : (tech : Tech) (wires : Wires) (named : NamedWires) (power ground : ℕ) → AreNamed tech wires named → (power ≡ length (wired_nets true wires)) → (ground ≡ length (wired_nets false wires))
    → (power ≢ 1) ⊎ (ground ≢ 1) → ⊥
not_other tech wires named power ground are p g (inl other) = other (p ∙ one_net (wired_nets true wires) named.power are.power)
not_other tech wires named power ground are p g (inr other) = other (g ∙ one_net (wired_nets false wires) named.ground are.ground)

pub names_one : (tech : Tech) (wires : Wires) → One (SomeNamed tech wires) (BadNames tech wires)
names_one tech wires = record { apart = apart; one = one }
  where
    apart : (e : WiredError) → SomeNamed tech wires → BadNames tech wires e → ⊥
    apart e (named, are) (inl (name, some, is)) = none_some (first_unknown (names_of tech wires) wires) name are.known some
    apart e (named, are) (inr (power, ground, other, is)) = not_other tech wires named power ground are other.power_is other.ground_is other.other

    one : (e f : WiredError) → BadNames tech wires e → BadNames tech wires f → e ≡ f
    one e f (inl (a, some, is)) (inl (b, also, so)) = is ∙ ap UnknownName (some_same _ _ a b some also refl) ∙ sym so
    one e f (inl (a, some, is)) (inr (p, g, other, so)) = absurd (none_some (first_unknown (names_of tech wires) wires) a other.known some)
    one e f (inr (p, g, other, is)) (inl (b, also, so)) = absurd (none_some (first_unknown (names_of tech wires) wires) b other.known also)
    one e f (inr (p, g, other, is)) (inr (q, h, another, so)) =
        is ∙ ap (λ n. NetCount n g) (other.power_is ∙ sym another.power_is) ∙ ap (NetCount q) (other.ground_is ∙ sym another.ground_is) ∙ sym so

-- ## names of DEF

one_name : (wires : Wires) (power : Bool) (name : List ℕ) → All (λ (net : WiredNet). IsName net.name) wires.nets → map (λ (net : WiredNet). net.name) (wired_nets power wires) ≡ name ∷ []
    → IsName name
one_name wires power name all is =
    let wired : All (λ (net : WiredNet). IsName net.name) (wired_nets power wires) = All-filter (is_wired power) (λ (net : WiredNet). IsName net.name) wires.nets all in
    let names : All IsName (name ∷ []) = subst (All IsName) is (All-map IsName (λ (net : WiredNet). net.name) (wired_nets power wires) wired) in
    All-contains IsName (name ∷ []) name names (has_first name [])

two_names : (power ground : List ℕ) (first : Bool) → IsName power → IsName ground → All IsName (two_in_order power ground first)
two_names power ground true p g = All-cons IsName power (ground ∷ []) p (All-cons IsName ground [] g (All-nil IsName))
two_names power ground false p g = All-cons IsName ground (power ∷ []) g (All-cons IsName power [] p (All-nil IsName))

pub nets_named : (tech : Tech) (wires : Wires) (named : NamedWires) → All (λ (net : WiredNet). IsName net.name) wires.nets → AreNamed tech wires named
    → All IsName (two_in_order named.power named.ground named.power_first)
nets_named tech wires named all are =
    two_names named.power named.ground named.power_first (one_name wires true named.power all are.power) (one_name wires false named.ground all are.ground)
