-- Entries by their heads, after one more unit.
use Rattle.std.proofs.Common.{◌≡◌, Bool, true, false, List, [], ◌∷◌, ◌++◌, map, Contains, inl, inr, refl, sym, ◌∙◌, ap, subst}
use Rattle.std.proofs.lemmas.List.{map_push}
use Rattle.entry_list.specs.InTurn.{InTurn}
use Rattle.entry_list.specs.Laws.{in-turn-more}
use Rattle.name_table.specs.Numbering.{TakesName}
use Rattle.named_entries.specs.Named.{NamedList, HoldsNamed}
use Rattle.def_design.specs.Fault.{head_name}
use Rattle.def_design.specs.Unit.{name_of}
use Rattle.lef_statements.specs.Laws.{extended}
use Rattle.reading.specs.Blocks.{Block, blocks, with_unit}
use Rattle.reading.specs.Laws.{blocks-head, blocks-body}
use Rattle.reading.specs.Word.{Token}

-- ## the last entry

turn_stays : {E : Type 0} (says : Block Token → E → Type 0) (unit : List Token) →
    ((entry : Block Token) (e : E) → says entry e → says (extended entry unit) e) → (entries : List (Block Token)) (es : List E) →
    InTurn says entries es → InTurn says (with_unit entries unit) es
turn_stays says unit stays [] es h = h
turn_stays says unit stays (b ∷ []) (e ∷ es) h = (stays b e h.0, h.1)
turn_stays says unit stays (b ∷ []) [] h = absurd h
turn_stays says unit stays (b ∷ d ∷ entries) (e ∷ es) h = (h.0, turn_stays says unit stays (d ∷ entries) es h.1)
turn_stays says unit stays (b ∷ d ∷ entries) [] h = absurd h

turn_last : {E : Type 0} (says : Block Token → E → Type 0) (unit : List Token) (old new : E) →
    ((entry : Block Token) → says entry old → says (extended entry unit) new) → (entries : List (Block Token)) (es : List E) →
    InTurn says entries (es ++ old ∷ []) → InTurn says (with_unit entries unit) (es ++ new ∷ [])
turn_last says unit old new changes [] [] h = absurd h
turn_last says unit old new changes [] (e ∷ es) h = absurd h
turn_last says unit old new changes (b ∷ []) [] h = (changes b h.0, tt)
turn_last says unit old new changes (b ∷ []) (e ∷ []) h = absurd h.1
turn_last says unit old new changes (b ∷ []) (e ∷ f ∷ es) h = absurd h.1
turn_last says unit old new changes (b ∷ d ∷ entries) [] h = absurd h.1
turn_last says unit old new changes (b ∷ d ∷ entries) (e ∷ es) h = (h.0, turn_last says unit old new changes (d ∷ entries) es h.1)

names_stay : (unit : List Token) (entries : List (Block Token)) → map head_name (with_unit entries unit) ≡ map head_name entries
names_stay unit [] = refl
names_stay unit (b ∷ []) = refl
names_stay unit (b ∷ d ∷ entries) = ap (λ z. head_name b ∷ z) (names_stay unit (d ∷ entries))

-- ## entries with their names

-- A head of a new name says one more entry.
pub named_head : {E : Type 0} (says : Block Token → E → Type 0) (is : List Token → Bool) (units : List (List Token)) (unit : List Token)
    (old new : NamedList E) (e : E) → is unit ≡ true → (Contains old.names (name_of unit) → ⊥) → TakesName old.names new.names (name_of unit) →
    new.entries ≡ old.entries ++ e ∷ [] → says (record { head = unit; body = [] }) e →
    HoldsNamed says head_name (blocks is units) old → HoldsNamed says head_name (blocks is (units ++ unit ∷ [])) new
named_head {E} says is units unit old new e head fresh (inl there) more s h = absurd (fresh there.0)
named_head {E} says is units unit old new e head fresh (inr taken) more s h =
    subst (λ z. HoldsNamed says head_name z new) (sym (blocks-head is units unit head)) (record {
      names = taken.1 ∙ ap (λ z. z ++ name_of unit ∷ []) h.names ∙ sym (map_push head_name (blocks is units) (record { head = unit; body = [] }));
      entries = subst (λ (z : List E). InTurn says (blocks is units ++ record { head = unit; body = [] } ∷ []) z) (sym more)
          (in-turn-more says (blocks is units) old.entries (record { head = unit; body = [] }) e h.entries s);
    })

-- Another unit that changes no entry.
pub named_stays : {E : Type 0} (says : Block Token → E → Type 0) (is : List Token → Bool) (units : List (List Token)) (unit : List Token)
    (named : NamedList E) → is unit ≡ false → ((entry : Block Token) (e : E) → says entry e → says (extended entry unit) e) →
    HoldsNamed says head_name (blocks is units) named → HoldsNamed says head_name (blocks is (units ++ unit ∷ [])) named
named_stays says is units unit named body stays h =
    subst (λ z. HoldsNamed says head_name z named) (sym (blocks-body is units unit body)) (record {
      names = h.names ∙ sym (names_stay unit (blocks is units));
      entries = turn_stays says unit stays (blocks is units) named.entries h.entries;
    })

none_stay : {E : Type 0} (says : Block Token → E → Type 0) (unit : List Token) (entries : List (Block Token)) (es : List E) → es ≡ [] →
    InTurn says entries es → InTurn says (with_unit entries unit) es
none_stay says unit [] es none h = h
none_stay says unit (b ∷ entries) [] none h = absurd h
none_stay says unit (b ∷ entries) (e ∷ es) none h = absurd (cc)

-- Another unit where there is no entry yet.
pub named_none : {E : Type 0} (says : Block Token → E → Type 0) (is : List Token → Bool) (units : List (List Token)) (unit : List Token)
    (old new : NamedList E) → is unit ≡ false → new.names ≡ old.names → old.entries ≡ [] → new.entries ≡ old.entries →
    HoldsNamed says head_name (blocks is units) old → HoldsNamed says head_name (blocks is (units ++ unit ∷ [])) new
named_none {E} says is units unit old new body same none kept h =
    subst (λ z. HoldsNamed says head_name z new) (sym (blocks-body is units unit body)) (record {
      names = same ∙ h.names ∙ sym (names_stay unit (blocks is units));
      entries = subst (λ (z : List E). InTurn says (with_unit (blocks is units) unit) z) (sym kept) (none_stay says unit (blocks is units) old.entries none h.entries);
    })

-- Another unit that changes the last entry.
pub named_last : {E : Type 0} (says : Block Token → E → Type 0) (is : List Token → Bool) (units : List (List Token)) (unit : List Token)
    (old new : NamedList E) (es : List E) (e f : E) → is unit ≡ false → new.names ≡ old.names → old.entries ≡ es ++ e ∷ [] → new.entries ≡ es ++ f ∷ [] →
    ((entry : Block Token) → says entry e → says (extended entry unit) f) →
    HoldsNamed says head_name (blocks is units) old → HoldsNamed says head_name (blocks is (units ++ unit ∷ [])) new
named_last {E} says is units unit old new es e f body same was more changes h =
    subst (λ z. HoldsNamed says head_name z new) (sym (blocks-body is units unit body)) (record {
      names = same ∙ h.names ∙ sym (names_stay unit (blocks is units));
      entries = subst (λ (z : List E). InTurn says (with_unit (blocks is units) unit) z) (sym more)
          (turn_last says unit e f changes (blocks is units) es (subst (λ (z : List E). InTurn says (blocks is units) z) was h.entries));
    })
