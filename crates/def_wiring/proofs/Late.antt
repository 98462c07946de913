-- The first of the words of an entry that shows a fault.
use Rattle.std.proofs.Common.{◌≡◌, ℕ, List, [], ◌∷◌, ◌++◌, Option, Some, None, inl, inr, refl, sym, ◌∙◌, ap, subst}
use Rattle.outside.specs.declared.place.Place.{Place}
use Rattle.def_wiring.specs.declared.error.Late.{Late}
use Rattle.def_wiring.specs.declared.error.WiresKind.{WiresKind}
use Rattle.def_wiring.specs.Fault.{AskedFault, NoneLate, IsFirstLate}
use Rattle.def_wiring.specs.inside.Held.{IsLate}
use Rattle.def_wiring.specs.Record.{Asked}

pub none_late : (vias : List (List ℕ)) (asked : List Asked) (late : Late) → NoneLate vias asked → IsFirstLate vias asked late → ⊥
none_late vias [] late h k = k
none_late vias (a ∷ more) late h (inl k) = h.0 late.kind k.0
none_late vias (a ∷ more) late h (inr k) = none_late vias more late h.1 k.1

-- ## one more word

-- What was shown first stays so.
pub late_stays : (vias : List (List ℕ)) (asked : List Asked) (one : Asked) (late : Late) → IsFirstLate vias asked late → IsFirstLate vias (asked ++ one ∷ []) late
late_stays vias [] one late h = absurd h
late_stays vias (a ∷ more) one late (inl h) = inl h
late_stays vias (a ∷ more) one late (inr h) = inr (h.0, late_stays vias more one late h.1)

pub late_more : (vias : List (List ℕ)) (asked : List Asked) (one : Asked) (late : Late) → NoneLate vias asked → AskedFault vias one late.kind →
    late.place ≡ one.word.place → IsFirstLate vias (asked ++ one ∷ []) late
late_more vias [] one late h shows at = inl (shows, at)
late_more vias (a ∷ more) one late h shows at = inr (h.0, late_more vias more one late h.1 shows at)

pub fine_more : (vias : List (List ℕ)) (asked : List Asked) (one : Asked) → NoneLate vias asked → ((kind : WiresKind) → AskedFault vias one kind → ⊥) →
    NoneLate vias (asked ++ one ∷ [])
fine_more vias [] one h fine = (fine, tt)
fine_more vias (a ∷ more) one h fine = (h.0, fine_more vias more one h.1 fine)

-- Of no words there is none, whichever vias are known.
pub late_of_none : (vias others : List (List ℕ)) (late : Option Late) → IsLate vias [] late → IsLate others [] late
late_of_none vias others None h = tt
late_of_none vias others (Some late) h = absurd h
