-- The fault that the last word of a unit shows, by what the reader holds.
use Rattle.std.proofs.Common.{◌≡◌, ◌≤◌, List, [], ◌∷◌, length, Option, Some, None, Ok, refl, subst, arith}
use Rattle.def_wiring.specs.declared.error.Shown.{Shown}
use Rattle.def_wiring.specs.declared.error.Shown.TheVariants.{Here, Earlier}
use Rattle.def_wiring.specs.declared.error.WiresKind.{WiresKind}
use Rattle.def_wiring.specs.declared.held.Held.{Held}
use Rattle.def_wiring.specs.declared.section.Section.{Section}
use Rattle.def_wiring.specs.declared.sort.Sort.{Sort}
use Rattle.def_wiring.specs.declared.standing.Standing.{Standing}
use Rattle.def_wiring.specs.Fault.{AtWord, FirstFault, SecondFault}
use Rattle.def_wiring.specs.Format.{format}
use Rattle.def_wiring.specs.inside.Fault.{here, sort_or}
use Rattle.def_wiring.specs.inside.Held.{Holds}
use Rattle.def_wiring.specs.Record.{heard_of}
use Rattle.def_wiring.specs.Sort.{sort_of}
use Rattle.def_wiring.specs.Standing.{section_in}
use Rattle.def_wiring.specs.inside.Value.{says}
use Rattle.reading.specs.Fault.{Finds, FindsValue, told_at}
use Rattle.reading.specs.Grammar.{Tells}
use Rattle.reading.specs.Laws.{tell-at}
use Rattle.reading.specs.Word.{Token}

none_here : (shows : WiresKind → Type 0) → ((kind : WiresKind) → shows kind → ⊥) → (shown : Shown) → AtWord shows shown → ⊥
none_here shows h (Here kind) k = h kind k
none_here shows h (Earlier late) k = k

-- The kind of a word, as what it shows.
pub here_finds : (shows : WiresKind → Type 0) (kind : Option WiresKind) → Finds shows kind → Finds (AtWord shows) (here kind)
here_finds shows (Some kind) h = h
here_finds shows None h = none_here shows h

-- What is found where the reader stands is found where the units lead.
there : (shows : Section → Standing → Shown → Type 0) (units : List (List Token)) (held : Held) → Holds units held → (section : Section) →
    section ≡ section_in held.standing → (kind : Option Shown) → Finds (shows section held.standing) kind →
    Finds (shows (section_in (heard_of units).standing) (heard_of units).standing) kind
there shows units held h section is kind found =
    subst (λ (z : Standing). Finds (shows (section_in z) z) kind) h.standing
    (subst (λ (z : Section). Finds (shows z held.standing) kind) is found)

finds_value : (shows : Shown → Type 0) (kind : Option Shown) (sort : Sort) (says : Sort → Type 0) → says sort → Finds shows kind → FindsValue shows says (sort_or kind sort)
finds_value shows None sort says said h = (h, said)
finds_value shows (Some kind) sort says said h = h

pub first_told : (units : List (List Token)) (held : Held) → Holds units held → (section : Section) → section ≡ section_in held.standing →
    (first : Token) (sort : Sort) → sort ≡ sort_of first → (kind : Option Shown) → Finds (FirstFault section held.standing (heard_of units).said first) kind →
    Tells format says units (first ∷ []) (told_at 0 (sort_or kind sort))
first_told units held h section is first sort same kind found =
    let heard = heard_of units in
    let shows : Section → Standing → Shown → Type 0 = λ s t. FirstFault s t heard.said first in
    let fault = shows (section_in heard.standing) heard.standing in
    tell-at format says units (first ∷ []) 0 fault (λ z. z ≡ sort_of first) (λ a k. k) (λ kind k. (refl, k)) (λ value k. k) (sort_or kind sort)
    (finds_value fault kind sort (λ z. z ≡ sort_of first) same (there shows units held h section is kind found))

pub second_told : (units : List (List Token)) (held : Held) → Holds units held → (section : Section) → section ≡ section_in held.standing →
    (first second : Token) (told sort : Sort) → told ≡ sort_of first → sort ≡ sort_of second → (kind : Option Shown) →
    Finds (AtWord (SecondFault section (heard_of units).said told second)) kind →
    Tells format says units (first ∷ second ∷ []) (told_at 1 (sort_or kind sort))
second_told units held h section is first second told sort same own kind found =
    let heard = heard_of units in
    let shows : Section → Standing → Shown → Type 0 = λ s t. AtWord (SecondFault s heard.said (sort_of first) second) in
    let fault = shows (section_in heard.standing) heard.standing in
    tell-at format says units (first ∷ second ∷ []) 1 fault (λ z. z ≡ sort_of second) (λ a k. k) (λ kind k. (refl, k)) (λ value k. k) (sort_or kind sort)
    (finds_value fault kind sort (λ z. z ≡ sort_of second) own (there shows units held h section is kind
    (subst (λ (z : Sort). Finds (AtWord (SecondFault section heard.said z second)) kind) same found)))

-- More words show no fault and say nothing.
pub long_told : (units : List (List Token)) (part : List Token) (sort : Sort) → 3 ≤ length part → Tells format says units part (Ok sort)
long_told units [] sort h = absurd (omega arith)
long_told units (a ∷ []) sort h = absurd (omega arith)
long_told units (a ∷ b ∷ []) sort h = absurd (omega arith)
long_told units (a ∷ b ∷ c ∷ part) sort h = (λ a k. k, tt)
