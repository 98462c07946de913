-- What words show, by what the reader finds.
use Rattle.std.proofs.Common.{◌≡◌, ◌↔◌, IsTrue, Bool, true, false, ℕ, List, Option, Some, None, Contains, inl, inr, refl, sym, ◌∙◌, ap, subst}
use Rattle.def_wiring.specs.declared.act.Act.{Act}
use Rattle.def_wiring.specs.declared.act.Act.TheVariants as acts
use Rattle.def_wiring.specs.declared.error.Late.{Late}
use Rattle.def_wiring.specs.declared.error.Shown.{Shown}
use Rattle.def_wiring.specs.declared.error.Shown.TheVariants.{Here}
use Rattle.def_wiring.specs.declared.error.WiresKind.{WiresKind}
use Rattle.def_wiring.specs.declared.error.WiresKind.TheVariants as kinds
use Rattle.def_wiring.specs.declared.path.Path.{Path}
use Rattle.def_wiring.specs.declared.path.Point.{Point}
use Rattle.def_wiring.specs.declared.number.Quantity.TheVariants.{Any}
use Rattle.def_wiring.specs.declared.sort.Sort.{Sort}
use Rattle.def_wiring.specs.declared.sort.Sort.TheVariants as sorts
use Rattle.def_wiring.specs.Fault.{CoordinateFault, SlantFault, WordFault, NoneLate, IsFirstLate, shown_as, LateFault, HasNumbers, ViaEndFault, ViaPartFault}
use Rattle.def_wiring.specs.inside.Held.{IsLate}
use Rattle.def_wiring.specs.Number.{NumberFault}
use Rattle.def_wiring.specs.Path.{last_y, coordinate}
use Rattle.def_wiring.specs.Record.{Asked}
use Rattle.def_wiring.specs.Sort.{sort_of}
use Rattle.def_wiring.proofs.Late.{none_late}
use Rattle.reading.specs.Fault.{Finds}
use Rattle.reading.specs.Word.{Token}

-- ## a point

pub not_true : (b : Bool) → b ≡ false → b ≡ true → ⊥
not_true true e f = let t : true ≡ false = e in cc
not_true false e f = let t : false ≡ true = f in cc

-- A coordinate but `*` is a number.
pub not_star : (last : Option Point) (sort : Sort) → (sort ≡ sorts.Star → ⊥) → (text : List ℕ) (kind : Option WiresKind) → Finds (NumberFault Any text) kind →
    Finds (CoordinateFault last sort text) kind
not_star None sorts.Star apart text kind h = absurd (apart refl)
not_star (Some point) sorts.Star apart text kind h = absurd (apart refl)
not_star last sort apart text kind h = h

-- A second coordinate shows what it shows for itself, and else what the segment does.
pub second_itself : (vias : List (List ℕ)) (path : Path) (sort : Sort) (text : List ℕ) (word : Token) (kind : WiresKind) → sort ≡ sort_of word → text ≡ word.text →
    CoordinateFault path.last sort text kind → WordFault vias acts.Y path word kind
second_itself vias path sort text word kind e f h =
    inl (subst (λ z. CoordinateFault path.last z word.text kind) e (subst (λ z. CoordinateFault path.last sort z kind) f h))

none_second : (vias : List (List ℕ)) (path : Path) (sort : Sort) (text : List ℕ) (word : Token) → sort ≡ sort_of word → text ≡ word.text →
    ((k : WiresKind) → CoordinateFault path.last sort text k → ⊥) → ((k : WiresKind) → SlantFault path.last path.x (coordinate sort (last_y path.last) text) k → ⊥) →
    (k : WiresKind) → WordFault vias acts.Y path word k → ⊥
none_second vias path sort text word e f fine h k (inl w) =
    fine k (subst (λ z. CoordinateFault path.last z text k) (sym e) (subst (λ z. CoordinateFault path.last (sort_of word) z k) (sym f) w))
none_second vias path sort text word e f fine h k (inr w) =
    h k (subst (λ z. SlantFault path.last path.x (coordinate z (last_y path.last) text) k) (sym e)
    (subst (λ z. SlantFault path.last path.x (coordinate (sort_of word) (last_y path.last) z) k) (sym f) w))

pub second_slant : (vias : List (List ℕ)) (path : Path) (sort : Sort) (text : List ℕ) (word : Token) (kind : Option WiresKind) → sort ≡ sort_of word → text ≡ word.text →
    ((k : WiresKind) → CoordinateFault path.last sort text k → ⊥) → Finds (SlantFault path.last path.x (coordinate sort (last_y path.last) text)) kind →
    Finds (WordFault vias acts.Y path word) kind
second_slant vias path sort text word (Some kind) e f fine h =
    inr (subst (λ z. SlantFault path.last path.x (coordinate z (last_y path.last) word.text) kind) e
    (subst (λ z. SlantFault path.last path.x (coordinate sort (last_y path.last) z) kind) f h))
second_slant vias path sort text word None e f fine h = none_second vias path sort text word e f fine h

-- ## entries of VIAS

pub late_shows : (vias : List (List ℕ)) (asked : List Asked) (late : Option Late) (one : Late) → late ≡ Some one → IsLate vias asked late →
    LateFault vias asked (shown_as one.kind one)
late_shows vias asked late one e h = (one, subst (λ z. IsLate vias asked z) e h, refl)

pub end_fine : (vias : List (List ℕ)) (asked : List Asked) (late : Option Late) (words : List Token) → late ≡ None → IsLate vias asked late → HasNumbers words →
    Finds (ViaEndFault vias asked words) None
end_fine vias asked late words e h has shown (inl k) = none_late vias asked k.0 (subst (λ z. IsLate vias asked z) e h) k.1
end_fine vias asked late words e h has shown (inr k) = k.1 has

pub end_signs : (vias : List (List ℕ)) (asked : List Asked) (late : Option Late) (words : List Token) → late ≡ None → IsLate vias asked late →
    (HasNumbers words → ⊥) → ViaEndFault vias asked words (Here kinds.Syntax)
end_signs vias asked late words e h none = inr (subst (λ z. IsLate vias asked z) e h, none, refl)

pub part_shows : (vias : List (List ℕ)) (asked : List Asked) (late : Option Late) (words : List Token) → late ≡ None → IsLate vias asked late →
    HasNumbers words → ViaPartFault vias asked words (Here kinds.ViaForm)
part_shows vias asked late words e h has = inr (subst (λ z. IsLate vias asked z) e h, has, refl)
