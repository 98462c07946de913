-- The faults of the text of wiring: a number that is refused, a name that stands again, and where an entry counts, a word of
-- it that cannot stand there or is not read.
use Rattle.std.specs.Prelude.{◌≡◌, ◌⊎◌, ℕ, Bool, true, false, List, [], ◌∷◌, Option, Some, None, Contains}
use Rattle.def_wiring.specs.declared.act.Act.{Act}
use Rattle.def_wiring.specs.declared.act.Act.TheVariants as acts
use Rattle.def_wiring.specs.declared.error.Late.{Late}
use Rattle.def_wiring.specs.declared.error.Shown.{Shown}
use Rattle.def_wiring.specs.declared.error.Shown.TheVariants.{Here, Earlier}
use Rattle.def_wiring.specs.declared.error.WiresKind.{WiresKind}
use Rattle.def_wiring.specs.declared.error.WiresKind.TheVariants as kinds
use Rattle.def_wiring.specs.declared.number.Quantity.TheVariants.{Any, NotNegative}
use Rattle.def_wiring.specs.declared.path.Path.{Path}
use Rattle.def_wiring.specs.declared.path.Point.{Point}
use Rattle.def_wiring.specs.declared.section.Section.{Section}
use Rattle.def_wiring.specs.declared.section.Section.TheVariants.{Top, Vias, Via, Nets, Net}
use Rattle.def_wiring.specs.declared.sort.Sort.{Sort}
use Rattle.def_wiring.specs.declared.sort.Sort.TheVariants as sorts
use Rattle.def_wiring.specs.declared.standing.Standing.{Standing}
use Rattle.def_wiring.specs.declared.via.ViaNumbers.{ViaNumbers}
use Rattle.def_wiring.specs.Number.{NumberFault, IsOther}
use Rattle.def_wiring.specs.Path.{last_y, coordinate}
use Rattle.def_wiring.specs.Record.{Asked, Said, SaysNumbers, heard_of, known_vias}
use Rattle.def_wiring.specs.Sort.{sort_of}
use Rattle.def_wiring.specs.Standing.{act_in, section_in, told}
use Rattle.reading.specs.declared.refusal.Found.{Found}
use Rattle.reading.specs.Word.{Token}

-- ## what a word shows where its entry counts

-- A coordinate that is refused: `*` repeats one of the path's last point, so it needs one.
abbrev pub CoordinateFault : Option Point → Sort → List ℕ → WiresKind → Type 0
CoordinateFault None sorts.Star text kind = kind ≡ kinds.Syntax
CoordinateFault (Some point) sorts.Star text kind = ⊥
CoordinateFault last sort text kind = NumberFault Any text kind

-- With its second coordinate a point is no end of a segment along x or y.
abbrev pub SlantFault : Option Point → List ℕ → List ℕ → WiresKind → Type 0
SlantFault None x y kind = ⊥
SlantFault (Some point) x y kind = IsOther point.x x × IsOther point.y y × (kind ≡ kinds.WireForm)

-- A via that is none of these.
abbrev pub UnknownFault : List (List ℕ) → List ℕ → WiresKind → Type 0
UnknownFault vias via kind = (¬ Contains vias via) × (kind ≡ kinds.UnknownVia)

-- What a word shows that does this, by the names of the generated vias and the path before it.
abbrev pub WordFault : List (List ℕ) → Act → Path → Token → WiresKind → Type 0
WordFault vias acts.Misplaced path word kind = kind ≡ kinds.Syntax
WordFault vias acts.Breaks path word kind = kind ≡ kinds.Syntax
WordFault vias acts.NoWire path word kind = kind ≡ kinds.WireForm
WordFault vias acts.NoVia path word kind = kind ≡ kinds.ViaForm
WordFault vias acts.Number path word kind = NumberFault Any word.text kind
WordFault vias acts.Width path word kind = NumberFault NotNegative word.text kind
WordFault vias acts.Reach path word kind = NumberFault NotNegative word.text kind
WordFault vias acts.X path word kind = CoordinateFault path.last (sort_of word) word.text kind
WordFault vias acts.Y path word kind =
    CoordinateFault path.last (sort_of word) word.text kind
    ⊎ SlantFault path.last path.x (coordinate (sort_of word) (last_y path.last) word.text) kind
WordFault vias acts.Place path word kind = UnknownFault vias word.text kind
WordFault vias act path word kind = ⊥

-- What one of the words of an entry shows where the entry counts.
abbrev pub AskedFault : List (List ℕ) → Asked → WiresKind → Type 0
AskedFault vias asked kind = WordFault vias asked.act asked.path asked.word kind

-- None of the words shows a fault.
abbrev pub NoneLate : List (List ℕ) → List Asked → Type 0
NoneLate vias [] = Unit {0}
NoneLate vias (asked ∷ more) = ((kind : WiresKind) → AskedFault vias asked kind → ⊥) × NoneLate vias more

-- The first of the words that shows a fault, and its kind.
abbrev pub IsFirstLate : List (List ℕ) → List Asked → Late → Type 0
IsFirstLate vias [] late = ⊥
IsFirstLate vias (asked ∷ more) late =
    (AskedFault vias asked late.kind × (late.place ≡ asked.word.place))
    ⊎ (((kind : WiresKind) → AskedFault vias asked kind → ⊥) × IsFirstLate vias more late)

-- Where it shows that the entry counts, what is no start is Syntax at that word, and other kinds stand at their own word.
abbrev pub shown_as : WiresKind → Late → Shown
shown_as kinds.Syntax late = Here kinds.Syntax
shown_as _ late = Earlier late

-- What the words of an entry show where it shows that it counts.
abbrev pub LateFault : List (List ℕ) → List Asked → Shown → Type 0
LateFault vias asked shown = (late : Late) × IsFirstLate vias asked late × (shown ≡ shown_as late.kind late)

-- The kind of the word itself.
abbrev pub AtWord : (WiresKind → Type 0) → Shown → Type 0
AtWord shows (Here kind) = shows kind
AtWord shows (Earlier late) = ⊥

-- ## an entry of VIAS

-- The numbers of a generated via have their signs.
abbrev pub HasNumbers : List Token → Type 0
HasNumbers words = (numbers : ViaNumbers) × SaysNumbers words numbers

-- What the `;` of a generated via shows: a word that is no number, and else a number of another sign.
abbrev pub ViaEndFault : List (List ℕ) → List Asked → List Token → Shown → Type 0
ViaEndFault vias asked words shown =
    LateFault vias asked shown ⊎ (NoneLate vias asked × (¬ HasNumbers words) × (shown ≡ Here kinds.Syntax))

-- What a part shows that is not read: the same, and else that it is such a part.
abbrev pub ViaPartFault : List (List ℕ) → List Asked → List Token → Shown → Type 0
ViaPartFault vias asked words shown =
    ViaEndFault vias asked words shown ⊎ (NoneLate vias asked × HasNumbers words × (shown ≡ Here kinds.ViaForm))

abbrev pub ViaFault : Act → List (List ℕ) → List Asked → List Token → Shown → Type 0
ViaFault acts.EndsVia vias asked words = ViaEndFault vias asked words
ViaFault acts.NoVia vias asked words = ViaPartFault vias asked words
ViaFault act vias asked words = λ shown. ⊥

-- ## an entry of SPECIALNETS

-- What a word shows: its fault where the use of the net is known; where it tells the use, what the words before it show.
abbrev pub NetFault : Option Bool → Option Bool → List (List ℕ) → List Asked → Asked → Shown → Type 0
NetFault (Some power) told vias before asked = AtWord (AskedFault vias asked)
NetFault None (Some power) vias before asked = LateFault vias before
NetFault None None vias before asked = λ shown. ⊥

-- ## units

-- Why the only word of a unit is refused.
abbrev pub FirstFault : Section → Standing → Said → Token → Shown → Type 0
FirstFault Via standing said word =
    ViaFault (act_in Via standing (sort_of word)) (known_vias said) said.asked standing.entry
FirstFault Net standing said word =
    NetFault standing.power (told standing.cue (sort_of word)) (known_vias said) said.asked
    (record { act = act_in Net standing (sort_of word); path = standing.path; word = word })
FirstFault section standing said word = λ shown. ⊥

-- The name of an entry stands again.
abbrev pub TwiceFault : List (List ℕ) → Sort → Token → WiresKind → Type 0
TwiceFault names sorts.Minus name kind = Contains names name.text × (kind ≡ kinds.Twice)
TwiceFault names _ name kind = ⊥

-- The number after VIAS or SPECIALNETS is refused.
abbrev pub CountFault : Sort → Token → WiresKind → Type 0
CountFault sorts.Vias count kind = NumberFault NotNegative count.text kind
CountFault sorts.SpecialNets count kind = NumberFault NotNegative count.text kind
CountFault _ count kind = ⊥

-- Why the second word of a unit is refused.
abbrev pub SecondFault : Section → Said → Sort → Token → WiresKind → Type 0
SecondFault Top said first second = CountFault first second
SecondFault Vias said first second = TwiceFault said.via_names first second
SecondFault Nets said first second = TwiceFault said.net_names first second
SecondFault section said first second = λ kind. ⊥

abbrev pub fault_in : Section → Standing → Said → List Token → Found Shown → Type 0
fault_in section standing said (first ∷ []) found =
    (found.at ≡ 0) × FirstFault section standing said first found.kind
fault_in section standing said (first ∷ second ∷ []) found =
    (found.at ≡ 1) × AtWord (SecondFault section said (sort_of first) second) found.kind
fault_in section standing said _ found = ⊥

-- The fault that the last of a unit's words so far shows, at that word.
abbrev pub fault : List (List Token) → List Token → Found Shown → Type 0
fault units part found =
    let heard = heard_of units in fault_in (section_in heard.standing) heard.standing heard.said part found
