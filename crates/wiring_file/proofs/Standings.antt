-- One more unit.
use Rattle.std.proofs.Common.{◌≡◌, ◌≢◌, ℕ, ◌+◌, ◌≤◌, ◌==◌, ◌&&◌, not, Bool, true, false, pos, List, [], ◌∷◌, ◌++◌, length, filter, arith, refl, sym, ap, subst, ◌∙◌, if◌then◌else◌}
use Rattle.entry_list.specs.InTurn.{InTurn}
use Rattle.entry_list.specs.Laws.{turn-added, turn-kept}
use Rattle.reading.specs.Word.{Token}
use Rattle.wiring_file.specs.declared.held.Held.{Held}
use Rattle.wiring_file.specs.declared.record.ViaText.{ViaText}
use Rattle.wiring_file.specs.declared.record.WireText.{WireText}
use Rattle.wiring_file.specs.declared.record.PlaceText.{PlaceText}
use Rattle.wiring_file.specs.declared.section.Section.{Section}
use Rattle.wiring_file.specs.declared.section.Section.TheVariants.{Version, DividerChar, BusBitChars, Design, Units, Die, ViasHead, Vias, NetsHead, Nets, First, Line, Next, DesignEnd, Ended}
use Rattle.wiring_file.specs.Unit.{text_at, is_entry, is_place, ends_net}
use Rattle.wiring_file.specs.Section.{section_number}
use Rattle.wiring_file.specs.Fault.{HasCount}
use Rattle.wiring_file.specs.Record.{is_via, is_wire, is_stacked, SaysVia, SaysWire, SaysPlace}
use Rattle.wiring_file.specs.Standing.{Standing, start, after, leads, standing, standing_from, placed, placed_from, at, one_more}
use Rattle.wiring_file.specs.inside.Held.{Holds, is_counted, next_section}

standing_more : (s : Standing) (units : List (List Token)) (unit : List Token) → standing_from s (units ++ unit ∷ []) ≡ after (standing_from s units) unit
standing_more s [] unit = refl
standing_more s (u ∷ us) unit = standing_more (after s u) us unit

placed_more : (s : Standing) (units : List (List Token)) (unit : List Token) → placed_from s (units ++ unit ∷ []) ≡ placed_from s units ++ (standing_from s units, unit) ∷ []
placed_more s [] unit = refl
placed_more s (u ∷ us) unit = ap (λ z. (s, u) ∷ z) (placed_more (after s u) us unit)

-- ## entries are no more than units

one_of : (b : Bool) (x y : Standing) (n : ℕ) → x.entries ≤ n → y.entries ≤ n → (if b then x else y).entries ≤ n
one_of true x y n h k = h
one_of false x y n h k = k

leads_few : (X : Section) (s : Standing) (unit : List Token) → (leads X s unit).entries ≤ s.entries + 1
leads_few Vias s unit = one_of (is_entry unit) (one_more Vias s) (at NetsHead s) (s.entries + 1) (omega arith) (omega arith)
leads_few Nets s unit =
    one_of (is_entry unit) (record { section = First; count = s.count; entries = s.entries + 1; net = text_at 1 unit; placed = false }) (at DesignEnd s) (s.entries + 1)
    (omega arith) (omega arith)
leads_few First s unit = one_of (ends_net unit) (at Nets s) (at Line s) (s.entries + 1) (omega arith) (omega arith)
leads_few Next s unit = one_of (ends_net unit) (at Nets s) (at Line s) (s.entries + 1) (omega arith) (omega arith)
leads_few X s unit = omega arith

few_from : (s : Standing) (units : List (List Token)) → (standing_from s units).entries ≤ s.entries + length units
few_from s [] = omega arith
few_from s (unit ∷ units) = let one = leads_few s.section s unit in let all = few_from (after s unit) units in omega arith

pub entries_few : (units : List (List Token)) → (standing units).entries ≤ length units
entries_few units = let all = few_from start units in omega arith

-- ## what is held

-- What is held of where the next unit stands.
pub record Stands (s : Standing) (held : Held) : Type 0 where
  pub section : held.section ≡ s.section
  pub net : held.net ≡ s.net
  pub stacked : held.placed ≡ s.placed
  pub count : is_counted s.section ≡ true → HasCount s (pos held.count)
  pub entries : held.entries ≡ s.entries

module _ (units : List (List Token)) (unit : List Token) (old new : Held) (held : Holds units old) (stands : Stands (after (standing units) unit) new) where
  abbrev here : Standing × List Token
  here = (standing units, unit)

  abbrev pub AreVias : Type 0
  AreVias = InTurn SaysVia (filter is_via (placed units ++ here ∷ [])) new.vias.items

  abbrev pub AreWires : Type 0
  AreWires = InTurn SaysWire (filter is_wire (placed units ++ here ∷ [])) new.wires.items

  abbrev pub ArePlaces : Type 0
  ArePlaces = InTurn SaysPlace (filter is_stacked (placed units ++ here ∷ [])) new.places.items

  pub same_vias : is_via here ≡ false → new.vias.items ≡ old.vias.items → AreVias
  same_vias other same =
      subst (λ l. InTurn SaysVia (filter is_via (placed units ++ here ∷ [])) l) (sym same) (turn-kept SaysVia is_via (placed units) here old.vias.items other held.vias)

  pub same_wires : is_wire here ≡ false → new.wires.items ≡ old.wires.items → AreWires
  same_wires other same =
      subst (λ l. InTurn SaysWire (filter is_wire (placed units ++ here ∷ [])) l) (sym same) (turn-kept SaysWire is_wire (placed units) here old.wires.items other held.wires)

  pub same_places : is_stacked here ≡ false → new.places.items ≡ old.places.items → ArePlaces
  same_places other same =
      subst (λ l. InTurn SaysPlace (filter is_stacked (placed units ++ here ∷ [])) l) (sym same) (turn-kept SaysPlace is_stacked (placed units) here old.places.items other held.places)

  pub holds_more : AreVias → AreWires → ArePlaces → Holds (units ++ unit ∷ []) new
  holds_more vias wires places =
      let at = placed_more start units unit in
      let P : Standing → Type 0 = λ s. Stands s new in
      let there : Stands (standing (units ++ unit ∷ [])) new = subst P (sym (standing_more start units unit)) stands in
      record {
        section = there.section;
        net = there.net;
        stacked = there.stacked;
        count = there.count;
        entries = there.entries;
        vias = subst (λ l. InTurn SaysVia (filter is_via l) new.vias.items) (sym at) vias;
        wires = subst (λ l. InTurn SaysWire (filter is_wire l) new.wires.items) (sym at) wires;
        places = subst (λ l. InTurn SaysPlace (filter is_stacked l) new.places.items) (sym at) places;
      }

-- ## units in a section

module _ (units : List (List Token)) (unit : List Token) (old new : Held) (held : Holds units old) (X : Section) (e : old.section ≡ X) where
  abbrev s : Standing
  s = standing units

  stands_here : s.section ≡ X
  stands_here = sym held.section ∙ e

  pub leads_here : after s unit ≡ leads X s unit
  leads_here = ap (λ sec. leads sec s unit) stands_here

  via_is : is_via (s, unit) ≡ ((section_number X == section_number Vias) && is_entry unit)
  via_is = ap (λ sec. (section_number sec == section_number Vias) && is_entry unit) stands_here

  wire_is : is_wire (s, unit) ≡ ((section_number X == section_number Line) && not (is_place unit))
  wire_is = ap (λ sec. (section_number sec == section_number Line) && not (is_place unit)) stands_here

  place_is : is_stacked (s, unit) ≡ ((section_number X == section_number Line) && is_place unit)
  place_is = ap (λ sec. (section_number sec == section_number Line) && is_place unit) stands_here

  pub counted_here : is_counted X ≡ true → HasCount s (pos old.count)
  counted_here h = held.count (ap is_counted stands_here ∙ h)

  none : (b c : Bool) → b ≡ false → (b && c) ≡ false
  none b c h = ap (λ z. z && c) h

  -- The unit says no entry.
  pub moved : Stands (leads X s unit) new → ((section_number X == section_number Vias) && is_entry unit) ≡ false → (section_number X == section_number Line) ≡ false
      → new.vias.items ≡ old.vias.items → new.wires.items ≡ old.wires.items → new.places.items ≡ old.places.items → Holds (units ++ unit ∷ []) new
  moved stands no_via no_line vias wires places =
      let there : Stands (after s unit) new = subst (λ z. Stands z new) (sym leads_here) stands in
      holds_more units unit old new held there (same_vias units unit old new held there (via_is ∙ no_via) vias)
      (same_wires units unit old new held there (wire_is ∙ none (section_number X == section_number Line) (not (is_place unit)) no_line) wires)
      (same_places units unit old new held there (place_is ∙ none (section_number X == section_number Line) (is_place unit) no_line) places)

  -- The unit says a via.
  pub via_added : (via : ViaText) → Stands (leads X s unit) new → ((section_number X == section_number Vias) && is_entry unit) ≡ true → (section_number X == section_number Line) ≡ false
      → SaysVia (s, unit) via → new.vias.items ≡ old.vias.items ++ via ∷ [] → new.wires.items ≡ old.wires.items → new.places.items ≡ old.places.items → Holds (units ++ unit ∷ []) new
  via_added via stands is no_line says vias wires places =
      let there : Stands (after s unit) new = subst (λ z. Stands z new) (sym leads_here) stands in
      holds_more units unit old new held there (turn-added SaysVia is_via (placed units) (s, unit) old.vias.items new.vias.items via (via_is ∙ is) held.vias says vias)
      (same_wires units unit old new held there (wire_is ∙ none (section_number X == section_number Line) (not (is_place unit)) no_line) wires)
      (same_places units unit old new held there (place_is ∙ none (section_number X == section_number Line) (is_place unit) no_line) places)

  -- The unit says a line of a piece.
  pub wire_added : (wire : WireText) → Stands (leads X s unit) new → (section_number X == section_number Vias) ≡ false → (section_number X == section_number Line) ≡ true → is_place unit ≡ false
      → SaysWire (s, unit) wire → new.vias.items ≡ old.vias.items → new.wires.items ≡ old.wires.items ++ wire ∷ [] → new.places.items ≡ old.places.items → Holds (units ++ unit ∷ []) new
  wire_added wire stands no_via line other says vias wires places =
      let there : Stands (after s unit) new = subst (λ z. Stands z new) (sym leads_here) stands in
      holds_more units unit old new held there (same_vias units unit old new held there (via_is ∙ none (section_number X == section_number Vias) (is_entry unit) no_via) vias)
      (turn-added SaysWire is_wire (placed units) (s, unit) old.wires.items new.wires.items wire (wire_is ∙ (λ i. line i && not (other i))) held.wires says wires)
      (same_places units unit old new held there (place_is ∙ (λ i. line i && other i)) places)

  -- The unit says a line of an array.
  pub place_added : (place : PlaceText) → Stands (leads X s unit) new → (section_number X == section_number Vias) ≡ false → (section_number X == section_number Line) ≡ true → is_place unit ≡ true
      → SaysPlace (s, unit) place → new.vias.items ≡ old.vias.items → new.wires.items ≡ old.wires.items → new.places.items ≡ old.places.items ++ place ∷ [] → Holds (units ++ unit ∷ []) new
  place_added place stands no_via line it says vias wires places =
      let there : Stands (after s unit) new = subst (λ z. Stands z new) (sym leads_here) stands in
      holds_more units unit old new held there (same_vias units unit old new held there (via_is ∙ none (section_number X == section_number Vias) (is_entry unit) no_via) vias)
      (same_wires units unit old new held there (wire_is ∙ (λ i. line i && not (it i))) wires)
      (turn-added SaysPlace is_stacked (placed units) (s, unit) old.places.items new.places.items place (place_is ∙ (λ i. line i && it i)) held.places says places)

-- ## what is held of where units lead

begun_by : (b : Bool) (s : Standing) (new : Held) → new.section ≡ (if b then Nets else Line) → new.net ≡ s.net → new.placed ≡ s.placed → HasCount s (pos new.count) → new.entries ≡ s.entries
    → Stands (if b then (at Nets s) else (at Line s)) new
begun_by true s new e net stacked count entries = record { section = e; net = net; stacked = stacked; count = λ h. count; entries = entries }
begun_by false s new e net stacked count entries = record { section = e; net = net; stacked = stacked; count = λ h. count; entries = entries }

pub begun : (s : Standing) (unit : List Token) (new : Held) → new.section ≡ (if ends_net unit then Nets else Line) → new.net ≡ s.net → new.placed ≡ s.placed → HasCount s (pos new.count) → new.entries ≡ s.entries
    → Stands (if ends_net unit then (at Nets s) else (at Line s)) new
begun s unit new e net stacked count entries = begun_by (ends_net unit) s new e net stacked count entries

not_counted : {P : Type 0} → false ≡ true → P
not_counted h = absurd (cc)

-- The list ends.
pub ended : (s : Standing) (unit : List Token) (new : Held) (X : Section) (other : Standing) → is_counted X ≡ false → is_entry unit ≡ false → new.section ≡ X → new.net ≡ s.net → new.placed ≡ s.placed → new.entries ≡ s.entries
    → Stands (if is_entry unit then other else (at X s)) new
ended s unit new X other free e section net stacked entries =
    subst (λ b. Stands (if b then other else (at X s)) new) (sym e) (record {
      section = section;
      net = net;
      stacked = stacked;
      count = λ h. not_counted (sym free ∙ h);
      entries = entries;
    })

-- The list goes on.
pub goes_on : (unit : List Token) (new : Held) (next other : Standing) → is_entry unit ≡ true → Stands next new → Stands (if is_entry unit then next else other) new
goes_on unit new next other e h = subst (λ b. Stands (if b then next else other) new) (sym e) h

-- ## units that lead to the next section

moved_on : (units : List (List Token)) (unit : List Token) (old : Held) (held : Holds units old) (X Y : Section) → old.section ≡ X → is_counted Y ≡ false → leads X (standing units) unit ≡ at Y (standing units)
    → ((section_number X == section_number Vias) && is_entry unit) ≡ false → (section_number X == section_number Line) ≡ false → Holds (units ++ unit ∷ []) (record old { section = Y })
moved_on units unit old held X Y e free to no_via no_line =
    let s : Standing = standing units in
    let new : Held = record old { section = Y } in
    let there : Stands (at Y s) new = record { section = refl; net = held.net; stacked = held.stacked; count = λ h. not_counted (sym free ∙ h); entries = held.entries } in
    moved units unit old new held X e (subst (λ z. Stands z new) (sym to) there) no_via no_line refl refl refl

pub on : (units : List (List Token)) (unit : List Token) (old : Held) (held : Holds units old) (X : Section) → old.section ≡ X
    → X ≢ ViasHead → X ≢ Vias → X ≢ NetsHead → X ≢ Nets → X ≢ First → X ≢ Next → X ≢ Line → Holds (units ++ unit ∷ []) (record old { section = next_section X })
on units unit old held Version e a b c d f g h = moved_on units unit old held Version DividerChar e refl refl refl refl
on units unit old held DividerChar e a b c d f g h = moved_on units unit old held DividerChar BusBitChars e refl refl refl refl
on units unit old held BusBitChars e a b c d f g h = moved_on units unit old held BusBitChars Design e refl refl refl refl
on units unit old held Design e a b c d f g h = moved_on units unit old held Design Units e refl refl refl refl
on units unit old held Units e a b c d f g h = moved_on units unit old held Units Die e refl refl refl refl
on units unit old held Die e a b c d f g h = moved_on units unit old held Die ViasHead e refl refl refl refl
on units unit old held DesignEnd e a b c d f g h = moved_on units unit old held DesignEnd Ended e refl refl refl refl
on units unit old held Ended e a b c d f g h = moved_on units unit old held Ended Ended e refl refl refl refl
on units unit old held ViasHead e a b c d f g h = absurd (a refl)
on units unit old held Vias e a b c d f g h = absurd (b refl)
on units unit old held NetsHead e a b c d f g h = absurd (c refl)
on units unit old held Nets e a b c d f g h = absurd (d refl)
on units unit old held First e a b c d f g h = absurd (f refl)
on units unit old held Next e a b c d f g h = absurd (g refl)
on units unit old held Line e a b c d f g h = absurd (h refl)
