-- The sections of vias and nets.
use Rattle.std.proofs.Common.{◌≡◌, ℕ, suc, ◌+◌, ◌≤◌, Bool, true, false, pos, List, [], ◌∷◌, ◌++◌, length, codes, refl, sym, ◌∙◌, ap, subst, arith, inl, inr}
use Rattle.std.specs.Prelude.{decimal, flat_map}
use Rattle.std.proofs.lemmas.List.{append-nil}
use Rattle.number_place.specs.declared.place.NumberSign.TheVariants.{NotNegative}
use Rattle.reading.specs.declared.word.Form.TheVariants.{Bare}
use Rattle.reading.specs.Word.{Token}
use Rattle.wiring_file.specs.declared.record.ViaText.{ViaText}
use Rattle.wiring_file.specs.declared.record.Wiring.{Wiring}
use Rattle.wiring_file.specs.declared.section.Section.{Section}
use Rattle.wiring_file.specs.declared.section.Section.TheVariants as sections
use Rattle.wiring_file.specs.declared.sort.Sort.TheVariants as sorts
use Rattle.wiring_file.specs.Sort.{the, sort_of_text}
use Rattle.wiring_file.specs.Number.{limit}
use Rattle.wiring_file.specs.Rule.{net, end_of, counted}
use Rattle.wiring_file.specs.Standing.{Standing}
use Rattle.wiring_file.specs.Fault.{HasCount, IsMiscounted}
use Rattle.wiring_file.specs.Written.{NetText}
use Rattle.wiring_file.proofs.Digits.{Laws, no_true, no_false}
use Rattle.written_words.specs.Spelled.{Written, bare, tokens, IsWritten}
use Rattle.wiring_file.proofs.Sorts.{in_turn_match}
use Rattle.wiring_file.proofs.Blocks.{Says_in, no_fault, nothing, both, joins_written, none_written}
use Rattle.wiring_file.proofs.Facts.{IsNameWord, IsNumber, counted_fit}
use Rattle.wiring_file.proofs.ViaUnits.{bares, standing_at, count_number, count_of, count_is, vias_said, vias_units, vias_taken, AllVias}
use Rattle.wiring_file.proofs.LineUnits.{routed_units, routed-append, still, turned, line_place, wires_words, places_words, wires_said, places_said, AllWires, AllPlaces, wires_taken, places_taken, net_ended}

-- ## the section of the vias

pub vias_begun : Laws → (k : ℕ) → k ≤ limit → (count : List ℕ) (entries : ℕ) (name : List ℕ) (placed : Bool) →
    Says_in (standing_at sections.ViasHead count entries name placed) (bares (codes "VIAS" ∷ decimal k ∷ codes ";" ∷ []) ∷ [])
    (standing_at sections.Vias (decimal k) 0 name placed) nothing
vias_begun laws k few count entries name placed f =
    let h : IsNumber NotNegative (pos k) = count_number laws k few in
    let s : Standing = standing_at sections.ViasHead count entries name placed in
    let u : List Token = tokens f (bares (codes "VIAS" ∷ decimal k ∷ codes ";" ∷ [])) in
    record {
      taken = (omega arith, in_turn_match (counted sorts.Vias) u (refl, (h.sort, (refl, tt))), no_fault laws s u (λ within. (pos k, h.is), tt) (λ n within unfit. unfit), tt);
      leads = refl;
      vias = tt;
      wires = tt;
      places = tt;
    }

-- The end of a list is asked whether there were too few.
none_short : Laws → (section : Section) (k : ℕ) → k ≤ limit → (name : List ℕ) (placed : Bool) (word : Token) →
    IsMiscounted (standing_at section (decimal k) k name placed) (record { text = codes "END"; place = word.place; form = Bare } ∷ []) → ⊥
none_short laws section k few name placed word h = elim h [ inl more ↦ no_false more.0 | inr short ↦ short.3 (count_of laws k short.1 few short.2) ]

pub vias_ended : Laws → (k : ℕ) → k ≤ limit → (name : List ℕ) (placed : Bool) →
    Says_in (standing_at sections.Vias (decimal k) k name placed) (bares (codes "END" ∷ codes "VIAS" ∷ []) ∷ []) (standing_at sections.NetsHead (decimal k) k name placed) nothing
vias_ended laws k few name placed f =
    let s : Standing = standing_at sections.Vias (decimal k) k name placed in
    let first : Token = record { text = codes "END"; place = f 0; form = Bare } in
    let rest : List Token = tokens (λ n. f (suc n)) (bares (codes "VIAS" ∷ [])) in
    record {
      taken = (
        omega arith,
        inr (in_turn_match (end_of sorts.Vias) (first ∷ rest) (refl, (refl, tt))),
        no_fault laws s (first ∷ rest) (λ within. absurd (omega arith), (λ within. absurd (omega arith), (λ within. absurd (omega arith), (λ within. absurd (omega arith), (λ within. absurd (omega arith), (λ within. absurd (omega arith), (λ within. absurd (omega arith), (λ within. absurd (omega arith), (λ within. absurd (omega arith), (λ within. absurd (omega arith), tt)))))))))) (λ n within unfit. counted_fit s first rest (none_short laws sections.Vias k few name placed first) n within unfit),
        tt,
      );
      leads = refl;
      vias = tt;
      wires = tt;
      places = tt;
    }

-- All of it.
abbrev pub vias_section : List ViaText → List (List Written)
vias_section vias = bares (codes "VIAS" ∷ decimal (length vias) ∷ codes ";" ∷ []) ∷ (vias_units vias ++ bares (codes "END" ∷ codes "VIAS" ∷ []) ∷ [])

pub vias_section_taken : Laws → (vias : List ViaText) → AllVias vias → length vias ≤ limit → (count : List ℕ) (entries : ℕ) (name : List ℕ) (placed : Bool) →
    Says_in (standing_at sections.ViasHead count entries name placed) (vias_section vias) (standing_at sections.NetsHead (decimal (length vias)) (length vias) name placed)
    (both nothing (both (vias_said vias) nothing))
vias_section_taken laws vias h few count entries name placed =
    let k : ℕ = length vias in
    let a : Standing = standing_at sections.ViasHead count entries name placed in
    let b : Standing = standing_at sections.Vias (decimal k) 0 name placed in
    let c : Standing = standing_at sections.Vias (decimal k) k name placed in
    let d : Standing = standing_at sections.NetsHead (decimal k) k name placed in
    let last : List (List Written) = bares (codes "END" ∷ codes "VIAS" ∷ []) ∷ [] in
    joins_written a b d (bares (codes "VIAS" ∷ decimal k ∷ codes ";" ∷ []) ∷ []) (vias_units vias ++ last) nothing (both (vias_said vias) nothing) (vias_begun laws k few count entries name placed)
    (joins_written b c d (vias_units vias) last (vias_said vias) nothing (vias_taken laws vias h k 0 name placed few (omega arith)) (vias_ended laws k few name placed))

-- ## a net

pub record NetFacts (n : NetText) : Type 0 where
  pub name : IsNameWord n.name
  pub supply_sort : the sorts.Supply (sort_of_text n.supply) ≡ true
  pub supply_word : IsWritten (bare n.supply)
  pub wires : AllWires n.name n.wires
  pub places : AllPlaces n.name n.places

abbrev net_head : NetText → List (List ℕ)
net_head n = codes "-" ∷ n.name ∷ codes "+" ∷ codes "USE" ∷ n.supply ∷ []

net_begun : Laws → (n : NetText) → NetFacts n → (count : List ℕ) (entries : ℕ) (name : List ℕ) (placed : Bool) →
    (HasCount (standing_at sections.Nets count entries name placed) (pos entries) → ⊥) →
    Says_in (standing_at sections.Nets count entries name placed) (bares (net_head n) ∷ []) (standing_at sections.First count (entries + 1) n.name false) nothing
net_begun laws n h count entries name placed room f =
    let s : Standing = standing_at sections.Nets count entries name placed in
    let first : Token = record { text = codes "-"; place = f 0; form = Bare } in
    let rest : List Token = tokens (λ n. f (suc n)) (bares (n.name ∷ codes "+" ∷ codes "USE" ∷ n.supply ∷ [])) in
    record {
      taken = (
        omega arith,
        inl (in_turn_match net (first ∷ rest) (refl, (h.name.sort, (refl, (refl, (h.supply_sort, tt)))))),
        no_fault laws s (first ∷ rest) tt (λ n within unfit. counted_fit s first rest
            (λ other. elim other [ inl more ↦ room more.1 | inr few ↦ absurd (no_true few.0) ]) n within unfit),
        tt,
      );
      leads = refl;
      vias = tt;
      wires = tt;
      places = tt;
    }

abbrev pub net_units : NetText → List (List Written)
net_units n = bares (net_head n) ∷ (routed_units true (wires_words n.wires ++ places_words n.places) ++ bares (codes ";" ∷ []) ∷ [])

abbrev pub net_said : NetText → Wiring
net_said n = record { vias = []; wires = n.wires; places = n.places }

lines_taken : Laws → (n : NetText) → NetFacts n → (count : List ℕ) (entries : ℕ) →
    Says_in (standing_at sections.First count entries n.name false) (routed_units true (wires_words n.wires ++ places_words n.places))
    (standing_at (line_place (still (still true (wires_words n.wires)) (places_words n.places))) count entries n.name (turned false n.places))
    (both (wires_said n.wires) (places_said n.places))
lines_taken laws n h count entries =
    let first : Bool = still true (wires_words n.wires) in
    let a : Standing = standing_at sections.First count entries n.name false in
    let b : Standing = standing_at (line_place first) count entries n.name false in
    let c : Standing = standing_at (line_place (still first (places_words n.places))) count entries n.name (turned false n.places) in
    subst (λ z. Says_in a z c (both (wires_said n.wires) (places_said n.places))) (sym (routed-append true (wires_words n.wires) (places_words n.places)))
    (joins_written a b c (routed_units true (wires_words n.wires)) (routed_units first (places_words n.places)) (wires_said n.wires) (places_said n.places)
    (wires_taken laws n.name n.wires h.wires true count entries) (places_taken laws n.name n.places h.places first false count entries))

net_taken : Laws → (n : NetText) → NetFacts n → (count : List ℕ) (entries : ℕ) (name : List ℕ) (placed : Bool) →
    (HasCount (standing_at sections.Nets count entries name placed) (pos entries) → ⊥) →
    Says_in (standing_at sections.Nets count entries name placed) (net_units n) (standing_at sections.Nets count (entries + 1) n.name (turned false n.places))
    (both nothing (both (both (wires_said n.wires) (places_said n.places)) nothing))
net_taken laws n h count entries name placed room =
    let lines : List (List Written) = routed_units true (wires_words n.wires ++ places_words n.places) in
    let last : List (List Written) = bares (codes ";" ∷ []) ∷ [] in
    let first : Bool = still (still true (wires_words n.wires)) (places_words n.places) in
    let a : Standing = standing_at sections.Nets count entries name placed in
    let b : Standing = standing_at sections.First count (entries + 1) n.name false in
    let c : Standing = standing_at (line_place first) count (entries + 1) n.name (turned false n.places) in
    let d : Standing = standing_at sections.Nets count (entries + 1) n.name (turned false n.places) in
    let said : Wiring = both (wires_said n.wires) (places_said n.places) in
    joins_written a b d (bares (net_head n) ∷ []) (lines ++ last) nothing (both said nothing) (net_begun laws n h count entries name placed room)
    (joins_written b c d lines last said nothing (lines_taken laws n h count (entries + 1)) (net_ended laws first count (entries + 1) n.name (turned false n.places)))

-- ## all nets

abbrev pub AllNets : List NetText → Type 0
AllNets [] = Unit {0}
AllNets (n ∷ nets) = NetFacts n × AllNets nets

abbrev pub nets_said : List NetText → Wiring
nets_said nets = record { vias = []; wires = flat_map (λ (n : NetText). n.wires) nets; places = flat_map (λ (n : NetText). n.places) nets }

abbrev pub nets_units : List NetText → List (List Written)
nets_units nets = flat_map net_units nets

-- The last net, and whether a line with a via of it stands.
abbrev pub last_net : List ℕ → List NetText → List ℕ
last_net name [] = name
last_net name (n ∷ nets) = last_net n.name nets

abbrev pub last_placed : Bool → List NetText → Bool
last_placed placed [] = placed
last_placed placed (n ∷ nets) = last_placed (turned false n.places) nets

one_net : (n : NetText) (nets : List NetText) → both (both nothing (both (both (wires_said n.wires) (places_said n.places)) nothing)) (nets_said nets) ≡ nets_said (n ∷ nets)
one_net n nets =
    ap (λ z. let w : Wiring = record { vias = []; wires = z ++ (flat_map (λ (n : NetText). n.wires) nets); places = (n.places ++ []) ++ (flat_map (λ (n : NetText). n.places) nets) } in w)
    (append-nil (n.wires ++ []) ∙ append-nil n.wires)
    ∙ ap (λ z. let w : Wiring = record { vias = []; wires = n.wires ++ (flat_map (λ (n : NetText). n.wires) nets); places = z ++ (flat_map (λ (n : NetText). n.places) nets) } in w)
    (append-nil n.places)

pub nets_taken : Laws → (nets : List NetText) → AllNets nets → (k entries : ℕ) (name : List ℕ) (placed : Bool) → k ≤ limit → entries + length nets ≡ k →
    Says_in (standing_at sections.Nets (decimal k) entries name placed) (nets_units nets) (standing_at sections.Nets (decimal k) k (last_net name nets) (last_placed placed nets)) (nets_said nets)
nets_taken laws [] h k entries name placed few e =
    let same : entries ≡ k = omega arith in
    subst (λ z. Says_in (standing_at sections.Nets (decimal k) entries name placed) [] (standing_at sections.Nets (decimal k) z name placed) nothing) same
    (none_written (standing_at sections.Nets (decimal k) entries name placed))
nets_taken laws (n ∷ nets) h k entries name placed few e =
    let a : Standing = standing_at sections.Nets (decimal k) entries name placed in
    let b : Standing = standing_at sections.Nets (decimal k) (entries + 1) n.name (turned false n.places) in
    let c : Standing = standing_at sections.Nets (decimal k) k (last_net n.name nets) (last_placed (turned false n.places) nets) in
    subst (λ z. Says_in a (nets_units (n ∷ nets)) c z) (one_net n nets)
    (joins_written a b c (net_units n) (nets_units nets) (both nothing (both (both (wires_said n.wires) (places_said n.places)) nothing)) (nets_said nets)
    (net_taken laws n h.0 (decimal k) entries name placed (λ full. let same : entries ≡ k = count_is laws k entries few full in omega arith))
    (nets_taken laws nets h.1 k (entries + 1) n.name (turned false n.places) few (omega arith)))

nets_begun : Laws → (k : ℕ) → k ≤ limit → (count : List ℕ) (entries : ℕ) (name : List ℕ) (placed : Bool) →
    Says_in (standing_at sections.NetsHead count entries name placed) (bares (codes "SPECIALNETS" ∷ decimal k ∷ codes ";" ∷ []) ∷ [])
    (standing_at sections.Nets (decimal k) 0 name placed) nothing
nets_begun laws k few count entries name placed f =
    let h : IsNumber NotNegative (pos k) = count_number laws k few in
    let s : Standing = standing_at sections.NetsHead count entries name placed in
    let u : List Token = tokens f (bares (codes "SPECIALNETS" ∷ decimal k ∷ codes ";" ∷ [])) in
    record {
      taken = (omega arith, in_turn_match (counted sorts.SpecialNets) u (refl, (h.sort, (refl, tt))), no_fault laws s u (λ within. (pos k, h.is), tt) (λ n within unfit. unfit), tt);
      leads = refl;
      vias = tt;
      wires = tt;
      places = tt;
    }

nets_ended : Laws → (k : ℕ) → k ≤ limit → (name : List ℕ) (placed : Bool) →
    Says_in (standing_at sections.Nets (decimal k) k name placed) (bares (codes "END" ∷ codes "SPECIALNETS" ∷ []) ∷ []) (standing_at sections.DesignEnd (decimal k) k name placed) nothing
nets_ended laws k few name placed f =
    let s : Standing = standing_at sections.Nets (decimal k) k name placed in
    let first : Token = record { text = codes "END"; place = f 0; form = Bare } in
    let rest : List Token = tokens (λ n. f (suc n)) (bares (codes "SPECIALNETS" ∷ [])) in
    record {
      taken = (
        omega arith,
        inr (in_turn_match (end_of sorts.SpecialNets) (first ∷ rest) (refl, (refl, tt))),
        no_fault laws s (first ∷ rest) tt (λ n within unfit. counted_fit s first rest (none_short laws sections.Nets k few name placed first) n within unfit),
        tt,
      );
      leads = refl;
      vias = tt;
      wires = tt;
      places = tt;
    }

design_ended : Laws → (count : List ℕ) (entries : ℕ) (name : List ℕ) (placed : Bool) →
    Says_in (standing_at sections.DesignEnd count entries name placed) (bares (codes "END" ∷ codes "DESIGN" ∷ []) ∷ []) (standing_at sections.Ended count entries name placed) nothing
design_ended laws count entries name placed f =
    let s : Standing = standing_at sections.DesignEnd count entries name placed in
    let u : List Token = tokens f (bares (codes "END" ∷ codes "DESIGN" ∷ [])) in
    record {
      taken = (omega arith, in_turn_match (end_of sorts.Design) u (refl, (refl, tt)), no_fault laws s u tt (λ n within unfit. unfit), tt);
      leads = refl;
      vias = tt;
      wires = tt;
      places = tt;
    }

-- The section of the nets, and the end of the design.
abbrev pub nets_section : List NetText → List (List Written)
nets_section nets =
    bares (codes "SPECIALNETS" ∷ decimal (length nets) ∷ codes ";" ∷ [])
    ∷ (nets_units nets ++ bares (codes "END" ∷ codes "SPECIALNETS" ∷ []) ∷ bares (codes "END" ∷ codes "DESIGN" ∷ []) ∷ [])

pub nets_section_taken : Laws → (nets : List NetText) → AllNets nets → length nets ≤ limit → (count : List ℕ) (entries : ℕ) (name : List ℕ) (placed : Bool) →
    Says_in (standing_at sections.NetsHead count entries name placed) (nets_section nets)
    (standing_at sections.Ended (decimal (length nets)) (length nets) (last_net name nets) (last_placed placed nets)) (both nothing (both (nets_said nets) (both nothing nothing)))
nets_section_taken laws nets h few count entries name placed =
    let k : ℕ = length nets in
    let last : List ℕ = last_net name nets in
    let turn : Bool = last_placed placed nets in
    let a : Standing = standing_at sections.NetsHead count entries name placed in
    let b : Standing = standing_at sections.Nets (decimal k) 0 name placed in
    let c : Standing = standing_at sections.Nets (decimal k) k last turn in
    let d : Standing = standing_at sections.DesignEnd (decimal k) k last turn in
    let e : Standing = standing_at sections.Ended (decimal k) k last turn in
    let close : List (List Written) = bares (codes "END" ∷ codes "SPECIALNETS" ∷ []) ∷ [] in
    let end : List (List Written) = bares (codes "END" ∷ codes "DESIGN" ∷ []) ∷ [] in
    joins_written a b e (bares (codes "SPECIALNETS" ∷ decimal k ∷ codes ";" ∷ []) ∷ []) (nets_units nets ++ (close ++ end)) nothing (both (nets_said nets) (both nothing nothing))
    (nets_begun laws k few count entries name placed)
    (joins_written b c e (nets_units nets) (close ++ end) (nets_said nets) (both nothing nothing) (nets_taken laws nets h k 0 name placed few (omega arith))
    (joins_written c d e close end nothing nothing (nets_ended laws k few last turn) (design_ended laws (decimal k) k last turn)))
