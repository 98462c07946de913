-- A written wiring reads back.
use Rattle.std.proofs.Common.{◌≡◌, ℕ, suc, ◌≤◌, Bool, true, false, List, [], ◌∷◌, ◌++◌, length, map, codes, Ok, refl, sym, ◌∙◌, ap, subst, append_assoc, arith, inl, inr}
use Rattle.std.specs.Prelude.{All, None, decimal, flat_map, ◌⊎◌}
use Rattle.std.proofs.lemmas.List.{append-nil, map-append}
use Rattle.outside.specs.declared.place.Place.{Place}
use Rattle.text_lex.specs.declared.word.Mode.TheVariants.{LefDef}
use Rattle.text_lex.specs.Split.{Split, IsSplit}
use Rattle.reading.specs.Pattern.{joined}
use Rattle.reading.specs.Taken.{AreTaken}
use Rattle.reading.specs.Word.{Token, end_at, seen_text}
use Rattle.wiring_file.specs.declared.record.ViaText.{ViaText}
use Rattle.wiring_file.specs.declared.record.WireText.{WireText}
use Rattle.wiring_file.specs.declared.record.PlaceText.{PlaceText}
use Rattle.wiring_file.specs.declared.record.Wiring.{Wiring}
use Rattle.wiring_file.specs.declared.section.Section.TheVariants as sections
use Rattle.wiring_file.specs.declared.sort.Sort.TheVariants as sorts
use Rattle.wiring_file.specs.Sort.{the, sort_of_text}
use Rattle.wiring_file.specs.Number.{limit}
use Rattle.wiring_file.specs.Standing.{Standing}
use Rattle.wiring_file.specs.Record.{IsWiring}
use Rattle.wiring_file.specs.Format.{format, ReadsWiring}
use Rattle.wiring_file.specs.Written.{HeadText, NetText, WireReads, PlaceReads, ViaReads, NetReads, CanBeWritten, via_words, via_lines, wire_words, place_words, routed, net_words, net_lines, special_net_lines, line_of, lines, wiring_text, wiring_with}
use Rattle.wiring_file.proofs.Digits.{Laws, no_false}
use Rattle.written_words.specs.Laws.Seen.{lines_seen}
use Rattle.written_words.specs.Spelled.{Written, bare, quoted, spell, IsWritten, AllWritten, bytes_of, text_bytes, tokens, IsSeen}
use Rattle.wiring_file.proofs.Blocks.{IsBlock, Says_in, units_of, joined-units, joins, joins_written, taken_at, nothing, both, no_fault}
use Rattle.wiring_file.proofs.Facts.{known, name_word}
use Rattle.wiring_file.proofs.ViaUnits.{bares, standing_at, via_facts, via_written, AllVias, vias_units, vias_said, count_number}
use Rattle.wiring_file.proofs.LineUnits.{AllWires, AllPlaces, wire_facts, place_facts, wire_written, place_written, routed_units}
use Rattle.wiring_file.proofs.NetUnits.{NetFacts, AllNets, net_units, nets_units, nets_said, last_net, last_placed, vias_section, vias_section_taken, nets_section, nets_section_taken}
use Rattle.wiring_file.proofs.HeadUnits.{HeadFacts, head_facts, head_units, head_taken, version_words, divider_words, bus_words, design_words, units_words, die_words}

-- ## what is known of each entry

all_tail : {X : Type 0} (P : X → Type 0) (x : X) (xs : List X) → All P (x ∷ xs) → All P xs
all_tail P x xs h = λ k d lt. h (suc k) d (omega arith)

all_head : {X : Type 0} (P : X → Type 0) (x : X) (xs : List X) → All P (x ∷ xs) → P x
all_head P x xs h = h 0 x (omega arith)

all_vias : Laws → (vias : List ViaText) → All ViaReads vias → AllVias vias
all_vias laws [] h = tt
all_vias laws (v ∷ vias) h = (via_facts laws v (all_head ViaReads v vias h), all_vias laws vias (all_tail ViaReads v vias h))

all_wires : Laws → (net : List ℕ) (wires : List WireText) → All (WireReads net) wires → AllWires net wires
all_wires laws net [] h = tt
all_wires laws net (w ∷ wires) h = (wire_facts laws net w (all_head (WireReads net) w wires h), all_wires laws net wires (all_tail (WireReads net) w wires h))

all_places : Laws → (net : List ℕ) (places : List PlaceText) → All (PlaceReads net) places → AllPlaces net places
all_places laws net [] h = tt
all_places laws net (p ∷ places) h = (place_facts laws net p (all_head (PlaceReads net) p places h), all_places laws net places (all_tail (PlaceReads net) p places h))

abbrev IsSupply : List ℕ → Type 0
IsSupply text = (the sorts.Supply (sort_of_text text) ≡ true) × IsWritten (bare text)

supply_is : (text : List ℕ) → (text ≡ codes "POWER") ⊎ (text ≡ codes "GROUND") → IsSupply text
supply_is text (inl e) = subst IsSupply (sym e) (refl, known (codes "POWER") refl)
supply_is text (inr e) = subst IsSupply (sym e) (refl, known (codes "GROUND") refl)

net_facts : Laws → (n : NetText) → NetReads n → NetFacts n
net_facts laws n h =
    let supply : IsSupply n.supply = supply_is n.supply h.supply in
    record {
      name = name_word n.name h.name;
      supply_sort = supply.0;
      supply_word = supply.1;
      wires = all_wires laws n.name n.wires h.wires;
      places = all_places laws n.name n.places h.places;
    }

all_nets : Laws → (nets : List NetText) → All NetReads nets → AllNets nets
all_nets laws [] h = tt
all_nets laws (n ∷ nets) h = (net_facts laws n (all_head NetReads n nets h), all_nets laws nets (all_tail NetReads n nets h))

-- ## all words are words of DEF

abbrev AllBare : List (List (List ℕ)) → Type 0
AllBare lines = AllWritten (map bares lines)

bare-append : (xs ys : List (List (List ℕ))) → AllBare xs → AllBare ys → AllBare (xs ++ ys)
bare-append [] ys h k = k
bare-append (x ∷ xs) ys h k = (h.0, bare-append xs ys h.1 k)

vias_bare : (vias : List ViaText) → AllVias vias → AllBare (map via_words vias)
vias_bare [] h = tt
vias_bare (v ∷ vias) h = (via_written v h.0, vias_bare vias h.1)

wires_bare : (net : List ℕ) (wires : List WireText) → AllWires net wires → AllBare (map wire_words wires)
wires_bare net [] h = tt
wires_bare net (w ∷ wires) h = (wire_written net w h.0, wires_bare net wires h.1)

places_bare : (net : List ℕ) (places : List PlaceText) → AllPlaces net places → AllBare (map place_words places)
places_bare net [] h = tt
places_bare net (p ∷ places) h = (place_written net p h.0, places_bare net places h.1)

routed_bare : (first : Bool) (xs : List (List (List ℕ))) → AllBare xs → AllBare (routed first xs)
routed_bare true [] h = tt
routed_bare false [] h = tt
routed_bare true (x ∷ xs) h = ((known (codes "+") refl, (known (codes "ROUTED") refl, h.0)), routed_bare false xs h.1)
routed_bare false (x ∷ xs) h = ((known (codes "NEW") refl, h.0), routed_bare false xs h.1)

net_bare : (n : NetText) → NetFacts n → AllBare (net_lines n)
net_bare n h = (
  (known (codes "-") refl, (h.name.word, (known (codes "+") refl, (known (codes "USE") refl, (h.supply_word, tt))))),
  bare-append (routed true (net_words n)) ((codes ";" ∷ []) ∷ [])
      (routed_bare true (net_words n) (bare-append (map wire_words n.wires) (map place_words n.places) (wires_bare n.name n.wires h.wires) (places_bare n.name n.places h.places)))
      ((known (codes ";") refl, tt), tt),
)

nets_bare : (nets : List NetText) → AllNets nets → AllBare (flat_map net_lines nets)
nets_bare [] h = tt
nets_bare (n ∷ nets) h = bare-append (net_lines n) (flat_map net_lines nets) (net_bare n h.0) (nets_bare nets h.1)

count_bare : Laws → (k : ℕ) → k ≤ limit → IsWritten (bare (decimal k))
count_bare laws k few = (count_number laws k few).word

via_lines_bare : Laws → (vias : List ViaText) → AllVias vias → length vias ≤ limit → AllBare (via_lines vias)
via_lines_bare laws vias h few = (
  (known (codes "VIAS") refl, (count_bare laws (length vias) few, (known (codes ";") refl, tt))),
  bare-append (map via_words vias) ((codes "END" ∷ codes "VIAS" ∷ []) ∷ []) (vias_bare vias h) ((known (codes "END") refl, (known (codes "VIAS") refl, tt)), tt),
)

net_lines_bare : Laws → (nets : List NetText) → AllNets nets → length nets ≤ limit → AllBare (special_net_lines nets)
net_lines_bare laws nets h few = (
  (known (codes "SPECIALNETS") refl, (count_bare laws (length nets) few, (known (codes ";") refl, tt))),
  bare-append (flat_map net_lines nets) ((codes "END" ∷ codes "SPECIALNETS" ∷ []) ∷ []) (nets_bare nets h) ((known (codes "END") refl, (known (codes "SPECIALNETS") refl, tt)), tt),
)

-- The lines after the first three.
abbrev rest_lines : List ViaText → List NetText → List (List (List ℕ))
rest_lines vias nets = via_lines vias ++ special_net_lines nets ++ (codes "END" ∷ codes "DESIGN" ∷ []) ∷ []

abbrev body : HeadText → List ViaText → List NetText → List (List (List ℕ))
body head vias nets = design_words head ∷ units_words head ∷ die_words head ∷ rest_lines vias nets

body_bare : Laws → (head : HeadText) (vias : List ViaText) (nets : List NetText) → HeadFacts head → AllVias vias → AllNets nets → length vias ≤ limit → length nets ≤ limit →
    AllBare (body head vias nets)
body_bare laws head vias nets h v n few_vias few_nets = (
  (known (codes "DESIGN") refl, (h.name.word, (known (codes ";") refl, tt))),
  (
    (known (codes "UNITS") refl, (known (codes "DISTANCE") refl, (known (codes "MICRONS") refl, (h.units_word, (known (codes ";") refl, tt))))),
    (
      (
        known (codes "DIEAREA") refl,
        (
          known (codes "(") refl,
          (
            h.x1.word,
            (
              h.y1.word,
              (
                known (codes ")") refl,
                (known (codes "(") refl, (h.x2.word, (h.y2.word, (known (codes ")") refl, (known (codes ";") refl, tt))))),
              ),
            ),
          ),
        ),
      ),
      bare-append (via_lines vias ++ special_net_lines nets) ((codes "END" ∷ codes "DESIGN" ∷ []) ∷ [])
          (bare-append (via_lines vias) (special_net_lines nets) (via_lines_bare laws vias v few_vias) (net_lines_bare laws nets n few_nets))
          ((known (codes "END") refl, (known (codes "DESIGN") refl, tt)), tt),
    ),
  ),
)

abbrev all_lines : HeadText → List ViaText → List NetText → List (List Written)
all_lines head vias nets = version_words ∷ divider_words ∷ bus_words ∷ map bares (body head vias nets)

slash_word : IsWritten (quoted (codes "/"))
slash_word b more ends = record { quotes = refl; inside = refl; kept = λ h. absurd (no_false h) }

brackets_word : IsWritten (quoted (codes "[]"))
brackets_word b more ends = record { quotes = refl; inside = refl; kept = λ h. absurd (no_false h) }

lines_written : (head : HeadText) (vias : List ViaText) (nets : List NetText) → AllBare (body head vias nets) → AllWritten (all_lines head vias nets)
lines_written head vias nets h = (
  (known (codes "VERSION") refl, (known (codes "5.8") refl, (known (codes ";") refl, tt))),
  (
    (known (codes "DIVIDERCHAR") refl, (slash_word, (known (codes ";") refl, tt))),
    ((known (codes "BUSBITCHARS") refl, (brackets_word, (known (codes ";") refl, tt))), h),
  ),
)

-- ## the bytes

spell_bares : (ws : List (List ℕ)) → map spell (bares ws) ≡ ws
spell_bares [] = refl
spell_bares (w ∷ ws) = ap (λ z. w ∷ z) (spell_bares ws)

text_bares : (ls : List (List (List ℕ))) → text_bytes (map bares ls) ≡ flat_map line_of ls
text_bares [] = refl
text_bares (l ∷ ls) = ap (λ z. line_of z ++ text_bytes (map bares ls)) (spell_bares l) ∙ ap (λ z. line_of l ++ z) (text_bares ls)

bytes_are : (head : HeadText) (vias : List ViaText) (nets : List NetText) → text_bytes (all_lines head vias nets) ≡ wiring_text head vias nets
bytes_are head vias nets = ap (λ z. bytes_of version_words ++ (bytes_of divider_words ++ (bytes_of bus_words ++ z))) (text_bares (body head vias nets))

-- ## the words

joined-append : {W : Type 0} (xs ys : List (List W)) → joined (xs ++ ys) ≡ joined xs ++ joined ys
joined-append [] ys = refl
joined-append (x ∷ xs) ys = ap (λ z. x ++ z) (joined-append xs ys) ∙ sym (append_assoc x (joined xs) (joined ys))

abbrev words_of : List (List (List ℕ)) → List Written
words_of ls = joined (map bares ls)

words-append : (xs ys : List (List (List ℕ))) → words_of (xs ++ ys) ≡ words_of xs ++ words_of ys
words-append xs ys = ap joined (map-append bares xs ys) ∙ joined-append (map bares xs) (map bares ys)

vias_words : (vias : List ViaText) → vias_units vias ≡ map bares (map via_words vias)
vias_words [] = refl
vias_words (v ∷ vias) = ap (λ z. bares (via_words v) ∷ z) (vias_words vias)

vias_same : (vias : List ViaText) → joined (vias_section vias) ≡ words_of (via_lines vias)
vias_same vias =
    ap (λ z. joined (bares (codes "VIAS" ∷ decimal (length vias) ∷ codes ";" ∷ []) ∷ z))
    (ap (λ z. z ++ bares (codes "END" ∷ codes "VIAS" ∷ []) ∷ []) (vias_words vias) ∙ sym (map-append bares (map via_words vias) ((codes "END" ∷ codes "VIAS" ∷ []) ∷ [])))

routed_same : (first : Bool) (xs : List (List (List ℕ))) → joined (routed_units first xs) ≡ words_of (routed first xs)
routed_same true [] = refl
routed_same false [] = refl
routed_same true (x ∷ xs) = ap (λ z. bare (codes "+") ∷ bare (codes "ROUTED") ∷ (bares x ++ z)) (routed_same false xs)
routed_same false (x ∷ xs) = ap (λ z. bare (codes "NEW") ∷ (bares x ++ z)) (routed_same false xs)

net_same : (n : NetText) → joined (net_units n) ≡ words_of (net_lines n)
net_same n =
    let head : List Written = bares (codes "-" ∷ n.name ∷ codes "+" ∷ codes "USE" ∷ n.supply ∷ []) in
    ap (λ z. head ++ z)
    (joined-append (routed_units true (net_words n)) (bares (codes ";" ∷ []) ∷ []) ∙ ap (λ z. z ++ bares (codes ";" ∷ [])) (routed_same true (net_words n))
    ∙ sym (words-append (routed true (net_words n)) ((codes ";" ∷ []) ∷ [])))

nets_same : (nets : List NetText) → joined (nets_units nets) ≡ words_of (flat_map net_lines nets)
nets_same [] = refl
nets_same (n ∷ nets) =
    joined-append (net_units n) (nets_units nets) ∙ ap (λ z. z ++ joined (nets_units nets)) (net_same n) ∙ ap (λ z. words_of (net_lines n) ++ z) (nets_same nets)
    ∙ sym (words-append (net_lines n) (flat_map net_lines nets))

nets_section_same : (nets : List NetText) → joined (nets_section nets) ≡ words_of (special_net_lines nets) ++ words_of ((codes "END" ∷ codes "DESIGN" ∷ []) ∷ [])
nets_section_same nets =
    let head : List Written = bares (codes "SPECIALNETS" ∷ decimal (length nets) ∷ codes ";" ∷ []) in
    let close : List (List ℕ) = codes "END" ∷ codes "SPECIALNETS" ∷ [] in
    let end : List (List ℕ) = codes "END" ∷ codes "DESIGN" ∷ [] in
    let all : List (List (List ℕ)) = flat_map net_lines nets in
    ap (λ z. head ++ z)
    (joined-append (nets_units nets) (bares close ∷ bares end ∷ []) ∙ ap (λ z. z ++ (bares close ++ bares end)) (nets_same nets)
    ∙ sym (append_assoc (words_of all) (bares close) (bares end)) ∙ ap (λ z. z ++ bares end) (sym (words-append all (close ∷ []))))
    ∙ sym (append_assoc head (words_of (all ++ close ∷ [])) (bares end))

rest_same : (vias : List ViaText) (nets : List NetText) → joined (vias_section vias ++ nets_section nets) ≡ words_of (rest_lines vias nets)
rest_same vias nets =
    let end : List (List (List ℕ)) = (codes "END" ∷ codes "DESIGN" ∷ []) ∷ [] in
    joined-append (vias_section vias) (nets_section nets)
    ∙ ap (λ z. z ++ joined (nets_section nets)) (vias_same vias) ∙ ap (λ z. words_of (via_lines vias) ++ z) (nets_section_same nets)
    ∙ sym (append_assoc (words_of (via_lines vias)) (words_of (special_net_lines nets)) (words_of end))
    ∙ ap (λ z. z ++ words_of end) (sym (words-append (via_lines vias) (special_net_lines nets)))
    ∙ sym (words-append (via_lines vias ++ special_net_lines nets) end)

abbrev all_units : HeadText → List ViaText → List NetText → List (List Written)
all_units head vias nets = head_units head ++ (vias_section vias ++ nets_section nets)

words_are : (head : HeadText) (vias : List ViaText) (nets : List NetText) → joined (all_units head vias nets) ≡ joined (all_lines head vias nets)
words_are head vias nets =
    ap (λ z. version_words ++ (divider_words ++ (bus_words ++ (bares (design_words head) ++ (bares (units_words head) ++ (bares (die_words head) ++ z)))))) (rest_same vias nets)

-- ## what the units say

end_block : Laws → (count : List ℕ) (entries : ℕ) (name : List ℕ) (placed : Bool) (end : Place) →
    IsBlock (standing_at sections.Ended count entries name placed) ((end_at end ∷ []) ∷ []) (standing_at sections.Ended count entries name placed) nothing
end_block laws count entries name placed end =
    let s : Standing = standing_at sections.Ended count entries name placed in
    record {
      taken = (omega arith, (end_at end, refl, refl), no_fault laws s (end_at end ∷ []) tt (λ n within unfit. unfit), tt);
      leads = refl;
      vias = tt;
      wires = tt;
      places = tt;
    }

same_wiring : (a b : Wiring) → a.vias ≡ b.vias → a.wires ≡ b.wires → a.places ≡ b.places → a ≡ b
same_wiring a b e f g =
    ap (λ z. let w : Wiring = record { vias = z; wires = a.wires; places = a.places } in w) e
    ∙ ap (λ z. let w : Wiring = record { vias = b.vias; wires = z; places = a.places } in w) f
    ∙ ap (λ z. let w : Wiring = record { vias = b.vias; wires = b.wires; places = z } in w) g

nil_twice : {X : Type 0} (xs : List X) → (xs ++ []) ++ [] ≡ xs
nil_twice xs = append-nil (xs ++ []) ∙ append-nil xs

nil_thrice : {X : Type 0} (xs : List X) → ((xs ++ []) ++ []) ++ [] ≡ xs
nil_thrice xs = append-nil ((xs ++ []) ++ []) ∙ nil_twice xs

abbrev all_said : List ViaText → List NetText → Wiring
all_said vias nets = both nothing (both (both nothing (both (vias_said vias) nothing)) (both nothing (both (nets_said nets) (both nothing nothing))))

said_is : (vias : List ViaText) (nets : List NetText) → both (all_said vias nets) nothing ≡ wiring_with vias nets
said_is vias nets =
    same_wiring (both (all_said vias nets) nothing) (wiring_with vias nets) (nil_thrice vias)
    (nil_twice (flat_map (λ (net : NetText). net.wires) nets)) (nil_twice (flat_map (λ (net : NetText). net.places) nets))

abbrev start_at : Standing
start_at = standing_at sections.Version [] 0 [] false

abbrev end_of_nets : List NetText → Standing
end_of_nets nets = standing_at sections.Ended (decimal (length nets)) (length nets) (last_net [] nets) (last_placed false nets)

all_taken : Laws → (head : HeadText) (vias : List ViaText) (nets : List NetText) → HeadFacts head → AllVias vias → AllNets nets → length vias ≤ limit → length nets ≤ limit →
    Says_in start_at (all_units head vias nets) (end_of_nets nets) (all_said vias nets)
all_taken laws head vias nets h v n few_vias few_nets =
    let a : Standing = standing_at sections.ViasHead [] 0 [] false in
    let b : Standing = standing_at sections.NetsHead (decimal (length vias)) (length vias) [] false in
    joins_written start_at a (end_of_nets nets) (head_units head) (vias_section vias ++ nets_section nets) nothing
    (both (both nothing (both (vias_said vias) nothing)) (both nothing (both (nets_said nets) (both nothing nothing)))) (head_taken laws head h)
    (joins_written a b (end_of_nets nets) (vias_section vias) (nets_section nets) (both nothing (both (vias_said vias) nothing)) (both nothing (both (nets_said nets) (both nothing nothing)))
    (vias_section_taken laws vias v few_vias [] 0 [] false) (nets_section_taken laws nets n few_nets (decimal (length vias)) (length vias) [] false))

whole_block : Laws → (head : HeadText) (vias : List ViaText) (nets : List NetText) → HeadFacts head → AllVias vias → AllNets nets → length vias ≤ limit → length nets ≤ limit →
    (f : ℕ → Place) (end : Place) → IsBlock start_at (units_of f (all_units head vias nets) ++ (end_at end ∷ []) ∷ []) (end_of_nets nets) (wiring_with vias nets)
whole_block laws head vias nets h v n few_vias few_nets f end =
    let us : List (List Token) = units_of f (all_units head vias nets) in
    subst (λ z. IsBlock start_at (us ++ (end_at end ∷ []) ∷ []) (end_of_nets nets) z) (said_is vias nets)
    (joins start_at (end_of_nets nets) (end_of_nets nets) us ((end_at end ∷ []) ∷ []) (all_said vias nets) nothing (all_taken laws head vias nets h v n few_vias few_nets f)
    (end_block laws (decimal (length nets)) (length nets) (last_net [] nets) (last_placed false nets) end))

-- ## the law

-- What the law of whole units gives.
abbrev pub UnitsAreRead : Type 0
UnitsAreRead = (text : List ℕ) (split : Split) (units : List (List Token)) (wiring : Wiring) → IsSplit LefDef text split → (seen_text split).refused ≡ None →
    (seen_text split).words ≡ joined units → AreTaken format [] units → IsWiring units wiring → ReadsWiring text (Ok wiring)

read_units : UnitsAreRead → (bytes : List ℕ) (ws : List Written) (us : List (List Written)) (t : Standing) (wiring : Wiring) → joined us ≡ ws → (seen : IsSeen bytes ws) →
    IsBlock start_at (units_of seen.places us ++ (end_at seen.end ∷ []) ∷ []) t wiring → ReadsWiring bytes (Ok wiring)
read_units read bytes ws us t wiring same seen block =
    let units : List (List Token) = units_of seen.places us ++ (end_at seen.end ∷ []) ∷ [] in
    let words : (seen_text seen.split).words ≡ joined units =
    seen.words ∙ ap (λ z. tokens seen.places z ++ end_at seen.end ∷ []) (sym same) ∙ ap (λ z. z ++ end_at seen.end ∷ []) (sym (joined-units seen.places us))
    ∙ sym (joined-append (units_of seen.places us) ((end_at seen.end ∷ []) ∷ [])) in
    read bytes seen.split units wiring seen.is seen.whole words (taken_at [] units block.taken) (record { vias = block.vias; wires = block.wires; places = block.places })

pub reads_back : Laws → UnitsAreRead → (head : HeadText) (vias : List ViaText) (nets : List NetText) → CanBeWritten head vias nets →
    ReadsWiring (wiring_text head vias nets) (Ok (wiring_with vias nets))
reads_back laws read head vias nets can =
    let h : HeadFacts head = head_facts laws head can.head_reads in
    let v : AllVias vias = all_vias laws vias can.vias_read in
    let n : AllNets nets = all_nets laws nets can.nets_read in
    let seen : IsSeen (text_bytes (all_lines head vias nets)) (joined (all_lines head vias nets)) =
    lines_seen (all_lines head vias nets) (lines_written head vias nets (body_bare laws head vias nets h v n can.few_vias can.few_nets)) in
    subst (λ z. ReadsWiring z (Ok (wiring_with vias nets))) (bytes_are head vias nets)
    (read_units read (text_bytes (all_lines head vias nets)) (joined (all_lines head vias nets)) (all_units head vias nets) (end_of_nets nets) (wiring_with vias nets)
    (words_are head vias nets) seen (whole_block laws head vias nets h v n can.few_vias can.few_nets seen.places seen.end))
