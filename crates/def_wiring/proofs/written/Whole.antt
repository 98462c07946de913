-- A written wiring is read as its wires.
use Rattle.std.proofs.Common.{◌≡◌, ℕ, ◌^◌, ◌≤◌, Bool, true, false, List, [], ◌∷◌, ◌++◌, length, map, codes, Ok, refl, sym, ◌∙◌, ap, subst, append_assoc, arith, inl, inr}
use Rattle.std.specs.Prelude.{All, decimal, flat_map}
use Rattle.std.specs.Fmt.{signed_decimal}
use Rattle.std.specs.Str.{bytes_eq}
use Rattle.std.proofs.lemmas.List.{map-append}
use Rattle.std.proofs.lemmas.List.Elements.{All-head, All-tail}
use Rattle.outside.specs.declared.place.Place.{Place}
use Rattle.entry_list.specs.InTurn.{InTurn}
use Rattle.name_table.specs.Numbering.{AreDistinct}
use Rattle.text_lex.specs.declared.word.Mode.TheVariants.{LefDef}
use Rattle.text_lex.specs.Split.{Split, IsSplit}
use Rattle.reading.specs.Pattern.{Matches, joined}
use Rattle.reading.specs.Taken.{AreTaken}
use Rattle.reading.specs.Word.{Token, end_after, end_at, seen_text}
use Rattle.def_wiring.specs.declared.number.Quantity.TheVariants.{Any, NotNegative}
use Rattle.def_wiring.specs.declared.record.Segment.{Segment}
use Rattle.def_wiring.specs.declared.record.ViaDef.{ViaDef}
use Rattle.def_wiring.specs.declared.record.ViaPlace.{ViaPlace}
use Rattle.def_wiring.specs.declared.record.WiredNet.{WiredNet}
use Rattle.def_wiring.specs.declared.record.Wires.{Wires}
use Rattle.def_wiring.specs.declared.section.Section.TheVariants.{Top, Vias, Nets, Ended}
use Rattle.def_wiring.specs.declared.sort.Sort.{Sort}
use Rattle.def_wiring.specs.declared.sort.Sort.TheVariants as sorts
use Rattle.def_wiring.specs.declared.error.Shown.{Shown}
use Rattle.def_wiring.specs.Fault.{fault_in}
use Rattle.reading.specs.declared.refusal.Found.{Found}
use Rattle.def_wiring.specs.declared.standing.Standing.{Standing}
use Rattle.def_wiring.specs.Format.{format, ReadsWires}
use Rattle.def_wiring.specs.Number.{IsNumber}
use Rattle.def_wiring.specs.Record.{Said, SaidNet, SaidVia, Heard, SaysVia, SaysSegment, SaysPlace, SaysNet, SaysWires, IsWires, said_name, heard_of}
use Rattle.def_wiring.specs.Rule.{pattern}
use Rattle.def_wiring.specs.Section.{is_ended}
use Rattle.def_wiring.specs.Sort.{the, sort_of}
use Rattle.def_wiring.specs.Standing.{section_in, at_start}
use Rattle.wiring_file.specs.declared.record.PlaceText.{PlaceText}
use Rattle.wiring_file.specs.declared.record.ViaText.{ViaText}
use Rattle.wiring_file.specs.declared.record.WireText.{WireText}
use Rattle.wiring_file.specs.Written.{CanBeWritten, HeadText, NetText, WireReads, PlaceReads, ViaReads, NetReads, via_words, via_lines, wire_words, place_words, routed, net_words, net_lines, special_net_lines, line_of, wiring_text}
use Rattle.written_words.specs.Spelled.{Written, bare, quoted, spell, IsWritten, AllWritten, bytes_of, text_bytes, IsSeen}
use Rattle.def_wiring.specs.WrittenFits.{WireFits, PlaceIsPlain, PlaceFits, ViaFits, NetIsPlain, NetFits, CanBeWired, via_name, net_name}
use Rattle.def_wiring.specs.Written.{via_place, IsSegment, IsUse, IsNet, IsWired}
use Rattle.def_wiring.proofs.written.Words.{Laws, name_word, known, no_false}
use Rattle.def_wiring.proofs.written.Steps.{Leads, start, taken, taken-append, leads-to, heard-end, fronts_go_on, past, past_all, units_of, joined-units, joins, singles, joined-singles, between}
use Rattle.def_wiring.proofs.written.NetSteps.{bares}
use Rattle.def_wiring.proofs.written.LineSteps.{WireFacts, wire_facts, place_facts, wire_written, place_written, AllWires, AllPlaces, line_words, said_segment, said_place}
use Rattle.def_wiring.proofs.written.NetEntries.{NetFacts, AllNets, said_at, said_net, net_units, entry_words, use_words, end_words, supply_written, are_fresh, nets_lead}
use Rattle.def_wiring.proofs.written.ViaSteps.{AllVias, via_facts, via_written, via_body, via_units, said_vias, said_names, says_vias, vias_lead}
use Rattle.def_wiring.proofs.written.HeadSteps.{HeadFacts, head_facts, head_words, statements_lead, version_words, divider_words, bus_words, design_words, units_words, die_words, count_word, vias_head, nets_head, end_of, vias_begin, nets_begin, vias_end, nets_end, design_ends}

-- ## all words are words of DEF

abbrev AllBare : List (List (List ℕ)) → Type 0
AllBare lines = AllWritten (map bares lines)

bare-append : (xs ys : List (List (List ℕ))) → AllBare xs → AllBare ys → AllBare (xs ++ ys)
bare-append [] ys h k = k
bare-append (x ∷ xs) ys h k = (h.0, bare-append xs ys h.1 k)

routed_bare : (first : Bool) (xs : List (List (List ℕ))) → AllBare xs → AllBare (routed first xs)
routed_bare true [] h = tt
routed_bare false [] h = tt
routed_bare true (x ∷ xs) h = ((known (codes "+") refl, (known (codes "ROUTED") refl, h.0)), routed_bare false xs h.1)
routed_bare false (x ∷ xs) h = ((known (codes "NEW") refl, h.0), routed_bare false xs h.1)

count_bare : Laws → (k : ℕ) → k ≤ 2 ^ 61 → IsWritten (bare (decimal k))
count_bare laws k few = (count_word laws k few).word

-- The lines after the first three.
abbrev rest_lines : List ViaText → List NetText → List (List (List ℕ))
rest_lines vias nets = via_lines vias ++ special_net_lines nets ++ (codes "END" ∷ codes "DESIGN" ∷ []) ∷ []

abbrev body : HeadText → List ViaText → List NetText → List (List (List ℕ))
body head vias nets = design_words head ∷ units_words head ∷ die_words head ∷ rest_lines vias nets

die_bare : (head : HeadText) → HeadFacts head → AllBare (die_words head ∷ [])
die_bare head h = (
  (
    known (codes "DIEAREA") refl,
    (known (codes "(") refl, (h.x1.word, (h.y1.word, (known (codes ")") refl, (known (codes "(") refl, (h.x2.word, (h.y2.word, (known (codes ")") refl, (known (codes ";") refl, tt))))))))),
  ),
  tt,
)

abbrev all_lines : HeadText → List ViaText → List NetText → List (List Written)
all_lines head vias nets = version_words ∷ divider_words ∷ bus_words ∷ map bares (body head vias nets)

slash_word : IsWritten (quoted (codes "/"))
slash_word b more ends = record { quotes = refl; inside = refl; kept = λ h. absurd (no_false h) }

brackets_word : IsWritten (quoted (codes "[]"))
brackets_word b more ends = record { quotes = refl; inside = refl; kept = λ h. absurd (no_false h) }

lines_written : (head : HeadText) (vias : List ViaText) (nets : List NetText) → AllBare (body head vias nets) → AllWritten (all_lines head vias nets)
lines_written head vias nets h = (
  (known (codes "VERSION") refl, (known (codes "5.8") refl, (known (codes ";") refl, tt))),
  (
    (known (codes "DIVIDERCHAR") refl, (slash_word, (known (codes ";") refl, tt))),
    ((known (codes "BUSBITCHARS") refl, (brackets_word, (known (codes ";") refl, tt))), h),
  ),
)

-- ## the bytes

spell_bares : (ws : List (List ℕ)) → map spell (bares ws) ≡ ws
spell_bares [] = refl
spell_bares (w ∷ ws) = ap (λ z. w ∷ z) (spell_bares ws)

text_bares : (ls : List (List (List ℕ))) → text_bytes (map bares ls) ≡ flat_map line_of ls
text_bares [] = refl
text_bares (l ∷ ls) = ap (λ z. line_of z ++ text_bytes (map bares ls)) (spell_bares l) ∙ ap (λ z. line_of l ++ z) (text_bares ls)

bytes_are : (head : HeadText) (vias : List ViaText) (nets : List NetText) → text_bytes (all_lines head vias nets) ≡ wiring_text head vias nets
bytes_are head vias nets = ap (λ z. bytes_of version_words ++ (bytes_of divider_words ++ (bytes_of bus_words ++ z))) (text_bares (body head vias nets))

-- ## the words

pub joined-append : {W : Type 0} (xs ys : List (List W)) → joined (xs ++ ys) ≡ joined xs ++ joined ys
joined-append [] ys = refl
joined-append (x ∷ xs) ys = ap (λ z. x ++ z) (joined-append xs ys) ∙ sym (append_assoc x (joined xs) (joined ys))

abbrev words_of : List (List (List ℕ)) → List Written
words_of ls = joined (map bares ls)

words-append : (xs ys : List (List (List ℕ))) → words_of (xs ++ ys) ≡ words_of xs ++ words_of ys
words-append xs ys = ap joined (map-append bares xs ys) ∙ joined-append (map bares xs) (map bares ys)

via_same : (v : ViaText) → joined (via_units v) ≡ bares (via_words v)
via_same v = ap (λ z. entry_words v.name ++ z) (joined-singles (bares (via_body v) ++ end_words))

vias_same : (vias : List ViaText) → joined (flat_map via_units vias) ≡ words_of (map via_words vias)
vias_same [] = refl
vias_same (v ∷ vias) =
    joined-append (via_units v) (flat_map via_units vias) ∙ ap (λ z. z ++ joined (flat_map via_units vias)) (via_same v) ∙ ap (λ z. bares (via_words v) ++ z) (vias_same vias)

routed_same : (first : Bool) (xs : List (List (List ℕ))) → line_words first xs ≡ words_of (routed first xs)
routed_same true [] = refl
routed_same false [] = refl
routed_same true (x ∷ xs) = ap (λ z. bare (codes "+") ∷ bare (codes "ROUTED") ∷ (bares x ++ z)) (routed_same false xs)
routed_same false (x ∷ xs) = ap (λ z. bare (codes "NEW") ∷ (bares x ++ z)) (routed_same false xs)

net_same : (n : NetText) → joined (net_units n) ≡ words_of (net_lines n)
net_same n =
    let head : List Written = bares (codes "-" ∷ n.name ∷ codes "+" ∷ codes "USE" ∷ n.supply ∷ []) in
    ap (λ z. entry_words n.name ++ z) (joined-singles (use_words n ++ (line_words true (net_words n) ++ end_words)))
    ∙ ap (λ z. head ++ z) (ap (λ z. z ++ end_words) (routed_same true (net_words n)) ∙ sym (words-append (routed true (net_words n)) ((codes ";" ∷ []) ∷ [])))

nets_same : (nets : List NetText) → joined (flat_map net_units nets) ≡ words_of (flat_map net_lines nets)
nets_same [] = refl
nets_same (n ∷ nets) =
    joined-append (net_units n) (flat_map net_units nets) ∙ ap (λ z. z ++ joined (flat_map net_units nets)) (net_same n) ∙ ap (λ z. words_of (net_lines n) ++ z) (nets_same nets)
    ∙ sym (words-append (net_lines n) (flat_map net_lines nets))

-- ## the units

abbrev vias_section : List ViaText → List (List Written)
vias_section vias = vias_head (length vias) ∷ (flat_map via_units vias ++ end_of (codes "VIAS") ∷ [])

abbrev nets_section : List NetText → List (List Written)
nets_section nets = nets_head (length nets) ∷ (flat_map net_units nets ++ end_of (codes "SPECIALNETS") ∷ [])

abbrev last_units : List (List Written)
last_units = end_of (codes "DESIGN") ∷ []

abbrev pub all_units : HeadText → List ViaText → List NetText → List (List Written)
all_units head vias nets = singles (head_words head) ++ (vias_section vias ++ (nets_section nets ++ last_units))

-- A section: its head, its entries and its end.
section_same : (head : List (List ℕ)) (us : List (List Written)) (ls : List (List (List ℕ))) (close : List (List ℕ)) → joined us ≡ words_of ls →
    joined (bares head ∷ (us ++ bares close ∷ [])) ≡ words_of (head ∷ (ls ++ close ∷ []))
section_same head us ls close same =
    ap (λ z. bares head ++ z) (joined-append us (bares close ∷ []) ∙ ap (λ z. z ++ joined (bares close ∷ [])) same ∙ sym (words-append ls (close ∷ [])))

rest_same : (vias : List ViaText) (nets : List NetText) → joined (vias_section vias ++ (nets_section nets ++ last_units)) ≡ words_of (rest_lines vias nets)
rest_same vias nets =
    let end : List (List (List ℕ)) = (codes "END" ∷ codes "DESIGN" ∷ []) ∷ [] in
    let v : joined (vias_section vias) ≡ words_of (via_lines vias) =
    section_same (codes "VIAS" ∷ decimal (length vias) ∷ codes ";" ∷ []) (flat_map via_units vias) (map via_words vias) (codes "END" ∷ codes "VIAS" ∷ []) (vias_same vias) in
    let n : joined (nets_section nets) ≡ words_of (special_net_lines nets) =
    section_same (codes "SPECIALNETS" ∷ decimal (length nets) ∷ codes ";" ∷ []) (flat_map net_units nets) (flat_map net_lines nets) (codes "END" ∷ codes "SPECIALNETS" ∷ []) (nets_same nets) in
    joined-append (vias_section vias) (nets_section nets ++ last_units)
    ∙ ap (λ z. joined (vias_section vias) ++ z) (joined-append (nets_section nets) last_units)
    ∙ ap (λ z. z ++ (joined (nets_section nets) ++ joined last_units)) v
    ∙ ap (λ z. words_of (via_lines vias) ++ (z ++ joined last_units)) n
    ∙ sym (append_assoc (words_of (via_lines vias)) (words_of (special_net_lines nets)) (words_of end))
    ∙ ap (λ z. z ++ words_of end) (sym (words-append (via_lines vias) (special_net_lines nets)))
    ∙ sym (words-append (via_lines vias ++ special_net_lines nets) end)

words_are : (head : HeadText) (vias : List ViaText) (nets : List NetText) → joined (all_units head vias nets) ≡ joined (all_lines head vias nets)
words_are head vias nets =
    joined-append (singles (head_words head)) (vias_section vias ++ (nets_section nets ++ last_units))
    ∙ ap (λ z. z ++ joined (vias_section vias ++ (nets_section nets ++ last_units))) (joined-singles (head_words head))
    ∙ ap (λ z. head_words head ++ z) (rest_same vias nets)

pub says_use : (supply : List ℕ) (power : Bool) → IsUse supply power → power ≡ bytes_eq supply (codes "POWER")
says_use supply power (inl h) = h.1 ∙ ap (λ z. bytes_eq z (codes "POWER")) (sym h.0)
says_use supply power (inr h) = h.1 ∙ ap (λ z. bytes_eq z (codes "POWER")) (sym h.0)

-- ## the law

-- What the law of whole units gives.
abbrev pub UnitsAreRead : Type 0
UnitsAreRead = (text : List ℕ) (split : Split) (units : List (List Token)) (rest : List Token) (wires : Wires) →
    IsSplit LefDef text split → (seen_text split).words ≡ joined units ++ rest → AreTaken format [] (units ++ (end_after (joined units) ∷ []) ∷ []) → format.ends units ≡ true →
    ((front : List (List Token)) (next : List Token) (back : List (List Token)) → units ≡ front ++ next ∷ back → format.ends front ≡ false) →
    IsWires (units ++ (end_after (joined units) ∷ []) ∷ []) wires → ReadsWires text (Ok wires)

pub end_sort : (ws : List Token) → sort_of (end_after ws) ≡ sorts.TextEnd
end_sort [] = refl
end_sort (w ∷ []) = refl
end_sort (v ∷ w ∷ ws) = end_sort (w ∷ ws)

pub is_the_end : (s : Sort) → s ≡ sorts.TextEnd → the sorts.TextEnd s ≡ true
is_the_end s e = ap (λ z. the sorts.TextEnd z) e

-- What the only word of a unit shows here.
abbrev FaultAt : Heard → Token → Found Shown → Type 0
FaultAt h t a = fault_in (section_in h.standing) h.standing h.said (t ∷ []) a

-- After the end of the design the end of the text may follow.
end_taken : (units : List (List Token)) (left : Standing) (said : Said) (ws : List Token) → heard_of units ≡ between Ended left said → AreTaken format units ((end_after ws ∷ []) ∷ [])
end_taken units left said ws e =
    let t : Token = end_after ws in
    let here : section_in (heard_of units).standing ≡ Ended = ap (λ z. section_in z.standing) e in (
      omega arith,
      record {
        matches = subst (λ z. Matches sort_of (pattern z) (t ∷ [])) (sym here) (t, is_the_end (sort_of t) (end_sort ws), refl);
        fine = (λ a faulty. (subst (λ z. FaultAt z t a) e faulty).1, tt);
      },
      tt,
    )

-- F says when no word shows a fault: what is asked of numbers and of names before is asked under it alone, and all else holds
-- without it.
module _ (F : Type 0) where
  -- ## what is known of each entry

  all_vias : Laws → (vias : List ViaText) → All ViaReads vias → (F → All ViaFits vias) → AllVias F vias
  all_vias laws [] h k = tt
  all_vias laws (v ∷ vias) h k = (
    via_facts F laws v (All-head ViaReads v vias h) (λ ok. All-head ViaFits v vias (k ok)),
    all_vias laws vias (All-tail ViaReads v vias h) (λ ok. All-tail ViaFits v vias (k ok)),
  )

  all_wires : Laws → (net : List ℕ) (wires : List WireText) → All (WireReads net) wires → (F → All WireFits wires) → AllWires F wires
  all_wires laws net [] h k = tt
  all_wires laws net (w ∷ wires) h k = (
    wire_facts F laws net w (All-head (WireReads net) w wires h) (λ ok. All-head WireFits w wires (k ok)),
    all_wires laws net wires (All-tail (WireReads net) w wires h) (λ ok. All-tail WireFits w wires (k ok)),
  )

  all_places : Laws → (net : List ℕ) (vias : List (List ℕ)) (places : List PlaceText) → All (PlaceReads net) places → All PlaceIsPlain places → (F → All (PlaceFits vias) places) → AllPlaces F vias places
  all_places laws net vias [] h plain k = tt
  all_places laws net vias (p ∷ places) h plain k = (
    place_facts F laws net vias p (All-head (PlaceReads net) p places h) (All-head PlaceIsPlain p places plain) (λ ok. All-head (PlaceFits vias) p places (k ok)),
    all_places laws net vias places (All-tail (PlaceReads net) p places h) (All-tail PlaceIsPlain p places plain) (λ ok. All-tail (PlaceFits vias) p places (k ok)),
  )

  net_facts : Laws → (vias : List (List ℕ)) (n : NetText) → NetReads n → NetIsPlain n → (F → NetFits vias n) → NetFacts F vias n
  net_facts laws vias n h plain k = record {
    name = name_word n.name h.name;
    supply = h.supply;
    wires = all_wires laws n.name n.wires h.wires (λ ok. (k ok).wires);
    places = all_places laws n.name vias n.places h.places plain (λ ok. (k ok).places);
  }

  all_nets : Laws → (vias : List (List ℕ)) (nets : List NetText) → All NetReads nets → All NetIsPlain nets → (F → All (NetFits vias) nets) → AllNets F vias nets
  all_nets laws vias [] h plain k = tt
  all_nets laws vias (n ∷ nets) h plain k = (
    net_facts laws vias n (All-head NetReads n nets h) (All-head NetIsPlain n nets plain) (λ ok. All-head (NetFits vias) n nets (k ok)),
    all_nets laws vias nets (All-tail NetReads n nets h) (All-tail NetIsPlain n nets plain) (λ ok. All-tail (NetFits vias) n nets (k ok)),
  )

  vias_bare : (vias : List ViaText) → AllVias F vias → AllBare (map via_words vias)
  vias_bare [] h = tt
  vias_bare (v ∷ vias) h = (via_written F v h.0, vias_bare vias h.1)

  wires_bare : (wires : List WireText) → AllWires F wires → AllBare (map wire_words wires)
  wires_bare [] h = tt
  wires_bare (w ∷ wires) h = (wire_written F w h.0, wires_bare wires h.1)

  places_bare : (vias : List (List ℕ)) (places : List PlaceText) → AllPlaces F vias places → AllBare (map place_words places)
  places_bare vias [] h = tt
  places_bare vias (p ∷ places) h = (place_written F vias p h.0, places_bare vias places h.1)

  net_bare : (vias : List (List ℕ)) (n : NetText) → NetFacts F vias n → AllBare (net_lines n)
  net_bare vias n h = (
    (known (codes "-") refl, (h.name.word, (known (codes "+") refl, (known (codes "USE") refl, (supply_written n.supply h.supply, tt))))),
    bare-append (routed true (net_words n)) ((codes ";" ∷ []) ∷ [])
        (routed_bare true (net_words n) (bare-append (map wire_words n.wires) (map place_words n.places) (wires_bare n.wires h.wires) (places_bare vias n.places h.places)))
        ((known (codes ";") refl, tt), tt),
  )

  nets_bare : (vias : List (List ℕ)) (nets : List NetText) → AllNets F vias nets → AllBare (flat_map net_lines nets)
  nets_bare vias [] h = tt
  nets_bare vias (n ∷ nets) h = bare-append (net_lines n) (flat_map net_lines nets) (net_bare vias n h.0) (nets_bare vias nets h.1)

  via_lines_bare : Laws → (vias : List ViaText) → AllVias F vias → length vias ≤ 2 ^ 61 → AllBare (via_lines vias)
  via_lines_bare laws vias h few = (
    (known (codes "VIAS") refl, (count_bare laws (length vias) few, (known (codes ";") refl, tt))),
    bare-append (map via_words vias) ((codes "END" ∷ codes "VIAS" ∷ []) ∷ []) (vias_bare vias h) ((known (codes "END") refl, (known (codes "VIAS") refl, tt)), tt),
  )

  net_lines_bare : Laws → (vias : List (List ℕ)) (nets : List NetText) → AllNets F vias nets → length nets ≤ 2 ^ 61 → AllBare (special_net_lines nets)
  net_lines_bare laws vias nets h few = (
    (known (codes "SPECIALNETS") refl, (count_bare laws (length nets) few, (known (codes ";") refl, tt))),
    bare-append (flat_map net_lines nets) ((codes "END" ∷ codes "SPECIALNETS" ∷ []) ∷ []) (nets_bare vias nets h)
        ((known (codes "END") refl, (known (codes "SPECIALNETS") refl, tt)), tt),
  )

  body_bare : Laws → (head : HeadText) (vias : List ViaText) (nets : List NetText) (names : List (List ℕ)) → HeadFacts head → AllVias F vias → AllNets F names nets → length vias ≤ 2 ^ 61 →
      length nets ≤ 2 ^ 61 → AllBare (body head vias nets)
  body_bare laws head vias nets names h v n few_vias few_nets = (
    (known (codes "DESIGN") refl, (h.name.word, (known (codes ";") refl, tt))),
    (
      (known (codes "UNITS") refl, (known (codes "DISTANCE") refl, (known (codes "MICRONS") refl, (h.units.word, (known (codes ";") refl, tt))))),
      bare-append (die_words head ∷ []) (rest_lines vias nets) (die_bare head h) (bare-append (via_lines vias ++ special_net_lines nets) ((codes "END" ∷ codes "DESIGN" ∷ []) ∷ [])
          (bare-append (via_lines vias) (special_net_lines nets) (via_lines_bare laws vias v few_vias) (net_lines_bare laws names nets n few_nets))
          ((known (codes "END") refl, (known (codes "DESIGN") refl, tt)), tt)),
    ),
  )

  -- ## where they lead

  -- Units that lead from the start to the end of the design, where this is said.
  pub record WholeLeads (us : List (List Token)) (said : Said) : Type 0 where
    pub left : Standing
    pub leads : Leads F start us (between Ended left said)

  whole_leads : Laws → (head : HeadText) (vias : List ViaText) (nets : List NetText) → HeadFacts head → AllVias F vias → AllNets F (map via_name vias) nets →
      (F → AreDistinct (map via_name vias)) → (F → AreDistinct (map net_name nets)) → length vias ≤ 2 ^ 61 → length nets ≤ 2 ^ 61 → (F → length vias ≤ 2 ^ 30) → (F → length nets ≤ 2 ^ 30) → (f : ℕ → Place) →
      (g : ℕ → Place) × WholeLeads (units_of f (all_units head vias nets)) (said_at (map via_name vias) (map net_name nets) (said_vias g vias) (map said_net nets))
  whole_leads laws head vias nets h v n apart_vias apart_nets most_vias most_nets few_vias few_nets f =
      let f1 : ℕ → Place = past_all (singles (head_words head)) f in
      let f2 : ℕ → Place = past (vias_head (length vias)) f1 in
      let vs : List SaidVia = said_vias f2 vias in
      let f3 : ℕ → Place = past_all (flat_map via_units vias) f2 in
      let f4 : ℕ → Place = past_all (vias_section vias) f1 in
      let f5 : ℕ → Place = past (nets_head (length nets)) f4 in
      let f6 : ℕ → Place = past_all (flat_map net_units nets) f5 in
      let f7 : ℕ → Place = past_all (nets_section nets) f4 in
      let vn : List (List ℕ) = map via_name vias in
      let nn : List (List ℕ) = map net_name nets in
      let ns : List SaidNet = map said_net nets in
      let known_nets : AllNets F (map said_name vs) nets = subst (λ (z : List (List ℕ)). AllNets F z nets) (sym (said_names f2 vias)) n in
      let entries = vias_lead F laws vias at_start [] [] [] [] v (are_fresh F [] vn apart_vias) f2 in
      let wired = nets_lead F laws nets entries.left vn [] vs [] known_nets (are_fresh F [] nn apart_nets) f5 in
      let s0 : Said = said_at [] [] [] [] in
      let s1 : Said = said_at vn [] vs [] in
      let s2 : Said = said_at vn nn vs ns in
      let b1 : Heard = between Vias at_start s0 in
      let b2 : Heard = between Vias entries.left s1 in
      let c0 : Heard = between Top entries.left s1 in
      let c1 : Heard = between Nets entries.left s1 in
      let c2 : Heard = between Nets wired.left s2 in
      let d0 : Heard = between Top wired.left s2 in
      let d1 : Heard = between Ended wired.left s2 in
      let section_of_vias : Leads F start (units_of f1 (vias_section vias)) c0 = (
        b1,
        vias_begin F laws (length vias) most_vias few_vias at_start s0 f1,
        joins F f2 b1 b2 c0 (flat_map via_units vias) (end_of (codes "VIAS") ∷ []) entries.leads (c0, vias_end F entries.left s1 f3, refl),
      ) in
      let section_of_nets : Leads F c0 (units_of f4 (nets_section nets)) d0 = (
        c1,
        nets_begin F laws (length nets) most_nets few_nets entries.left s1 f4,
        joins F f5 c1 c2 d0 (flat_map net_units nets) (end_of (codes "SPECIALNETS") ∷ []) wired.leads (d0, nets_end F wired.left s2 f6, refl),
      ) in (
        f2,
        record {
          left = wired.left;
          leads = joins F f start start d1 (singles (head_words head)) (vias_section vias ++ (nets_section nets ++ last_units)) (statements_lead F head h at_start s0 f)
              (joins F f1 start c0 d1 (vias_section vias) (nets_section nets ++ last_units) section_of_vias
              (joins F f4 c0 d0 d1 (nets_section nets) last_units section_of_nets (d1, design_ends F wired.left s2 f7, refl)));
        },
      )

  -- ## what is said

  says_segment : F → (w : WireText) (segment : Segment) → WireFacts F w → IsSegment w segment → SaysSegment (said_segment w) segment
  says_segment ok w s h is = record {
    layer = is.layer;
    width = subst (λ z. IsNumber NotNegative (signed_decimal w.width) z) (sym is.width) (h.width.is ok);
    x1 = subst (λ z. IsNumber Any (signed_decimal w.x1) z) (sym is.x1) (h.x1.is ok);
    y1 = subst (λ z. IsNumber Any (signed_decimal w.y1) z) (sym is.y1) (h.y1.is ok);
    e1 = is.e1;
    x2 = subst (λ z. IsNumber Any (signed_decimal w.x2) z) (sym is.x2) (h.x2.is ok);
    y2 = subst (λ z. IsNumber Any (signed_decimal w.y2) z) (sym is.y2) (h.y2.is ok);
    e2 = is.e2;
    straight = elim (h.straight ok) [ inl x ↦ inl (is.x1 ∙ x ∙ sym is.x2) | inr y ↦ inr (is.y1 ∙ y ∙ sym is.y2) ];
    shape = is.shape;
  }

  says_segments : F → (wires : List WireText) (segments : List Segment) → AllWires F wires → InTurn IsSegment wires segments → InTurn SaysSegment (map said_segment wires) segments
  says_segments ok [] [] h k = tt
  says_segments ok (w ∷ wires) (s ∷ segments) h k = (says_segment ok w s h.0 k.0, says_segments ok wires segments h.1 k.1)
  says_segments ok [] (s ∷ segments) h k = absurd k
  says_segments ok (w ∷ wires) [] h k = absurd k

  says_places : F → (vias : List (List ℕ)) (places : List PlaceText) → AllPlaces F vias places → InTurn SaysPlace (map said_place places) (map via_place places)
  says_places ok vias [] h = tt
  says_places ok vias (p ∷ places) h = (record { via = refl; layer = refl; x = h.0.x.is ok; y = h.0.y.is ok }, says_places ok vias places h.1)

  says_net : F → (vias : List (List ℕ)) (n : NetText) (wired : WiredNet) → NetFacts F vias n → IsNet n wired → SaysNet (said_net n) wired
  says_net ok vias n wired h is = record {
    name = is.name;
    power = says_use n.supply wired.power is.power;
    segments = says_segments ok n.wires wired.segments h.wires is.segments;
    vias = subst (λ (z : List ViaPlace). InTurn SaysPlace (map said_place n.places) z) (sym is.vias) (says_places ok vias n.places h.places);
  }

  says_nets : F → (vias : List (List ℕ)) (nets : List NetText) (wired : List WiredNet) → AllNets F vias nets → InTurn IsNet nets wired → InTurn SaysNet (map said_net nets) wired
  says_nets ok vias [] [] h k = tt
  says_nets ok vias (n ∷ nets) (w ∷ wired) h k = (says_net ok vias n w h.0 k.0, says_nets ok vias nets wired h.1 k.1)
  says_nets ok vias [] (w ∷ wired) h k = absurd k
  says_nets ok vias (n ∷ nets) [] h k = absurd k

  pub read_units : F → UnitsAreRead → (bytes : List ℕ) (us : List (List Written)) (said : Said) (wires : Wires) → (seen : IsSeen bytes (joined us)) → WholeLeads (units_of seen.places us) said →
      SaysWires said wires → ReadsWires bytes (Ok wires)
  read_units ok read bytes us said wires seen whole says =
      let units : List (List Token) = units_of seen.places us in
      let end : Heard = between Ended whole.left said in
      let t : List Token = end_after (joined units) ∷ [] in
      let heard : heard_of units ≡ end = leads-to F start end units whole.leads in
      read bytes seen.split units (end_at seen.end ∷ []) wires seen.is (seen.words ∙ ap (λ z. z ++ end_at seen.end ∷ []) (sym (joined-units seen.places us)))
      (taken-append [] units t (taken F ok [] units start end refl whole.leads) (end_taken units whole.left said (joined units) heard)) (ap (λ z. is_ended (section_in z.standing)) heard)
      (λ front next back e. fronts_go_on F start end units front next back whole.leads e)
      (subst (λ (z : Heard). SaysWires z.said wires) (sym (heard-end F start end units t whole.leads)) says)

  -- A text, its units and what they say.
  pub record IsText (head : HeadText) (vias : List ViaText) (nets : List NetText) : Type 0 where
    pub h : HeadFacts head
    pub v : AllVias F vias
    pub n : AllNets F (map via_name vias) nets
    pub seen : IsSeen (wiring_text head vias nets) (joined (all_units head vias nets))
    pub names : ℕ → Place
    pub whole : WholeLeads (units_of seen.places (all_units head vias nets)) (said_at (map via_name vias) (map net_name nets) (said_vias names vias) (map said_net nets))

  pub text_is : Laws → ((lines : List (List Written)) → AllWritten lines → IsSeen (text_bytes lines) (joined lines)) → (head : HeadText) (vias : List ViaText) (nets : List NetText) →
      CanBeWritten head vias nets → All NetIsPlain nets → (F → CanBeWired head vias nets) → IsText head vias nets
  text_is laws split head vias nets written plain can =
      let h : HeadFacts head = head_facts laws head written.head_reads in
      let v : AllVias F vias = all_vias laws vias written.vias_read (λ ok. (can ok).vias_fit) in
      let names : List (List ℕ) = map via_name vias in
      let n : AllNets F names nets = all_nets laws names nets written.nets_read plain (λ ok. (can ok).nets_fit) in
      let lines : List (List Written) = all_lines head vias nets in
      let seen : IsSeen (text_bytes lines) (joined lines) = split lines (lines_written head vias nets (body_bare laws head vias nets names h v n written.few_vias written.few_nets)) in
      let units_seen : IsSeen (wiring_text head vias nets) (joined (all_units head vias nets)) =
      subst (λ (z : List ℕ). IsSeen z (joined (all_units head vias nets))) (bytes_are head vias nets)
      (subst (λ (z : List Written). IsSeen (text_bytes lines) z) (sym (words_are head vias nets)) seen) in
      let whole = whole_leads laws head vias nets h v n (λ ok. (can ok).via_names) (λ ok. (can ok).net_names) written.few_vias written.few_nets (λ ok. (can ok).few_vias)
      (λ ok. (can ok).few_nets) units_seen.places in
      record { h = h; v = v; n = n; seen = units_seen; names = whole.0; whole = whole.1 }

-- Where no word shows a fault.
pub net_is_plain : (vias : List (List ℕ)) (nets : List NetText) → All (NetFits vias) nets → All NetIsPlain nets
net_is_plain vias nets h = λ k d lt i e within. ((h k d lt).places i e within).no_keyword

pub reads_as_wires : Laws → ((lines : List (List Written)) → AllWritten lines → IsSeen (text_bytes lines) (joined lines)) → UnitsAreRead → (head : HeadText) (vias : List ViaText) (nets : List NetText)
    (wires : Wires) → CanBeWired head vias nets → IsWired vias nets wires → ReadsWires (wiring_text head vias nets) (Ok wires)
reads_as_wires laws split read head vias nets wires can is =
    let names : List (List ℕ) = map via_name vias in
    let text : IsText (Unit {0}) head vias nets = text_is (Unit {0}) laws split head vias nets can.written (net_is_plain names nets can.nets_fit) (λ ok. can) in
    let said : Said = said_at names (map net_name nets) (said_vias text.names vias) (map said_net nets) in
    let says : SaysWires said wires = record {
      vias = subst (λ (z : List ViaDef). InTurn SaysVia (said_vias text.names vias) z) (sym is.vias) (says_vias (Unit {0}) tt text.names vias text.v);
      nets = says_nets (Unit {0}) tt names nets wires.nets text.n is.nets;
    } in
    read_units (Unit {0}) tt read (wiring_text head vias nets) (all_units head vias nets) said wires text.seen text.whole says
