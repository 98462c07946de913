-- The DEF of a grid is the text of its wiring.
use Rattle.std.proofs.Common.{◌≡◌, ℕ, suc, ◌+◌, Bool, true, false, ℤ, List, [], ◌∷◌, ◌++◌, length, map, codes, refl, sym, ◌∙◌, ap}
use Rattle.std.specs.Prelude.{decimal, flat_map, slice_index_or}
use Rattle.std.specs.List.{enumerate_from}
use Rattle.std.proofs.lemmas.List.{length-map, map-append}
use Rattle.def_design.specs.declared.record.Design.{Design}
use Rattle.lef_tech.specs.declared.tech.Tech.{Tech}
use Rattle.via_arrays.specs.declared.parts.CutArray.{CutArray}
use Rattle.grid_pieces.specs.declared.grid.Grid.{Grid}
use Rattle.grid_pieces.specs.declared.piece.Piece.{Piece}
use Rattle.grid_pieces.specs.declared.piece.StackAt.{StackAt}
use Rattle.def_writer.specs.Line.{text_of}
use Rattle.def_writer.specs.Via.{arrays_of, vias_of, via_line}
use Rattle.def_writer.specs.Wiring.{piece_words, array_words, stack_words, wiring_words, wiring_lines, pieces_of, stacks_of, use_word, net_of_grid}
use Rattle.def_writer.specs.Written as writes
use Rattle.wiring_file.specs.declared.record.ViaText.{ViaText}
use Rattle.wiring_file.specs.declared.record.WireText.{WireText}
use Rattle.wiring_file.specs.declared.record.PlaceText.{PlaceText}
use Rattle.wiring_file.specs.Written.{HeadText, NetText, via_words, wire_words, place_words, routed, net_lines, head_lines, via_lines, special_net_lines, lines, wiring_text}
use Rattle.written_wiring.specs.Wiring.{via_text, wire_text, place_text, places_at}

-- What stands before the vias.
abbrev pub head_text : Design → HeadText
head_text design =
    record { name = design.name; units = design.units; x1 = design.die.x1; y1 = design.die.y1; x2 = design.die.x2; y2 = design.die.y2 }

abbrev pub vias_text : Tech → Grid → List ViaText
vias_text tech grid = map (via_text tech) (vias_of (arrays_of grid.stacks))

-- The pieces and the arrays of the stacks of the net of this number and name.
abbrev pub net_wires : Tech → Grid → ℕ × List ℕ → List WireText
net_wires tech grid (net, name) = map (wire_text tech name) (pieces_of grid.pieces net)

abbrev pub net_places : Tech → Grid → ℕ × List ℕ → List PlaceText
net_places tech grid (net, name) = flat_map (places_at tech name) (stacks_of grid.stacks net)

-- A net of this number and name.
abbrev pub net_text : Tech → Grid → ℕ × List ℕ → NetText
net_text tech grid (net, name) = record {
  name = name;
  supply = use_word (slice_index_or grid.power net false);
  wires = net_wires tech grid (net, name);
  places = net_places tech grid (net, name);
}

abbrev pub nets_text : Tech → Grid → List NetText
nets_text tech grid = map (net_text tech grid) (enumerate_from 0 grid.nets)

-- ## lines of wiring

routed_is : (first : Bool) (xs : List (List (List ℕ))) → wiring_lines first xs ≡ routed first xs
routed_is true [] = refl
routed_is false [] = refl
routed_is true (x ∷ xs) = ap (λ z. (codes "+" ∷ codes "ROUTED" ∷ x) ∷ z) (routed_is false xs)
routed_is false (x ∷ xs) = ap (λ z. (codes "NEW" ∷ x) ∷ z) (routed_is false xs)

pieces_are : (tech : Tech) (name : List ℕ) (pieces : List Piece) → map (piece_words tech) pieces ≡ map wire_words (map (wire_text tech name) pieces)
pieces_are tech name [] = refl
pieces_are tech name (p ∷ pieces) = ap (λ z. piece_words tech p ∷ z) (pieces_are tech name pieces)

arrays_are : (tech : Tech) (name : List ℕ) (at : ℤ × ℤ) (arrays : List (ℕ × CutArray)) → map (array_words tech at) arrays ≡ map place_words (map (place_text tech name at) arrays)
arrays_are tech name at [] = refl
arrays_are tech name at (a ∷ arrays) = ap (λ z. array_words tech at a ∷ z) (arrays_are tech name at arrays)

stacks_are : (tech : Tech) (name : List ℕ) (stacks : List StackAt) → flat_map (stack_words tech) stacks ≡ map place_words (flat_map (places_at tech name) stacks)
stacks_are tech name [] = refl
stacks_are tech name (at ∷ stacks) =
    ap (λ z. z ++ flat_map (stack_words tech) stacks) (arrays_are tech name (at.x, at.y) (enumerate_from at.stack.from at.stack.arrays))
    ∙ ap (λ z. map place_words (places_at tech name at) ++ z) (stacks_are tech name stacks)
    ∙ sym (map-append place_words (places_at tech name at) (flat_map (places_at tech name) stacks))

words_are : (tech : Tech) (name : List ℕ) (pieces : List Piece) (stacks : List StackAt) →
    wiring_words tech pieces stacks ≡ map wire_words (map (wire_text tech name) pieces) ++ map place_words (flat_map (places_at tech name) stacks)
words_are tech name pieces stacks =
    ap (λ z. z ++ flat_map (stack_words tech) stacks) (pieces_are tech name pieces)
    ∙ ap (λ z. map wire_words (map (wire_text tech name) pieces) ++ z) (stacks_are tech name stacks)

net_is : (tech : Tech) (grid : Grid) (net : ℕ × List ℕ) → net_of_grid tech grid net ≡ net_lines (net_text tech grid net)
net_is tech grid (net, name) =
    let head : List (List ℕ) = codes "-" ∷ name ∷ codes "+" ∷ codes "USE" ∷ use_word (slice_index_or grid.power net false) ∷ [] in
    ap (λ z. head ∷ (z ++ (codes ";" ∷ []) ∷ []))
    (routed_is true (wiring_words tech (pieces_of grid.pieces net) (stacks_of grid.stacks net))
    ∙ ap (routed true) (words_are tech name (pieces_of grid.pieces net) (stacks_of grid.stacks net)))

nets_are : (tech : Tech) (grid : Grid) (nets : List (ℕ × List ℕ)) → flat_map (net_of_grid tech grid) nets ≡ flat_map net_lines (map (net_text tech grid) nets)
nets_are tech grid [] = refl
nets_are tech grid (net ∷ nets) =
    ap (λ z. z ++ flat_map (net_of_grid tech grid) nets) (net_is tech grid net)
    ∙ ap (λ z. net_lines (net_text tech grid net) ++ z) (nets_are tech grid nets)

-- ## lines of vias

vias_are : (tech : Tech) (vias : List CutArray) → map (via_line tech) vias ≡ map via_words (map (via_text tech) vias)
vias_are tech [] = refl
vias_are tech (a ∷ vias) = ap (λ z. via_line tech a ∷ z) (vias_are tech vias)

-- ## all lines

length_enumerated : {X : Type 0} (n : ℕ) (xs : List X) → length (enumerate_from n xs) ≡ length xs
length_enumerated n [] = refl
length_enumerated n (x ∷ xs) = ap suc (length_enumerated (n + 1) xs)

pub nets_count : (tech : Tech) (grid : Grid) → length (nets_text tech grid) ≡ length grid.nets
nets_count tech grid = length-map (enumerate_from 0 grid.nets) (net_text tech grid) ∙ length_enumerated 0 grid.nets

via_lines_are : (tech : Tech) (vias : List CutArray) → writes.via_lines tech vias ≡ via_lines (map (via_text tech) vias)
via_lines_are tech vias =
    ap (λ z. (codes "VIAS" ∷ decimal (length vias) ∷ codes ";" ∷ []) ∷ (z ++ (codes "END" ∷ codes "VIAS" ∷ []) ∷ [])) (vias_are tech vias)
    ∙ ap (λ z. (codes "VIAS" ∷ decimal z ∷ codes ";" ∷ []) ∷ (map via_words (map (via_text tech) vias) ++ (codes "END" ∷ codes "VIAS" ∷ []) ∷ [])) (sym (length-map vias (via_text tech)))

net_lines_are : (tech : Tech) (grid : Grid) → writes.special_net_lines tech grid ≡ special_net_lines (nets_text tech grid)
net_lines_are tech grid =
    ap (λ z. (codes "SPECIALNETS" ∷ decimal (length grid.nets) ∷ codes ";" ∷ []) ∷ (z ++ (codes "END" ∷ codes "SPECIALNETS" ∷ []) ∷ []))
    (nets_are tech grid (enumerate_from 0 grid.nets))
    ∙ ap (λ z. (codes "SPECIALNETS" ∷ decimal z ∷ codes ";" ∷ []) ∷ (flat_map net_lines (nets_text tech grid) ++ (codes "END" ∷ codes "SPECIALNETS" ∷ []) ∷ []))
    (sym (nets_count tech grid))

lines_are : (design : Design) (tech : Tech) (grid : Grid) → writes.def_lines design tech grid ≡ lines (head_text design) (vias_text tech grid) (nets_text tech grid)
lines_are design tech grid =
    let end : List (List (List ℕ)) = (codes "END" ∷ codes "DESIGN" ∷ []) ∷ [] in
    let head : List (List (List ℕ)) = head_lines (head_text design) in
    ap (λ z. head ++ z ++ writes.special_net_lines tech grid ++ end) (via_lines_are tech (vias_of (arrays_of grid.stacks)))
    ∙ ap (λ z. head ++ via_lines (vias_text tech grid) ++ z ++ end) (net_lines_are tech grid)

pub text_is : (design : Design) (tech : Tech) (grid : Grid) → writes.written_def design tech grid ≡ wiring_text (head_text design) (vias_text tech grid) (nets_text tech grid)
text_is design tech grid = ap text_of (lines_are design tech grid)

-- ## the wiring

pub wires_are : (tech : Tech) (grid : Grid) (nets : List (ℕ × List ℕ)) → flat_map (λ (net : NetText). net.wires) (map (net_text tech grid) nets) ≡ flat_map (net_wires tech grid) nets
wires_are tech grid [] = refl
wires_are tech grid (net ∷ nets) = ap (λ z. net_wires tech grid net ++ z) (wires_are tech grid nets)

pub places_are : (tech : Tech) (grid : Grid) (nets : List (ℕ × List ℕ)) → flat_map (λ (net : NetText). net.places) (map (net_text tech grid) nets) ≡ flat_map (net_places tech grid) nets
places_are tech grid [] = refl
places_are tech grid (net ∷ nets) = ap (λ z. net_places tech grid net ++ z) (places_are tech grid nets)
