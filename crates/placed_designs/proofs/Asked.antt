-- A fault that is shown where wires are passed over is shown where they are refused.
use Rattle.std.proofs.Common.{◌≡◌, ℕ, ◌-◌, zero, suc, true, false, List, [], ◌∷◌, length, None, refl, rules}
use Rattle.std.specs.List.{AllByRecursion}
use Rattle.def_design.specs.declared.error.DefKind.{DefKind}
use Rattle.def_design.specs.Fault.{LastFault, fault}
use Rattle.def_design.specs.Question.{design_words, units_words, die_words, row_words, counted_words, width_words, component_words, placed_words, rect_words, polygon_words, region_words, more_words, wire_words, end_words, top_asks, entry_asks, placed_asks, part_asks, shape_asks, placement_asks, regions_asks, region_asks, wiring_asks, end_asks, asks_of, question_or, question_at, question_of}
use Rattle.def_statements.specs.declared.section.Section.{Section}
use Rattle.def_statements.specs.declared.section.Section.TheVariants as sections
use Rattle.def_statements.specs.declared.sort.Sort.{Sort}
use Rattle.def_statements.specs.declared.sort.Sort.TheVariants as sorts
use Rattle.def_statements.specs.Standing.{section_of}
use Rattle.def_statements.specs.Unit.{sort_at}
use Rattle.reading.specs.declared.refusal.Found.{Found}
use Rattle.reading.specs.Word.{Token}

abbrev Item : {A : Type 0} → List A → Type 0
Item {A} xs = A

-- What is asked of a word. The type is private to `def_design`.
abbrev Question : Type 0
Question = Item wire_words

module _ (units : List (List Token)) (unit : List Token) where
  -- What is shown of this question where wires are passed over is shown where they are refused.
  abbrev IsShown : Question → Type 0
  IsShown asked = (kind : DefKind) → LastFault false units unit asked kind → LastFault true units unit asked kind

  abbrev AreShown : List Question → Type 0
  AreShown asks = AllByRecursion IsShown asks

  no_wire : (kind wired : DefKind) → (kind ≡ wired) × (false ≡ true) → (kind ≡ wired) × (true ≡ true)
  no_wire kind wired h = (h.0, refl)

  design_shown : AreShown design_words
  design_shown = search (rules, no_wire)

  units_shown : AreShown units_words
  units_shown = search rules

  die_shown : AreShown die_words
  die_shown = search rules

  row_shown : AreShown row_words
  row_shown = search rules

  counted_shown : AreShown counted_words
  counted_shown = search rules

  width_shown : AreShown width_words
  width_shown = search rules

  component_shown : AreShown component_words
  component_shown = search rules

  placed_shown : AreShown placed_words
  placed_shown = search rules

  rect_shown : AreShown rect_words
  rect_shown = search rules

  polygon_shown : AreShown polygon_words
  polygon_shown = search (rules, no_wire)

  region_shown : AreShown region_words
  region_shown = search rules

  more_shown : AreShown more_words
  more_shown = search rules

  wire_shown : AreShown wire_words
  wire_shown = search (rules, no_wire)

  end_shown : AreShown end_words
  end_shown = search rules

  top_asks_shown : (sort : Sort) → AreShown (top_asks sort)
  top_asks_shown sorts.Design = design_shown
  top_asks_shown sorts.Units = units_shown
  top_asks_shown sorts.DieArea = die_shown
  top_asks_shown sorts.Row = row_shown
  top_asks_shown sorts.Components = counted_shown
  top_asks_shown sorts.Blockages = counted_shown
  top_asks_shown sorts.Regions = counted_shown
  top_asks_shown sorts.SpecialNets = counted_shown
  top_asks_shown _ = tt

  entry_asks_shown : (sort : Sort) → AreShown (entry_asks sort)
  entry_asks_shown sorts.Minus = component_shown
  entry_asks_shown _ = tt

  placed_asks_shown : (sort : Sort) → AreShown (placed_asks sort)
  placed_asks_shown sorts.Placed = placed_shown
  placed_asks_shown sorts.Fixed = placed_shown
  placed_asks_shown _ = tt

  part_asks_shown : (sort : Sort) → AreShown (part_asks sort)
  part_asks_shown sorts.Spacing = counted_shown
  part_asks_shown sorts.Width = width_shown
  part_asks_shown _ = tt

  shape_asks_shown : (sort : Sort) → AreShown (shape_asks sort)
  shape_asks_shown sorts.Rect = rect_shown
  shape_asks_shown sorts.Polygon = polygon_shown
  shape_asks_shown _ = tt

  placement_asks_shown : (sort : Sort) → AreShown (placement_asks sort)
  placement_asks_shown sorts.Polygon = polygon_shown
  placement_asks_shown _ = tt

  regions_asks_shown : (sort : Sort) → AreShown (regions_asks sort)
  regions_asks_shown sorts.Minus = region_shown
  regions_asks_shown _ = tt

  region_asks_shown : (sort : Sort) → AreShown (region_asks sort)
  region_asks_shown sorts.Open = more_shown
  region_asks_shown _ = tt

  wiring_asks_shown : (sort : Sort) → AreShown (wiring_asks sort)
  wiring_asks_shown sorts.Routed = wire_shown
  wiring_asks_shown sorts.Fixed = wire_shown
  wiring_asks_shown sorts.Rect = wire_shown
  wiring_asks_shown sorts.Polygon = wire_shown
  wiring_asks_shown _ = tt

  end_asks_shown : (sort : Sort) → AreShown (end_asks sort)
  end_asks_shown sorts.TextEnd = end_shown
  end_asks_shown _ = tt

  asks_shown : (section : Section) (words : List Token) → AreShown (asks_of section words)
  asks_shown sections.Top words = top_asks_shown (sort_at 0 words)
  asks_shown sections.Components words = entry_asks_shown (sort_at 0 words)
  asks_shown sections.EntryPart words = placed_asks_shown (sort_at 0 words)
  asks_shown sections.Part words = part_asks_shown (sort_at 0 words)
  asks_shown sections.Parts words = shape_asks_shown (sort_at 0 words)
  asks_shown sections.Rects words = shape_asks_shown (sort_at 0 words)
  asks_shown sections.Placement words = placement_asks_shown (sort_at 0 words)
  asks_shown sections.Regions words = regions_asks_shown (sort_at 0 words)
  asks_shown sections.Region words = region_asks_shown (sort_at 0 words)
  asks_shown sections.WiringPart words = wiring_asks_shown (sort_at 0 words)
  asks_shown sections.Ended words = end_asks_shown (sort_at 0 words)
  asks_shown _ words = tt

  nothing_shown : IsShown (question_or None)
  nothing_shown kind h = h

  at_shown : (asks : List Question) (n : ℕ) → AreShown asks → IsShown (question_at asks n)
  at_shown [] n are = nothing_shown
  at_shown (asked ∷ asks) zero are = are.0
  at_shown (asked ∷ asks) (suc n) are = at_shown asks n are.1

  question_shown : (section : Section) (words : List Token) → IsShown (question_of section words)
  question_shown section words = at_shown (asks_of section words) (length words - 1) (asks_shown section words)

pub fault_shown : (units : List (List Token)) (part : List Token) (found : Found DefKind) → fault false units part found → fault true units part found
fault_shown units [] found h = h
fault_shown units (first ∷ words) found h = (h.0, question_shown units (first ∷ words) (section_of units) (first ∷ words) found.kind h.1)
