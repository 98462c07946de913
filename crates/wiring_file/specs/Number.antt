-- The numbers of a written wiring: whole numbers, of which each place asks a sign.
use Rattle.std.specs.Prelude.{ℕ, ◌^◌, ◌==◌, List, [], ◌∷◌, Option, Some, None, if◌then◌else◌}
use Rattle.number_place.specs.declared.place.NumberForm.TheVariants.{Integer}
use Rattle.number_place.specs.declared.place.NumberPlace.{NumberPlace}
use Rattle.number_place.specs.declared.place.NumberSign.{NumberSign}
use Rattle.number_place.specs.declared.place.NumberSign.TheVariants as signs
use Rattle.wiring_file.specs.declared.number.Quantity.{Quantity}
use Rattle.wiring_file.specs.declared.number.Quantity.TheVariants.{Coordinate, NotNegative, Positive, Microns}
use Rattle.wiring_file.specs.declared.section.Section.{Section}
use Rattle.wiring_file.specs.declared.section.Section.TheVariants as sections

-- No number is farther from 0.
abbrev pub limit : ℕ
limit = 2 ^ 61

abbrev pub whole : ℕ → NumberSign → NumberPlace
whole most sign = record { form = Integer; places = 0; limit = most; sign = sign }

-- What the place of a number asks.
abbrev pub place_of : Quantity → NumberPlace
place_of Coordinate = whole limit signs.Any
place_of NotNegative = whole limit signs.NotNegative
place_of Positive = whole limit signs.Positive
place_of Microns = whole 20000 signs.Positive

-- The numbers of the units of a section, each by how many words stand before it in its unit. The lengths of a via and the
-- counts of its cuts are more than 0, its spaces and enclosures and the width of a line are not below 0.
abbrev pub numbers_in : Section → List (ℕ × Quantity)
numbers_in sections.Units = (3, Microns) ∷ []
numbers_in sections.Die = (2, Coordinate) ∷ (3, Coordinate) ∷ (6, Coordinate) ∷ (7, Coordinate) ∷ []
numbers_in sections.ViasHead = (1, NotNegative) ∷ []
numbers_in sections.Vias =
    (7, Positive) ∷ (8, Positive) ∷ (16, NotNegative) ∷ (17, NotNegative) ∷ (20, NotNegative) ∷ (21, NotNegative)
    ∷ (22, NotNegative) ∷ (23, NotNegative) ∷ (26, Positive) ∷ (27, Positive) ∷ []
numbers_in sections.NetsHead = (1, NotNegative) ∷ []
numbers_in sections.Line = (1, NotNegative) ∷ (6, Coordinate) ∷ (7, Coordinate) ∷ (10, Coordinate) ∷ (11, Coordinate) ∷ []
numbers_in _ = []

-- The quantity among these of the word that has n words before it, if it is one of these numbers.
abbrev pub quantity_at : ℕ → List (ℕ × Quantity) → Option Quantity
quantity_at n [] = None
quantity_at n (number ∷ numbers) = if number.0 == n then Some number.1 else quantity_at n numbers
