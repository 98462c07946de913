-- The first of what is found in lists, and the earliest of what is found in several lists of commands.
use Rattle.std.specs.Prelude.{ℕ, Bool, ◌&&◌, ◌||◌, nat_lt, if◌then◌else◌, List, [], ◌∷◌, Option, Some, None}
use Rattle.std.specs.Bool.{nat_eq}
use Rattle.std.specs.List.{position_from}
use Rattle.std.specs.Option.{option_or}
use Rattle.std.specs.Ordering.{nat_cmp, ordering_then}
use Rattle.std.specs.declared.cmp.Ordering.{Ordering}
use Rattle.outside.specs.declared.place.Place.{Place}

-- What the first entry has of which something is found.
abbrev pub first_some : {X Y : Type 0} → (X → Option Y) → List X → Option Y
first_some found [] = None
first_some found (x ∷ xs) = option_or (found x) (first_some found xs)

-- The place, from 0, of the first entry that passes.
abbrev pub first_place : {X : Type 0} → (X → Bool) → List X → Option ℕ
first_place passes xs = position_from passes 0 xs

-- A place in a text is before another: on an earlier line, or an earlier word of its line.
abbrev pub is_before : Place → Place → Bool
is_before a b = nat_lt a.line b.line || (nat_eq a.line b.line && nat_lt a.word b.word)

-- The order of places in a text: by lines, and in a line by words.
abbrev pub place_order : Place → Place → Ordering
place_order a b = ordering_then (nat_cmp a.line b.line) (nat_cmp a.word b.word)

-- What was found, with the place of its command.
abbrev pub placed : {Y : Type 0} → Place → Option Y → Option (Place × Y)
placed place None = None
placed place (Some y) = Some (place, y)

-- The one of an earlier command.
abbrev pub earlier : {Y : Type 0} → Option (Place × Y) → Option (Place × Y) → Option (Place × Y)
earlier None b = b
earlier (Some a) None = Some a
earlier (Some a) (Some b) = if is_before b.0 a.0 then Some b else Some a

-- What was found, without its place.
abbrev pub unplaced : {Y : Type 0} → Option (Place × Y) → Option Y
unplaced None = None
unplaced (Some a) = Some a.1
