-- What stands first in two lists, one behind the other.
use Rattle.std.proofs.Common.{◌≡◌, ℕ, List, ◌++◌, find, Option, Some, None, refl, sym, ap, ◌∙◌}
use Rattle.std.specs.Option.{option_map, option_or}
use Rattle.std.proofs.lemmas.List.Folds.{find-append}
use Rattle.geom_rect.specs.declared.rect.Rect.{Rect}
use Rattle.rect_index.specs.declared.entry.Entry.{Entry}
use Rattle.rect_index.specs.Entry.{is_at, item_of, first_at}

some_or_none : {X Z : Type 0} (x : X) (o : Option X) → o ≡ Some x → o ≡ None → Z
some_or_none x o e f = absurd (let t : None ≡ Some x = sym f ∙ e in cc)

pub first_left : {T : Type 0} (group : ℕ) (window : Rect) (left right : List (Entry T)) (item : T) → first_at group window left ≡ Some item
    → first_at group window (left ++ right) ≡ Some item
first_left {T} group window left right item e =
    ap (option_map item_of) (find-append (is_at group window) left right) ∙ by_found (find (is_at group window) left) e
  where
    by_found : (o : Option (Entry T)) → option_map item_of o ≡ Some item → option_map item_of (option_or o (find (is_at group window) right)) ≡ Some item
    by_found None e = some_or_none item None e refl
    by_found (Some x) e = e

pub first_right : {T : Type 0} (group : ℕ) (window : Rect) (left right : List (Entry T)) → first_at group window left ≡ None
    → first_at group window (left ++ right) ≡ first_at group window right
first_right {T} group window left right e =
    ap (option_map item_of) (find-append (is_at group window) left right) ∙ by_found (find (is_at group window) left) e
  where
    by_found : (o : Option (Entry T)) → option_map item_of o ≡ None → option_map item_of (option_or o (find (is_at group window) right)) ≡ first_at group window right
    by_found None e = refl
    by_found (Some x) e = some_or_none (item_of x) (option_map item_of (Some x)) refl e
