-- What files in memory hold after a change of one of them.
use Rattle.std.proofs.Common.{◌≡◌, ℕ, zero, suc, ◌<◌, Bool, true, false, List, [], ◌∷◌, ◌++◌, length, get_or, set, take, map, Option, Some, None, Vec, refl, sym, ◌∙◌, ap, subst, arith}
use Rattle.std.specs.Prelude.{bytes_eq, if◌then◌else◌, option_map, unwrap_or, Result, Ok, Err, OnErr}
use Rattle.std.proofs.lemmas.List.{take_all}
use Rattle.std.specs.declared.alloc.Global.{Global}
use Rattle.outside.specs.Directory.{stored}
use Rattle.outside.specs.Entries.{value_under, Assigns}
use Rattle.outside.specs.Files.{bytes_in, Appends}
use Rattle.outside.specs.inside.Entries.{IsFirstPlace, IsAbsent}
use Rattle.outside.proofs.Listed.{value_under-present, value_under-absent, value_under-set_named, value_under-set_other, value_under-push_named, value_under-push_other}

abbrev items_of : Vec ℕ Global → List ℕ
items_of v = v.items

-- The bytes of a name are those of its first file.
value_under-stored : (files : List (List ℕ × Vec ℕ Global)) (name : List ℕ) → value_under (map stored files) name ≡ option_map items_of (value_under files name)
value_under-stored [] name = refl
value_under-stored (file ∷ files) name = by_case (bytes_eq file.0 name) (value_under-stored files name)
  where
    by_case : (b : Bool) → value_under (map stored files) name ≡ option_map items_of (value_under files name)
        → (if b then Some file.1.items else value_under (map stored files) name) ≡ option_map items_of (if b then Some file.1 else value_under files name)
    by_case true rest = refl
    by_case false rest = rest

module _ (read items : List (List ℕ × Vec ℕ Global)) (value : List (List ℕ × List ℕ)) (bytes name : List ℕ) (same : read ≡ items) (seen : map stored items ≡ value) (named : bytes ≡ name) where
  held : (other : List ℕ) → value_under value other ≡ option_map items_of (value_under items other)
  held other = ap (λ (l : List (List ℕ × List ℕ)). value_under l other) (sym seen) ∙ value_under-stored items other

  pub bytes_present : (place : ℕ) (file : (List ℕ × Vec ℕ Global)) → IsFirstPlace read bytes place → file ≡ get_or items place file → value_under value name ≡ Some file.1.items
  bytes_present place file at is =
      held name
      ∙ ap (λ (l : List (List ℕ × Vec ℕ Global)). option_map items_of (value_under l name)) (sym same)
      ∙ ap (λ (n : List ℕ). option_map items_of (value_under read n)) (sym named)
      ∙ ap (λ (o : Option (Vec ℕ Global)). option_map items_of o) (value_under-present read bytes place file at)
      ∙ ap (λ (l : List (List ℕ × Vec ℕ Global)). Some (get_or l place file).1.items) same
      ∙ ap (λ (f : (List ℕ × Vec ℕ Global)). Some f.1.items) (sym is)

  pub bytes_absent : IsAbsent read bytes → value_under value name ≡ None
  bytes_absent none =
      held name
      ∙ ap (λ (l : List (List ℕ × Vec ℕ Global)). option_map items_of (value_under l name)) (sym same)
      ∙ ap (λ (n : List ℕ). option_map items_of (value_under read n)) (sym named)
      ∙ ap (λ (o : Option (Vec ℕ Global)). option_map items_of o) (value_under-absent read bytes none)

  -- The file of a name has other bytes.
  pub holds_present : (place : ℕ) (file : (List ℕ × Vec ℕ Global)) (v : Vec ℕ Global) (written : List ℕ) → IsFirstPlace read bytes place → file ≡ get_or items place file → v.items ≡ written → Assigns name (Some written) (value_under value) (value_under (map stored (set items place (file.0, v))))
  holds_present place file v written at is holds =
      let first : IsFirstPlace items name place = subst (λ (l : List (List ℕ × Vec ℕ Global)). IsFirstPlace l name place) same (subst (λ (n : List ℕ). IsFirstPlace read n place) named at) in
      let file_named : file.0 ≡ name = ap (λ (f : (List ℕ × Vec ℕ Global)). f.0) is ∙ first.named file in record {
        named = value_under-stored (set items place (file.0, v)) name ∙ ap (λ (o : Option (Vec ℕ Global)). option_map items_of o) (value_under-set_named items name place (file.0, v) first file_named) ∙ ap (λ (l : List ℕ). Some l) holds;
        others = λ other apart. value_under-stored (set items place (file.0, v)) other ∙ ap (λ (o : Option (Vec ℕ Global)). option_map items_of o) (value_under-set_other items name place (file.0, v) other first file_named apart) ∙ sym (held other);
      }

  added : (own : List ℕ) (v : Vec ℕ Global) (written : List ℕ) → IsAbsent read bytes → own ≡ name → v.items ≡ written → Assigns name (Some written) (value_under value) (value_under (map stored (items ++ (own, v) ∷ [])))
  added own v written none is holds =
      let absent : IsAbsent items name = subst (λ (l : List (List ℕ × Vec ℕ Global)). IsAbsent l name) same (subst (λ (n : List ℕ). IsAbsent read n) named none) in record {
        named = value_under-stored (items ++ (own, v) ∷ []) name ∙ ap (λ (o : Option (Vec ℕ Global)). option_map items_of o) (value_under-push_named items name (own, v) absent is) ∙ ap (λ (l : List ℕ). Some l) holds;
        others = λ other apart. value_under-stored (items ++ (own, v) ∷ []) other ∙ ap (λ (o : Option (Vec ℕ Global)). option_map items_of o) (value_under-push_other items name (own, v) other is apart) ∙ sym (held other);
      }

  -- A file is added.
  pub holds_absent : (own : List ℕ) (v : Vec ℕ Global) (written : List ℕ) (after : List (List ℕ × Vec ℕ Global)) → IsAbsent read bytes → own ≡ name → v.items ≡ written → after ≡ items ++ (own, v) ∷ [] → Assigns name (Some written) (value_under value) (value_under (map stored after))
  holds_absent own v written after none is holds pushed =
      subst (λ (l : List (List ℕ × Vec ℕ Global)). Assigns name (Some written) (value_under value) (value_under (map stored l))) (sym pushed) (added own v written none is holds)

  -- Bytes are added to the file of a name.
  pub appends_present : (place : ℕ) (file : (List ℕ × Vec ℕ Global)) (v : Vec ℕ Global) (piece : List ℕ) → IsFirstPlace read bytes place → file ≡ get_or items place file → v.items ≡ file.1.items ++ piece → Appends name piece (length piece) (value_under value) (value_under (map stored (set items place (file.0, v))))
  appends_present place file v piece at is longer =
      holds_present place file v _ at is (longer ∙ ap (λ (l : List ℕ). l ++ piece) (sym (ap (λ (o : Option (List ℕ)). unwrap_or o []) (bytes_present place file at is))) ∙ ap (λ (l : List ℕ). bytes_in (value_under value) name ++ l) (sym (take_all (length piece) piece (omega arith))))

  -- A file is added with bytes.
  pub appends_absent : (own : List ℕ) (v : Vec ℕ Global) (piece : List ℕ) (after : List (List ℕ × Vec ℕ Global)) → IsAbsent read bytes → own ≡ name → v.items ≡ piece → after ≡ items ++ (own, v) ∷ [] → Appends name piece (length piece) (value_under value) (value_under (map stored after))
  appends_absent own v piece after none is holds pushed =
      holds_absent own v _ after none is (holds ∙ sym (take_all (length piece) piece (omega arith)) ∙ ap (λ (l : List ℕ). l ++ take (length piece) piece) (sym (ap (λ (o : Option (List ℕ)). unwrap_or o []) (bytes_absent none)))) pushed

-- A file that has the bytes it had.
pub stored-set_same : (items : List (List ℕ × Vec ℕ Global)) (place : ℕ) (file : (List ℕ × Vec ℕ Global)) (v : Vec ℕ Global) → place < length items → file ≡ get_or items place file → v.items ≡ file.1.items → map stored (set items place (file.0, v)) ≡ map stored items
stored-set_same [] place file v within is same = absurd (omega arith)
stored-set_same (first ∷ items) zero file v within is same =
    ap (λ (bytes : List ℕ). (file.0, bytes) ∷ map stored items) same ∙ ap (λ (f : (List ℕ × Vec ℕ Global)). stored f ∷ map stored items) is
stored-set_same (first ∷ items) (suc place) file v within is same = ap (λ (l : List (List ℕ × List ℕ)). stored first ∷ l) (stored-set_same items place file v (omega arith) is same)

-- What holds anyway holds after an error.
pub on_err : {T E P : Type 0} (r : Result T E) → P → OnErr r P
on_err (Ok x) p = tt
on_err (Err e) p = p
