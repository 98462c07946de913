-- Several files that are read one after the other: the first that was not read, and the texts of those that were.
use Rattle.std.proofs.Common.{◌≡◌, ◌<◌, ℕ, List, [], Option, Some, None, IfSome, length, map, take, get_or, sym, ap, subst, ◌∙◌}
use Rattle.std.proofs.lemmas.List.{get_or-map, length-map}
use Rattle.std.specs.Borrow.{Bor}
use Rattle.outside.specs.Files.{Holdings, bytes_in}
use Rattle.outside.specs.Whole.{longest_text}
use Rattle.input_files.specs.Inputs.{names_of, name_at, EachFits, ReadFails}
use Rattle.pdn_signoff.specs.Check.{FilesThen, IsTextOf}
use Rattle.pdn_signoff.specs.Inputs.{IsFirstUnread, FailsToRead}

module _ (known : Option Holdings) (files : List (List ℕ)) (read : List (Bor (List ℕ))) (are : names_of read ≡ files) (place : ℕ) (d : Bor (List ℕ)) (below : place < length read) where
  as_many : length read ≡ length files
  as_many = sym (length-map read (λ (n : Bor (List ℕ)). n.now)) ∙ ap length are

  pub is_file : name_at (names_of read) place ≡ (get_or read place d).now
  is_file = get_or-map (λ (n : Bor (List ℕ)). n.now) read place d [] below

  pub first_unread : IfSome known (λ held. EachFits held longest_text (take place (names_of read))) → IsFirstUnread known files (get_or read place d).now place
  first_unread earlier = record {
    below = subst (λ n. place < n) as_many below;
    is = sym is_file ∙ ap (λ (all : List (List ℕ)). name_at all place) are;
    earlier = subst (λ (all : List (List ℕ)). IfSome known (λ held. EachFits held longest_text (take place all))) are earlier;
  }

-- A read that failed, as it is told.
pub read_failed : (before after : FilesThen) (file other : List ℕ) → file ≡ other → ReadFails before.known file before.counts after.counts → FailsToRead before after other
read_failed before after file other same fails =
    subst (FailsToRead before after) same (record { failed = record { fault = fails.fault; failed_read = fails.failed_read }; only = fails.only })

-- The text of a place among those that were read is that of the file there.
pub text_known : (known : Option Holdings) (files texts : List (List ℕ)) → IfSome known (λ held. texts ≡ map (bytes_in held) files) → (i : ℕ) → i < length files → (file : List ℕ) → file ≡ get_or files i [] → IsTextOf known file (get_or texts i [])
text_known None files texts are i below file is = tt
text_known (Some held) files texts are i below file is =
    ap (λ all. get_or all i []) are ∙ get_or-map (bytes_in held) files i [] [] below ∙ ap (bytes_in held) (sym is)
