-- Tallies of growing lists of verdicts.
use Rattle.std.proofs.Common.{◌≡◌, ℕ, ◌+◌, ◌<◌, ◌≤◌, ◌^◌, List, [], ◌∷◌, ◌++◌, length, take, get_or, map, count_by, sym, ap, ◌∙◌, append_assoc, subst, arith}
use Rattle.std.specs.List.{enumerate_from}
use Rattle.std.proofs.lemmas.List.{take_more, length-take-le, map-append, length-map}
use Rattle.std.proofs.Common.{length-append}
use Rattle.std.proofs.lemmas.List.Sums.{count_by-le-length}
use Rattle.em_rules.specs.declared.words.Verdict.{Verdict}
use Rattle.signoff_report.specs.declared.counting.Tally.{Tally}
use Rattle.signoff_report.specs.Judged.{is_safe, is_unsafe, is_undecided, has_no_limit}
use Rattle.signoff_report.specs.Counted.{IsTally, HasRoom}
use Rattle.signoff_report.proofs.Lines.{numbered_more}

-- What is counted in a list is at most its length.
pub room : (verdicts : List Verdict) (tally : Tally) → IsTally verdicts tally → length verdicts < 2 ^ 63 → HasRoom tally
room verdicts tally is few = record {
  safe = omega (arith, is.safe, count_by-le-length is_safe verdicts);
  unsafe_ = omega (arith, is.unsafe_, count_by-le-length is_unsafe verdicts);
  undecided = omega (arith, is.undecided, count_by-le-length is_undecided verdicts);
  no_limit = omega (arith, is.no_limit, count_by-le-length has_no_limit verdicts);
}

-- The tally of one verdict more.
pub one_more : (old more : List Verdict) (v w : Verdict) (tally : Tally) → IsTally (old ++ v ∷ []) tally → v ≡ w → more ≡ old ++ w ∷ [] → IsTally more tally
one_more old more v w tally is e f =
    let grown = ap (λ (x : Verdict). old ++ x ∷ []) e ∙ sym f in
    subst (λ (l : List Verdict). IsTally l tally) grown is

pub numbered_pushed : {X : Type 0} (f : ℕ × X → Verdict) (xs : List X) (i : ℕ) (d : X) → i < length xs
    → map f (enumerate_from 0 (take (i + 1) xs)) ≡ map f (enumerate_from 0 (take i xs)) ++ f (i, get_or xs i d) ∷ []
numbered_pushed f xs i d within =
    ap (map f) (numbered_more 0 i xs i d within (omega arith)) ∙ map-append f (enumerate_from 0 (take i xs)) ((i, get_or xs i d) ∷ [])

pub pushed : {X : Type 0} (before : List Verdict) (f : X → Verdict) (xs : List X) (i : ℕ) (d : X) → i < length xs
    → before ++ map f (take (i + 1) xs) ≡ (before ++ map f (take i xs)) ++ f (get_or xs i d) ∷ []
pushed before f xs i d within =
    ap (λ l. before ++ map f l) (take_more xs i d within) ∙ ap (λ l. before ++ l) (map-append f (take i xs) (get_or xs i d ∷ []))
    ∙ sym (append_assoc before (map f (take i xs)) (f (get_or xs i d) ∷ []))

-- How many verdicts there are so far.
length-enumerate : {X : Type 0} (n : ℕ) (xs : List X) → length (enumerate_from n xs) ≡ length xs
length-enumerate n [] = omega arith
length-enumerate n (x ∷ xs) = let h = length-enumerate (n + 1) xs in omega (arith, h)

pub numbered_few : {X : Type 0} (f : ℕ × X → Verdict) (xs : List X) (i : ℕ) → i ≤ length xs → length (map f (enumerate_from 0 (take i xs))) ≡ i
numbered_few f xs i within = omega (arith, length-map (enumerate_from 0 (take i xs)) f, length-enumerate 0 (take i xs), length-take-le i xs within)

pub numbered_all : {X : Type 0} (f : ℕ × X → Verdict) (xs : List X) → length (map f (enumerate_from 0 xs)) ≡ length xs
numbered_all f xs = omega (arith, length-map (enumerate_from 0 xs) f, length-enumerate 0 xs)

pub few : {X : Type 0} (before : List Verdict) (f : X → Verdict) (xs : List X) (i : ℕ) → i ≤ length xs → length (before ++ map f (take i xs)) ≡ length before + i
few before f xs i within = omega (arith, length-append before (map f (take i xs)), length-map (take i xs) f, length-take-le i xs within)
