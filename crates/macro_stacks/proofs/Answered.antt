-- The answer for both lists.
use Rattle.std.proofs.Common.{◌≡◌, ◌↔◌, ◌<◌, ◌≤◌, ℕ, true, List, All, AllPairs, Contains, length, get_or, Result, MatchResult}
use Rattle.std.specs.declared.result.Result.TheVariants.{Ok, Err}
use Rattle.std.specs.List.Sorted.{IsPermutation}
use Rattle.std.specs.Ordering.{is_lt}
use Rattle.std.proofs.lemmas.List.Elements.{All-weaker, Contains-get_or}
use Rattle.std.proofs.lemmas.List.Sorted.{Contains-permutation, IsPermutation-sym}
use Rattle.lef_tech.specs.declared.tech.Tech.{Tech}
use Rattle.grid_pieces.specs.declared.error.Counted.TheVariants.{Stacks}
use Rattle.grid_pieces.specs.declared.error.DrawError.{DrawError}
use Rattle.grid_pieces.specs.declared.error.DrawError.TheVariants.{TooMany, Stack, Want}
use Rattle.grid_pieces.specs.declared.piece.Block.{Block}
use Rattle.grid_pieces.specs.declared.piece.Piece.{Piece}
use Rattle.grid_stacks.specs.Crossing.{Stands}
use Rattle.grid_stacks.specs.Stacking.{AreAllowed, AreRefused, AreSites, HasSheet, IsSiteRefused, MoreThan, most_pieces, most_stacks, site_order}
use Rattle.grid_stacks.specs.declared.connect.Connect.{Connect}
use Rattle.grid_stacks.specs.declared.connect.Site.{Site}
use Rattle.macro_stacks.specs.inside.Places.{AreAll, AreInOrder, AreTooMany}
use Rattle.macro_stacks.proofs.Once.{different}
use Rattle.macro_stacks.proofs.Parted.{stands_more, too_many}

-- the places of pieces in another order
pub same_stands : (tech : Tech) (both pieces : List Piece) (connects : List Connect) (blocks : List Block) → IsPermutation both pieces → (s : Site)
    → Stands tech both connects blocks s ↔ Stands tech pieces connects blocks s
same_stands tech both pieces connects blocks moved s = (
  stands_more tech both pieces connects blocks (λ p. Contains-permutation both pieces p moved) s,
  stands_more tech pieces both connects blocks (λ p. Contains-permutation pieces both p (IsPermutation-sym both pieces moved)) s,
)

-- all places in order
pub all_in_order : (P : Site → Type 0) (old new : List Site) → AreAll P old → ((s : Site) → Contains new s ↔ Contains old s) → AllPairs (λ (a b : Site). is_lt (site_order a b) ≡ true) new
    → AreSites P new
all_in_order P old new all same rising = record {
  each = λ k d within. (all (get_or new k d)).0 ((same (get_or new k d)).0 (Contains-get_or new k d within));
  every = λ s h. (same s).1 ((all s).1 h);
  in_order = rising;
}

-- they are too many
pub counted : (P : Site → Type 0) (sites : List Site) → AreSites P sites → most_stacks < length sites → MoreThan most_stacks P
counted P sites are many = record { some = sites; each = are.each; differ = different sites are.in_order; more = many }

-- places of a property that is the same as another
pub allowed : (P Q : Site → Type 0) (pieces : List Piece) (sites : List Site) → ((s : Site) → P s ↔ Q s) → length pieces ≤ most_pieces → AreInOrder P sites → AreAllowed Q pieces sites
allowed P Q pieces sites same few_pieces all = record {
  few_pieces = few_pieces;
  are = record {
    each = All-weaker P Q (λ s. (same s).0) sites all.are.each;
    every = λ s h. all.are.every s ((same s).1 h);
    in_order = all.are.in_order;
  };
  few = all.few;
}

-- why there are no places is why there are no stacks
pub refused_places : (P Q : Site → Type 0) (tech : Tech) (units : ℕ) (pieces : List Piece) → ((s : Site) → P s ↔ Q s) → length pieces ≤ most_pieces → (e : DrawError) → AreTooMany P e
    → AreRefused Q tech units pieces e
refused_places P Q tech units pieces same few (TooMany Stacks) many = (few, too_many P Q (λ s. (same s).0) (TooMany Stacks) many)
refused_places P Q tech units pieces same few (TooMany other) many = absurd many
refused_places P Q tech units pieces same few Want many = tt
refused_places P Q tech units pieces same few other many = absurd many

-- the stacks of all places, or the first that is refused
pub answered : {T : Type 0} (A B : T → Type 0) (P : Site → Type 0) (tech : Tech) (units : ℕ) (pieces : List Piece) (sites : List Site) (answer : Result T DrawError) → AreAllowed P pieces sites
    → All (HasSheet tech) pieces → ((x : T) → A x → B x) → MatchResult answer A (IsSiteRefused tech units sites) → MatchResult answer B (AreRefused P tech units pieces)
answered A B P tech units pieces sites (Ok stacks) are sheets f h = f stacks h
answered A B P tech units pieces sites (Err (Stack error x y)) are sheets f h = (sites, are, sheets, h)
answered A B P tech units pieces sites (Err Want) are sheets f h = tt
answered A B P tech units pieces sites (Err other) are sheets f h = absurd h
