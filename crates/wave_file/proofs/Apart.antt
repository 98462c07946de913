-- Whether two spots are one.
use Rattle.std.proofs.Common.{◌≡◌, ◌↔◌, IsTrue, ◌==◌, ◌&&◌, Bool, List, Contains, AllPairs, ◌≢◌, sym, ◌∙◌, ap}
use Rattle.std.specs.Bool.{Decides}
use Rattle.std.specs.List.{list_any, IsDistinct}
use Rattle.std.proofs.lemmas.Bool.Decides.{Decides-and, Decides-eqb}
use Rattle.std.proofs.lemmas.List.Folds.{list_any_at}
use Rattle.std.proofs.lemmas.Map.Made.{AllPairs-from_IsDistinct}
use Rattle.std.proofs.lemmas.Map.Views.{Contains-from_any}
use Rattle.wave_file.specs.declared.spots.Spot.{Spot}

abbrev pub same : Spot → Spot → Bool
same a b = (a.step == b.step) && (a.node == b.node)

abbrev the_spot : Spot → Spot
the_spot a = a

one_spot : (a b : Spot) → a.step ≡ b.step → a.node ≡ b.node → a ≡ b
one_spot a b e f = ap (λ z. the_spot (record { step = z; node = a.node })) e ∙ ap (λ z. the_spot (record { step = b.step; node = z })) f

same-Decides : (a b : Spot) → Decides (same a b) (a ≡ b)
same-Decides a b =
    let both = Decides-and (a.step == b.step) (a.node == b.node) (Decides-eqb a.step b.step) (Decides-eqb a.node b.node) in
    ((λ h. let e = both.0 h in one_spot a b e.0 e.1), (λ e. both.1 (ap (λ (z : Spot). z.step) e, ap (λ (z : Spot). z.node) e)))

-- Whether a spot is there, as it is told.
pub tells : (spot : Spot) (spots : List Spot) (r : Bool) → r ≡ list_any (same spot) spots → IsTrue r ↔ Contains spots spot
tells spot spots r e = (
  (λ h. Contains-from_any (λ x y. (same-Decides x y).0) spot spots (sym e ∙ h)),
  (λ there. e ∙ list_any_at (same spot) spots there.0 spot there.1 ((same-Decides spot _).1 (sym there.2))),
)

pub apart : (spots : List Spot) → IsDistinct same spots → AllPairs (λ a b. a ≢ b) spots
apart spots h = AllPairs-from_IsDistinct same-Decides spots h
