-- Five texts have one design or one answer.
use Rattle.std.proofs.Common.{◌≡◌, ◌≢◌, ◌⊎◌, inl, inr, ℤ, List, Option}
use Rattle.answers.specs.declared.answer.Answer.{Answer}
use Rattle.answers.specs.declared.answer.Answer.TheVariants.{Want}
use Rattle.building.specs.Building.{Design, IsDesignOf}
use Rattle.building.specs.Inputs.{FiveTexts}
use Rattle.building.specs.Reading.{IsUnread}
use Rattle.building.specs.Refusal.{DrawsNoGrid, HasNoNetwork, LacksSupply, IsUnbuilt}
use Rattle.one_design.specs.Same.{AreSameButCertificates}
use Rattle.one_design.specs.Laws.Causes.{Apart, one_of_four}
use Rattle.one_design.proofs.Records.{AreReaders, one_unread, unread_or_read, same_records}
use Rattle.one_design.proofs.Stages.{AreStages, same_grid, same_network, same_limits, one_undrawn, one_unextracted, one_unsupplied, undrawn_or_drawn, unextracted_or_extracted, unsupplied_or_supplied}

module _ (readers : AreReaders) (stages : AreStages) (t : FiveTexts) where
  text_before : Apart (IsUnread t) (λ a. DrawsNoGrid t a ⊎ (HasNoNetwork t a ⊎ LacksSupply t a))
  text_before a b x (inl y) = unread_or_read readers t a y.records x y.reads
  text_before a b x (inr (inl y)) = unread_or_read readers t a y.records x y.reads
  text_before a b x (inr (inr y)) = unread_or_read readers t a y.records x y.reads

  grid_before : Apart (DrawsNoGrid t) (λ a. HasNoNetwork t a ⊎ LacksSupply t a)
  grid_before a b x (inl y) = undrawn_or_drawn readers stages t a x y.records y.reads y.grid y.draws
  grid_before a b x (inr y) = undrawn_or_drawn readers stages t a x y.records y.reads y.grid y.draws

  pub refusal : (a b : Answer) → IsUnbuilt t a → IsUnbuilt t b → a ≢ Want → b ≢ Want → a ≡ b
  refusal a b x y some_a some_b =
      one_of_four (IsUnread t) (DrawsNoGrid t) (HasNoNetwork t) (LacksSupply t)
      (one_unread readers t) (one_undrawn readers stages t) (one_unextracted readers stages t) (one_unsupplied readers stages t)
      text_before grid_before (λ a b x y. unextracted_or_extracted readers stages t a x y.records y.reads y.grid y.draws y.extracted y.network) a b some_a some_b x y

  pub apart : (told : Option (List ℤ × List ℤ)) (design : Design) (a : Answer) → IsDesignOf told t design → IsUnbuilt t a → a ≡ Want
  apart told design a is (inl x) = unread_or_read readers t a design.records x is.records
  apart told design a is (inr (inl x)) = undrawn_or_drawn readers stages t a x design.records is.records design.grid is.grid
  apart told design a is (inr (inr (inl x))) = unextracted_or_extracted readers stages t a x design.records is.records design.grid is.grid design.extracted is.network
  apart told design a is (inr (inr (inr x))) = unsupplied_or_supplied readers stages t a x design.records is.records design.grid is.grid design.extracted is.network is.supplied

  pub design : (told told' : Option (List ℤ × List ℤ)) (one other : Design) → IsDesignOf told t one → IsDesignOf told' t other → AreSameButCertificates one other
  design told told' one other x y =
      let network = same_network readers stages t one.records other.records x.records y.records one.grid other.grid x.grid y.grid one.extracted other.extracted x.network y.network in record {
        records = same_records readers t one.records other.records x.records y.records;
        grid = same_grid readers stages t one.records other.records x.records y.records one.grid other.grid x.grid y.grid;
        network = network;
        limits =
            same_limits readers stages t one.records other.records x.records y.records one.grid other.grid x.grid y.grid one.extracted other.extracted network one.limits other.limits x.limits y.limits;
      }
