-- Five texts of a sign-off have one design or one answer.
use Rattle.std.proofs.Common.{◌≡◌, ◌≢◌, ◌⊎◌, inl, inr, ℤ, List, Option}
use Rattle.answers.specs.declared.answer.Answer.{Answer}
use Rattle.answers.specs.declared.answer.Answer.TheVariants.{Want}
use Rattle.signing_off.specs.Inputs.{WiredTexts}
use Rattle.signing_off.specs.Reading.{IsUnread}
use Rattle.signing_off.specs.Refusal.{WiresNoGrid, HasNoNetwork, LacksSupply, IsUnsigned}
use Rattle.signing_off.specs.Signing.{WiredDesign, IsWiredDesign}
use Rattle.one_design.specs.Same.{AreWiredAlike}
use Rattle.one_design.specs.Laws.Causes.{Apart, one_of_four}
use Rattle.one_design.proofs.WiredRecords.{AreWiredReaders, one_unread, unread_or_read, same_records}
use Rattle.one_design.proofs.WiredStages.{AreWiredStages, same_grid, same_network, same_limits, one_unwired, one_unextracted, one_unsupplied, unwired_or_wired, unextracted_or_extracted, unsupplied_or_supplied}

module _ (readers : AreWiredReaders) (stages : AreWiredStages) (t : WiredTexts) where
  pub design : (told told' : Option (List ℤ × List ℤ)) (one other : WiredDesign) → IsWiredDesign told t one → IsWiredDesign told' t other → AreWiredAlike one other
  design told told' one other x y =
      let network = same_network readers stages t one.records other.records x.records y.records one.grid other.grid x.grid y.grid one.signing.extracted other.signing.extracted x.signing.network y.signing.network in record {
        records = same_records readers t one.records other.records x.records y.records;
        grid = same_grid readers stages t one.records other.records x.records y.records one.grid other.grid x.grid y.grid;
        network = network;
        limits =
            same_limits readers stages t one.records other.records x.records y.records one.grid other.grid x.grid y.grid one.signing.extracted other.signing.extracted network one.signing.limits other.signing.limits x.signing.limits y.signing.limits;
      }

  grid_before : Apart (WiresNoGrid t) (λ a. HasNoNetwork t a ⊎ LacksSupply t a)
  grid_before a b x (inl y) = unwired_or_wired readers stages t a x y.records y.reads y.grid y.wires
  grid_before a b x (inr y) = unwired_or_wired readers stages t a x y.records y.reads y.grid y.wires

  text_before : Apart (IsUnread t) (λ a. WiresNoGrid t a ⊎ (HasNoNetwork t a ⊎ LacksSupply t a))
  text_before a b x (inl y) = unread_or_read readers t a y.records x y.reads
  text_before a b x (inr (inl y)) = unread_or_read readers t a y.records x y.reads
  text_before a b x (inr (inr y)) = unread_or_read readers t a y.records x y.reads

  pub refusal : (a b : Answer) → IsUnsigned t a → IsUnsigned t b → a ≢ Want → b ≢ Want → a ≡ b
  refusal a b x y some_a some_b =
      one_of_four (IsUnread t) (WiresNoGrid t) (HasNoNetwork t) (LacksSupply t)
      (one_unread readers t) (one_unwired readers stages t) (one_unextracted readers stages t) (one_unsupplied readers stages t)
      text_before grid_before (λ a b x y. unextracted_or_extracted readers stages t a x y.records y.reads y.grid y.wires y.extracted y.network) a b some_a some_b x y

  pub apart : (told : Option (List ℤ × List ℤ)) (design : WiredDesign) (a : Answer) → IsWiredDesign told t design → IsUnsigned t a → a ≡ Want
  apart told design a is (inl x) = unread_or_read readers t a design.records x is.records
  apart told design a is (inr (inl x)) = unwired_or_wired readers stages t a x design.records is.records design.grid is.grid
  apart told design a is (inr (inr (inl x))) = unextracted_or_extracted readers stages t a x design.records is.records design.grid is.grid design.signing.extracted is.signing.network
  apart told design a is (inr (inr (inr x))) = unsupplied_or_supplied readers stages t a x design.records is.records design.grid is.grid design.signing.extracted is.signing.network is.signing.supplied
