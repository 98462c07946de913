-- Five texts have one design or one answer, whether over blocks or not.
use Rattle.std.proofs.Common.{◌≡◌, ◌≢◌, ◌⊎◌, inl, inr, ℤ, true, false, List, Option, sym, ap, ◌∙◌}
use Rattle.answers.specs.declared.answer.Answer.{Answer}
use Rattle.answers.specs.declared.answer.Answer.TheVariants.{Want}
use Rattle.building.specs.declared.records.Records.{Records}
use Rattle.building.specs.Building.{Design, IsDesignOf}
use Rattle.building.specs.Inputs.{FiveTexts}
use Rattle.building.specs.Reading.{AreRecords, IsUnread}
use Rattle.building.specs.Refusal.{IsUnbuilt as IsPlainUnbuilt}
use Rattle.macro_building.specs.Blocks.{is_over_blocks}
use Rattle.macro_building.specs.Built.{BuiltDesign, IsOverBlocks, IsBuiltDesign}
use Rattle.macro_building.specs.Refusal.{HasNoBlocks, HasNoPins, DrawsNoGrid, Draws, HasNoNetwork, LacksSupply, IsUnbuiltOverBlocks, IsUnbuilt}
use Rattle.macro_grid.specs.declared.record.MacroGrid.{MacroGrid}
use Rattle.one_design.specs.Laws.Causes.{One, Apart, one_of_two, one_of_four}
use Rattle.one_design.specs.Same.{AreSameButCertificates}
use Rattle.one_build.specs.Same.{AreBuiltAlike}
use Rattle.one_build.proofs.Stages.{AreStages, same_drawn, same_network, same_limits, one_unread_pins, one_undrawn, one_unextracted, one_unsupplied, pins_unread_or_read, undrawn_or_drawn, unextracted_or_extracted, unsupplied_or_supplied}

-- What is told of texts that are built without blocks, and of those that are not read.
pub record ArePlainLaws : Type 0 where
  pub refusal : (t : FiveTexts) (a b : Answer) → IsPlainUnbuilt t a → IsPlainUnbuilt t b → a ≢ Want → b ≢ Want → a ≡ b
  pub apart : (told : Option (List ℤ × List ℤ)) (t : FiveTexts) (design : Design) (a : Answer) → IsDesignOf told t design → IsPlainUnbuilt t a → a ≡ Want
  pub design : (told told' : Option (List ℤ × List ℤ)) (t : FiveTexts) (one other : Design) → IsDesignOf told t one → IsDesignOf told' t other → AreSameButCertificates one other
  pub unread_or_read : (t : FiveTexts) (records : Records) (a : Answer) → AreRecords t records → IsUnread t a → a ≡ Want

module _ (plain : ArePlainLaws) (stages : AreStages) (t : FiveTexts) where
  abbrev IsUnbuiltPlain : Answer → Type 0
  IsUnbuiltPlain a = HasNoBlocks t × IsPlainUnbuilt t a

  -- ---- over blocks or not
  records_over : (a : Answer) → IsUnbuiltOverBlocks t a → (r : Records) × AreRecords t r × (is_over_blocks r ≡ true)
  records_over a (inl x) = (x.records, x.reads, x.some)
  records_over a (inr (inl x)) = (x.records, x.reads, x.some)
  records_over a (inr (inr (inl x))) = (x.records, x.draws.reads, x.draws.some)
  records_over a (inr (inr (inr x))) = (x.records, x.draws.reads, x.draws.some)

  not_both : (r s : Records) → AreRecords t r → AreRecords t s → is_over_blocks r ≡ false → is_over_blocks s ≡ true → ⊥
  not_both r s x y none some = let clash : true ≡ false = sym some ∙ ap is_over_blocks (stages.one_records t s r y x) ∙ none in cc

  -- ---- one refusal
  one_unread : One (IsUnread t)
  one_unread a b some_a some_b x y = plain.refusal t a b (inl x) (inl y) some_a some_b

  one_plain : One IsUnbuiltPlain
  one_plain a b some_a some_b x y = plain.refusal t a b x.1 y.1 some_a some_b

  pins_before : Apart (HasNoPins t) (λ a. DrawsNoGrid t a ⊎ (HasNoNetwork t a ⊎ LacksSupply t a))
  pins_before a b x (inl y) = pins_unread_or_read stages t a x y.blocks y.are_blocks
  pins_before a b x (inr (inl y)) = pins_unread_or_read stages t a x y.draws.blocks y.draws.are_blocks
  pins_before a b x (inr (inr y)) = pins_unread_or_read stages t a x y.draws.blocks y.draws.are_blocks

  grid_before : Apart (DrawsNoGrid t) (λ a. HasNoNetwork t a ⊎ LacksSupply t a)
  grid_before a b x (inl y) = undrawn_or_drawn stages t a x y.records y.drawn y.draws
  grid_before a b x (inr y) = undrawn_or_drawn stages t a x y.records y.drawn y.draws

  network_before : Apart (HasNoNetwork t) (LacksSupply t)
  network_before a b x y = unextracted_or_extracted stages t a x y.records y.drawn y.draws y.extracted y.network

  one_over : One (IsUnbuiltOverBlocks t)
  one_over =
      one_of_four (HasNoPins t) (DrawsNoGrid t) (HasNoNetwork t) (LacksSupply t)
      (one_unread_pins stages t) (one_undrawn stages t) (one_unextracted stages t) (one_unsupplied stages t)
      pins_before grid_before network_before

  text_before : Apart (IsUnread t) (λ a. IsUnbuiltPlain a ⊎ IsUnbuiltOverBlocks t a)
  text_before a b x (inl y) = plain.unread_or_read t y.0.records a y.0.reads x
  text_before a b x (inr y) = let over = records_over b y in plain.unread_or_read t over.0 a over.1 x

  plain_apart : Apart IsUnbuiltPlain (IsUnbuiltOverBlocks t)
  plain_apart a b x y = let over = records_over b y in absurd (not_both x.0.records over.0 x.0.reads over.1 x.0.none over.2)

  pub refusal : (a b : Answer) → IsUnbuilt t a → IsUnbuilt t b → a ≢ Want → b ≢ Want → a ≡ b
  refusal a b x y some_a some_b =
      let read : One (λ a. IsUnbuiltPlain a ⊎ IsUnbuiltOverBlocks t a) = one_of_two IsUnbuiltPlain (IsUnbuiltOverBlocks t) one_plain one_over plain_apart in
      one_of_two (IsUnread t) (λ a. IsUnbuiltPlain a ⊎ IsUnbuiltOverBlocks t a) one_unread read text_before a b some_a some_b x y

  -- ---- no refusal where there is a design
  draws_of : (told : Option (List ℤ × List ℤ)) (d : BuiltDesign) (is : IsOverBlocks told t d) → Draws t d.design.records is.drawn
  draws_of told d is = record { reads = is.records; some = is.some; blocks = is.blocks; are_blocks = is.are_blocks; is_drawing = is.draws }

  pub apart : (told : Option (List ℤ × List ℤ)) (d : BuiltDesign) (a : Answer) → IsBuiltDesign told t d → IsUnbuilt t a → a ≡ Want
  apart told d a (inl is) (inl x) = plain.unread_or_read t d.design.records a is.is_design.records x
  apart told d a (inl is) (inr (inl x)) = plain.apart told t d.design a is.is_design x.1
  apart told d a (inl is) (inr (inr x)) = let over = records_over a x in absurd (not_both d.design.records over.0 is.is_design.records over.1 is.none over.2)
  apart told d a (inr is) (inl x) = plain.unread_or_read t d.design.records a is.records x
  apart told d a (inr is) (inr (inl x)) = absurd (not_both x.0.records d.design.records x.0.reads is.records x.0.none is.some)
  apart told d a (inr is) (inr (inr (inl x))) = pins_unread_or_read stages t a x is.blocks is.are_blocks
  apart told d a (inr is) (inr (inr (inr (inl x)))) = undrawn_or_drawn stages t a x d.design.records is.drawn (draws_of told d is)
  apart told d a (inr is) (inr (inr (inr (inr (inl x))))) = unextracted_or_extracted stages t a x d.design.records is.drawn (draws_of told d is) d.design.extracted is.network
  apart told d a (inr is) (inr (inr (inr (inr (inr x))))) = unsupplied_or_supplied stages t a x d.design.records is.drawn (draws_of told d is) d.design.extracted is.network is.supplied

  -- ---- one design
  both_over : (told told' : Option (List ℤ × List ℤ)) (one other : BuiltDesign) → IsOverBlocks told t one → IsOverBlocks told' t other → AreBuiltAlike one other
  both_over told told' one other x y =
      let of_one = draws_of told one x in
      let of_other = draws_of told' other y in
      let drawn : x.drawn ≡ y.drawn = same_drawn stages t one.design.records other.design.records x.drawn y.drawn of_one of_other in
      let network = same_network stages t one.design.records other.design.records x.drawn y.drawn of_one of_other one.design.extracted other.design.extracted x.network y.network in record {
        design = record {
          records = stages.one_records t one.design.records other.design.records x.records y.records;
          grid = x.grid ∙ ap (λ (z : MacroGrid). z.grid) drawn ∙ sym y.grid;
          network = network;
          limits =
              same_limits stages t one.design.records other.design.records x.drawn y.drawn of_one of_other one.design.extracted other.design.extracted network one.design.limits other.design.limits x.limits y.limits;
        };
        written = x.written ∙ ap (λ (z : MacroGrid). z.written) drawn ∙ sym y.written;
      }

  pub design : (told told' : Option (List ℤ × List ℤ)) (one other : BuiltDesign) → IsBuiltDesign told t one → IsBuiltDesign told' t other → AreBuiltAlike one other
  design told told' one other (inl x) (inl y) =
      let same = plain.design told told' t one.design other.design x.is_design y.is_design in record { design = same; written = x.written ∙ same.grid ∙ sym y.written }
  design told told' one other (inl x) (inr y) = absurd (not_both one.design.records other.design.records x.is_design.records y.records x.none y.some)
  design told told' one other (inr x) (inl y) = absurd (not_both other.design.records one.design.records y.is_design.records x.records y.none x.some)
  design told told' one other (inr x) (inr y) = both_over told told' one other x y
