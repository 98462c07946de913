-- Two LEF texts have one list of pins and obstructions, or one refusal.
use Rattle.std.proofs.Common.{◌≡◌, inl, inr, ℕ, List, refl, sym, ap, ◌∙◌}
use Rattle.answers.specs.declared.answer.Answer.{Answer}
use Rattle.answers.specs.declared.answer.Answer.TheVariants.{Want}
use Rattle.building.specs.Inputs.{FileText}
use Rattle.building.specs.Reading.{IsRefused, HasRecord}
use Rattle.lef_cells.specs.Join.{joined}
use Rattle.macro_blocks.specs.declared.error.BlocksKind.TheVariants as kind
use Rattle.macro_blocks.specs.declared.record.BlockMacro.{BlockMacro}
use Rattle.macro_blocks.specs.declared.record.Blocks.{Blocks}
use Rattle.macro_blocks.specs.Format.{ReadsBlocks}
use Rattle.macro_blocks.specs.Record.{name_of}
use Rattle.macro_building.specs.Blocks.{AreBlocksOf, AreBlocksRefused}
use Rattle.macro_building.specs.Kinds.{blocks_kind}
use Rattle.one_design.specs.Laws.Causes.{One, one_of_two}
use Rattle.one_design.specs.Laws.Texts.{HasOneResult, one_refused, refused_or_read, one_record}

abbrev blocks_from : List BlockMacro → Blocks
blocks_from macros = record { macros = macros }

abbrev RefusesFirst : FileText → Answer → Type 0
RefusesFirst lef answer = IsRefused ReadsBlocks blocks_kind lef answer

abbrev RefusesSecond : (lef other : FileText) → Answer → Type 0
RefusesSecond lef other answer = HasRecord ReadsBlocks lef × IsRefused ReadsBlocks blocks_kind other answer

module _ (one : HasOneResult ReadsBlocks kind.Want) where
  pub same_blocks : (lef other : List ℕ) (c d : Blocks) → AreBlocksOf lef other c → AreBlocksOf lef other d → c ≡ d
  same_blocks lef other c d x y =
      let first : x.first ≡ y.first = one_record ReadsBlocks kind.Want blocks_kind refl one lef x.first y.first x.first_reads y.first_reads in
      let second : x.second ≡ y.second = one_record ReadsBlocks kind.Want blocks_kind refl one other x.second y.second x.second_reads y.second_reads in
      let macros : c.macros ≡ d.macros = x.macros ∙ ap (λ (z : Blocks). joined name_of z.macros x.second.macros) first ∙ ap (λ (z : Blocks). joined name_of y.first.macros z.macros) second ∙ sym y.macros in
      ap blocks_from macros

  one_first : (lef : FileText) → One (RefusesFirst lef)
  one_first lef = one_refused ReadsBlocks kind.Want blocks_kind refl one lef

  one_second : (lef other : FileText) → One (RefusesSecond lef other)
  one_second lef other a b some_a some_b x y = one_refused ReadsBlocks kind.Want blocks_kind refl one other a b some_a some_b x.1 y.1

  pub one_blocks_refused : (lef other : FileText) → One (AreBlocksRefused lef other)
  one_blocks_refused lef other a b some_a some_b (inl want) y = absurd (some_a want)
  one_blocks_refused lef other a b some_a some_b (inr x) (inl want) = absurd (some_b want)
  one_blocks_refused lef other a b some_a some_b (inr x) (inr y) =
      one_of_two (RefusesFirst lef) (RefusesSecond lef other) (one_first lef) (one_second lef other) (λ a b x y. refused_or_read ReadsBlocks kind.Want blocks_kind refl one lef a x y.0) a b some_a some_b x y

  -- No text is refused where both are read.
  pub blocks_refused_or_read : (lef other : FileText) (a : Answer) (blocks : Blocks) → AreBlocksRefused lef other a → AreBlocksOf lef.text other.text blocks → a ≡ Want
  blocks_refused_or_read lef other a blocks (inl want) are = want
  blocks_refused_or_read lef other a blocks (inr (inl x)) are = refused_or_read ReadsBlocks kind.Want blocks_kind refl one lef a x (are.first, are.first_reads)
  blocks_refused_or_read lef other a blocks (inr (inr x)) are = refused_or_read ReadsBlocks kind.Want blocks_kind refl one other a x.1 (are.second, are.second_reads)
