-- The answers to texts of which nothing is built, whether over blocks or not.
use Rattle.std.proofs.Common.{inl, inr, sym, subst}
use Rattle.answers.specs.declared.answer.Answer.{Answer}
use Rattle.building.specs.declared.records.Records.{Records}
use Rattle.building.specs.Inputs.{FileText, FiveTexts}
use Rattle.building.specs.Laws.Sorts.{text_is, draw_is, extract_is}
use Rattle.building.specs.Refusal.{IsToDesign, IsUnbuilt as IsPlainUnbuilt}
use Rattle.macro_grid.specs.declared.error.MacroError.{MacroError}
use Rattle.macro_grid.specs.declared.error.MacroError.TheVariants.{Halo, Draw}
use Rattle.macro_building.specs.Blocks.{AreBlocksRefused}
use Rattle.macro_building.specs.Refusal.{IsUnbuiltOverBlocks, IsUnbuilt}
use Rattle.macro_building.specs.Words.{macro_answer}

macro_is : (r : Records) (error : MacroError) → IsToDesign (macro_answer r error)
macro_is r (Halo grid) = tt
macro_is r (Draw error) = draw_is r error

blocks_are : (lef other : FileText) (answer : Answer) → AreBlocksRefused lef other answer → IsToDesign answer
blocks_are lef other answer (inl want) = subst IsToDesign (sym want) tt
blocks_are lef other answer (inr (inl first)) = subst IsToDesign (sym first.told) (text_is _ _ _)
blocks_are lef other answer (inr (inr (read, second))) = subst IsToDesign (sym second.told) (text_is _ _ _)

sort_over : (t : FiveTexts) (answer : Answer) → IsUnbuiltOverBlocks t answer → IsToDesign answer
sort_over t answer (inl unread) = blocks_are t.lef t.cells answer unread.refused
sort_over t answer (inr (inl undrawn)) = subst IsToDesign (sym undrawn.told) (macro_is undrawn.records undrawn.error)
sort_over t answer (inr (inr (inl unextracted))) = subst IsToDesign (sym unextracted.told) (extract_is unextracted.records unextracted.drawn.grid unextracted.error)
sort_over t answer (inr (inr (inr unsupplied))) = subst IsToDesign (sym unsupplied.told) tt

-- The answers without blocks are handed in.
pub sort : ((t : FiveTexts) (answer : Answer) → IsPlainUnbuilt t answer → IsToDesign answer) → (t : FiveTexts) (answer : Answer) → IsUnbuilt t answer → IsToDesign answer
sort plain t answer (inl unread) = plain t answer (inl unread)
sort plain t answer (inr (inl (none, unbuilt))) = plain t answer unbuilt
sort plain t answer (inr (inr over)) = sort_over t answer over
