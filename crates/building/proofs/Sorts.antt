-- The answers to texts of which nothing is built.
use Rattle.std.proofs.Common.{inl, inr, sym, subst}
use Rattle.answers.specs.declared.answer.Answer.{Answer}
use Rattle.building.specs.Inputs.{FiveTexts}
use Rattle.building.specs.Laws.Sorts.{text_is, draw_is, extract_is}
use Rattle.building.specs.Reading.{IsUnread}
use Rattle.building.specs.Refusal.{IsUnbuilt, IsToDesign}

unread_is : (t : FiveTexts) (answer : Answer) → IsUnread t answer → IsToDesign answer
unread_is t answer (inl want) = subst IsToDesign (sym want) tt
unread_is t answer (inr (inl tech)) = subst IsToDesign (sym tech.told) (text_is _ _ _)
unread_is t answer (inr (inr (inl (tech, own)))) = subst IsToDesign (sym own.told) (text_is _ _ _)
unread_is t answer (inr (inr (inr (inl (tech, own, cells))))) = subst IsToDesign (sym cells.told) (text_is _ _ _)
unread_is t answer (inr (inr (inr (inr (inl (lef, design)))))) = subst IsToDesign (sym design.told) (text_is _ _ _)
unread_is t answer (inr (inr (inr (inr (inr (inl (lef, design, script))))))) = subst IsToDesign (sym script.told) (text_is _ _ _)
unread_is t answer (inr (inr (inr (inr (inr (inr (lef, design, script, bias))))))) = subst IsToDesign (sym bias.told) (text_is _ _ _)

pub sort : (t : FiveTexts) (answer : Answer) → IsUnbuilt t answer → IsToDesign answer
sort t answer (inl unread) = unread_is t answer unread
sort t answer (inr (inl undrawn)) = subst IsToDesign (sym undrawn.told) (draw_is undrawn.records undrawn.error)
sort t answer (inr (inr (inl unextracted))) = subst IsToDesign (sym unextracted.told) (extract_is unextracted.records unextracted.grid unextracted.error)
sort t answer (inr (inr (inr unsupplied))) = subst IsToDesign (sym unsupplied.told) tt
