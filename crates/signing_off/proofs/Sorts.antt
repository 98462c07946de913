-- The answers to texts of which nothing is signed off.
use Rattle.std.proofs.Common.{inl, inr, sym, subst}
use Rattle.answers.specs.declared.answer.Answer.{Answer}
use Rattle.building.specs.Laws.Sorts.{text_is, unextracted_is}
use Rattle.building.specs.Refusal.{IsToDesign}
use Rattle.wired_grid.specs.declared.error.WiredError.{WiredError}
use Rattle.wired_grid.specs.declared.error.WiredError.TheVariants as wired
use Rattle.signing_off.specs.declared.records.WiredRecords.{WiredRecords}
use Rattle.signing_off.specs.Inputs.{WiredTexts}
use Rattle.signing_off.specs.Reading.{IsUnread}
use Rattle.signing_off.specs.Refusal.{wired_answer, IsUnsigned}

wired_is : (r : WiredRecords) (error : WiredError) → IsToDesign (wired_answer r error)
wired_is r (wired.UnknownName name) = tt
wired_is r (wired.NetCount powers grounds) = tt
wired_is r (wired.ViaLayers via) = tt
wired_is r (wired.ViaSize via) = tt
wired_is r (wired.OddWidth net width) = tt
wired_is r (wired.NoSheet layer) = tt
wired_is r (wired.NoResistance layer) = tt
wired_is r (wired.TooMany what) = tt
wired_is r (wired.ViaOff via x y) = tt
wired_is r (wired.Touch touching) = tt
wired_is r wired.Want = tt

unread_is : (t : WiredTexts) (answer : Answer) → IsUnread t answer → IsToDesign answer
unread_is t answer (inl want) = subst IsToDesign (sym want) tt
unread_is t answer (inr (inl tech)) = subst IsToDesign (sym tech.told) (text_is _ _ _)
unread_is t answer (inr (inr (inl (tech, own)))) = subst IsToDesign (sym own.told) (text_is _ _ _)
unread_is t answer (inr (inr (inr (inl (tech, own, cells))))) = subst IsToDesign (sym cells.told) (text_is _ _ _)
unread_is t answer (inr (inr (inr (inr (inl (lef, design)))))) = subst IsToDesign (sym design.told) (text_is _ _ _)
unread_is t answer (inr (inr (inr (inr (inr (inl (lef, design, wires))))))) = subst IsToDesign (sym wires.told) (text_is _ _ _)
unread_is t answer (inr (inr (inr (inr (inr (inr (lef, design, wires, bias))))))) = subst IsToDesign (sym bias.told) (text_is _ _ _)

pub sort : (t : WiredTexts) (answer : Answer) → IsUnsigned t answer → IsToDesign answer
sort t answer (inl unread) = unread_is t answer unread
sort t answer (inr (inl unwired)) = subst IsToDesign (sym unwired.told) (wired_is unwired.records unwired.error)
sort t answer (inr (inr (inl unextracted))) = subst IsToDesign (sym unextracted.told) (unextracted_is unextracted.records.design unextracted.grid unextracted.error)
sort t answer (inr (inr (inr unsupplied))) = subst IsToDesign (sym unsupplied.told) tt
