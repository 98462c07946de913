-- The texts are read in turn, and the first that is refused is answered.
use Rattle.std.proofs.Common.{◌≡◌, ◌⊎◌, inl, inr, ℕ, List, Option, Result, Ok, Err, IfErr, IsErrAnd, sym, subst}
use Rattle.answers.specs.declared.answer.Answer.{Answer}
use Rattle.answers.specs.declared.answer.Answer.TheVariants.{Want}
use Rattle.answers.specs.declared.kind.TextKind.{TextKind}
use Rattle.reading.specs.declared.error.ReadError.{ReadError}
use Rattle.lef_tech.specs.declared.tech.Tech.{Tech}
use Rattle.lef_tech.specs.Format.{ReadsTech}
use Rattle.lef_cells.specs.declared.record.Cells.{Cells}
use Rattle.lef_cells.specs.Format.{ReadsCells}
use Rattle.def_design.specs.declared.record.Design.{Design}
use Rattle.def_design.specs.Format.{ReadsDesign}
use Rattle.pdn_script.specs.declared.record.Script.{Script}
use Rattle.pdn_script.specs.Format.{ReadsScript}
use Rattle.bias_file.specs.Format.{ReadsBias}
use Rattle.building.specs.Inputs.{FileText, FiveTexts}
use Rattle.building.specs.Kinds.{tech_kind, cells_kind, def_kind, script_kind, bias_kind}
use Rattle.building.specs.Reading.{text_answer, AreCellsOf, AreCellsRefused, IsRefused, HasLef, IsUnread}

-- An answer is handed on.
pub handed_on : {A : Type 0} (P : Answer → Type 0) (r : Result A Answer) (answer : Answer) → IsErrAnd r (λ e. e ≡ answer) → P answer → IfErr r P
handed_on P (Ok a) answer is h = absurd is
handed_on P (Err e) answer is h = subst P (sym is) h

-- The answer to a text that its reader refuses.
pub refuses : {R K : Type 0} (reads : List ℕ → Result R (ReadError K) → Type 0) (kind_of : K → Option TextKind) (t : FileText) (error : ReadError K) (answer : Answer) → reads t.text (Err error)
    → (answer ≡ Want) ⊎ (answer ≡ text_answer t.file error.place (kind_of error.kind)) → (answer ≡ Want) ⊎ IsRefused reads kind_of t answer
refuses reads kind_of t error answer refused (inl want) = inl want
refuses reads kind_of t error answer refused (inr told) = inr (record { error = error; refused = refused; told = told })

-- The cells of two texts.
pub first_refused : (lef other : FileText) (answer : Answer) → (answer ≡ Want) ⊎ IsRefused ReadsCells cells_kind lef answer → AreCellsRefused lef other answer
first_refused lef other answer (inl want) = inl want
first_refused lef other answer (inr refused) = inr (inl refused)

pub second_refused : (lef other : FileText) (answer : Answer) (cells : Cells) → ReadsCells lef.text (Ok cells) → (answer ≡ Want) ⊎ IsRefused ReadsCells cells_kind other answer → AreCellsRefused lef other answer
second_refused lef other answer cells reads (inl want) = inl want
second_refused lef other answer cells reads (inr refused) = inr (inr ((cells, reads), refused))

-- All five, in their order.
module _ (t : FiveTexts) (answer : Answer) where
  pub at_tech : (answer ≡ Want) ⊎ IsRefused ReadsTech tech_kind t.lef answer → IsUnread t answer
  at_tech (inl want) = inl want
  at_tech (inr refused) = inr (inl refused)

  pub at_cells : (tech : Tech) → ReadsTech t.lef.text (Ok tech) → AreCellsRefused t.lef t.cells answer → IsUnread t answer
  at_cells tech reads (inl want) = inl want
  at_cells tech reads (inr (inl own)) = inr (inr (inl ((tech, reads), own)))
  at_cells tech reads (inr (inr (first, other))) = inr (inr (inr (inl ((tech, reads), first, other))))

  module _ (tech : Tech) (reads : ReadsTech t.lef.text (Ok tech)) (cells : Cells) (are : AreCellsOf t.lef.text t.cells.text cells) where
    lef : HasLef t.lef t.cells
    lef = ((tech, reads), (are.first, are.first_reads), (are.second, are.second_reads))

    pub at_design : (answer ≡ Want) ⊎ IsRefused ReadsDesign def_kind t.def answer → IsUnread t answer
    at_design (inl want) = inl want
    at_design (inr refused) = inr (inr (inr (inr (inl (lef, refused)))))

    module _ (design : Design) (designs : ReadsDesign t.def.text (Ok design)) where
      pub at_script : (answer ≡ Want) ⊎ IsRefused ReadsScript script_kind t.pdn answer → IsUnread t answer
      at_script (inl want) = inl want
      at_script (inr refused) = inr (inr (inr (inr (inr (inl (lef, (design, designs), refused))))))

      pub at_bias : (script : Script) → ReadsScript t.pdn.text (Ok script) → (answer ≡ Want) ⊎ IsRefused ReadsBias bias_kind t.bias answer → IsUnread t answer
      at_bias script scripts (inl want) = inl want
      at_bias script scripts (inr refused) = inr (inr (inr (inr (inr (inr (lef, (design, designs), (script, scripts), refused))))))
