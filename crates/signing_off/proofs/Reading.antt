-- The texts are read in turn, and the first that is refused is answered.
use Rattle.std.proofs.Common.{◌≡◌, ◌⊎◌, inl, inr, Result, Ok, Err, IfErr, IsErrAnd, sym, subst}
use Rattle.answers.specs.declared.answer.Answer.{Answer}
use Rattle.answers.specs.declared.answer.Answer.TheVariants.{Want}
use Rattle.lef_tech.specs.declared.tech.Tech.{Tech}
use Rattle.lef_tech.specs.Format.{ReadsTech}
use Rattle.lef_cells.specs.declared.record.Cells.{Cells}
use Rattle.def_design.specs.declared.record.Design.{Design}
use Rattle.def_design.specs.Format.{ReadsPlaced}
use Rattle.def_wiring.specs.declared.record.Wires.{Wires}
use Rattle.def_wiring.specs.Format.{ReadsWires}
use Rattle.bias_file.specs.Format.{ReadsBias}
use Rattle.building.specs.Kinds.{tech_kind, def_kind, bias_kind}
use Rattle.building.specs.Reading.{AreCellsOf, AreCellsRefused, IsRefused, HasLef}
use Rattle.signing_off.specs.Inputs.{WiredTexts}
use Rattle.signing_off.specs.Kinds.{wires_kind}
use Rattle.signing_off.specs.Reading.{IsUnread}

-- An answer is handed on.
pub handed_on : {A : Type 0} (P : Answer → Type 0) (r : Result A Answer) (answer : Answer) → IsErrAnd r (λ e. e ≡ answer) → P answer → IfErr r P
handed_on P (Ok a) answer is h = absurd is
handed_on P (Err e) answer is h = subst P (sym is) h

-- All five, in their order.
module _ (t : WiredTexts) (answer : Answer) where
  pub at_tech : (answer ≡ Want) ⊎ IsRefused ReadsTech tech_kind t.lef answer → IsUnread t answer
  at_tech (inl want) = inl want
  at_tech (inr refused) = inr (inl refused)

  pub at_cells : (tech : Tech) → ReadsTech t.lef.text (Ok tech) → AreCellsRefused t.lef t.cells answer → IsUnread t answer
  at_cells tech reads (inl want) = inl want
  at_cells tech reads (inr (inl own)) = inr (inr (inl ((tech, reads), own)))
  at_cells tech reads (inr (inr (first, other))) = inr (inr (inr (inl ((tech, reads), first, other))))

  -- Both LEF texts have their records.
  lef_of : (tech : Tech) → ReadsTech t.lef.text (Ok tech) → (cells : Cells) → AreCellsOf t.lef.text t.cells.text cells → HasLef t.lef t.cells
  lef_of tech reads cells are = ((tech, reads), (are.first, are.first_reads), (are.second, are.second_reads))

  pub at_design : (tech : Tech) → ReadsTech t.lef.text (Ok tech) → (cells : Cells) → AreCellsOf t.lef.text t.cells.text cells → (answer ≡ Want) ⊎ IsRefused ReadsPlaced def_kind t.def answer → IsUnread t answer
  at_design tech reads cells are (inl want) = inl want
  at_design tech reads cells are (inr refused) = inr (inr (inr (inr (inl (lef_of tech reads cells are, refused)))))

  pub at_wires : (tech : Tech) → ReadsTech t.lef.text (Ok tech) → (cells : Cells) → AreCellsOf t.lef.text t.cells.text cells → (design : Design) → ReadsPlaced t.def.text (Ok design)
      → (answer ≡ Want) ⊎ IsRefused ReadsWires wires_kind t.wires answer → IsUnread t answer
  at_wires tech reads cells are design designs (inl want) = inl want
  at_wires tech reads cells are design designs (inr refused) = inr (inr (inr (inr (inr (inl (lef_of tech reads cells are, (design, designs), refused))))))

  pub at_bias : (tech : Tech) → ReadsTech t.lef.text (Ok tech) → (cells : Cells) → AreCellsOf t.lef.text t.cells.text cells → (design : Design) → ReadsPlaced t.def.text (Ok design)
      → (wires : Wires) → ReadsWires t.wires.text (Ok wires) → (answer ≡ Want) ⊎ IsRefused ReadsBias bias_kind t.bias answer → IsUnread t answer
  at_bias tech reads cells are design designs wires wired (inl want) = inl want
  at_bias tech reads cells are design designs wires wired (inr refused) = inr (inr (inr (inr (inr (inr (lef_of tech reads cells are, (design, designs), (wires, wired), refused))))))
