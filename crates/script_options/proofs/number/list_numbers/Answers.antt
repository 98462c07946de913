use Rattle.std.proofs.Common.{◌≡◌, ◌++◌, ◌∷◌, [], List, ℕ, Option, Some, refl, sym, ◌∙◌, ap, subst}
use Rattle.std.specs.List.{AllByRecursion}
use Rattle.std.specs.Option.{unwrap_or}
use Rattle.entry_list.specs.InTurn.{InTurn}
use Rattle.entry_list.specs.Laws.{in-turn-more}
use Rattle.script_options.specs.ListWords.{words_of}
use Rattle.script_options.specs.Number.{IsNumberIn, HasNumber}
use Rattle.script_options.proofs.Words.{one_more}
use Rattle.script_options.proofs.number.list_numbers.Goals as goal

pub loop-part-init : goal.loop-part-init
loop-part-init c = ([], refl, λ h. (subst (λ (z : List ℕ). InTurn (IsNumberIn c.args.quantity) [] z) (sym c.new-values.ensures.items) tt, h))

pub loop-part-preserved : goal.loop-part-preserved
loop-part-preserved c =
    let h = c.loop-part.invariant in
    let word = c.in-Some.part.word.now in
    let has : List (List ℕ) → Type 0 = AllByRecursion (HasNumber c.args.quantity) in (
      h.0 ++ word ∷ [],
      one_more h.0 (words_of c.args.text.now) (words_of c.loop-part.rest.now) (words_of c.in-Some.part.rest.now) word c.in-Some.ensures.some h.1,
      λ all.
          let t = h.2 all in
          let now = subst has c.in-Some.ensures.some t.1 in
          let is : IsNumberIn c.args.quantity word c.unwrap_or.result =
          subst (IsNumberIn c.args.quantity word) (sym (c.unwrap_or.ensures ∙ ap (λ (z : Option ℕ). unwrap_or z 0) (c.number_in.ensures.all now.0.0 now.0.1))) now.0.1 in (
            subst (λ (z : List ℕ). InTurn (IsNumberIn c.args.quantity) (h.0 ++ word ∷ []) z) (sym c.in_ok-push.ensures.items)
                (in-turn-more (IsNumberIn c.args.quantity) h.0 c.loop-part.values.items word c.unwrap_or.result t.0 is),
            now.1,
          ),
    )
