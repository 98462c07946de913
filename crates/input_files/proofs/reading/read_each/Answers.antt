use Rattle.std.proofs.Common.{◌≡◌, ◌≤◌, ◌+◌, All, ◌∷◌, [], length, subst, sym, ap, ◌∙◌, arith}
use Rattle.std.proofs.lemmas.List.{length-append}
use Rattle.std.proofs.lemmas.List.Elements.{All-append}
use Rattle.input_files.specs.Inputs.{names_of, AreTextsOf}
use Rattle.input_files.proofs.Growing.{one, if_known, of_known, more_texts, more_fit, all_texts}
use Rattle.input_files.proofs.reading.read_each.Goals as goal

pub loop-place-preserved : goal.loop-place-preserved
loop-place-preserved g c =
    let text = c.new.result in
    let is_text : text ≡ c.in-Ok.text.items = c.new.ensures in
    let items = c.in-Ok-push.ensures.items in
    let fits : length text ≤ c.args.limit = subst (λ t. length t ≤ c.args.limit) (sym is_text) (omega (arith, c.in-Ok.ensures.within, c.in-Ok.text.ok)) in
    record {
      count = ap length items ∙ length-append c.loop-place.texts.items (text ∷ []) ∙ ap (λ n. n + 1) c.loop-place.invariant.count;
      fit = subst (λ all. All (λ t. length t ≤ c.args.limit) all) (sym items)
          (All-append (λ t. length t ≤ c.args.limit) c.loop-place.texts.items (text ∷ []) c.loop-place.invariant.fit (one (λ t. length t ≤ c.args.limit) text fits));
      texts = λ held known.
          items ∙ more_texts c.args.names.now c.loop-place.place _ c.loop-place-test.true held c.loop-place.texts.items text (c.loop-place.invariant.texts held known)
          (is_text ∙ of_known (g.F.Files.known c.loop-place.files) _ c.in-Ok.ensures.bytes held (c.loop-place.invariant.kept ∙ known));
      earlier = λ held known.
          more_fit c.args.names.now c.loop-place.place _ c.loop-place-test.true held c.args.limit text (c.loop-place.invariant.earlier held known)
          (is_text ∙ of_known (g.F.Files.known c.loop-place.files) _ c.in-Ok.ensures.bytes held (c.loop-place.invariant.kept ∙ known)) fits;
      kept = c.in-Ok.ensures.kept ∙ c.loop-place.invariant.kept;
      calm = c.in-Ok.ensures.calm ∙ c.loop-place.invariant.calm;
    }

pub returns-clause-texts : goal.returns-clause-texts
returns-clause-texts g c =
    if_known (g.F.Files.known c.args.files.now) (λ held. AreTextsOf held (names_of c.args.names.now) c.loop-place.texts.items)
    (λ held known. all_texts c.args.names.now c.loop-place.place held c.loop-place.texts.items c.loop-place-test.false (c.loop-place.invariant.texts held known))
