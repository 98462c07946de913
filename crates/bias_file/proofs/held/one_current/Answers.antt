use Rattle.std.proofs.Common.{Some, None, [], ℤ, map, get_or, sym, ◌∙◌, ap, refl, subst, to_z, of_z}
use Rattle.std.specs.Int.{w64}
use Rattle.bias_file.specs.Sort.{the}
use Rattle.bias_file.specs.Rule.{has_value}
use Rattle.bias_file.specs.declared.held.NameAmps.{NameAmps}
use Rattle.bias_file.specs.inside.Held.{FindsAmps}
use Rattle.bias_file.specs.inside.Value.{says, small_of}
use Rattle.bias_file.proofs.Taking.{no_word, not_begun, kept_64, current_found}
use Rattle.reading.specs.Grammar.{AreHeard}
use Rattle.reading.specs.Laws.{four-items}
use Rattle.reading.specs.Word.{heard_token}
use Rattle.bias_file.proofs.held.one_current.Goals as goal

pub returns-then-not-begins : goal.returns-then-not-begins
returns-then-not-begins c = λ heard.
    let words = four-items no_word c.args.unit.now c.in-len4.len_at_least c.in-len4.len_below in
    let said = subst (λ z. AreHeard says [] z) words heard in
    subst (λ z. FindsAmps c.args.word (map heard_token z) None) (sym words)
    (not_begun (has_value c.args.word) _ (ap (the c.args.word) (sym said.0) ∙ sym c.begins.ensures ∙ c.if-not-begins.true))

pub returns : goal.returns
returns c = λ heard.
    let xs = c.args.unit.now in
    let words = four-items no_word xs c.in-len4.len_at_least c.in-len4.len_below in
    let first = get_or xs 0 no_word in
    let name = get_or xs 1 no_word in
    let value = get_or xs 2 no_word in
    let kept = λ (v : ℤ). to_z w64 (of_z w64 v) in
    let current = c.small-current.result in
    let found : NameAmps = record { line = first.word.place.line; name = name.word.text; low = kept current; high = kept current } in
    subst (λ z. FindsAmps c.args.word (map heard_token z) (Some found)) (sym words)
    (current_found c.args.word first name value (get_or xs 3 no_word) found c.requires.word (sym c.begins.ensures ∙ c.if-not-begins.false) refl refl
    (λ near. ap kept c.small-current.ensures ∙ kept_64 (small_of value.value) near) refl (subst (λ z. AreHeard says [] z) words heard))
