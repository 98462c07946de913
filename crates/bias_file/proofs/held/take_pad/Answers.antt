use Rattle.std.proofs.Common.{◌≡◌, ◌≤◌, ◌^◌, true, false, [], ◌∷◌, ◌++◌, map, get_or, sym, ◌∙◌, ap, subst, arith, to_z, of_z}
use Rattle.std.specs.Prelude.{unsigned_abs}
use Rattle.std.specs.Int.{w64}
use Rattle.std.proofs.lemmas.List.{length-map}
use Rattle.bias_file.specs.declared.sort.Sort.TheVariants.{Pad}
use Rattle.bias_file.specs.Sort.{the, sort_of}
use Rattle.bias_file.specs.Rule.{is_line, lines}
use Rattle.bias_file.specs.Record.{SaysPad}
use Rattle.bias_file.specs.inside.Value.{says, small_of, SaysFourth, SaysFifth}
use Rattle.reading.specs.Laws.{six-items}
use Rattle.bias_file.proofs.Taking.{no_word, not_pad, begun_with, kept_64, pad_is}
use Rattle.entry_list.specs.Laws.{turn-added, turn-kept}
use Rattle.entry_list.specs.InTurn.{InTurn}
use Rattle.reading.specs.Grammar.{AreHeard}
use Rattle.reading.specs.Word.{heard_token}
use Rattle.bias_file.proofs.held.take_pad.Goals as goal

pub returns-in_default : goal.returns-in_default
returns-in_default c = λ heard units taken h.
    let few = c.in_default.len_below in
    let count = length-map c.args.unit.now heard_token in
    turn-kept SaysPad (is_line Pad) units (map heard_token c.args.unit.now) _ (not_pad (map heard_token c.args.unit.now) (λ e. omega (arith, few))) h

pub returns-in_default-2 : goal.returns-in_default-2
returns-in_default-2 c = λ heard units taken h.
    let many = c.in_default.len_at_least in
    let count = length-map c.args.unit.now heard_token in
    turn-kept SaysPad (is_line Pad) units (map heard_token c.args.unit.now) _ (not_pad (map heard_token c.args.unit.now) (λ e. omega (arith, many))) h

pub returns-then-not-begins : goal.returns-then-not-begins
returns-then-not-begins c = λ heard units taken h.
    let xs = c.args.unit.now in
    let words = six-items no_word xs c.in-len6.len_at_least c.in-len6.len_below in
    let said = subst (λ z. AreHeard says [] z) words heard in
    let begun : the Pad (sort_of (heard_token (get_or xs 0 no_word))) ≡ false = ap (the Pad) (sym said.0) ∙ sym c.begins.ensures ∙ c.if-not-begins.true in
    turn-kept SaysPad (is_line Pad) units (map heard_token xs) _ (subst (λ z. is_line Pad (map heard_token z) ≡ false) (sym words) begun) h

pub returns : goal.returns
returns c = λ heard units taken h.
    let xs = c.args.unit.now in
    let words = six-items no_word xs c.in-len6.len_at_least c.in-len6.len_below in
    let said = subst (λ z. AreHeard says [] z) words heard in
    let begun : the Pad (sort_of (heard_token (get_or xs 0 no_word))) ≡ true = ap (the Pad) (sym said.0) ∙ sym c.begins.ensures ∙ c.if-not-begins.false in
    let first = begun_with Pad _ begun in
    let x = get_or xs 3 no_word in
    let y = get_or xs 4 no_word in
    let is_x = subst (λ z. SaysFourth z (heard_token (get_or xs 2 no_word)) (heard_token x) x.value) first said.1.1.1.0 in
    let is_y = subst (λ z. SaysFifth z y.word.text.now y.value) first said.1.1.1.1.0 in
    let near_x : unsigned_abs (small_of x.value) ≤ 10 ^ 11 = is_x.1.2.within in
    let near_y : unsigned_abs (small_of y.value) ≤ 10 ^ 11 = is_y.1.2.within in
    let kept_x = ap (λ z. to_z w64 (of_z w64 z)) c.small.ensures ∙ kept_64 (small_of x.value) (omega arith) in
    let kept_y = ap (λ z. to_z w64 (of_z w64 z)) c.small-2.ensures ∙ kept_64 (small_of y.value) (omega arith) in
    subst (λ z. InTurn SaysPad (lines Pad (units ++ map heard_token z ∷ [])) c.push-2.new.self.items) (sym words)
    (turn-added SaysPad (is_line Pad) units _ c.args.pads.now.items c.push-2.new.self.items _ begun h
    (small_of x.value, small_of y.value, is_x, is_y, pad_is _ _ _ _ _ _ _ _ _ c.in_ok-new.ensures c.in_ok-new-2.ensures kept_x kept_y)
    c.in_ok-push.ensures.items)
