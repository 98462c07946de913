use Rattle.std.proofs.Common.{[], ◌∷◌, ◌++◌, map, sym, subst}
use Rattle.reading.specs.Grammar.{AreHeard}
use Rattle.reading.specs.Fault.{FindsValue}
use Rattle.reading.specs.Word.{token, heard_token}
use Rattle.spice_cards.specs.Fault.{CardFault}
use Rattle.spice_cards.specs.inside.Value.{SaysWord}
use Rattle.spice_cards.proofs.fault.card_word.Goals as goal

pub returns-in-Source : goal.returns-in-Source
returns-in-Source c = λ heard same.
    let a = c.args.a.now in
    let b = c.args.b.now in
    let part = map heard_token c.args.before.now ++ token c.args.word.now ∷ [] in
    subst (λ z. FindsValue (CardFault z a b part) (SaysWord z a b part) c.source_word.result) (sym c.in-Source.is)
    (c.source_word.ensures (subst (λ z. AreHeard (SaysWord z a b) [] c.args.before.now) c.in-Source.is heard) same)

pub returns-in-Load : goal.returns-in-Load
returns-in-Load c = λ heard same.
    let a = c.args.a.now in
    let b = c.args.b.now in
    let part = map heard_token c.args.before.now ++ token c.args.word.now ∷ [] in
    subst (λ z. FindsValue (CardFault z a b part) (SaysWord z a b part) c.load_word.result) (sym c.in-Load.is)
    (c.load_word.ensures a b (subst (λ z. AreHeard (SaysWord z a b) [] c.args.before.now) c.in-Load.is heard) same)
