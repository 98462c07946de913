-- What a word of an entry does that says nothing.
use Rattle.std.proofs.Common.{◌≡◌, refl}
use Rattle.reading.specs.Word.{Token}
use Rattle.def_wiring.specs.declared.act.Act.{Act}
use Rattle.def_wiring.specs.declared.act.Act.TheVariants as acts
use Rattle.def_wiring.specs.declared.standing.Standing.{Standing}
use Rattle.def_wiring.specs.Record.{Said, said_by}

-- Of an act that ends no via, point or net and places no via nothing is said.
pub same_act : (act : Act) → (act ≡ acts.EndsVia → ⊥) → (act ≡ acts.Point → ⊥) → (act ≡ acts.Place → ⊥) → (act ≡ acts.EndsNet → ⊥) →
    (there : Standing) (word : Token) (said : Said) → said_by act there word said ≡ said
same_act acts.EndsVia a b c d there word said = absurd (a refl)
same_act acts.Point a b c d there word said = absurd (b refl)
same_act acts.Place a b c d there word said = absurd (c refl)
same_act acts.EndsNet a b c d there word said = absurd (d refl)
same_act act a b c d there word said = refl
