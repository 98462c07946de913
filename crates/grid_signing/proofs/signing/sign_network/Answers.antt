use Rattle.std.proofs.Common.{◌≡◌, ◌⊎◌, ℕ, List, Some, slice_get, subst, ◌∙◌}
use Rattle.answers.specs.declared.answer.Answer.TheVariants.{Want, Unsupplied}
use Rattle.grid_net.specs.Network.{Network}
use Rattle.grid_net.specs.declared.note.Note.{Note}
use Rattle.grid_signing.specs.inside.Stages.{AreTextsOf}
use Rattle.grid_signing.proofs.Signs.{InScale, Stand, signs, lacks}
use Rattle.grid_signing.proofs.signing.sign_network.Goals as goal

pub returns-in-Err-clause-refused : goal.returns-in-Err-clause-refused
returns-in-Err-clause-refused g c =
    let told : (c.unsupplied.result ≡ Want) ⊎ ((name : List ℕ) × (slice_get c.args.extracted.names c.in-Err.node ≡ Some name) × (c.unsupplied.result ≡ Unsupplied name)) =
    subst (λ (names : List (List ℕ)). (c.unsupplied.result ≡ Want) ⊎ ((name : List ℕ) × (slice_get names c.in-Err.node ≡ Some name) × (c.unsupplied.result ≡ Unsupplied name))) c.as_slice-names.ensures c.unsupplied.ensures in
    lacks c.args.extracted c.in-Err.node c.unsupplied.result c.in-Err.ensures.first told

pub returns-in-Ok-texts-clause-signed : goal.returns-in-Ok-texts-clause-signed
returns-in-Ok-texts-clause-signed g c =
    let told = g.V.Solver.told c.args.solver.now in
    let grid = c.args.grid.now in
    let e = c.args.extracted in
    let limits = c.args.limits.now in
    let certified = c.certify-certified.result in
    let outputs = c.in-Ok-texts.signed in
    let texts : AreTextsOf grid certified e.names e.notes limits outputs =
    subst (λ (notes : List Note). AreTextsOf grid certified e.names notes limits outputs) c.as_slice.ensures
    (subst (λ (names : List (List ℕ)). AreTextsOf grid certified names c.as_slice.result.now limits outputs) c.as_slice-names.ensures c.in-Ok-texts.ensures) in
    signs told grid e limits certified outputs c.in_default.ensures.ok (c.certify-certified.ensures.net ∙ c.in-Ok.ensures.ok)
    (subst (λ (n : Network). InScale told n certified) c.in-Ok.ensures.ok c.certify-certified.ensures.range) texts c.requires.written
    (subst Stand c.as_slice-names.ensures c.checked_as_written.ensures.stand)
