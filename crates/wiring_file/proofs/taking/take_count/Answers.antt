use Rattle.std.proofs.Common.{◌≡◌, ℕ, ◌+◌, Some, ◌<◌, List, [], ◌∷◌, ◌++◌, map, refl, sym, inl, inr, subst, arith, length}
use Rattle.reading.specs.declared.word.Heard.{Heard}
use Rattle.reading.specs.Word.{Token, heard_token}
use Rattle.wiring_file.specs.declared.held.Held.{Held}
use Rattle.wiring_file.specs.declared.section.Section.{Section}
use Rattle.wiring_file.specs.declared.section.Section.TheVariants.{ViasHead, NetsHead, Vias, Nets}
use Rattle.wiring_file.specs.declared.sort.Sort.TheVariants as sorts
use Rattle.wiring_file.specs.Standing.{standing}
use Rattle.wiring_file.specs.inside.Held.{Holds}
use Rattle.wiring_file.proofs.Lengths.{heard_here, matches_here, many_here, head_long}
use Rattle.wiring_file.proofs.Standings.{moved}
use Rattle.wiring_file.proofs.taking.take_count.Goals as goal

pub returns : goal.returns
returns c = λ lists units few held taken heard.
    let old : Held = c.args.said.now in
    let words = c.args.unit.now in
    let unit : List Token = map heard_token words in
    let count = c.count-said.result in
    let new = λ (list : Section). record old { count = count; entries = 0; section = list } in
    elim lists [
      | inl both ↦
          let long = many_here units words old held ViasHead both.0 3 (head_long sorts.Vias unit (matches_here units words old held ViasHead both.0 taken)) in
          let said = c.count-said.ensures ViasHead refl (heard_here units words old held ViasHead both.0 heard) (omega arith) in
          subst (λ list. Holds (units ++ unit ∷ []) (new list)) (sym both.1)
          (moved units unit old (new Vias) held ViasHead both.0
          (record { section = refl; net = held.net; stacked = held.stacked; count = λ h. said; entries = refl }) refl refl refl refl refl)
      | inr both ↦
          let long = many_here units words old held NetsHead both.0 3 (head_long sorts.SpecialNets unit (matches_here units words old held NetsHead both.0 taken)) in
          let said = c.count-said.ensures NetsHead refl (heard_here units words old held NetsHead both.0 heard) (omega arith) in
          subst (λ list. Holds (units ++ unit ∷ []) (new list)) (sym both.1)
          (moved units unit old (new Nets) held NetsHead both.0
          (record { section = refl; net = held.net; stacked = held.stacked; count = λ h. said; entries = refl }) refl refl refl refl refl)
    ]
