-- Units with those before them, and the last entry over a layer, after one more unit.
use Rattle.std.proofs.Common.{◌≡◌, List, [], ◌∷◌, ◌++◌, refl, sym, ◌∙◌, ap}
use Rattle.std.proofs.lemmas.List.{append-nil, append_assoc}
use Rattle.def_design.specs.Record.{After, each_after, entry_by, entry_from, entry_of}
use Rattle.def_design.specs.Unit.{is_layer}
use Rattle.reading.specs.Blocks.{Block}
use Rattle.reading.specs.Word.{Token}

abbrev the_after : List (List Token) → List Token → List After
the_after before unit = record { before = before; unit = unit } ∷ []

after_from : (before units : List (List Token)) (unit : List Token) → each_after before (units ++ unit ∷ []) ≡ each_after before units ++ the_after (before ++ units) unit
after_from before [] unit = ap (λ z. the_after z unit) (sym (append-nil before))
after_from before (u ∷ units) unit =
    ap (λ z. record { before = before; unit = u } ∷ z) (after_from (before ++ u ∷ []) units unit
    ∙ ap (λ z. each_after (before ++ u ∷ []) units ++ the_after z unit) (append_assoc before (u ∷ []) units))

pub after_more : (units : List (List Token)) (unit : List Token) → each_after [] (units ++ unit ∷ []) ≡ each_after [] units ++ the_after units unit
after_more units unit = after_from [] units unit

entry_more_from : (entry : Block Token) (units : List (List Token)) (unit : List Token) →
    entry_from entry (units ++ unit ∷ []) ≡ entry_by (is_layer unit) (entry_from entry units) unit
entry_more_from entry [] unit = refl
entry_more_from entry (u ∷ units) unit = entry_more_from (entry_by (is_layer u) entry u) units unit

pub entry_more : (units : List (List Token)) (unit : List Token) → entry_of (units ++ unit ∷ []) ≡ entry_by (is_layer unit) (entry_of units) unit
entry_more units unit = entry_more_from _ units unit
