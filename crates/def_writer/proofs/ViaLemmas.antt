-- What the vias of arrays have.
use Rattle.std.proofs.Common.{List, [], ◌∷◌, All, fold}
use Rattle.std.specs.Map.{values_of}
use Rattle.std.specs.BTreeMap.{insert_entry}
use Rattle.std.specs.Ordering.{match_ordering}
use Rattle.std.specs.declared.cmp.Ordering.{Ordering}
use Rattle.std.specs.declared.cmp.Ordering.TheVariants.{Less, Equal, Greater}
use Rattle.std.proofs.lemmas.List.Elements.{All-nil, All-cons, All-head, All-tail, All-append}
use Rattle.grid_pieces.specs.declared.piece.StackAt.{StackAt}
use Rattle.via_arrays.specs.declared.parts.CutArray.{CutArray}
use Rattle.def_writer.specs.declared.via.Via.{Via}
use Rattle.def_writer.specs.Via.{via_of, via_order, with_array, vias_of, arrays_of}

module _ (P : CutArray → Type 0) where
  abbrev Kept : List (Via × CutArray) → Type 0
  Kept vias = All P (values_of vias)

  inserted : (o : Ordering) (k : Via) (a : CutArray) (e : Via × CutArray) (es rest : List (Via × CutArray)) → P a → Kept (e ∷ es) → Kept rest
      → Kept (match_ordering o ((k, a) ∷ e ∷ es) ((e.0, a) ∷ es) (e ∷ rest))
  inserted Less k a e es rest p h r = All-cons P a (values_of (e ∷ es)) p h
  inserted Equal k a e es rest p h r = All-cons P a (values_of es) p (All-tail P e.1 (values_of es) h)
  inserted Greater k a e es rest p h r = All-cons P e.1 (values_of rest) (All-head P e.1 (values_of es) h) r

  insert_keeps : (k : Via) (a : CutArray) (es : List (Via × CutArray)) → P a → Kept es → Kept (insert_entry via_order es k a)
  insert_keeps k a [] p h = All-cons P a [] p (All-nil P)
  insert_keeps k a (e ∷ es) p h = inserted (via_order k e.0) k a e es (insert_entry via_order es k a) p h (insert_keeps k a es p (All-tail P e.1 (values_of es) h))

  fold_keeps : (arrays : List CutArray) (es : List (Via × CutArray)) → All P arrays → Kept es → Kept (fold with_array es arrays)
  fold_keeps [] es all h = h
  fold_keeps (a ∷ arrays) es all h = fold_keeps arrays (with_array es a) (All-tail P a arrays all) (insert_keeps (via_of a) a es (All-head P a arrays all) h)

  -- What all arrays have, all vias have.
  pub vias_keep : (arrays : List CutArray) → All P arrays → All P (vias_of arrays)
  vias_keep arrays all = fold_keeps arrays [] all (All-nil P)

  pub arrays_keep : (stacks : List StackAt) → All (λ (at : StackAt). All P at.stack.arrays) stacks → All P (arrays_of stacks)
  arrays_keep [] h = All-nil P
  arrays_keep (at ∷ stacks) h =
      let Q : StackAt → Type 0 = λ at. All P at.stack.arrays in
      All-append P at.stack.arrays (arrays_of stacks) (All-head Q at stacks h) (arrays_keep stacks (All-tail Q at stacks h))
