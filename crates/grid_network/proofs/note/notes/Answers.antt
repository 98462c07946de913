use Rattle.std.proofs.Common.{◌<◌, ◌+◌, ℕ, List, ap, sym, subst, length, arith}
use Rattle.std.proofs.lemmas.List.Elements.{Contains-get_or}
use Rattle.grid_network.specs.declared.key.Key.{Key}
use Rattle.grid_network.specs.inside.Steps.{place_of}
use Rattle.grid_network.proofs.Noted.{SoFar, so_far_new, so_far_same, so_far_all}
use Rattle.grid_network.proofs.note.notes.Goals.{then-begins_layer+in_ok-note_of+in_ok-push, else-begins_layer}
use Rattle.grid_network.proofs.note.notes.Goals as goal

pub loop-i-preserved : goal.loop-i-preserved
loop-i-preserved c d tech nets routing nodes =
    let places : List Key = c.args.places.now in
    let i : ℕ = c.loop-i.i in
    let within : i < length places = omega arith in
    let node = (nodes (place_of places i)).0 (Contains-get_or places i _ within) in
    let before = c.loop-i.invariant d tech nets routing nodes in
    let low : (k : ℕ) → k < length places → (place_of places k).layer < length tech.routing =
    λ k below. subst (λ (n : ℕ). (place_of places k).layer < n) (sym (ap (λ l. length l) routing)) (c.requires.within k _ below).1 in
    elim c.if-begins_layer.branch [
      | then-begins_layer+in_ok-note_of+in_ok-push w ↦
          let new = so_far_new d tech places i c.loop-i.notes.items w.push.new.self.items w.in_ok-note_of.field-0 c.requires.sorted low within
          (w.if-begins_layer.ensures.0 (cc)) (w.in_ok-note_of.ensures d tech nets routing node) w.in_ok-push.ensures.items before in
          subst (λ l. SoFar d tech places (i + 1) l) (ap (λ v. v.items) (sym w.notes-is)) new
      | else-begins_layer w ↦
          let same = so_far_same d tech places i c.loop-i.notes.items node (λ h. let e = w.if-begins_layer.ensures.1 h in absurd (cc)) before in
          subst (λ l. SoFar d tech places (i + 1) l) (ap (λ v. v.items) (sym w.notes-is)) same
    ]

pub returns : goal.returns
returns c d tech nets routing nodes = so_far_all d tech c.args.places.now c.loop-i.i c.loop-i.notes.items nodes (omega arith) (omega arith) (c.loop-i.invariant d tech nets routing nodes)
