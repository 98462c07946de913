use Rattle.std.proofs.Common.{◌≡◌, ℕ, ◌<◌, true, false}
use Rattle.bound_make.specs.inside.Half.{seen}
use Rattle.bound_make.specs.inside.Moving.{IsFull, IsRaising, rise_room}
use Rattle.bound_make.proofs.phase.raise_all.Given as goal

abbrev pub invariant-loop-node : goal.invariant-loop-node
invariant-loop-node l = record {
  kept : IsRaising (seen l.half l.net) l.initial.x l.x;
  moved : l.rose ≡ true → rise_room l.x < rise_room l.initial.x;
  still : l.rose ≡ false → (l.x ≡ l.initial.x) × ((i : ℕ) → i < l.node → IsFull (seen l.half l.net) l.x i);
}
