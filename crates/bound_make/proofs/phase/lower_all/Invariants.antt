use Rattle.std.proofs.Common.{◌≡◌, ℕ, ◌<◌, true, false}
use Rattle.bound_make.specs.inside.Half.{seen}
use Rattle.bound_make.specs.inside.Moving.{IsTrim, IsLowering, fall_room}
use Rattle.bound_make.proofs.phase.lower_all.Given as goal

abbrev pub invariant-loop-node : goal.invariant-loop-node
invariant-loop-node l = record {
  kept : IsLowering (seen l.half l.net) l.initial.x l.x;
  moved : l.fell ≡ true → fall_room l.x < fall_room l.initial.x;
  still : l.fell ≡ false → (l.x ≡ l.initial.x) × ((i : ℕ) → i < l.node → IsTrim (seen l.half l.net) l.x i);
}
