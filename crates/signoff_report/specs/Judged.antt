-- What the printed intervals say of the limits of branches and nets.
use Rattle.std.specs.Prelude.{ℕ, zero, suc, Bool, true, false, not, ◌==◌, ◌&&◌, ◌||◌, if◌then◌else◌, ℤ, pos, ◌-ℤ◌, ◌*ℤ◌, Option, Some, None, unsigned_abs, slice_index}
use Rattle.grid_net.specs.declared.part.Resistor.{Resistor}
use Rattle.bound_check.specs.Certified.{Certificate, nanovolt, nanoampere}
use Rattle.em_rules.specs.declared.words.Verdict.{Verdict}
use Rattle.em_rules.specs.declared.words.Verdict.TheVariants.{Safe, Unsafe, Undecided, NoLimit}
use Rattle.em_rules.specs.Verdict.{verdict_by_ends}
use Rattle.signoff_report.specs.declared.records.Limits.{Limits}
use Rattle.signoff_report.specs.declared.records.NetLimit.{NetLimit}
use Rattle.signoff_report.specs.Shown.{shown_voltage, shown_current}

-- What the printed interval of a resistor's current says of its limit. Both are compared in femtoamperes.
abbrev pub branch_verdict : Certificate → Resistor × Option ℕ → Verdict
branch_verdict c branch =
    let shown = shown_current c branch.0 in
    verdict_by_ends (shown.0 *ℤ pos nanoampere) (shown.1 *ℤ pos nanoampere) branch.1

-- What the printed interval of a node's voltage says of a limit of drops on either side of a supply. They are compared
-- in yoctovolts.
abbrev pub node_verdict : Certificate → ℕ → ℤ → ℤ → Verdict
node_verdict c node supply drop =
    let shown = shown_voltage c node in
    verdict_by_ends ((shown.0 *ℤ pos nanovolt) -ℤ supply) ((shown.1 *ℤ pos nanovolt) -ℤ supply) (Some (unsigned_abs drop))

-- Some number below n passes a test; each number below n passes it.
abbrev pub some_below : ℕ → (ℕ → Bool) → Bool
some_below zero test = false
some_below (suc n) test = test n || some_below n test

abbrev pub each_below : ℕ → (ℕ → Bool) → Bool
each_below zero test = true
each_below (suc n) test = test n && each_below n test

-- A verdict is of this kind.
abbrev pub is_safe : Verdict → Bool
is_safe Safe = true
is_safe Unsafe = false
is_safe Undecided = false
is_safe NoLimit = false

abbrev pub is_unsafe : Verdict → Bool
is_unsafe Safe = false
is_unsafe Unsafe = true
is_unsafe Undecided = false
is_unsafe NoLimit = false

abbrev pub is_undecided : Verdict → Bool
is_undecided Safe = false
is_undecided Unsafe = false
is_undecided Undecided = true
is_undecided NoLimit = false

abbrev pub has_no_limit : Verdict → Bool
has_no_limit Safe = false
has_no_limit Unsafe = false
has_no_limit Undecided = false
has_no_limit NoLimit = true

-- A node belongs to the net of this number.
abbrev pub is_of_net : Limits → ℕ → ℕ → Bool
is_of_net limits net node = slice_index limits.net_of node == net

-- A net with a limit of drops around its supply is unsafe where some node of it is, safe where each node of it is, and
-- else undecided. Without nodes it is safe.
abbrev pub drop_verdict : Certificate → Limits → ℕ → ℤ → ℤ → Verdict
drop_verdict c limits net supply drop =
    if some_below c.net.nodes (λ node. is_of_net limits net node && is_unsafe (node_verdict c node supply drop)) then Unsafe else
    if each_below c.net.nodes (λ node. not (is_of_net limits net node) || is_safe (node_verdict c node supply drop)) then Safe else
    Undecided

-- The same where the limit may not be stated.
abbrev pub verdict_of_drop : Certificate → Limits → ℕ → ℤ → Option ℤ → Verdict
verdict_of_drop c limits net supply None = NoLimit
verdict_of_drop c limits net supply (Some drop) = drop_verdict c limits net supply drop

-- What the printed intervals of the voltages of a net, which has this number, say of its limit of drops.
abbrev pub net_verdict : Certificate → Limits → ℕ → NetLimit → Verdict
net_verdict c limits net of_net = verdict_of_drop c limits net of_net.supply of_net.drop
