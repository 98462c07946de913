-- What is counted of the calls on files in memory.
use Rattle.std.proofs.Common.{◌≡◌, ℕ, ◌≤◌, List, [], ◌∷◌, ◌++◌, get_or, set, Option, Contains, inl, inr, refl, sym, ◌∙◌, ap, subst, arith}
use Rattle.std.specs.Prelude.{unwrap_or}
use Rattle.std.proofs.Math.Path.{fun_ext}
use Rattle.std.proofs.lemmas.Bool.{cases_lt}
use Rattle.outside.specs.declared.calls.Tally.{Tally}
use Rattle.outside.specs.Calls.{CallsInMemory, IsCounted, IsUncounted, FailsNext, CountsNone, CountsRead, CountsWrite, no_calls, tally_under, made_on, counts_of}
use Rattle.outside.specs.Counts.{ChangesReads, ChangesWrites, FaultCounts, raised, last_count, Rose, NoneFalls}
use Rattle.outside.specs.Entries.{Assigns}
use Rattle.outside.specs.inside.Entries.{IsFirstPlace, IsAbsent}
use Rattle.outside.proofs.Listed.{by_name, value_under-present, value_under-absent, value_under-set_named, value_under-set_other, value_under-push_named, value_under-push_other}

-- The tally that stands, or the one with no calls.
abbrev or_none : Option Tally → Tally
or_none o = unwrap_or o no_calls

-- A tally with no calls is added for a name that has none: each name has the tally that it had.
pub tally_under-push : (tallies : List (List ℕ × Tally)) (name : List ℕ) (entry : List ℕ × Tally) → IsAbsent tallies name → entry.0 ≡ name → entry.1 ≡ no_calls
    → tally_under (tallies ++ entry ∷ []) ≡ tally_under tallies
tally_under-push tallies name entry none named empty =
    fun_ext (by_name (λ any. tally_under (tallies ++ entry ∷ []) any ≡ tally_under tallies any) name
    (ap or_none (value_under-push_named tallies name entry none named) ∙ empty ∙ sym (ap or_none (value_under-absent tallies name none)))
    (λ other apart. ap or_none (value_under-push_other tallies name entry other named apart)))

-- The tally of a name, read at its first place.
pub tally_under-present : (tallies : List (List ℕ × Tally)) (name : List ℕ) (place : ℕ) (entry : List ℕ × Tally) → IsFirstPlace tallies name place → tally_under tallies name ≡ (get_or tallies place entry).1
tally_under-present tallies name place entry at = ap or_none (value_under-present tallies name place entry at)

-- A tally is written at the first place of its name.
pub assigns_tally : (tallies : List (List ℕ × Tally)) (name : List ℕ) (place : ℕ) (entry : List ℕ × Tally) → IsFirstPlace tallies name place → entry.0 ≡ name
    → Assigns name entry.1 (tally_under tallies) (tally_under (set tallies place entry))
assigns_tally tallies name place entry at named = record {
  named = ap or_none (value_under-set_named tallies name place entry at named);
  others = λ other apart. ap or_none (value_under-set_other tallies name place entry other at named apart);
}

-- What is read of the tally of each name.
abbrev part_of : (Tally → ℕ) → (List ℕ → Tally) → List ℕ → ℕ
part_of part tally name = part (tally name)

module _ (part : Tally → ℕ) (name : List ℕ) (tally : Tally) (old new : List ℕ → Tally) (set : Assigns name tally old new) where
  -- What is read of the tallies is assigned where a tally is.
  assigns_part : (value : ℕ) → part tally ≡ value → Assigns name value (part_of part old) (part_of part new)
  assigns_part value is = record {
    named = ap part set.named ∙ is;
    others = λ other apart. ap part (set.others other apart);
  }

  -- What is read of the tallies stays, where the assigned tally has the same of it.
  same_part : part tally ≡ part (old name) → part_of part new ≡ part_of part old
  same_part same =
      fun_ext (by_name (λ any. part (new any) ≡ part (old any)) name (ap part set.named ∙ same) (λ other apart. ap part (set.others other apart)))

-- Counts that are each the same are the same.
same_counts : (a b : FaultCounts) → a.faults ≡ b.faults → a.reads ≡ b.reads → a.writes ≡ b.writes → a ≡ b
same_counts a b faults reads writes = λ i. record { faults = faults i; reads = reads i; writes = writes i }

-- Tallies that agree by name, and the same list and number of faults beside them, are no call counted.
pub uncounted : (old new : CallsInMemory) → new.failing ≡ old.failing → tally_under new.tallies ≡ tally_under old.tallies → new.faults ≡ old.faults → IsUncounted old new
uncounted old new failing tallies faults = record {
  failing = failing;
  made = ap (part_of (λ t. t.made)) tallies;
  counts = same_counts (counts_of new) (counts_of old) faults (ap (part_of (λ t. t.failed_reads)) tallies) (ap (part_of (λ t. t.failed_writes)) tallies);
}

-- A call is counted by the tally of its name: it was this and is that.
module _ (old new : CallsInMemory) (name : List ℕ) (was now : Tally) (failing : new.failing ≡ old.failing) (at : tally_under old.tallies name ≡ was) (set : Assigns name now (tally_under old.tallies) (tally_under new.tallies)) where
  raises : (part : Tally → ℕ) → part now ≡ raised (part was) → Assigns name (raised (part (tally_under old.tallies name))) (part_of part (tally_under old.tallies)) (part_of part (tally_under new.tallies))
  raises part more = assigns_part part name now (tally_under old.tallies) (tally_under new.tallies) set (raised (part (tally_under old.tallies name))) (more ∙ ap (λ t. raised (part t)) (sym at))

  stays : (part : Tally → ℕ) → part now ≡ part was → part_of part (tally_under new.tallies) ≡ part_of part (tally_under old.tallies)
  stays part same = same_part part name now (tally_under old.tallies) (tally_under new.tallies) set (same ∙ ap part (sym at))

  pub counted_none : now.made ≡ raised was.made → now.failed_reads ≡ was.failed_reads → now.failed_writes ≡ was.failed_writes → new.faults ≡ old.faults → IsCounted name CountsNone old new
  counted_none made reads writes faults = record {
    failing = failing;
    made = raises (λ t. t.made) made;
    counts = same_counts (counts_of new) (counts_of old) faults (stays (λ t. t.failed_reads) reads) (stays (λ t. t.failed_writes) writes);
  }

  pub counted_read : now.made ≡ raised was.made → now.failed_reads ≡ raised was.failed_reads → now.failed_writes ≡ was.failed_writes → new.faults ≡ raised old.faults → IsCounted name (CountsRead name) old new
  counted_read made reads writes faults = record {
    failing = failing;
    made = raises (λ t. t.made) made;
    counts = record { faults = faults; reads = raises (λ t. t.failed_reads) reads; writes = stays (λ t. t.failed_writes) writes };
  }

  pub counted_write : now.made ≡ raised was.made → now.failed_reads ≡ was.failed_reads → now.failed_writes ≡ raised was.failed_writes → new.faults ≡ raised old.faults → IsCounted name (CountsWrite name) old new
  counted_write made reads writes faults = record {
    failing = failing;
    made = raises (λ t. t.made) made;
    counts = record { faults = faults; reads = stays (λ t. t.failed_reads) reads; writes = raises (λ t. t.failed_writes) writes };
  }

-- The tally of a name as it is read at its first place.
pub tally_read : (failing : List (List ℕ × ℕ)) (tallies : List (List ℕ × Tally)) (faults : ℕ) (old : CallsInMemory) → record { failing = failing; tallies = tallies; faults = faults } ≡ old
    → (name : List ℕ) (place : ℕ) (read : List ℕ × Tally) → IsFirstPlace old.tallies name place → read ≡ get_or tallies place read → tally_under old.tallies name ≡ read.1
tally_read failing tallies faults old seen name place read at read_is =
    let same : tallies ≡ old.tallies = ap (λ (c : CallsInMemory). c.tallies) seen in
    tally_under-present old.tallies name place read at ∙ ap (λ (l : List (List ℕ × Tally)). (get_or l place read).1) (sym same) ∙ ap (λ (e : List ℕ × Tally). e.1) (sym read_is)

-- The tally of a name that was read at its first place is written again with other numbers.
module _ (failing : List (List ℕ × ℕ)) (tallies : List (List ℕ × Tally)) (faults after : ℕ) (old : CallsInMemory) (seen : record { failing = failing; tallies = tallies; faults = faults } ≡ old)
    (name : List ℕ) (place : ℕ) (read slot : List ℕ × Tally) (now : Tally) (at : IsFirstPlace old.tallies name place) (read_is : read ≡ get_or tallies place read) (slot_is : slot ≡ get_or tallies place slot) where
  abbrev before : CallsInMemory
  before = record { failing = failing; tallies = tallies; faults = faults }

  abbrev pub written : CallsInMemory
  written = record { failing = failing; tallies = set tallies place (slot.0, now); faults = after }

  first : IsFirstPlace tallies name place
  first = subst (λ (c : CallsInMemory). IsFirstPlace c.tallies name place) (sym seen) at

  was : tally_under tallies name ≡ read.1
  was = tally_under-present tallies name place read first ∙ ap (λ (e : List ℕ × Tally). e.1) (sym read_is)

  assigned : Assigns name now (tally_under tallies) (tally_under (set tallies place (slot.0, now)))
  assigned = assigns_tally tallies name place (slot.0, now) first (ap (λ (e : List ℕ × Tally). e.0) slot_is ∙ first.named slot)

  pub writes_none : now.made ≡ raised read.1.made → now.failed_reads ≡ read.1.failed_reads → now.failed_writes ≡ read.1.failed_writes → after ≡ faults → IsCounted name CountsNone old written
  writes_none made reads writes more = subst (λ (c : CallsInMemory). IsCounted name CountsNone c written) seen (counted_none before written name read.1 now refl was assigned made reads writes more)

  pub writes_read : now.made ≡ raised read.1.made → now.failed_reads ≡ raised read.1.failed_reads → now.failed_writes ≡ read.1.failed_writes → after ≡ raised faults → IsCounted name (CountsRead name) old written
  writes_read made reads writes more = subst (λ (c : CallsInMemory). IsCounted name (CountsRead name) c written) seen (counted_read before written name read.1 now refl was assigned made reads writes more)

  pub writes_write : now.made ≡ raised read.1.made → now.failed_reads ≡ read.1.failed_reads → now.failed_writes ≡ raised read.1.failed_writes → after ≡ raised faults → IsCounted name (CountsWrite name) old written
  writes_write made reads writes more = subst (λ (c : CallsInMemory). IsCounted name (CountsWrite name) c written) seen (counted_write before written name read.1 now refl was assigned made reads writes more)

  -- No count falls where the numbers of the tally do not.
  pub writes_none_falls : read.1.failed_reads ≤ now.failed_reads → read.1.failed_writes ≤ now.failed_writes → faults ≤ after → NoneFalls (counts_of old) (counts_of written)
  writes_none_falls reads writes more = subst (λ (c : CallsInMemory). NoneFalls (counts_of c) (counts_of written)) seen (record {
    faults = more;
    reads = by_part (λ t. t.failed_reads) reads;
    writes = by_part (λ t. t.failed_writes) writes;
  })
    where
      by_part : (part : Tally → ℕ) → part read.1 ≤ part now → (any : List ℕ) → part (tally_under tallies any) ≤ part (tally_under (set tallies place (slot.0, now)) any)
      by_part part most = by_name (λ any. part (tally_under tallies any) ≤ part (tally_under (set tallies place (slot.0, now)) any)) name
          (omega (arith, most, ap part was, ap part assigned.named))
          (λ other apart. omega (arith, ap part (assigned.others other apart)))

-- No count falls where each stays.
pub none_falls_same : (old new : FaultCounts) → new ≡ old → NoneFalls old new
none_falls_same old new same = subst (λ (c : FaultCounts). NoneFalls old c) (sym same) (record { faults = omega arith; reads = λ name. omega arith; writes = λ name. omega arith })

-- What is raised rose.
raised_rose : (n m : ℕ) → m ≡ raised n → Rose n m
raised_rose n m is = elim (cases_lt n last_count) [ inl below ↦ inl (omega arith) | inr above ↦ inr (omega arith) ]

pub read_rose : (name : List ℕ) (old new : FaultCounts) → CountsRead name old new → Rose old.faults new.faults × Rose (old.reads name) (new.reads name)
read_rose name old new counts = (raised_rose _ _ counts.faults, raised_rose _ _ counts.reads.named)

pub write_rose : (name : List ℕ) (old new : FaultCounts) → CountsWrite name old new → Rose old.faults new.faults × Rose (old.writes name) (new.writes name)
write_rose name old new counts = (raised_rose _ _ counts.faults, raised_rose _ _ counts.writes.named)

-- Room for a count was made before the call.
module _ (name : List ℕ) (old mid : CallsInMemory) (room : IsUncounted old mid) where
  pub counted_after : (new : CallsInMemory) (Counts : FaultCounts → FaultCounts → Type 0) → IsCounted name Counts mid new → IsCounted name Counts old new
  counted_after new Counts counted = record {
    failing = counted.failing ∙ room.failing;
    made = subst (λ (made : List ℕ → ℕ). Assigns name (raised (made name)) made (made_on new)) room.made counted.made;
    counts = subst (λ (counts : FaultCounts). Counts counts (counts_of new)) room.counts counted.counts;
  }

  pub none_falls_after : (new : CallsInMemory) → NoneFalls (counts_of mid) (counts_of new) → NoneFalls (counts_of old) (counts_of new)
  none_falls_after new none = subst (λ (counts : FaultCounts). NoneFalls counts (counts_of new)) room.counts none

  same_next : Contains mid.failing (name, raised (made_on mid name)) ≡ Contains old.failing (name, raised (made_on old name))
  same_next =
      ap (λ (l : List (List ℕ × ℕ)). Contains l (name, raised (made_on mid name))) room.failing
      ∙ ap (λ (made : List ℕ → ℕ). Contains old.failing (name, raised (made name))) room.made

  pub fails_before : FailsNext mid name → FailsNext old name
  fails_before fails = subst (λ (T : Type 0). T) same_next fails

  pub fails_still : FailsNext old name → FailsNext mid name
  fails_still fails = subst (λ (T : Type 0). T) (sym same_next) fails

-- Where no count changes, none of another name does.
pub only_same : (name : List ℕ) (old new : FaultCounts) → new ≡ old → ChangesReads name old new × ChangesWrites name old new
only_same name old new same = (
  record { reads = λ other _. ap (λ (c : FaultCounts). c.reads other) same; writes = ap (λ (c : FaultCounts). c.writes) same },
  record { reads = ap (λ (c : FaultCounts). c.reads) same; writes = λ other _. ap (λ (c : FaultCounts). c.writes other) same },
)

pub only_read : (name : List ℕ) (old new : FaultCounts) → CountsRead name old new → ChangesReads name old new
only_read name old new counts = record { reads = counts.reads.others; writes = counts.writes }

pub only_write : (name : List ℕ) (old new : FaultCounts) → CountsWrite name old new → ChangesWrites name old new
only_write name old new counts = record { reads = counts.reads; writes = counts.writes.others }
