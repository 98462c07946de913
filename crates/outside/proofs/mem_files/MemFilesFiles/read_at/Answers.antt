use Rattle.std.proofs.Common.{◌≡◌, ℕ, List, Some, None, inl, inr, sym, ◌∙◌, ap, subst}
use Rattle.outside.specs.Calls.{CallsInMemory, IsUncounted, CountsNone, CountsRead}
use Rattle.outside.specs.Entries.{value_under}
use Rattle.outside.specs.MemFiles.{FilesInMemory}
use Rattle.outside.proofs.Tallies.{only_same, only_read, counted_after, none_falls_after, none_falls_same, fails_before, fails_still, read_rose}
use Rattle.outside.proofs.mem_files.MemFilesFiles.read_at.Goals as goal
use Rattle.outside.proofs.mem_files.MemFilesFiles.read_at.Goals.{then-not-fails_next+in_default, else-not-fails_next}

pub returns-in_err-place-clause-none_falls : goal.returns-in_err-place-clause-none_falls
returns-in_err-place-clause-none_falls c =
    let calls : c.self.inside.calls ≡ c.args.self.now.calls = ap (λ (files : FilesInMemory). files.calls) c.self.view_is in
    let room : IsUncounted c.args.self.now.calls c.place.new.self = subst (λ (calls : CallsInMemory). IsUncounted calls c.place.new.self) calls c.in_err-place.ensures.uncounted in
    none_falls_same _ _ room.counts

pub returns-in-Some-clause-no_cause : goal.returns-in-Some-clause-no_cause
returns-in-Some-clause-no_cause c =
    let calls : c.self.inside.calls ≡ c.args.self.now.calls = ap (λ (files : FilesInMemory). files.calls) c.self.view_is in
    let room : IsUncounted c.args.self.now.calls c.place.new.self = subst (λ (calls : CallsInMemory). IsUncounted calls c.place.new.self) calls c.in_ok-place.ensures.uncounted in
    let held : value_under c.args.self.now.files c.args.name.now ≡ Some c.in-Some.bytes.now = subst (λ (files : List (List ℕ × List ℕ)). value_under files c.args.name.now ≡ Some c.in-Some.bytes.now) (ap (λ (files : FilesInMemory). files.files) c.self.view_is) c.in-Some.ensures in (
      λ fails. let clash = sym c.if-not-fails_next.true ∙ c.fails_next.ensures.1 (fails_still c.args.name.now c.args.self.now.calls c.place.new.self room fails) in cc,
      λ none. let clash = sym held ∙ none in cc,
    )

pub returns-in-Some-clause-counted : goal.returns-in-Some-clause-counted
returns-in-Some-clause-counted c =
    let calls : c.self.inside.calls ≡ c.args.self.now.calls = ap (λ (files : FilesInMemory). files.calls) c.self.view_is in
    let room : IsUncounted c.args.self.now.calls c.place.new.self = subst (λ (calls : CallsInMemory). IsUncounted calls c.place.new.self) calls c.in_ok-place.ensures.uncounted in
    (counted_after c.args.name.now c.args.self.now.calls c.place.new.self room c.count.new.self CountsNone (c.count.ensures c.args.name.now (c.in_ok-place.ensures.place)))

pub returns-in-Some-clause-calm : goal.returns-in-Some-clause-calm
returns-in-Some-clause-calm c =
    let calls : c.self.inside.calls ≡ c.args.self.now.calls = ap (λ (files : FilesInMemory). files.calls) c.self.view_is in
    let room : IsUncounted c.args.self.now.calls c.place.new.self = subst (λ (calls : CallsInMemory). IsUncounted calls c.place.new.self) calls c.in_ok-place.ensures.uncounted in
    (counted_after c.args.name.now c.args.self.now.calls c.place.new.self room c.count.new.self CountsNone (c.count.ensures c.args.name.now (c.in_ok-place.ensures.place))).counts

pub returns-in-Some-clause-none_falls : goal.returns-in-Some-clause-none_falls
returns-in-Some-clause-none_falls c =
    let calls : c.self.inside.calls ≡ c.args.self.now.calls = ap (λ (files : FilesInMemory). files.calls) c.self.view_is in
    let room : IsUncounted c.args.self.now.calls c.place.new.self = subst (λ (calls : CallsInMemory). IsUncounted calls c.place.new.self) calls c.in_ok-place.ensures.uncounted in
    none_falls_same _ _ (counted_after c.args.name.now c.args.self.now.calls c.place.new.self room c.count.new.self CountsNone (c.count.ensures c.args.name.now (c.in_ok-place.ensures.place))).counts

pub returns-clause-cause : goal.returns-clause-cause
returns-clause-cause c =
    let calls : c.self.inside.calls ≡ c.args.self.now.calls = ap (λ (files : FilesInMemory). files.calls) c.self.view_is in
    let room : IsUncounted c.args.self.now.calls c.place.new.self = subst (λ (calls : CallsInMemory). IsUncounted calls c.place.new.self) calls c.in_ok-place.ensures.uncounted in
    λ _. elim c.if-not-fails_next.branch [
      | then-not-fails_next+in_default w ↦ inr (subst (λ (files : List (List ℕ × List ℕ)). value_under files c.args.name.now ≡ None) (ap (λ (files : FilesInMemory). files.files) c.self.view_is) w.in_default.ensures)
      | else-not-fails_next w ↦ inl (fails_before c.args.name.now c.args.self.now.calls c.place.new.self room (c.fails_next.ensures.0 w.if-not-fails_next.false))
    ]

pub returns-clause-counted_failed : goal.returns-clause-counted_failed
returns-clause-counted_failed c =
    let calls : c.self.inside.calls ≡ c.args.self.now.calls = ap (λ (files : FilesInMemory). files.calls) c.self.view_is in
    let room : IsUncounted c.args.self.now.calls c.place.new.self = subst (λ (calls : CallsInMemory). IsUncounted calls c.place.new.self) calls c.in_ok-place.ensures.uncounted in
    λ _. counted_after c.args.name.now c.args.self.now.calls c.place.new.self room c.count_failed_read.new.self (CountsRead c.args.name.now) (c.count_failed_read.ensures.counted c.args.name.now (c.in_ok-place.ensures.place))

pub returns-clause-none_falls : goal.returns-clause-none_falls
returns-clause-none_falls c =
    let calls : c.self.inside.calls ≡ c.args.self.now.calls = ap (λ (files : FilesInMemory). files.calls) c.self.view_is in
    let room : IsUncounted c.args.self.now.calls c.place.new.self = subst (λ (calls : CallsInMemory). IsUncounted calls c.place.new.self) calls c.in_ok-place.ensures.uncounted in
    none_falls_after c.args.name.now c.args.self.now.calls c.place.new.self room c.count_failed_read.new.self (c.count_failed_read.ensures.none_falls c.args.name.now (c.in_ok-place.ensures.place))

pub returns-clause-failed : goal.returns-clause-failed
returns-clause-failed c =
    let calls : c.self.inside.calls ≡ c.args.self.now.calls = ap (λ (files : FilesInMemory). files.calls) c.self.view_is in
    let room : IsUncounted c.args.self.now.calls c.place.new.self = subst (λ (calls : CallsInMemory). IsUncounted calls c.place.new.self) calls c.in_ok-place.ensures.uncounted in
    λ _. (read_rose c.args.name.now _ _ (counted_after c.args.name.now c.args.self.now.calls c.place.new.self room c.count_failed_read.new.self (CountsRead c.args.name.now) (c.count_failed_read.ensures.counted c.args.name.now (c.in_ok-place.ensures.place))).counts).0

pub returns-clause-failed_read : goal.returns-clause-failed_read
returns-clause-failed_read c =
    let calls : c.self.inside.calls ≡ c.args.self.now.calls = ap (λ (files : FilesInMemory). files.calls) c.self.view_is in
    let room : IsUncounted c.args.self.now.calls c.place.new.self = subst (λ (calls : CallsInMemory). IsUncounted calls c.place.new.self) calls c.in_ok-place.ensures.uncounted in
    λ _. (read_rose c.args.name.now _ _ (counted_after c.args.name.now c.args.self.now.calls c.place.new.self room c.count_failed_read.new.self (CountsRead c.args.name.now) (c.count_failed_read.ensures.counted c.args.name.now (c.in_ok-place.ensures.place))).counts).1

pub returns-in_err-place-clause-only : goal.returns-in_err-place-clause-only
returns-in_err-place-clause-only c =
    let calls : c.self.inside.calls ≡ c.args.self.now.calls = ap (λ (files : FilesInMemory). files.calls) c.self.view_is in
    let room : IsUncounted c.args.self.now.calls c.place.new.self = subst (λ (calls : CallsInMemory). IsUncounted calls c.place.new.self) calls c.in_err-place.ensures.uncounted in
    (only_same c.args.name.now _ _ room.counts).0

pub returns-in-Some-clause-only : goal.returns-in-Some-clause-only
returns-in-Some-clause-only c =
    let calls : c.self.inside.calls ≡ c.args.self.now.calls = ap (λ (files : FilesInMemory). files.calls) c.self.view_is in
    let room : IsUncounted c.args.self.now.calls c.place.new.self = subst (λ (calls : CallsInMemory). IsUncounted calls c.place.new.self) calls c.in_ok-place.ensures.uncounted in
    (only_same c.args.name.now _ _ (counted_after c.args.name.now c.args.self.now.calls c.place.new.self room c.count.new.self CountsNone (c.count.ensures c.args.name.now (c.in_ok-place.ensures.place))).counts).0

pub returns-clause-only : goal.returns-clause-only
returns-clause-only c =
    let calls : c.self.inside.calls ≡ c.args.self.now.calls = ap (λ (files : FilesInMemory). files.calls) c.self.view_is in
    let room : IsUncounted c.args.self.now.calls c.place.new.self = subst (λ (calls : CallsInMemory). IsUncounted calls c.place.new.self) calls c.in_ok-place.ensures.uncounted in
    only_read c.args.name.now _ _ (counted_after c.args.name.now c.args.self.now.calls c.place.new.self room c.count_failed_read.new.self (CountsRead c.args.name.now) (c.count_failed_read.ensures.counted c.args.name.now (c.in_ok-place.ensures.place))).counts
