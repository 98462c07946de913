use Rattle.std.proofs.Common.{◌∙◌, ◌≡◌, ◌<◌, length, ap, arith, rules}
use Rattle.outside.proofs.Held.{appends_present, appends_absent, stored-set_same, on_err}
use Rattle.outside.proofs.directory.Directory.append.Goals as goal

pub returns-in_err-extend_from_slice-in-Some-clause-kept : goal.returns-in_err-extend_from_slice-in-Some-clause-kept
returns-in_err-extend_from_slice-in-Some-clause-kept c =
    let within : c.in-Some.place < length c.self.inside.files.items = omega (arith, c.in-Some.ensures.found.within, ap length c.deref.ensures.value) in
    on_err c.from_residual.result (stored-set_same c.self.inside.files.items c.in-Some.place c.index_mut.result.now c.extend_from_slice.new.self within c.index_mut.ensures.value c.in_err-extend_from_slice-in-Some.ensures.items ∙ c.self.view_is)

pub returns-in_ok-extend_from_slice-in-Some-clause-appended : goal.returns-in_ok-extend_from_slice-in-Some-clause-appended
returns-in_ok-extend_from_slice-in-Some-clause-appended c =
    appends_present c.deref.result.now c.self.inside.files.items c.args.self.now c.as_bytes.result.now c.args.name.now c.deref.ensures.value c.self.view_is c.as_bytes.ensures.value c.in-Some.place c.index_mut.result.now c.extend_from_slice.new.self c.args.piece.now c.in-Some.ensures.found c.index_mut.ensures.value c.in_ok-extend_from_slice-in-Some.ensures.items

pub returns-in_ok-push-in-None-clause-appended : goal.returns-in_ok-push-in-None-clause-appended
returns-in_ok-push-in-None-clause-appended c =
    let copied : c.in_ok-bytes-in-None.bytes.items ≡ c.args.piece.now = search rules in
    appends_absent c.deref.result.now c.self.inside.files.items c.args.self.now c.as_bytes.result.now c.args.name.now c.deref.ensures.value c.self.view_is c.as_bytes.ensures.value c.in_ok-named-in-None.named c.in_ok-bytes-in-None.bytes c.args.piece.now c.push.new.self.items c.in-None.ensures.absent (c.in_ok-named-in-None.ensures ∙ c.as_bytes-in-None.ensures.value) copied c.in_ok-push-in-None.ensures.items
