use Rattle.std.proofs.Common.{◌∙◌, []}
use Rattle.outside.proofs.Held.{holds_present, holds_absent}
use Rattle.outside.proofs.directory.Directory.create.Goals as goal

pub returns-in-Some-clause-created : goal.returns-in-Some-clause-created
returns-in-Some-clause-created c =
    holds_present c.deref.result.now c.self.inside.files.items c.args.self.now c.as_bytes.result.now c.args.name.now c.deref.ensures.value c.self.view_is c.as_bytes.ensures.value c.in-Some.place c.index_mut.result.now c.clear.new.self [] c.in-Some.ensures.found c.index_mut.ensures.value c.clear.ensures.items

pub returns-in_ok-push-in-None-clause-created : goal.returns-in_ok-push-in-None-clause-created
returns-in_ok-push-in-None-clause-created c =
    holds_absent c.deref.result.now c.self.inside.files.items c.args.self.now c.as_bytes.result.now c.args.name.now c.deref.ensures.value c.self.view_is c.as_bytes.ensures.value c.in_ok-named-in-None.named c.new-in-None.result [] c.push.new.self.items c.in-None.ensures.absent (c.in_ok-named-in-None.ensures ∙ c.as_bytes-in-None.ensures.value) c.new-in-None.ensures.items c.in_ok-push-in-None.ensures.items
