use Rattle.std.proofs.Common.{List, ℕ, Some, sym, ◌∙◌, ap}
use Rattle.outside.proofs.Held.{bytes_present, bytes_absent}
use Rattle.outside.proofs.directory.Directory.bytes.Goals as goal

pub returns-in-Some : goal.returns-in-Some
returns-in-Some c =
    bytes_present c.deref.result.now c.self.inside.files.items c.args.self.now c.as_bytes.result.now c.args.name.now c.deref.ensures.value c.self.view_is c.as_bytes.ensures.value c.in-Some.place c.index.result.now c.in-Some.ensures.found c.index.ensures
    ∙ ap (λ (bytes : List ℕ). Some bytes) (sym c.deref-in-Some.ensures.value)

pub returns-in-None : goal.returns-in-None
returns-in-None c =
    bytes_absent c.deref.result.now c.self.inside.files.items c.args.self.now c.as_bytes.result.now c.args.name.now c.deref.ensures.value c.self.view_is c.as_bytes.ensures.value c.in-None.ensures.absent
