use Rattle.std.proofs.Common.{ap, subst}
use Rattle.outside.specs.Calls.{CallsInMemory, IsCounted, CountsNone}
use Rattle.outside.specs.MemFiles.{FilesInMemory}
use Rattle.outside.proofs.Tallies.{counted_after}
use Rattle.outside.proofs.mem_files.MemFilesFiles.create.Goals as goal

pub returns-clause-counted : goal.returns-clause-counted
returns-clause-counted c =
    subst (λ (calls : CallsInMemory). IsCounted c.args.name.now CountsNone calls c.count.new.self) (ap (λ (files : FilesInMemory). files.calls) c.self.view_is)
    (counted_after c.args.name.now c.self.inside.calls c.begin_write.new.self c.in_ok-place.ensures.begun c.count.new.self CountsNone (c.count.ensures c.args.name.now c.in_ok-place.ensures.place))
