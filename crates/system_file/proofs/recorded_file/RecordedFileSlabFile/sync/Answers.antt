use Rattle.std.proofs.Common.{true}
use Rattle.system_file.proofs.Recording.{sync_leaves}
use Rattle.system_file.proofs.recorded_file.RecordedFileSlabFile.sync.Goals as goal

pub returns-in-Ok-clause-crash : goal.returns-in-Ok-clause-crash
returns-in-Ok-clause-crash g c =
    let start = g.S.FirstContents.of_node c.args.self.now.number in
    rw c.in-Ok.ensures (λ left may. sync_leaves start (g.C.Calls.history c.args.self.now.calls) true 0 left may)
