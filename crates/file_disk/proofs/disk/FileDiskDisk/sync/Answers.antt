use Rattle.std.proofs.Common.{◌++◌, ◌∷◌, [], ◌∙◌, ap}
use Rattle.disk_model.specs.Kept.{Kept}
use Rattle.disk_model.proofs.lemmas.Past.{elapses_of_past, remembers_of_past}
use Rattle.file_disk.specs.OnFile.{OnFile}
use Rattle.file_disk.proofs.disk.FileDiskDisk.sync.Goals as goal

pub returns-clause-remembers : goal.returns-clause-remembers
returns-clause-remembers g c =
    remembers_of_past (λ (d : OnFile g.row.F.Denot). d.past) (λ (d : OnFile g.row.F.Denot). d.pending) c.args.self.now (record c.args.self.now { pending = c.settled-self-inside.result.kept.now; past = c.settled-self-inside.result.kept.before })
    (ap (λ (k : Kept). k.before) c.settled-self-inside.ensures ∙ ap (λ (k : Kept). k.before) c.remember.ensures ∙ ap (λ (d : OnFile g.row.F.Denot). d.past ++ d.pending ∷ []) c.self.view_is)

pub returns-clause-time : goal.returns-clause-time
returns-clause-time g c =
    elapses_of_past (λ (d : OnFile g.row.F.Denot). d.past) (λ (d : OnFile g.row.F.Denot). d.pending) c.args.self.now _
    (ap (λ (k : Kept). k.before) c.settled-self-inside.ensures ∙ ap (λ (k : Kept). k.before) c.remember.ensures ∙ ap (λ (d : OnFile g.row.F.Denot). d.past ++ d.pending ∷ []) c.self.view_is)
