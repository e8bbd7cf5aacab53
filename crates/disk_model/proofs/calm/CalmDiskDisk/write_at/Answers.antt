use Rattle.std.proofs.Common.{◌++◌, ◌∷◌, [], ◌∙◌, ap}
use Rattle.disk_model.specs.Crash.{settled}
use Rattle.disk_model.specs.Kept.{Kept}
use Rattle.disk_model.specs.Memory.{Calm}
use Rattle.disk_model.proofs.lemmas.Past.{elapses_of_past, remembers_of_past}
use Rattle.disk_model.proofs.calm.CalmDiskDisk.write_at.Goals as goal

pub returns-clause-remembers : goal.returns-clause-remembers
returns-clause-remembers c =
    remembers_of_past (λ (d : Calm). d.past) (λ (d : Calm). settled d.bytes) c.args.self.now (record { bytes = c.overwrite.new.bytes.items; room = c.self.inside.room; past = c.settled-self-inside.result.kept.before })
    (ap (λ (k : Kept). k.before) c.settled-self-inside.ensures ∙ ap (λ (k : Kept). k.before) c.remember.ensures
    ∙ (λ i. c.self.inside.past.kept.before ++ c.self.invariant.2 i ∷ []) ∙ ap (λ (d : Calm). d.past ++ settled d.bytes ∷ []) c.self.view_is)

pub returns-clause-time : goal.returns-clause-time
returns-clause-time c =
    elapses_of_past (λ (d : Calm). d.past) (λ (d : Calm). settled d.bytes) c.args.self.now _
    (ap (λ (k : Kept). k.before) c.settled-self-inside.ensures ∙ ap (λ (k : Kept). k.before) c.remember.ensures
    ∙ (λ i. c.self.inside.past.kept.before ++ c.self.invariant.2 i ∷ []) ∙ ap (λ (d : Calm). d.past ++ settled d.bytes ∷ []) c.self.view_is)
