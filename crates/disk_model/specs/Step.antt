-- What a disk keeps of its past, as its steps make it.
use Rattle.std.specs.Prelude.{ℕ, List, [], ◌∷◌, ◌++◌}
use Rattle.disk_model.specs.Crash.{settled, with_range}
use Rattle.disk_model.specs.Kept.{Kept}
use Rattle.disk_model.specs.declared.disk_past.DiskStep.{DiskStep}
use Rattle.disk_model.specs.declared.disk_past.DiskStep.TheVariants.{Begins, IsRemembered, Writes, Settles, IsCopied}

-- after one step, with the bytes of the disk then
abbrev pub after : DiskStep → List ℕ → Kept → Kept
after Begins bytes kept = record { now = settled bytes; before = [] }
after IsRemembered bytes kept = record { now = kept.now; before = kept.before ++ kept.now ∷ [] }
after (Writes range) bytes kept = record { now = with_range range.at range.count kept.now; before = kept.before }
after Settles bytes kept = record { now = settled bytes; before = kept.before }
after IsCopied bytes kept = kept
