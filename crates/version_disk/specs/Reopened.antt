-- What a crash leaves of a disk that is being opened.
use Rattle.std.specs.Prelude.{◌≡◌, ◌⊎◌, List, ℕ}
use Rattle.quorum_rules.specs.Limits.{Numbers}
use Rattle.disk_model.specs.Crash.{Pending, MayLeave}
use Rattle.version_disk.specs.Held.{slots_of}

-- what a crash could leave before the call, or the slots that the disk had
abbrev pub IsStillThere : Numbers → Pending → List ℕ → List ℕ → Type 0
IsStillThere c before bytes left = MayLeave before left ⊎ (slots_of c left ≡ slots_of c bytes)
