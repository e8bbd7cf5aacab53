-- What is seen of a file of the system.
use Rattle.std.specs.Prelude.{◌≡◌, ℕ, Bool, [], ◌∷◌}
use Rattle.sqlite_disk.specs.declared.calls.Calls as calls
use Rattle.sqlite_disk.specs.Events.{settled, replay}
use Rattle.system_file.specs.declared.contents.FirstContents.{Ghosts}
use Rattle.system_file.specs.declared.host_file.HostFile.{HostFile}
use Rattle.system_file.specs.declared.recorded_file.RecordedFile.{RecordedFile}

module _ {S : Type 0} {g : calls.Ghosts HostFile} {contents : Ghosts S} where
  -- its member `is_usable`
  abbrev pub file_is_usable : RecordedFile HostFile S g contents → Bool
  file_is_usable f = (replay (contents.of_node f.number) f.calls.log.events).is_usable

  -- it is the file of this node, was just opened, and nothing has happened since
  pub record IsJustOpened (number : ℕ) (f : RecordedFile HostFile S g contents) : Type 0 where
    pub node : f.number ≡ number
    pub calls : f.calls.log.events ≡ settled 0 ∷ []
