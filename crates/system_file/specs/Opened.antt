-- How the file of a node is opened, and what refuses it, by what the system has answered.
use Rattle.std.specs.Prelude.{◌⊎◌, ℕ, true, false, List, Option, None, Some}
use Rattle.file_disk.specs.declared.standing.Standing.TheVariants.{Nothing, Other}
use Rattle.file_disk.specs.Answers.{FileAnswer, Locks, Measures, Settles, CallFails}
use Rattle.file_disk.specs.Answers.{SystemAnswer, Stands, Finds, Leads, SyncsFolder, PathFails}
use Rattle.file_disk.specs.Refused.{IsHeld}
use Rattle.system_file.specs.declared.open_refusal.OpenRefusal.{OpenRefusal}
use Rattle.system_file.specs.declared.open_refusal.OpenRefusal.TheVariants.{Missing, Exists, NotPlain, Locked, Replaced, Fault}

module _ {F : Type 0} (system : SystemAnswer F → Type 0) (file : F → FileAnswer → Type 0) (path : List ℕ) where
  -- the file is locked, the path led to it then, it is plain, and it and its folder were synced
  pub record IsReady (f : F) : Type 0 where
    pub held : IsHeld system file path f
    pub plain : (n : ℕ) × file f (Measures (Some n))
    pub settled : file f Settles
    pub folder : system (SyncsFolder path)

  -- why the open file isn't ready
  abbrev pub IsUnready : F → OpenRefusal → Type 0
  IsUnready f NotPlain = file f (Measures None)
  IsUnready f Locked = file f (Locks false)
  IsUnready f Replaced = file f (Locks true) × system (Leads path f false)
  IsUnready f (Fault error) = file f CallFails ⊎ system PathFails
  IsUnready f _ = ⊥

module _ {F : Type 0} (system : SystemAnswer F → Type 0) (path : List ℕ) where
  -- why none was opened where one is to be there
  abbrev pub IsNotThere : OpenRefusal → Type 0
  IsNotThere Missing = system (Stands path Nothing) ⊎ system (Finds path None)
  IsNotThere NotPlain = system (Stands path Other)
  IsNotThere (Fault error) = system PathFails
  IsNotThere _ = ⊥

module _ {F : Type 0} (made : List ℕ → Option F → Type 0) (failed : Type 0) (path : List ℕ) where
  -- why none was made
  abbrev pub IsNotMade : OpenRefusal → Type 0
  IsNotMade Exists = made path None
  IsNotMade (Fault error) = failed
  IsNotMade _ = ⊥
