-- How a file is opened as a disk, step by step, and what refuses it, by what the system has answered.
use Rattle.std.specs.Prelude.{◌≡◌, ◌≢◌, ◌⊎◌, ◌<◌, ◌≤◌, ℕ, ⊤, true, false, List, length, None, Some}
use Rattle.file_disk.specs.declared.opening.Opening.{Opening}
use Rattle.file_disk.specs.declared.opening.Opening.TheVariants.{Existing, ExistingOrNew, Emptied}
use Rattle.file_disk.specs.declared.refusal.FileRefusal.{FileRefusal}
use Rattle.file_disk.specs.declared.refusal.FileRefusal.TheVariants.{Missing, NotPlain, Locked, Replaced, TooLong, NoMemory, Fault}
use Rattle.file_disk.specs.declared.standing.Standing.TheVariants.{Nothing, PlainFile, Other}
use Rattle.file_disk.specs.Answers.{FileAnswer, Locks, Measures, Empties, Settles, Reads, CallFails}
use Rattle.file_disk.specs.Answers.{SystemAnswer, Stands, Finds, Opens, Leads, SyncsFolder, PathFails}

module _ {F : Type 0} (system : SystemAnswer F → Type 0) (path : List ℕ) where
  -- a plain file stood at the path, or nothing where a file may be made
  abbrev pub MayBeOpened : Opening → Type 0
  MayBeOpened how = system (Stands path PlainFile) ⊎ ((how ≢ Existing) × system (Stands path Nothing))

  -- the file was opened at the path; where one is to be there already, none was made
  abbrev pub WasOpened : Opening → F → Type 0
  WasOpened Existing f = system (Finds path (Some f))
  WasOpened ExistingOrNew f = system (Opens path f)
  WasOpened Emptied f = system (Opens path f)

  -- first step: it is found
  pub record IsFound (how : Opening) (f : F) : Type 0 where
    pub stood : MayBeOpened how
    pub opened : WasOpened how f

  abbrev pub IsNotFound : Opening → FileRefusal → Type 0
  IsNotFound how Missing = (how ≡ Existing) × (system (Stands path Nothing) ⊎ system (Finds path None))
  IsNotFound how NotPlain = system (Stands path Other)
  IsNotFound how Fault = system PathFails
  IsNotFound how _ = ⊥

module _ {F : Type 0} (system : SystemAnswer F → Type 0) (file : F → FileAnswer → Type 0) (path : List ℕ) where
  -- second step: this handle has it locked, and the path led to it then
  pub record IsHeld (f : F) : Type 0 where
    pub locked : file f (Locks true)
    pub there : system (Leads path f true)

  abbrev pub IsNotHeld : F → FileRefusal → Type 0
  IsNotHeld f Locked = file f (Locks false)
  IsNotHeld f Replaced = file f (Locks true) × system (Leads path f false)
  IsNotHeld f Fault = file f CallFails ⊎ system PathFails
  IsNotHeld f _ = ⊥

module _ {F : Type 0} (file : F → FileAnswer → Type 0) where
  -- third step: it has so many bytes, none where it was emptied
  abbrev pub HasCount : Opening → ℕ → F → ℕ → Type 0
  HasCount Existing most f count = file f (Measures (Some count)) × (count ≤ most)
  HasCount ExistingOrNew most f count = file f (Measures (Some count)) × (count ≤ most)
  HasCount Emptied most f count = (n : ℕ) × file f (Measures (Some n)) × file f Empties × (count ≡ 0)

  abbrev pub HasNoCount : Opening → ℕ → F → FileRefusal → Type 0
  HasNoCount how most f NotPlain = file f (Measures None)
  HasNoCount how most f TooLong = (how ≢ Emptied) × ((n : ℕ) × file f (Measures (Some n)) × (most < n))
  HasNoCount how most f Fault = file f CallFails
  HasNoCount how most f _ = ⊥

module _ {F : Type 0} (system : SystemAnswer F → Type 0) (file : F → FileAnswer → Type 0) (path : List ℕ) where
  -- last step: it and its folder were synced, and a read gave these bytes
  pub record IsRead (f : F) (bytes : List ℕ) : Type 0 where
    pub settled : file f Settles
    pub folder : system (SyncsFolder path)
    pub read : file f (Reads bytes)

  abbrev pub IsNotRead : F → FileRefusal → Type 0
  IsNotRead f NoMemory = ⊤
  IsNotRead f Fault = file f CallFails ⊎ system PathFails
  IsNotRead f _ = ⊥

  -- a file that is opened as a disk of these bytes went through all the steps
  pub record IsOpened (how : Opening) (most : ℕ) (f : F) (bytes : List ℕ) : Type 0 where
    pub found : IsFound system path how f
    pub held : IsHeld system file path f
    pub count : HasCount file how most f (length bytes)
    pub read : IsRead f bytes

  -- a refusal comes from an answer at one step, when the file went through those before it
  pub data IsRefused (how : Opening) (most : ℕ) (why : FileRefusal) : Type 0 where
    unfound : IsNotFound system path how why → IsRefused how most why
    unheld : (f : F) → IsFound system path how f → IsNotHeld system file path f why → IsRefused how most why
    uncounted : (f : F) → IsFound system path how f → IsHeld system file path f
        → HasNoCount file how most f why → IsRefused how most why
    unread : (f : F) (count : ℕ) → IsFound system path how f → IsHeld system file path f
        → HasCount file how most f count → IsNotRead f why → IsRefused how most why
