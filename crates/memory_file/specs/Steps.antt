-- What the steps of a file make of its bytes, and what a crash may leave after them.
use Rattle.std.specs.Prelude.{◌≡◌, ◌⊎◌, ℕ, ◌≤◌, Bool, List, [], ◌∷◌, ◌++◌, length, take}
use Rattle.sqlite_disk.specs.Disk.{Torn}
use Rattle.memory_file.specs.declared.step.Step.{Step}
use Rattle.memory_file.specs.declared.step.Step.TheVariants.{Wrote, Lengthened, Synced}
use Rattle.memory_file.specs.Pieces.{put_piece, lengthened}

-- the bytes after a step
abbrev pub seen_after : Step → List ℕ → List ℕ
seen_after (Wrote at piece) bytes = put_piece bytes at piece
seen_after (Lengthened len) bytes = lengthened bytes len
seen_after Synced bytes = bytes

-- a crash after a step may leave c of bytes b that one before it could leave: a write may be torn, and a sync makes all that was seen safe
abbrev pub Tears : Step → List ℕ → List ℕ → List ℕ → Type 0
Tears (Wrote at piece) bytes b c = Torn at (length piece) b c
Tears (Lengthened len) bytes b c = Torn len 0 b c
Tears Synced bytes b c = c ≡ bytes

-- what a crash after a step may leave, where before it it could leave what has P
abbrev pub LeftAfter : Step → List ℕ → (List ℕ → Type 0) → List ℕ → Type 0
LeftAfter s bytes P c = (b : List ℕ) × P b × Tears s bytes b c

-- the same of many steps
abbrev pub replayed : List ℕ → List Step → List ℕ
replayed bytes [] = bytes
replayed bytes (s ∷ steps) = replayed (seen_after s bytes) steps

abbrev pub LeftBy : List ℕ → (List ℕ → Type 0) → List Step → List ℕ → Type 0
LeftBy bytes P [] c = P c
LeftBy bytes P (s ∷ steps) c = LeftBy (seen_after s bytes) (LeftAfter s bytes P) steps c

-- a file: its first bytes, which were safe, all steps since, whether no sync has failed, and how many calls have
pub record Recorded : Type 0 where
  pub first : List ℕ
  pub steps : List Step
  pub usable : Bool
  pub faults : ℕ

-- what a read gives
abbrev pub seen_of : Recorded → List ℕ
seen_of f = replayed f.first f.steps

-- what a crash may leave after the first n steps
abbrev pub LeftAt : Recorded → ℕ → List ℕ → Type 0
LeftAt f n c = LeftBy f.first (λ b. b ≡ f.first) (take n f.steps) c

-- what one may leave after all of them
abbrev pub Leaves : Recorded → List ℕ → Type 0
Leaves f c = LeftBy f.first (λ b. b ≡ f.first) f.steps c

-- the moment is the number of steps
abbrev pub moment_of : Recorded → ℕ
moment_of f = length f.steps

-- what a crash after so many steps or more could leave
abbrev pub LeftSince : Recorded → ℕ → List ℕ → Type 0
LeftSince f t c = (n : ℕ) × (t ≤ n) × (n ≤ length f.steps) × LeftAt f n c

-- a write of n bytes was done, or a part of it, or nothing
pub record WroteSome (at n : ℕ) (old new : Recorded) : Type 0 where
  pub first : new.first ≡ old.first
  pub usable : new.usable ≡ old.usable
  pub steps : (new.steps ≡ old.steps) ⊎ ((part : List ℕ) × (length part ≤ n) × (new.steps ≡ old.steps ++ Wrote at part ∷ []))
