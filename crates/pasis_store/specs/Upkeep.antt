-- What is done with a store's nodes, and how it is looked after.
use Rattle.std.specs.Prelude.{◌≡◌, ℕ, ◌+◌, ◌-◌, ◌*◌, ◌<◌, ◌^◌, ◌&&◌, false, not, min, max, nat_le, if◌then◌else◌, Bool, List, length, Option, Some, Result, Ok, Err, OnOk}
use denote.Ref.{MutBor}
use Rattle.quorum_rules.specs.Limits.{Numbers}
use Rattle.disk_model.specs.Past.{LeftSince}
use Rattle.file_disk.specs.OnFile.{OnFile}
use Rattle.version_disk.specs.Compacted.{IsJournalOf}
use Rattle.version_disk.specs.Held.{held}
use Rattle.version_disk.specs.Stored.{Stored}
use Rattle.store_device.specs.Stores.{SeenStore, IsSound}
use Rattle.store_device.specs.Seating.{with_seat, IsReseated as IsReseatedOn}
use Rattle.store_device.specs.Steps.{IsTended as IsTendedOn}
use Rattle.store_care.specs.Filling.{groups_of}
use Rattle.store_care.specs.Pruning.{HavePassed}
use Rattle.store_care.specs.Remembered.{HasPrunedRemembered as HasPrunedRememberedOn}
use Rattle.store_care.specs.Settling.{unsettled, IsTriedOut, Try, TriesLead as TriesLeadOn}
use Rattle.store_front.specs.declared.connection.ConnectionEnd.{ConnectionEnd}
use Rattle.store_front.specs.Connections.{IsConnection as IsConnectionOn}

-- ---- a store whose disks are files

module _ {F : Type 0} where
  -- the cluster's node of this number sits there, and is up, and the disk has its shortest journal
  pub record Holds (c : Numbers) (number : ℕ) (disk : OnFile F) (seat : Option (Stored (OnFile F))) : Type 0 where
    pub node : Stored (OnFile F)
    pub there : seat ≡ Some node
    pub up : node.broken ≡ false
    pub config : node.node.config ≡ c
    pub numbered : node.node.number ≡ number
    pub journal : IsJournalOf node.node disk.bytes disk.most

  -- the node that these bytes hold sits at the seat then, on a disk that has it, safe from a crash
  pub record IsSeated (number : ℕ) (bytes : List ℕ) (old new : SeenStore (OnFile F)) : Type 0 where
    pub node : Stored (OnFile F)
    pub there : new ≡ with_seat old number (Some node)
    pub same : node.node ≡ held old.config number bytes
    pub whole : node.broken ≡ false
    pub sound : IsSound (λ d. d.pending) (λ d. d.bytes) old.config number node

  -- its nodes go on as they are, or are taken out
  abbrev pub IsReseated : SeenStore (OnFile F) → SeenStore (OnFile F) → Type 0
  IsReseated old new = IsReseatedOn (λ d. d.pending) (λ d. d.bytes) old new

  -- it is only looked after
  abbrev pub IsTended : SeenStore (OnFile F) → SeenStore (OnFile F) → Type 0
  IsTended old new = IsTendedOn (λ d. d.pending) (λ d. d.bytes) (λ d. d.most) (λ d. length d.past) (λ d. LeftSince d.past d.pending) old new

  -- each of its blocks of which it remembered a stamp, and some node kept more than so many versions, is pruned by the latest stamp; then it
  -- forgets all stamps
  abbrev pub HasPrunedRemembered : (most : ℕ) → SeenStore (OnFile F) → SeenStore (OnFile F) → Type 0
  HasPrunedRemembered most old new =
      HasPrunedRememberedOn (λ d. d.pending) (λ d. d.bytes) (λ d. d.most) (λ d. length d.past) (λ d. LeftSince d.past d.pending) most old new

  -- So it is; then group by group those of its blocks of which some node still kept more than so many versions are read and pruned; and then it
  -- is only looked after.
  abbrev pub IsPrunedFirst : (most : ℕ) → SeenStore (OnFile F) → SeenStore (OnFile F) → Type 0
  IsPrunedFirst most old new =
      (first : SeenStore (OnFile F)) × (mid : SeenStore (OnFile F))
      × HasPrunedRemembered most old first
      × HavePassed (λ d. d.pending) (λ d. d.bytes) (λ d. d.most) (λ d. length d.past) (λ d. LeftSince d.past d.pending) most (groups_of first.config.blocks) first mid
      × IsTended mid new

  -- groups of its blocks are tried to be settled, one after the other, and nothing else is done; where that ends well, each block was
  -- settled at some time of it, or was tried as often as may be
  abbrev pub IsTried : {A E : Type 0} → Result A E → SeenStore (OnFile F) → SeenStore (OnFile F) → Type 0
  IsTried result old new =
      (tries : List (Try (OnFile F)))
      × TriesLeadOn (λ d. d.pending) (λ d. d.bytes) (λ d. d.most) (λ d. length d.past) (λ d. LeftSince d.past d.pending) old tries new
      × OnOk result ((block : ℕ) → block < old.config.blocks → IsTriedOut old tries block)

  -- a connection in which it is only looked after between rounds
  abbrev pub IsConnection : Numbers → (old new : SeenStore (OnFile F)) → Result (Unit {0}) ConnectionEnd → (left left_after taken taken_after : Option (List ℕ)) → Type 0
  IsConnection c old new result left left_after taken taken_after =
      IsConnectionOn (λ d. d.pending) (λ d. d.bytes) (λ d. d.most) (λ d. length d.past) (λ d. LeftSince d.past d.pending) IsTended c old new left left_after taken taken_after result

  -- Before anything is read its blocks are tried to be settled, and all but so many are settled then. Behind that there is a connection, in
  -- which it is only looked after between rounds. Where memory lacks while blocks are settled nothing is read and nothing is written.
  abbrev pub IsServed : {E : Type 0} → (old new : SeenStore (OnFile F)) → Result (Result (Unit {0}) ConnectionEnd) E → (left left_after taken taken_after : Option (List ℕ)) → Type 0
  IsServed {E} old new (Ok end) left left_after taken taken_after =
      (mid : SeenStore (OnFile F)) × (count : ℕ)
      × IsTried {A = ℕ} {E = E} (Ok count) old mid
      × (count ≡ length (unsettled mid 0 mid.config.blocks))
      × IsConnection mid.config mid new end left left_after taken taken_after
  IsServed {E} old new (Err e) left left_after taken taken_after =
      IsTried {A = ℕ} {E = E} (Err e) old new × (left_after ≡ left) × (taken_after ≡ taken)

-- ---- when a store is looked after

-- how many bytes of requests were served since it was, where so many more are served now; no more than a word has
abbrev pub served_since : (since served : ℕ) → ℕ
served_since since served = min (since + served) (2 ^ 64 - 1)

-- it is to be, where no request waits and so many bytes were: as many as the device has, and no fewer than 2^20
abbrev pub is_due : Numbers → ℕ → Bool → Bool
is_due c since is_ready = not is_ready && nat_le (max (2 ^ 20) (c.size * c.blocks)) since

-- it remembers many stamps, and no request waits
abbrev pub is_full : {D : Type 0} → SeenStore D → Bool → Bool
is_full store is_ready = not is_ready && nat_le 65_536 (length store.acknowledged)

-- how many were, behind that
abbrev pub since_then : Numbers → ℕ → Bool → ℕ
since_then c since is_ready = if is_due c since is_ready then 0 else since

-- ---- a closure that looks after a store

-- it may be called
abbrev pub MayTend : {U S : Type 0} → (MutBor U → MutBor S → ℕ → Bool → Type 0) → Type 0
MayTend {U} {S} pre = (upkeep : MutBor U) (store : MutBor S) (served : ℕ) (is_ready : Bool) → pre upkeep store served is_ready

-- a call does this to the store
abbrev pub DoesTend : {U S E : Type 0} → (MutBor U → MutBor S → ℕ → Bool → Result (Unit {0}) E → MutBor U → MutBor S → Type 0) → (S → S → Type 0) → Type 0
DoesTend {U} {S} {E} post does =
    (upkeep : MutBor U) (store : MutBor S) (served : ℕ) (is_ready : Bool) (result : Result (Unit {0}) E) (upkeep_after : MutBor U) (store_after : MutBor S)
    → served < 2 ^ 64
    → post upkeep store served is_ready result upkeep_after store_after
    → does store.now store_after.now

-- the cluster's numbers stay
abbrev pub HasConfigOf : {D : Type 0} → SeenStore D → SeenStore D → Type 0
HasConfigOf old new = new.config ≡ old.config
