-- What a node writes when it adds versions.
use Rattle.std.specs.Prelude.{◌≡◌, ◌<◌, ◌+◌, ℕ, Bool, true, List, length, All, Contains, slice_index, slice_index_or}
use Rattle.std.specs.List.{AllPairs}
use Rattle.quorum_rules.specs.Limits.{Numbers}
use Rattle.sqlite_disk.specs.Digest.{digest}
use Rattle.protocol.specs.Messages.{Version, Ask}
use Rattle.wire_forms.specs.declared.Request.TheVariants.{Write}
use Rattle.slab_layout.specs.Shapes.{shape_of}
use Rattle.slab_layout.specs.declared.head.Head.{Head}
use Rattle.slab_layout.specs.Heads.{head_bytes, HasPlace}
use Rattle.slab_layout.specs.Data.{data_of, HasDigests}
use Rattle.slab_node.specs.declared.batch.Fresh.{Fresh}
use Rattle.slab_node.specs.Batches.{HasSizes}
use Rattle.slab_index.specs.declared.kept.Kept.{Kept}
use Rattle.slab_index.specs.Kept.{kept_in, put_kept}
use Rattle.slab_index.specs.Slots.{kept_of}
use Rattle.slab_engine.specs.Seen.{listed}
use Rattle.slab_engine.specs.declared.plan.Plan.{Plan}
use Rattle.slab_engine.specs.declared.plan.Plan.TheVariants.{Adds}
use Rattle.slab_engine.specs.declared.batch.NewSlots.{NewSlots}
use Rattle.slab_engine.specs.declared.batch.Batch.{Batch}

-- free slots below one, each greater than the one before
pub record AreFreeBelow (fs : List Bool) (n : ℕ) (slots : List ℕ) : Type 0 where
  pub each : All (λ i. (i < n) × (listed fs i ≡ true)) slots
  pub ascend : AllPairs (λ i j. i < j) slots

-- so many free slots
pub record ArePicked (fs : List Bool) (slots : List ℕ) (wanted : ℕ) : Type 0 where
  pub count : length slots ≡ wanted
  pub each : All (λ i. (i < length fs) × (listed fs i ≡ true)) slots
  pub ascend : AllPairs (λ i j. i < j) slots

-- the numbers of the plans below one by which a version is added, in their order
pub record AreAddingBelow (plans : List Plan) (n : ℕ) (added : List ℕ) : Type 0 where
  pub each : All (λ i. (i < n) × ((d : Plan) → slice_index_or plans i d ≡ Adds)) added
  pub all : (i : ℕ) (d : Plan) → i < n → slice_index_or plans i d ≡ Adds → Contains added i
  pub ascend : AllPairs (λ i j. i < j) added

abbrev pub AreAdding : List Plan → List ℕ → Type 0
AreAdding plans added = AreAddingBelow plans (length plans) added

-- the ask writes a version with a digest for each node and a fragment of the cluster's length
pub record IsWriteOf (c : Numbers) (ask : Ask) (v : Version) : Type 0 where
  pub request : ask.request ≡ Write v
  pub sums : length v.sum ≡ c.n
  pub share : length v.fragment ≡ (shape_of c).share

-- the head of a version that gets a slot
abbrev pub head_for : ℕ → ℕ → Version → ℕ → Head
head_for key block v number = record { block = block; stamp = v.stamp; number = number; data_check = digest key (data_of v) }

-- what is written of a version into a slot, in a slab of this key
pub record IsFreshOf (c : Numbers) (key b : ℕ) (v : Version) (i n : ℕ) (f : Fresh) : Type 0 where
  pub slot : f.slot ≡ i
  pub head : f.head.items ≡ head_bytes key (head_for key b v n)
  pub body : f.data.items ≡ data_of v
  pub sizes : HasSizes (shape_of c) f
  pub place : HasPlace (head_for key b v n)
  pub digests : HasDigests c.n v

-- the slots of a block with that of the version
pub record IsNewOf (key : ℕ) (index : List (List Kept)) (b : ℕ) (v : Version) (i n : ℕ) (s : NewSlots) : Type 0 where
  pub block : s.block ≡ b
  pub slot : s.slot ≡ i
  pub list : s.list ≡ put_kept (kept_of i (head_for key b v n)) (kept_in index b)

-- what is written and remembered of an ask that adds a version
pub record IsAddedBy (c : Numbers) (key : ℕ) (index : List (List Kept)) (ask : Ask) (slot number : ℕ) (f : Fresh) (n : NewSlots) : Type 0 where
  pub version : Version
  pub write : IsWriteOf c ask version
  pub fresh : IsFreshOf c key ask.block version slot number f
  pub new : IsNewOf key index ask.block version slot number n

-- the first few asks of these numbers are added, in these slots, with numbers from one on
pub record IsBatchBelow (c : Numbers) (key : ℕ) (index : List (List Kept)) (asks : List Ask) (added slots : List ℕ) (next n : ℕ) (batch : Batch) : Type 0 where
  pub fresh_count : length batch.fresh.items ≡ n
  pub new_count : length batch.new.items ≡ n
  pub each : (k : ℕ) (d : Ask) (f : Fresh) (s : NewSlots) → k < n
      → IsAddedBy c key index (slice_index_or asks (slice_index added k) d) (slice_index slots k) (next + k) (slice_index_or batch.fresh.items k f) (slice_index_or batch.new.items k s)

-- all of them
abbrev pub IsBatchOf : Numbers → ℕ → List (List Kept) → List Ask → List ℕ → List ℕ → ℕ → Batch → Type 0
IsBatchOf c key index asks added slots next batch = IsBatchBelow c key index asks added slots next (length added) batch
