-- Whether a history is one of plain registers, and its first flaw.
use Rattle.std.specs.Prelude.{◌≡◌, ◌≢◌, ◌⊎◌, ℕ, ◌+◌, ◌<◌, ◌≤◌, List, [], ◌∷◌, length, map, replicate, slice_get, slice_index_or}
use Rattle.std.specs.declared.option.Option.TheVariants.{Some}
use Rattle.protocol.specs.History.{Entry as FullEntry, LegalFrom}
use Rattle.history_making.specs.Kinds.{full_kind}
use Rattle.history_making.specs.declared.entry.Kind.TheVariants.{Read}
use Rattle.history_making.specs.declared.entry.Entry.{Entry}
use Rattle.history_book.specs.declared.judging.FlawKind.{FlawKind}
use Rattle.history_book.specs.declared.judging.FlawKind.TheVariants.{Value, Time}
use Rattle.history_book.specs.declared.judging.Flaw.{Flaw}

-- ---- without a flaw

-- an entry in the words of runs. The mark tells verifiers apart, and stands for the verifier
abbrev pub entry_of : Entry → FullEntry
entry_of e = record { block = e.block; stamp = record { time = e.time; client = e.writer; verifier = e.mark ∷ [] }; kind = full_kind e.kind; client = e.client; start = e.start; end = e.end; value = e.value }

-- zeros of the length that the values have
abbrev pub zeros_of : List Entry → List ℕ
zeros_of [] = []
zeros_of (e ∷ es) = replicate (length e.value) 0

-- legal, each block having zeros at first
abbrev pub IsLegal : List Entry → Type 0
IsLegal entries = LegalFrom (λ block. zeros_of entries) (map entry_of entries)

-- of two different entries of one block, the one that ended before the other began stands before it
abbrev pub AreInTime : List FullEntry → Type 0
AreInTime h =
    (i j : ℕ) (d : FullEntry) → i < length h → j < length h → i ≢ j → (slice_index_or h i d).block ≡ (slice_index_or h j d).block
    → (end start : ℕ) → (slice_index_or h i d).end ≡ Some end → (slice_index_or h j d).start ≡ Some start → end < start → i < j

-- no entry ends before it starts
abbrev pub EachEndsAfterItsStart : List FullEntry → Type 0
EachEndsAfterItsStart h =
    (i : ℕ) (d : FullEntry) → i < length h → (end start : ℕ) → (slice_index_or h i d).end ≡ Some end → (slice_index_or h i d).start ≡ Some start → start ≤ end

abbrev pub IsInTime : List Entry → Type 0
IsInTime entries = AreInTime (map entry_of entries)

-- ---- flaws, by the places of two entries from 0

-- no entry of the block before the place writes
abbrev pub HasNoWrite : List Entry → ℕ → ℕ → Type 0
HasNoWrite entries block place = (k : ℕ) (e : Entry) → k < place → slice_get entries k ≡ Some e → e.block ≡ block → e.kind ≡ Read

-- the last write or foreign write of the block before the place
pub record IsLastWrite (entries : List Entry) (block place at : ℕ) (write : Entry) : Type 0 where
  pub before : at < place
  pub there : slice_get entries at ≡ Some write
  pub of_block : write.block ≡ block
  pub writes : write.kind ≢ Read
  pub last : (k : ℕ) (e : Entry) → at < k → k < place → slice_get entries k ≡ Some e → e.block ≡ block → e.kind ≡ Read

-- the value isn't that of the last write, which is the first place
pub record DiffersFromWrite (entries : List Entry) (read : Entry) (first second : ℕ) : Type 0 where
  pub write : Entry
  pub last : IsLastWrite entries read.block second first write
  pub differs : read.value ≢ write.value

-- there is no write, and the value isn't zeros: the first place is the read's own
pub record DiffersFromZeros (entries : List Entry) (read : Entry) (first second : ℕ) : Type 0 where
  pub own : first ≡ second
  pub none : HasNoWrite entries read.block second
  pub differs : read.value ≢ zeros_of entries

-- the second is a read that doesn't give its block's value
pub record IsValueFlaw (entries : List Entry) (first second : ℕ) : Type 0 where
  pub read : Entry
  pub there : slice_get entries second ≡ Some read
  pub reads : read.kind ≡ Read
  pub wrong : DiffersFromWrite entries read first second ⊎ DiffersFromZeros entries read first second

-- the first stands before the second, which ended before it began
pub record IsTimeFlaw (entries : List Entry) (first second : ℕ) : Type 0 where
  pub order : first < second
  pub earlier : Entry
  pub later : Entry
  pub there : slice_get entries first ≡ Some earlier
  pub there_too : slice_get entries second ≡ Some later
  pub block : earlier.block ≡ later.block
  pub start : ℕ
  pub end : ℕ
  pub starts : earlier.start ≡ Some start
  pub ends : later.end ≡ Some end
  pub before : end < start

abbrev pub IsFlaw : FlawKind → List Entry → ℕ → ℕ → Type 0
IsFlaw Value entries first second = IsValueFlaw entries first second
IsFlaw Time entries first second = IsTimeFlaw entries first second

-- no flaw has its second place before this one
abbrev pub HasNoFlaw : List Entry → ℕ → Type 0
HasNoFlaw entries place = (kind : FlawKind) (first second : ℕ) → IsFlaw kind entries first second → place ≤ second

-- a flaw of this kind with this second place, and the least first place of these
pub record IsLeastFlaw (kind : FlawKind) (entries : List Entry) (first second : ℕ) : Type 0 where
  pub is : IsFlaw kind entries first second
  pub least : (i : ℕ) → IsFlaw kind entries i second → first ≤ i

-- the flaw with the least second place; of its flaws one of the value before one of the time; of these the least first place
pub record IsFirstFlaw (kind : FlawKind) (entries : List Entry) (first second : ℕ) : Type 0 where
  pub flaw : IsLeastFlaw kind entries first second
  pub none_before : HasNoFlaw entries second
  pub value_first : kind ≡ Time → (i : ℕ) → IsValueFlaw entries i second → ⊥

-- the flaw tells the first one, by entries numbered from 1
abbrev pub TellsFirstFlaw : List Entry → Flaw → Type 0
TellsFirstFlaw entries flaw = (first : ℕ) × (second : ℕ) × (flaw.first ≡ first + 1) × (flaw.second ≡ second + 1) × IsFirstFlaw flaw.kind entries first second
