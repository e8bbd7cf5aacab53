-- What a new node is asked to keep of what reads gave, and what is counted of it.
use Rattle.std.specs.Prelude.{◌≡◌, ◌⊎◌, ◌<◌, ℕ, zero, suc, ◌+◌, ◌-◌, ◌^◌, ◌*◌, ◌/◌, ◌==◌, ⊤, min, true, false, if◌then◌else◌, List, [], ◌∷◌, ◌++◌, length, slice_index_or, Option}
use Rattle.std.specs.declared.option.Option.TheVariants.{None, Some}
use Rattle.quorum_rules.specs.Limits.{Numbers, IsValid}
use Rattle.gf_field.specs.Fragments.{fragments_of}
use Rattle.ida_code.specs.Sums.{sum_of}
use Rattle.wire_forms.specs.declared.op.Op.{Op}
use Rattle.wire_forms.specs.declared.Request.TheVariants.{Write}
use Rattle.wire_forms.specs.declared.Reply.TheVariants.{Ack}
use Rattle.protocol.specs.Instance.{setting}
use Rattle.protocol.specs.Messages.{Version, Ask, Reply}
use Rattle.protocol.specs.Operations.{Outcome}
use Rattle.node_core.specs.Seen.{new_node, versions_in}
use Rattle.disk_model.specs.Crash.{Pending, settled}
use Rattle.version_disk.specs.Held.{held}
use Rattle.version_disk.specs.Deeds.{after_asks, replies_of}
use Rattle.version_disk.specs.Stored.{Stored}
use Rattle.block_phases.specs.Executions.{StampedValue}
use Rattle.block_turns.specs.Lives.{renewed}
use Rattle.store_device.specs.Lives.{Moment, IsLife, NoneClash}
use Rattle.store_device.specs.Sessions.{given_in}
use Rattle.store_device.specs.Calls.{Call, AreTurnsBy}
use Rattle.store_device.specs.Calls.Deed.{Performs}
use Rattle.store_care.specs.Given.{Given, block_at}
use Rattle.store_care.specs.Looking.{IsReading}
use Rattle.store_care.specs.Tallies.{one_more, given_at, failed_reads}
use Rattle.store_care.specs.declared.filling.Filled.{Filled}

module _ (c : Numbers) (number : ℕ) where
  -- the version of what a read gave that the node of this number keeps
  abbrev pub version_for : Given → Version
  version_for g = record { stamp = g.stamp; sum = sum_of c.n c.m g.value; fragment = slice_index_or (fragments_of c.n c.m g.value) number [] }

  -- that it is asked to keep it; nothing where the read gave nothing, or the first version, of time 0, that each node has by itself
  abbrev pub asks_by : ℕ → Option Given → List Ask
  asks_by block None = []
  asks_by block (Some g) = if g.stamp.time == 0 then [] else (record { block = block; request = Write (version_for g) } ∷ [])

  -- what it is asked to keep of what this many reads gave
  abbrev pub asks_for : List Op → List (Option Outcome) → ℕ → List Ask
  asks_for reads outcomes zero = []
  asks_for reads outcomes (suc k) = asks_for reads outcomes k ++ asks_by (block_at reads k) (given_at c.size outcomes k)

-- nothing was kept or missed yet
abbrev pub nothing : Filled
nothing = record { kept = 0; missed = 0 }

-- one block more was kept where the node acknowledged it, or else missed
abbrev pub with_reply : Filled → Reply → Filled
with_reply filled Ack = record filled { kept = one_more filled.kept }
with_reply filled _ = record filled { missed = one_more filled.missed }

-- this is counted of the answers
abbrev pub with_replies : Filled → List Reply → Filled
with_replies filled [] = filled
with_replies filled (reply ∷ replies) = with_replies (with_reply filled reply) replies

-- more that were missed
abbrev pub with_missed : Filled → ℕ → Filled
with_missed filled more = record filled { missed = min (filled.missed + more) (2 ^ 64 - 1) }

module _ {E : Type 0} (pending : E → Pending) (seen : E → List ℕ) where
  -- The node was asked this. It was up, answered, and its disk has what it keeps since, safe from a crash; or it refused: then it is as it
  -- was, or its disk failed, and all that it was asked is missed.
  abbrev pub HasKept : List Ask → (old new : Filled) → (was is : Stored E) → Type 0
  HasKept asks old new was is =
      ((is.node ≡ after_asks was.node asks) × (held was.node.config was.node.number (seen is.disk) ≡ is.node)
      × (pending is.disk ≡ settled (seen is.disk)) × (new ≡ with_replies old (replies_of was.node asks))
      × (was.broken ≡ false) × (is.broken ≡ false))
      ⊎ (((is ≡ was) ⊎ (is.broken ≡ true)) × (new ≡ with_missed old (length asks)))

  module _ {D : Type 0} (c : Numbers) (number : ℕ) where
    -- the blocks were read in this call, those of which the read gave nothing are missed, and of the others the node was asked to keep what
    -- the read gave
    pub record IsFilling (call : Call D) (old new : Filled) (was is : Stored E) : Type 0 where
      pub reads : List Op
      pub outcomes : List (Option Outcome)
      pub read : call.deed ≡ Performs reads (Some outcomes)
      pub kept : HasKept (asks_for c number reads outcomes (length reads))
          (record old { missed = failed_reads c.size outcomes (length reads) old.missed }) new was is

    -- and in these, one after the other
    abbrev pub AreFilling : List (Call D) → (old new : Filled) → (was is : Stored E) → Type 0
    AreFilling [] old new was is = (new ≡ old) × (is ≡ was)
    AreFilling (call ∷ calls) old new was is =
        (mid : Filled) × (between : Stored E) × IsFilling call old mid was between × AreFilling calls mid new between is

-- the groups of at most 64 blocks in which a device's blocks are read
abbrev pub first_of : (blocks group : ℕ) → ℕ
first_of blocks group = min blocks (group * 64)

abbrev pub count_of : (blocks group : ℕ) → ℕ
count_of blocks group = min 64 (blocks - first_of blocks group)

abbrev pub groups_of : ℕ → ℕ
groups_of blocks = (blocks + 63) / 64

module _ {D : Type 0} where
  -- the calls read the blocks of groups, from this one on
  abbrev pub AreGroups : (blocks group : ℕ) → List (Call D) → Type 0
  AreGroups blocks group [] = ⊤
  AreGroups blocks group (call ∷ calls) =
      IsReading (first_of blocks group) (count_of blocks group) call × AreGroups blocks (group + 1) calls

  -- the call reads so many blocks, from one on, and is the only one, if there is one
  abbrev pub AreFill : (first count : ℕ) → List (Call D) → Type 0
  AreFill first count [] = ⊤
  AreFill first count (read ∷ []) = IsReading first count read
  AreFill first count _ = ⊥

module _ {E : Type 0} (pending : E → Pending) (seen : E → List ℕ) (c : Numbers) (number : ℕ) (bytes : List ℕ) where
  -- the node of this number, as the bytes of its disk held it, safe from a crash
  pub record IsOpened (node : Stored E) : Type 0 where
    pub state : node.node ≡ held c number bytes
    pub whole : node.broken ≡ false
    pub on_disk : held c number (seen node.disk) ≡ node.node
    pub durable : pending node.disk ≡ settled (seen node.disk)

  -- A disk with these bytes was filled in these calls: it couldn't be opened, and all blocks are missed, or it was, and all blocks were read.
  abbrev pub HasFilledBy : {D : Type 0} → List (Call D) → Filled → Option (Stored E) → Type 0
  HasFilledBy calls filled None = (calls ≡ []) × (filled ≡ record { kept = 0; missed = c.blocks })
  HasFilledBy calls filled (Some node) =
      (opened : Stored E) × IsOpened opened × (length calls ≡ groups_of c.blocks)
      × AreFilling pending seen c number calls nothing filled opened node

-- A disk that held nothing but first versions was filled, and no block was missed. Then it keeps of each block the first version and that of
-- the latest acknowledged operation, as a rebuilt node does.
abbrev pub FilledAreRebuilt : (D : Type 0) {E : Type 0} (pending : E → Pending) (seen : E → List ℕ) → Type 0
FilledAreRebuilt D {E} pending seen =
    (c : Numbers) (number : ℕ) (bytes : List ℕ) (life more : List Moment) (calls : List (Call D)) (filled : Filled) (node : Stored E)
    → IsValid c
    → IsLife c (life ++ more)
    → AreTurnsBy calls more
    → AreGroups c.blocks 0 calls
    → held c number bytes ≡ new_node c number
    → HasFilledBy pending seen c number bytes calls filled (Some node)
    → filled.missed ≡ 0
    → node.broken ≡ false
    → (block : ℕ)
    → block < c.blocks
    → NoneClash c block (life ++ more)
    → (x : StampedValue) × (earlier : List StampedValue) × (given_in c (life ++ more) block ≡ x ∷ earlier)
    × (versions_in node.node block ≡ renewed (setting c) x number)
