-- The history of a run, and what makes it one of plain registers.
use Rattle.std.specs.Prelude.{◌≡◌, ◌≢◌, ◌⊎◌, ◌↔◌, ℕ, ◌<◌, ◌≤◌, true, List, [], ◌∷◌, length, Option, slice_index_or}
use Rattle.std.specs.declared.option.Option.TheVariants.{None, Some}
use Rattle.std.specs.declared.cmp.Ordering.{Ordering}
use Rattle.std.specs.declared.cmp.Ordering.TheVariants.{Less, Equal, Greater}
use Rattle.std.specs.Ordering.{nat_cmp, then_cmp, on}
use Rattle.std.specs.List.{Contains, AllByRecursion}
use Rattle.protocol.specs.Count.{update}
use Rattle.stamp_order.specs.declared.Stamp.{Stamp}
use Rattle.stamp_order.specs.Stamps.{stamp_cmp}
use Rattle.protocol.specs.Messages.{flat, Version, Request, Reply, Body, Message}
use Rattle.wire_forms.specs.declared.Request.TheVariants.{Time, Read as AskRead, Write as AskWrite}
use Rattle.wire_forms.specs.declared.Reply.TheVariants.{Found}
use Rattle.wire_forms.specs.declared.Body.TheVariants.{Ask as Asks, Answer as Answers}
use Rattle.protocol.specs.Setting.{Setting, zeros, first_stamp}
use Rattle.protocol.specs.Operations.{How}
use Rattle.protocol.specs.Operations.Work.{Writes}
use Rattle.run_words.specs.declared.outcome.Outcome.TheVariants.{Wrote, Gave}
use Rattle.protocol.specs.World.{Record, World}

-- what an entry is
pub data Kind : Type 0 where
  Write : Kind
  Foreign : Kind
  Read : Kind

-- an entry of a history
pub record Entry : Type 0 where
  pub block : ℕ
  pub stamp : Stamp
  pub kind : Kind
  pub client : ℕ
  pub start : Option ℕ
  pub end : Option ℕ
  pub value : List ℕ

-- the entry of this kind, stamp and value that an operation's record makes
abbrev pub entry_as : Record → Kind → Stamp → List ℕ → Entry
entry_as r kind stamp value = record {
  block = r.block;
  stamp = stamp;
  kind = kind;
  client = r.client;
  start = Some r.start;
  end = r.end;
  value = value;
}

-- the entry of a read that gave this
abbrev pub read_entry : Record → Stamp → List ℕ → Entry
read_entry r stamp value = entry_as r Read stamp value

-- the entry of a write of a correct client
abbrev pub write_entry : Record → Stamp → List ℕ → Entry
write_entry r stamp value = entry_as r Write stamp value

-- the entry of a write that a read saw and no correct client made
abbrev pub foreign_entry : ℕ → Stamp → List ℕ → Entry
foreign_entry block stamp value = record {
  block = block;
  stamp = stamp;
  kind = Foreign;
  client = stamp.client;
  start = None;
  end = None;
  value = value;
}

-- writes before reads
abbrev pub is_read : Kind → ℕ
is_read Write = 0
is_read Foreign = 0
is_read Read = 1

-- places in order, none above all
abbrev pub place_cmp : Option ℕ → Option ℕ → Ordering
place_cmp None None = Equal
place_cmp None (Some y) = Greater
place_cmp (Some x) None = Less
place_cmp (Some x) (Some y) = nat_cmp x y

-- by block, stamp, writes before reads, end place, client, start place
unfoldable pub entry_cmp : Entry → Entry → Ordering
entry_cmp =
    then_cmp (on (λ e. e.block) nat_cmp)
    (then_cmp (on (λ e. e.stamp) stamp_cmp)
    (then_cmp (on (λ e. is_read e.kind) nat_cmp)
    (then_cmp (on (λ e. e.end) place_cmp)
    (then_cmp (on (λ e. e.client) nat_cmp) (on (λ e. e.start) place_cmp)))))

-- the entries ascend strictly
abbrev pub IsSorted : List Entry → Type 0
IsSorted [] = Unit {0}
IsSorted (e ∷ es) = AllByRecursion (λ f. entry_cmp e f ≡ Less) es × IsSorted es

module _ (records : List Record) where
  -- a completed read of the block gave the stamp and the value, and ended at this place
  pub record HasRead (block : ℕ) (stamp : Stamp) (value : List ℕ) (end : ℕ) : Type 0 where
    pub read : Record
    pub there : Contains records read
    pub of_block : read.block ≡ block
    pub ended : read.end ≡ Some end
    pub how : How
    pub rounds : ℕ
    pub gave : read.outcome ≡ Some (Gave stamp value how rounds)

  -- a write of a correct client on the block that hasn't ended or has ended as Wrote has this stamp
  pub record HasWrite (block : ℕ) (stamp : Stamp) : Type 0 where
    pub write : Record
    pub there : Contains records write
    pub of_block : write.block ≡ block
    pub value : List ℕ
    pub writes : write.work ≡ Writes value
    pub chose : write.stamp ≡ Some stamp

  -- a write that hasn't ended, and whose stamp a completed read of the block gave
  pub record IsPendingButRead (write : Record) (block : ℕ) (stamp : Stamp) : Type 0 where
    pub pending : write.end ≡ None
    pub value : List ℕ
    pub end : ℕ
    pub seen : HasRead block stamp value end

  -- a write that has an entry: it ended as Wrote, or hasn't ended and was read
  abbrev pub IsDue : Record → ℕ → Stamp → Type 0
  IsDue write block stamp =
      (write.outcome ≡ Some (Wrote stamp)) ⊎ IsPendingButRead write block stamp

  -- the entry is that of a completed read
  pub record IsRead (e : Entry) : Type 0 where
    pub read : Record
    pub there : Contains records read
    pub how : How
    pub rounds : ℕ
    pub gave : read.outcome ≡ Some (Gave e.stamp e.value how rounds)
    pub made : e ≡ read_entry read e.stamp e.value

  -- the entry is that of a write which ended as Wrote, or hasn't ended and whose stamp a read gave
  pub record IsWrite (e : Entry) : Type 0 where
    pub write : Record
    pub there : Contains records write
    pub writes : write.work ≡ Writes e.value
    pub chose : write.stamp ≡ Some e.stamp
    pub stands : IsDue write e.block e.stamp
    pub made : e ≡ write_entry write e.stamp e.value

  -- the entry stands for a write that a read saw and no correct client made, with the value of the
  -- first such read
  pub record IsForeign (e : Entry) : Type 0 where
    pub place : ℕ
    pub seen : HasRead e.block e.stamp e.value place
    pub first : (value : List ℕ) (other : ℕ) → HasRead e.block e.stamp value other → place ≤ other
    pub no_write : HasWrite e.block e.stamp → ⊥
    pub made : e ≡ foreign_entry e.block e.stamp e.value

  -- what stands in a history
  abbrev pub IsEntry : Stamp → Entry → Type 0
  IsEntry first e = IsRead e ⊎ IsWrite e ⊎ ((e.stamp ≢ first) × IsForeign e)

-- the list is the history of the world: it is sorted, and has the entries and no others
abbrev pub IsHistory : Setting → World → List Entry → Type 0
IsHistory s w h = IsSorted h × ((e : Entry) → Contains h e ↔ IsEntry w.records (first_stamp s) e)

-- going through the list, each write sets its block's value, and each read gives its block's value
abbrev pub legal_at : Kind → Entry → (ℕ → List ℕ) → Type 0
legal_at Read e values = e.value ≡ values e.block
legal_at _ e values = Unit {0}

-- the blocks' values after the entry
abbrev pub values_after : Kind → Entry → (ℕ → List ℕ) → ℕ → List ℕ
values_after Read e values = values
values_after _ e values = update values e.block e.value

-- legal, where the blocks have these values
abbrev pub LegalFrom : (ℕ → List ℕ) → List Entry → Type 0
LegalFrom values [] = Unit {0}
LegalFrom values (e ∷ es) = legal_at e.kind e values × LegalFrom (values_after e.kind e values) es

-- legal, where each block has zeros at first
abbrev pub Legal : Setting → List Entry → Type 0
Legal s h = LegalFrom (λ block. zeros s) h

-- of two entries of one block, the one that ended before the other began stands before it
abbrev pub InTime : List Entry → Type 0
InTime h =
    (i j : ℕ) (d : Entry) → i < length h → j < length h → (slice_index_or h i d).block ≡ (slice_index_or h j d).block
    → (end start : ℕ) → (slice_index_or h i d).end ≡ Some end → (slice_index_or h j d).start ≡ Some start → end < start → i < j

-- the strings that were seen: in messages, and of values that were written or given
abbrev pub in_version : Version → List (List ℕ)
in_version v = flat v.sum ∷ v.fragment ∷ []

-- in a request
abbrev pub in_request : Request → List (List ℕ)
in_request Time = []
in_request (AskRead bound) = []
in_request (AskWrite v) = in_version v

-- in a reply
abbrev pub in_reply : Reply → List (List ℕ)
in_reply (Found v) = in_version v
in_reply _ = []

-- in a message
abbrev pub in_body : Body → List (List ℕ)
in_body (Asks ask) = in_request ask.request
in_body (Answers reply) = in_reply reply

module _ (s : Setting) where
  -- a value that a read gave or a write chose a stamp for, or zeros
  pub data IsValue (w : World) : List ℕ → Type 0 where
    zeros_value : IsValue w (zeros s)
    written : {r : Record} {value : List ℕ} {stamp : Stamp} → Contains w.records r → r.work ≡ Writes value → r.stamp ≡ Some stamp → IsValue w value
    given : {block end : ℕ} {stamp : Stamp} {value : List ℕ} → HasRead w.records block stamp value end → IsValue w value

  -- a string that was seen
  pub data IsSeen (w : World) : List ℕ → Type 0 where
    in_message : {m : Message} {x : List ℕ} → Contains w.pool m → Contains (in_body m.body) x → IsSeen w x
    sum_seen : {value : List ℕ} → IsValue w value → IsSeen w (flat (s.sum_of value))
    fragment_seen : {value : List ℕ} {i : ℕ} → IsValue w value → i < s.n → IsSeen w (s.fragment_of value i)

  -- no two different strings that were seen share a digest
  abbrev pub NoClash : World → Type 0
  NoClash w = (x y : List ℕ) → IsSeen w x → IsSeen w y → s.digest x ≡ s.digest y → x ≡ y

  -- a lying client's Write of the stamp on the block was sent
  pub record HasLie (w : World) (block : ℕ) (stamp : Stamp) : Type 0 where
    pub message : Message
    pub there : Contains w.pool message
    pub lies : s.lying_client message.client ≡ true
    pub version : Version
    pub asks : message.body ≡ Asks (record { block = block; request = AskWrite version })
    pub stamped : version.stamp ≡ stamp
