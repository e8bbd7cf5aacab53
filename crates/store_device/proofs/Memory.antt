-- What a store remembers is nothing to its nodes: the same holds of one that remembers other stamps.
use Rattle.std.proofs.Common.{◌≡◌, ℕ, List, [], ◌∷◌, Option}
use Rattle.wire_forms.specs.declared.op.Op.{Op}
use Rattle.disk_model.specs.Crash.{Pending}
use Rattle.version_disk.specs.declared.prune.Prune.{Prune}
use Rattle.batch_clients.specs.Batches.{Running}
use Rattle.store_device.specs.Stores.{SeenStore, IsStore}
use Rattle.store_device.specs.Calls.{StaysStore}
use Rattle.store_device.specs.Answered.{AreFew}
use Rattle.store_device.specs.Phased.{GoThrough}
use Rattle.store_device.specs.Phased.GoThrough.{at_once, one_more}

module _ {D : Type 0} where
  -- the store, where it remembers these
  abbrev pub with_memory : List Prune → SeenStore D → SeenStore D
  with_memory memory store = record store { acknowledged = memory }

  pub few_with : (memory : List Prune) (store : SeenStore D) (ops : List Op) → AreFew (with_memory memory store) ops → AreFew store ops
  few_with memory store [] few = tt
  few_with memory store (op ∷ ops) few = (few.0, few_with memory store ops few.1)

  module _ (pending : D → Pending) (seen : D → List ℕ) where
    pub store_with : (memory : List Prune) (store : SeenStore D) → IsStore pending seen store → IsStore pending seen (with_memory memory store)
    store_with memory store has = record { valid = has.valid; count = has.count; sound = has.sound }

    pub stays_with : (before after : List Prune) (old new : SeenStore D) → StaysStore pending seen old new
        → StaysStore pending seen (with_memory before old) (with_memory after new)
    stays_with before after old new stays = record { store = store_with after new stays.store; config = stays.config; down = stays.down }

    module _ (most : D → ℕ) (moment : D → ℕ) (left_since : D → ℕ → List ℕ → Type 0) where
      pub through_with : {old new : SeenStore D} {first now : List Running} (memory : List Prune)
          → GoThrough pending seen most moment left_since old first new now
          → GoThrough pending seen most moment left_since (with_memory memory old) first (with_memory memory new) now
      through_with memory at_once = at_once
      through_with memory (one_more so_far handed replied) =
          one_more (through_with memory so_far) (record { config = handed.config; count = handed.count; each = handed.each }) replied
