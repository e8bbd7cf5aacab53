-- The phases of a call, one after the other.
use Rattle.std.specs.Prelude.{ℕ, List, Option}
use Rattle.protocol.specs.Instance.{setting}
use Rattle.protocol.specs.Messages.{Ask, Reply}
use Rattle.disk_model.specs.Crash.{Pending}
use Rattle.batch_clients.specs.Batches.{Running, asks_to, after_answers}
use Rattle.store_device.specs.Stores.{SeenStore}
use Rattle.store_device.specs.Working.{AreHanded}
use Rattle.store_device.specs.Answered.{HaveReplied}

-- what these operations ask of each node
abbrev pub asks_in : {D : Type 0} → SeenStore D → List Running → ℕ → List Ask
asks_in store runs i = asks_to (setting store.config) i runs

module _ {D : Type 0} (pending : D → Pending) (seen : D → List ℕ) (most : D → ℕ) (moment : D → ℕ) (left_since : D → ℕ → List ℕ → Type 0) where
  -- Phase by phase each node was handed what the operations ask. Each node that is up and has room answered, and the operations heard
  -- the answers.
  pub data GoThrough : SeenStore D → List Running → SeenStore D → List Running → Type 0 where
    at_once : {store : SeenStore D} {runs : List Running} → GoThrough store runs store runs
    one_more : {old mid new : SeenStore D} {first now : List Running} {answers : List (Option (List Reply))}
        → GoThrough old first mid now
        → AreHanded pending seen moment left_since (asks_in mid now) answers mid new
        → HaveReplied seen most (asks_in mid now) answers mid new
        → GoThrough old first new (after_answers (setting mid.config) 0 answers now)
