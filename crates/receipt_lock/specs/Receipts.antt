-- What the receipts of all chits say, entry by entry, of the list that a closed vault gives back.
use Rattle.std.specs.Prelude.{◌≡◌, ℕ, ◌+◌, ◌<◌, ◌≤◌, Bool, List, length, count_by, Some, slice_get}
use Rattle.receipt_lock.specs.Tickets.{AllStand, Begins}
use Rattle.receipt_lock.specs.Chits.{Holder, all_mine, IsPlacedOnce}

module _ {E : Type 0} where
  -- the list begins with the first one, each receipt is for what stands at its place, and each further place has one receipt
  pub record IsSettled (begun now : List E) (chits : List (Holder E)) : Type 0 where
    pub begins : Begins begun now
    pub stand : AllStand now (all_mine chits)
    pub once : IsPlacedOnce begun now (all_mine chits)

  -- receipt k of chit i is for this entry at this place
  abbrev pub IsReceipt : List (Holder E) → ℕ → ℕ → ℕ → E → Type 0
  IsReceipt chits i k place entry = (chit : Holder E) × (slice_get chits i ≡ Some chit) × (slice_get chit.mine k ≡ Some (place, entry))

  -- the entry at this place has a receipt in exactly one chit, once
  pub record HasOneReceipt (now : List E) (chits : List (Holder E)) (place : ℕ) : Type 0 where
    pub chit : ℕ
    pub receipt : ℕ
    pub entry : E
    pub stands : slice_get now place ≡ Some entry
    pub there : IsReceipt chits chit receipt place entry
    pub only : (i k : ℕ) (e : E) → IsReceipt chits i k place e → (i ≡ chit) × (k ≡ receipt)

  -- each entry from the end of the first list on has one receipt
  abbrev pub EachHasOneReceipt : List E → List E → List (Holder E) → Type 0
  EachHasOneReceipt begun now chits = (place : ℕ) → length begun ≤ place → place < length now → HasOneReceipt now chits place

  -- each receipt is for the entry at its place, which is none of the first ones
  abbrev pub EachReceiptStands : List E → List E → List (Holder E) → Type 0
  EachReceiptStands begun now chits = (i k place : ℕ) (e : E) → IsReceipt chits i k place e → (length begun ≤ place) × (slice_get now place ≡ Some e)

  -- as many entries pass a test as pass it among the first ones and among the receipts
  abbrev pub AddsUp : List E → List E → List (Holder E) → Type 0
  AddsUp begun now chits = (test : E → Bool) → count_by test now ≡ count_by test begun + count_by (λ m. test m.1) (all_mine chits)
