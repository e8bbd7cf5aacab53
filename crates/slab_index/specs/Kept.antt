-- The slots of a block's versions, in the order of their numbers.
use Rattle.std.specs.Prelude.{◌≡◌, ◌≤◌, ◌<◌, ℕ, Bool, false, if◌then◌else◌, ◌||◌, max, not, ◌==◌, filter, nat_lt, List, [], ◌∷◌, length, map, slice_index_or, slice_set, Option, option_map}
use Rattle.std.specs.declared.option.Option.TheVariants.{None, Some}
use Rattle.stamp_order.specs.declared.Stamp.{Stamp}
use Rattle.stamp_order.specs.declared.Bound.{Bound}
use Rattle.stamp_order.specs.Stamps.{has, up_to, same_stamp}
use Rattle.protocol.specs.Messages.{Version}
use Rattle.protocol.specs.Nodes.{greatest_in, keeps, greatest_time}
pub use Rattle.slab_index.specs.declared.kept.Kept.{Kept}

-- the version's stamp
abbrev pub stamp_of : Kept → Stamp
stamp_of k = record { time = k.time; client = k.client; verifier = k.verifier }

-- the one of greater stamp
abbrev pub later_kept : Kept → Option Kept → Kept
later_kept k None = k
later_kept k (Some u) = if up_to (stamp_of u) (stamp_of k) then k else u

-- the one of greatest stamp in the bound
abbrev pub greatest_kept : Bound → List Kept → Option Kept
greatest_kept bound [] = None
greatest_kept bound (k ∷ ks) = if has bound (stamp_of k) then Some (later_kept k (greatest_kept bound ks)) else greatest_kept bound ks

-- one has this stamp
abbrev pub keeps_stamp : List Kept → Stamp → Bool
keeps_stamp [] stamp = false
keeps_stamp (k ∷ ks) stamp = same_stamp (stamp_of k) stamp || keeps_stamp ks stamp

-- the greatest time
abbrev pub latest_time : List Kept → ℕ
latest_time [] = 0
latest_time (k ∷ ks) = max k.time (latest_time ks)

-- one more, before the first of a greater number
abbrev pub put_kept : Kept → List Kept → List Kept
put_kept k [] = k ∷ []
put_kept k (x ∷ xs) = if nat_lt k.number x.number then k ∷ x ∷ xs else x ∷ put_kept k xs

-- all but those in this slot
abbrev pub is_elsewhere : ℕ → Kept → Bool
is_elsewhere slot k = not (k.slot == slot)

abbrev pub without_slot : ℕ → List Kept → List Kept
without_slot slot ks = filter (is_elsewhere slot) ks

-- the place where it goes
pub record IsPlaceOf (ks : List Kept) (number place : ℕ) : Type 0 where
  pub within : place ≤ length ks
  pub before : (i : ℕ) (d : Kept) → i < place → (slice_index_or ks i d).number ≤ number
  pub at : (d : Kept) → place < length ks → number < (slice_index_or ks place d).number

-- the slots of a block, and the index with these in their place
abbrev pub kept_in : List (List Kept) → ℕ → List Kept
kept_in index block = slice_index_or index block []

abbrev pub with_kept : List (List Kept) → ℕ → List Kept → List (List Kept)
with_kept index block ks = slice_set index block ks

-- where each version has the stamp of its slot
pub record SlotsTellThem (version : Kept → Version) (ks : List Kept) : Type 0 where
  pub greatest : (bound : Bound) → greatest_in bound (map version ks) ≡ option_map version (greatest_kept bound ks)
  pub stamps : (stamp : Stamp) → keeps (map version ks) stamp ≡ keeps_stamp ks stamp
  pub time : greatest_time (map version ks) ≡ latest_time ks

abbrev pub SlotsTell : (Kept → Version) → List Kept → Type 0
SlotsTell version ks = ((k : Kept) → (version k).stamp ≡ stamp_of k) → SlotsTellThem version ks
