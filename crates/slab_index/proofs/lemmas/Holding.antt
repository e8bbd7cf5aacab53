-- The slots of a block have its versions.
use Rattle.std.proofs.Common.{◌≡◌, inl, inr, ℕ, zero, suc, ◌==◌, ◌&&◌, Bool, List, [], ◌∷◌, map, refl, sym, ◌∙◌, ap}
use Rattle.std.specs.Prelude.{nat_lt}
use Rattle.std.specs.List.{AllByRecursion}
use Rattle.std.proofs.lemmas.Bool.{cases_Bool}
use Rattle.slab_layout.specs.declared.shape.Shape.{Shape}
use Rattle.slab_layout.specs.Shapes.{part, data_at, data_len}
use Rattle.slab_layout.specs.Data.{version_in}
use Rattle.slab_node.specs.Held.{Entry, entry_at, entry_version, entries_from, in_order, put}
use Rattle.slab_index.specs.Kept.{Kept, stamp_of, put_kept}
use Rattle.slab_index.specs.Slots.{kept_of, slots_from, slots_by, version_at, SlotsHoldVersions}

module _ (e : ℕ → Entry) where
  -- a slot is what its head tells
  abbrev Fits : Kept → Type 0
  Fits k = k ≡ kept_of k.slot (e k.slot).head

  abbrev its : Kept → Entry
  its k = e k.slot

  put_fits : (k : Kept) (ks : List Kept) → Fits k → AllByRecursion Fits ks → AllByRecursion Fits (put_kept k ks)
  put_fits k [] fits all = (fits, tt)
  put_fits k (x ∷ xs) fits all = elim (cases_Bool (nat_lt k.number x.number)) [
    | inl less ↦ rw less (fits, all)
    | inr more ↦ rw more (all.0, put_fits k xs fits all.1)
  ]

  put_maps : (k : Kept) (ks : List Kept) → Fits k → AllByRecursion Fits ks → map its (put_kept k ks) ≡ put (its k) (map its ks)
  put_maps k [] fits all = refl
  put_maps k (x ∷ xs) fits all =
      let tests : nat_lt (its k).head.number (its x).head.number ≡ nat_lt k.number x.number = sym (λ i. nat_lt (fits i).number (all.0 i).number) in
      elim (cases_Bool (nat_lt k.number x.number)) [
        | inl less ↦ rw less (rw (tests ∙ less) refl)
        | inr more ↦ rw more (rw (tests ∙ more) (ap (λ l. its x ∷ l) (put_maps k xs fits all.1)))
      ]

  slots_fit : (marked : ℕ → Bool) (block i n : ℕ) → AllByRecursion Fits (slots_from marked (λ j. (e j).head) block i n)
  slots_fit marked block i zero = tt
  slots_fit marked block i (suc n) =
      let rest = slots_fit marked block (suc i) n in
      elim (cases_Bool (marked i && ((e i).head.block == block))) [
        | inl hit ↦ rw hit (put_fits (kept_of i (e i).head) (slots_from marked (λ j. (e j).head) block (suc i) n) refl rest)
        | inr miss ↦ rw miss rest
      ]

  pub slots_map : (marked : ℕ → Bool) (block i n : ℕ) → map its (slots_from marked (λ j. (e j).head) block i n) ≡ in_order (entries_from marked e block i n)
  slots_map marked block i zero = refl
  slots_map marked block i (suc n) =
      let rest = slots_map marked block (suc i) n in
      elim (cases_Bool (marked i && ((e i).head.block == block))) [
        | inl hit ↦ rw hit (put_maps (kept_of i (e i).head) (slots_from marked (λ j. (e j).head) block (suc i) n) refl (slots_fit marked block (suc i) n) ∙ ap (put (e i)) rest)
        | inr miss ↦ rw miss rest
      ]

versions_same : (s : Shape) (bytes : List ℕ) (ks : List Kept) → AllByRecursion (Fits (entry_at s bytes)) ks
    → map (version_at s bytes) ks ≡ map (entry_version s.nodes) (map (its (entry_at s bytes)) ks)
versions_same s bytes [] all = refl
versions_same s bytes (k ∷ ks) all =
    λ i. version_in s.nodes (stamp_of (all.0 i)) (part bytes (data_at s k.slot) (data_len s)) ∷ versions_same s bytes ks all.1 i

pub slots_hold : (s : Shape) (marked : ℕ → Bool) (bytes : List ℕ) (block : ℕ) → SlotsHoldVersions s marked bytes block
slots_hold s marked bytes block =
    versions_same s bytes (slots_by s marked bytes block) (slots_fit (entry_at s bytes) marked block 0 s.count)
    ∙ ap (map (entry_version s.nodes)) (slots_map (entry_at s bytes) marked block 0 s.count)
