-- What the judge knows of a block's entries before a place.
use Rattle.std.specs.Prelude.{◌≡◌, ℕ, ◌+◌, ◌<◌, ◌≤◌, List, slice_get, Option}
use Rattle.std.specs.declared.option.Option.TheVariants.{None, Some}
use Rattle.history_making.specs.declared.entry.Entry.{Entry}
use Rattle.history_book.specs.declared.judging.Sweep.{Sweep}
use Rattle.history_book.specs.Judging.{HasNoWrite, IsLastWrite}

-- the place of the last write
abbrev pub IsPlaceOfWrite : List Entry → ℕ → ℕ → Option ℕ → Type 0
IsPlaceOfWrite entries block place None = HasNoWrite entries block place
IsPlaceOfWrite entries block place (Some at) = (write : Entry) × IsLastWrite entries block place at write

-- a place up to which a start may come
abbrev pub IsStartUpTo : Option ℕ → ℕ → Type 0
IsStartUpTo None start = ⊥
IsStartUpTo (Some latest) start = start ≤ latest

-- what is known of a block before a place: its last write, and a bound on its starts
pub record IsSweep (entries : List Entry) (place : ℕ) (s : Sweep) : Type 0 where
  pub write : IsPlaceOfWrite entries s.block place s.last_write
  pub starts : (k : ℕ) (e : Entry) (start : ℕ) → k < place → slice_get entries k ≡ Some e → e.block ≡ s.block → e.start ≡ Some start → IsStartUpTo s.latest_start start

-- the entry just before the place is of this block
abbrev pub IsOfBlockBefore : List Entry → ℕ → ℕ → Type 0
IsOfBlockBefore entries place block = (k : ℕ) (e : Entry) → k + 1 ≡ place → slice_get entries k ≡ Some e → e.block ≡ block

-- an entry of the block that starts after the place
pub record StartsAfter (block end : ℕ) (e : Entry) : Type 0 where
  pub of_block : e.block ≡ block
  pub start : ℕ
  pub starts : e.start ≡ Some start
  pub after : end < start
