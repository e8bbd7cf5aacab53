-- Values of blocks, as block operations leave them.
use Rattle.std.specs.Prelude.{◌≡◌, ℕ, ◌<◌, ◌==◌, ◌&&◌, nat_lt, if◌then◌else◌, Bool, List, [], ◌∷◌, length, Option}
use Rattle.std.specs.declared.option.Option.TheVariants.{Some}
use Rattle.std.specs.List.{All, list_any}
use Rattle.std.specs.Map.{lookup}
use Rattle.std.specs.Ordering.{nat_cmp}
use Rattle.std.specs.BTreeMap.{BTreeMap, is_at, insert_entry}
use Rattle.std.specs.BTreeSet.{BTreeSet, insert_key}
use Rattle.wire_forms.specs.declared.op.Op.{Op}
use Rattle.wire_forms.specs.declared.op.Op.TheVariants.{Read, Write}
use Rattle.protocol.specs.Operations.{Outcome}
use Rattle.run_words.specs.declared.outcome.Outcome.TheVariants.{Wrote, Gave}
use Rattle.quorum_rules.specs.Limits.{Numbers}
use Rattle.store_device.specs.Calls.{Call}
use Rattle.store_front.specs.Asking.{told_in}

-- a block of the cluster, and a value of its length
abbrev pub IsBlockValue : Numbers → ℕ × List ℕ → Type 0
IsBlockValue c e = (e.0 < c.blocks) × (length e.1 ≡ c.size)

-- the map has blocks of the cluster, each with a value of its length
abbrev pub AreBlocks : Numbers → BTreeMap ℕ (List ℕ) → Type 0
AreBlocks c m = All (IsBlockValue c) m.entries

-- the write of a value to a block
abbrev pub write_of : ℕ × List ℕ → Op
write_of e = Write e.0 e.1

-- the value that stands beside a block, and whether a block is among these
abbrev pub value_at : List (ℕ × List ℕ) → ℕ → Option (List ℕ)
value_at entries k = lookup (is_at (nat_cmp k)) entries

abbrev pub is_in : List ℕ → ℕ → Bool
is_in blocks k = list_any (is_at (nat_cmp k)) blocks

-- the value that the map has of a block, and whether the set has the block
abbrev pub read_of : BTreeMap ℕ (List ℕ) → ℕ → Option (List ℕ)
read_of m = value_at m.entries

abbrev pub written_of : BTreeSet ℕ → ℕ → Bool
written_of s = is_in s.keys

-- values of blocks, and those that come in the place of what was there
abbrev pub with_values : List (ℕ × List ℕ) → List (ℕ × List ℕ) → List (ℕ × List ℕ)
with_values old [] = old
with_values old (e ∷ more) = with_values (insert_entry nat_cmp old e.0 e.1) more

-- ---- what was told of operations

-- what a read gave comes in the place of what was found of its block; what isn't a block of the device is none
abbrev pub found_with : Numbers → List (ℕ × List ℕ) → Op → Option Outcome → List (ℕ × List ℕ)
found_with c old (Read k) (Some (Gave stamp value how rounds)) =
    if nat_lt k c.blocks && length value == c.size then insert_entry nat_cmp old k value else old
found_with c old op told = old

-- a block whose write was told of as done is written
abbrev pub written_with : List ℕ → Op → Option Outcome → List ℕ
written_with old (Write k value) (Some (Wrote stamp)) = insert_key nat_cmp old k
written_with old op told = old

-- the values that were found, and the blocks that were written, after these were told of one after the other
abbrev pub found_in : Numbers → List (ℕ × List ℕ) → List (Op × Option Outcome) → List (ℕ × List ℕ)
found_in c old [] = old
found_in c old (t ∷ more) = found_in c (found_with c old t.0 t.1) more

abbrev pub written_in : List ℕ → List (Op × Option Outcome) → List ℕ
written_in old [] = old
written_in old (t ∷ more) = written_in (written_with old t.0 t.1) more

module _ {D : Type 0} where
  -- the value that these calls read of a block, and whether they wrote it, by what was told
  abbrev pub given_by : Numbers → List (Call D) → ℕ → Option (List ℕ)
  given_by c calls = value_at (found_in c [] (told_in calls))

  abbrev pub wrote_by : List (Call D) → ℕ → Bool
  wrote_by calls = is_in (written_in [] (told_in calls))
