-- Linearizable: the operations on each block could have run one after the other. Nothing here knows of stamps, nodes or worlds.
use Rattle.std.specs.Prelude.{◌≡◌, ℕ, ◌<◌, ◌==◌, List, [], ◌∷◌, ◌++◌, filter, Option}
use Rattle.std.specs.declared.option.Option.TheVariants.{None, Some}
use Rattle.std.specs.List.{All, AllPairs}
use Rattle.std.specs.List.Sorted.{IsPermutation}

-- a read that gave this value, or a write of it
pub data Act : Type 0 where
  Read : List ℕ → Act
  Write : List ℕ → Act

-- what was done on a block, by whom and from when on, if that is known, and when it ended, if it did
pub record Operation : Type 0 where
  pub block : ℕ
  pub act : Act
  pub client : Option ℕ
  pub start : Option ℕ
  pub end : Option ℕ

-- the first ended before the second began
pub record IsBefore (o p : Operation) : Type 0 where
  pub end : ℕ
  pub ended : o.end ≡ Some end
  pub start : ℕ
  pub began : p.start ≡ Some start
  pub earlier : end < start

-- each operation stands in the order once, but that some without an end may be left out
pub record IsOrderOf (ops order : List Operation) : Type 0 where
  pub left_out : List Operation
  pub all : IsPermutation ops (order ++ left_out)
  pub unended : All (λ o. o.end ≡ None) left_out

-- none stands before one that ended before it began
abbrev pub IsInTime : List Operation → Type 0
IsInTime order = AllPairs (λ earlier later. IsBefore later earlier → ⊥) order

-- a read gives the value
abbrev pub gives : Act → List ℕ → Type 0
gives (Read given) value = given ≡ value
gives (Write written) value = Unit {0}

-- a write sets it
abbrev pub value_after : Act → List ℕ → List ℕ
value_after (Read given) value = value
value_after (Write written) value = written

-- each read gives the value of the last write before it, or this value if there is none
abbrev pub ReadsLast : List ℕ → List Operation → Type 0
ReadsLast value [] = Unit {0}
ReadsLast value (o ∷ os) = gives o.act value × ReadsLast (value_after o.act value) os

-- an order of the operations, in time, in which reads give what was last written
pub record IsLinear (zeros : List ℕ) (ops : List Operation) : Type 0 where
  pub order : List Operation
  pub of_these : IsOrderOf ops order
  pub in_time : IsInTime order
  pub reads_last : ReadsLast zeros order

-- the operations on the block
abbrev pub on_block : ℕ → List Operation → List Operation
on_block block ops = filter (λ o. o.block == block) ops

-- there is one for the operations on each block
abbrev pub Linearizable : List ℕ → List Operation → Type 0
Linearizable zeros ops = (block : ℕ) → IsLinear zeros (on_block block ops)

-- one order of all operations, in time, in which reads give what was last written on their block
pub record IsLinearAsOne (zeros : List ℕ) (ops : List Operation) : Type 0 where
  pub order : List Operation
  pub of_these : IsOrderOf ops order
  pub in_time : IsInTime order
  pub reads_last : (block : ℕ) → ReadsLast zeros (on_block block order)
