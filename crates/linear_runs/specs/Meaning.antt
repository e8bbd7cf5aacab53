-- What a user may count on where operations are linearizable.
use Rattle.std.specs.Prelude.{◌≡◌, ◌⊎◌, ℕ, ◌≤◌, List}
use Rattle.std.specs.declared.option.Option.TheVariants.{Some}
use Rattle.std.specs.List.{Contains}
use Rattle.linear_runs.specs.Linear.{Act, Operation, IsBefore, Linearizable, IsLinearAsOne}
use Rattle.linear_runs.specs.Linear.Act.{Read, Write}

-- the value that was read or written
abbrev pub value_of : Act → List ℕ
value_of (Read value) = value
value_of (Write value) = value

module _ (zeros : List ℕ) (ops : List Operation) where
  -- a read that has ended, and what it gave
  pub record HasGiven (r : Operation) (value : List ℕ) : Type 0 where
    pub there : Contains ops r
    pub gave : r.act ≡ Read value
    pub end : ℕ
    pub ended : r.end ≡ Some end

  -- a write of the value on the read's block, that hadn't begun after the read ended
  pub record IsSource (r : Operation) (value : List ℕ) (w : Operation) : Type 0 where
    pub there : Contains ops w
    pub on_block : w.block ≡ r.block
    pub wrote : w.act ≡ Write value
    pub in_time : IsBefore r w → ⊥

  -- a read gives the first value, or that of such a write
  abbrev pub ReadsAreWritten : Type 0
  ReadsAreWritten =
      (r : Operation) (value : List ℕ)
      → Linearizable zeros ops
      → HasGiven r value
      → (value ≡ zeros) ⊎ ((w : Operation) × IsSource r value w)

  -- a read that began after an operation on its block had ended gives the value that this read or wrote, or that of such a
  -- write that hadn't ended before this began
  abbrev pub ReadsAreFresh : Type 0
  ReadsAreFresh =
      (r : Operation) (value : List ℕ) (o : Operation)
      → Linearizable zeros ops
      → HasGiven r value
      → Contains ops o
      → o.block ≡ r.block
      → IsBefore o r
      → (value ≡ value_of o.act) ⊎ ((w : Operation) × IsSource r value w × (IsBefore w o → ⊥))

  -- none ended before it began
  abbrev pub EachTakesTime : Type 0
  EachTakesTime = (o : Operation) (start end : ℕ) → Contains ops o → o.start ≡ Some start → o.end ≡ Some end → start ≤ end

  -- orders of the operations on each block come together in one order of all
  abbrev pub BlocksComeTogether : Type 0
  BlocksComeTogether =
      EachTakesTime
      → Linearizable zeros ops
      → IsLinearAsOne zeros ops
