-- What contracts see of a history.
use Rattle.std.specs.Prelude.{◌<◌, ◌^◌, List, length}
use Rattle.std.specs.List.Sorted.{IsNonDecreasingBy}
use Rattle.history_making.specs.declared.entry.Entry.{Entry}
use Rattle.history_making.specs.declared.entry.Spent.{Spent}
use Rattle.history_making.specs.declared.entry.Counts.{Counts}

-- the entries in order, the writes that ended as spent by start, and counts
pub record Book : Type 0 where
  pub entries : List Entry
  pub spent : List Spent
  pub counts : Counts

-- entries have numbers of 32 bits, and those of a block stand together
pub record IsBook (entries : List Entry) : Type 0 where
  pub few : length entries < 2 ^ 32
  pub blocks : IsNonDecreasingBy (λ e. e.block) entries
