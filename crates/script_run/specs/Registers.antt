-- What holds of the history of every run.
use Rattle.std.specs.Prelude.{◌≡◌, List}
use Rattle.std.specs.List.{Contains}
use Rattle.protocol.specs.Setting.{Setting, Sound}
use Rattle.protocol.specs.World.{World}
use Rattle.protocol.specs.History.{Entry, Legal, InTime, NoClash}
use Rattle.protocol.specs.History.Kind.{Read}
use Rattle.linear_runs.specs.Laws.{IsLinearizable, IsDurablyLinearizable}

-- where no two different strings that were seen share a digest, the run's operations are linearizable, durably so across the crashes at its lines, and the history shows how: its entries are those of one plain register per block, and whatever ended before another on its block began stands before it; no read gives a poisonous value
pub record AreRegisters (s : Setting) (w : World) (h : List Entry) : Type 0 where
  pub linearizable : IsLinearizable s w
  pub durable : IsDurablyLinearizable s w
  pub legal : NoClash s w → Legal s h
  pub in_time : NoClash s w → InTime h
  pub sound : (e : Entry) → Contains h e → e.kind ≡ Read → Sound s e.stamp e.value
