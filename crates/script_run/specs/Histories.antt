-- The history of a run's last world, as it is told.
use Rattle.std.specs.Prelude.{◌≡◌, ℕ, ◌^◌, ◌<◌, Bool, List, length, sum_by}
use Rattle.quorum_rules.specs.Limits.{Numbers}
use Rattle.stamp_order.specs.declared.Stamp.{Stamp}
use Rattle.protocol.specs.Setting.{Setting, first_stamp}
use Rattle.protocol.specs.Instance.{IsCluster, setting_of}
use Rattle.protocol.specs.World.{World, Record}
use Rattle.protocol.specs.Lines.{Line, IsRun}
use Rattle.protocol.specs.History.{Entry, NoClash}
use Rattle.protocol.specs.Report.{rounds_of}
use Rattle.history_making.specs.Books.{Book}
use Rattle.history_making.specs.Tellings.{Tells}
use Rattle.history_book.specs.ReportTexts.{IsReport}
use Rattle.history_book.specs.Judging.{IsLegal, IsInTime}
use Rattle.script_run.specs.Registers.{AreRegisters}

-- the run fits a history: places and rounds are numbers of 64 bits, and there are no more records than a history may have
pub record FitsHistory (w : World) : Type 0 where
  pub places : w.place < 2 ^ 64
  pub records : length w.records < 2 ^ 31
  pub rounds : sum_by (λ r. rounds_of r.outcome) w.records < 2 ^ 64

-- the setting is that of a cluster
pub record IsOfCluster (s : Setting) : Type 0 where
  pub config : Numbers
  pub lying_node : ℕ → Bool
  pub lying_client : ℕ → Bool
  pub cluster : IsCluster config lying_node
  pub is : s ≡ setting_of config lying_node lying_client

-- the records are those of the last world of a run in a cluster, which fits a history, and each block has this first stamp
pub record AreOfRun (s : Setting) (w : World) (records : List Record) (first : Stamp) : Type 0 where
  pub cluster : IsOfCluster s
  pub lines : List (ℕ × Line)
  pub run : IsRun s lines w
  pub fits : FitsHistory w
  pub has : w.records ≡ records
  pub begins : first_stamp s ≡ first

-- the book tells the world's history, which is one of plain registers and in time: of all that takes place nothing is known but
-- that it does, and that no two strings that were seen clash
pub record TellsHistory (s : Setting) (w : World) (book : Book) : Type 0 where
  pub history : List Entry
  pub tells : Tells w.records (first_stamp s) history book
  pub registers : AreRegisters s w history
  pub told : IsReport book
  pub plain : NoClash s w → IsLegal book.entries × IsInTime book.entries
