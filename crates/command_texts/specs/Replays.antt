-- What `replay` writes, and what it refuses.
use Rattle.std.specs.Prelude.{◌≡◌, ℕ, ◌+◌, List, length}
use Rattle.quorum_rules.specs.Limits.{Numbers}
use Rattle.wire_forms.specs.Liars.{Liars, has_number}
use Rattle.line_forms.specs.declared.refusal.ScriptFault.{ScriptFault}
use Rattle.line_forms.specs.Texts.{IsFaultless}
use Rattle.event_lines.specs.declared.line.ReplayLine.{ReplayLine}
use Rattle.script_text.specs.Replays.{IsReplay, Spells, replay_script}
use Rattle.protocol.specs.Setting.{Setting, first_stamp}
use Rattle.protocol.specs.Instance.{setting_of}
use Rattle.protocol.specs.Lines.{IsRun}
use Rattle.protocol.specs.History.{Entry, NoClash}
use Rattle.history_making.specs.Books.{Book}
use Rattle.history_making.specs.Tellings.{Tells}
use Rattle.history_book.specs.Reports.{report_text}
use Rattle.history_book.specs.ReportTexts.{IsReport}
use Rattle.history_book.specs.Judging.{IsLegal, IsInTime}
use Rattle.world_state.specs.Worlds.{WorldView, setting_in, world_in}
use Rattle.script_run.specs.Registers.{AreRegisters}
use Rattle.script_run.specs.Performing.{CommandQueues, Performs, run_lines, StopsAt}

-- the setting of a cluster in which these lie
abbrev pub cluster_of : Numbers → Liars → Setting
cluster_of c liars = setting_of c (has_number liars.nodes) (has_number liars.clients)

-- the text is the report of the history of the world's records
pub record IsReportOf (w : WorldView) (text : List ℕ) : Type 0 where
  pub history : List Entry
  pub book : Book
  pub tells : Tells w.seen.records (first_stamp (setting_in w)) history book
  pub registers : AreRegisters (setting_in w) (world_in w) history
  pub told : IsReport book
  pub plain : NoClash (setting_in w) (world_in w) → IsLegal book.entries × IsInTime book.entries
  pub shown : text ≡ report_text book

-- the input is a script: it spells a cluster, who lies in it, and event lines
pub record IsScript (input : List ℕ) (c : Numbers) (liars : Liars) (lines : List ReplayLine) : Type 0 where
  pub replay : IsReplay c liars lines
  pub spelled : Spells input c liars lines
  pub faultless : IsFaultless replay_script input

-- the text is the report of the history of the run of the input's lines
pub record Replays (input text : List ℕ) : Type 0 where
  pub config : Numbers
  pub liars : Liars
  pub lines : List ReplayLine
  pub script : IsScript input config liars lines
  -- the lines lead to this world
  pub queues : CommandQueues
  pub run : Performs (cluster_of config liars) config lines queues
  -- it is the last of a run of the definitions, whose lines these are: so what holds of every run holds of it
  pub is_run : IsRun (cluster_of config liars) (run_lines (cluster_of config liars) config lines) queues.world
  -- the history of that run, and its report
  pub history : List Entry
  pub book : Book
  pub tells : Tells queues.world.records (first_stamp (cluster_of config liars)) history book
  pub shown : text ≡ report_text book
  -- whatever starts, deliveries, losses, repeats, crashes, returns, prunes and lies the lines make: the run is linearizable, and its history is a legal one of one register per block, and in time
  pub registers : AreRegisters (cluster_of config liars) queues.world history
  -- it is a history that a report tells, and for the judge too it is legal and in time
  pub told : IsReport book
  pub plain : NoClash (cluster_of config liars) queues.world → IsLegal book.entries × IsInTime book.entries

-- the input is a script, and this is why a line of it can't take place when its turn comes
pub record Stops (input : List ℕ) (fault : ScriptFault) : Type 0 where
  pub config : Numbers
  pub liars : Liars
  pub lines : List ReplayLine
  pub script : IsScript input config liars lines
  pub done : ℕ
  pub stopped : StopsAt (cluster_of config liars) config lines done fault.cause
  -- before it stand two head lines, a line for each liar, and the lines that have taken place
  pub line : fault.line ≡ 2 + length liars.nodes + length liars.clients + done + 1
