-- What the laws of runs say, as proofs here take it.
use Rattle.std.proofs.Common.{List}
use Rattle.protocol.specs.Setting.{Setting}
use Rattle.protocol.specs.Instance.{InEachRun}
use Rattle.protocol.specs.World.{World, Record}
use Rattle.protocol.specs.Laws.{InEachCluster, FalseIsFormed, TakesTheAllowed, LinesExtendPool, RunsComeApart, TasksAreTold, SeenBegins, SeenHears, BeginsFull, StaysFull, GivenIsGreatest, OneIsReplaced}

pub record Laws : Type 0 where
  pub formed : InEachCluster FalseIsFormed
  pub taken : (s : Setting) (w : World) → TakesTheAllowed s w
  pub grows : (s : Setting) (w : World) → LinesExtendPool s w
  pub runs : (s : Setting) (w : World) → RunsComeApart s w
  pub tasks : InEachRun TasksAreTold
  pub starts : (s : Setting) → SeenBegins s
  pub heard : (s : Setting) (w : World) → SeenHears s w
  pub full_begun : (s : Setting) → BeginsFull s
  pub full_heard : (s : Setting) → StaysFull s
  pub greatest : (records : List Record) → GivenIsGreatest records
  pub replaced : (records : List Record) → OneIsReplaced records
