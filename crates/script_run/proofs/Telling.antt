-- What is told of a run's records is the history of its last world.
use Rattle.std.proofs.Common.{◌≤◌, List, Result, Ok, Err, sym, subst}
use Rattle.std.specs.Prelude.{IfOk}
use Rattle.stamp_order.specs.declared.Stamp.{Stamp}
use Rattle.protocol.specs.Setting.{Setting, IsValid, first_stamp}
use Rattle.protocol.specs.Lines.{IsRun}
use Rattle.protocol.specs.Instance.{InEachRun}
use Rattle.protocol.proofs.lemmas.Cluster.{cluster_valid}
use Rattle.linear_runs.specs.Laws.{IsLinearizable, IsDurablyLinearizable}
use Rattle.protocol.specs.World.{World, Record}
use Rattle.protocol.specs.History.{Entry}
use Rattle.history_making.specs.Books.{Book}
use Rattle.history_making.specs.Numbers.{HaveNumbers}
use Rattle.history_making.specs.Tellings.{Tells, AreRecords}
use Rattle.script_run.specs.Histories.{AreOfRun, TellsHistory}
use Rattle.script_run.proofs.Records.{are_records, are_registers}
use Rattle.script_run.proofs.Reports.{is_report, are_plain}

module _ (s : Setting) (w : World) (records : List Record) (first : Stamp) (are : AreOfRun s w records first) where
  valid : IsValid s
  valid = subst IsValid (sym are.cluster.is) (cluster_valid are.cluster.config are.cluster.lying_node are.cluster.lying_client are.cluster.cluster)

  some : 1 ≤ s.size
  some = subst (λ (z : Setting). 1 ≤ z.size) (sym are.cluster.is) are.cluster.cluster.config.size.0

  -- a law of every run, at this one
  law_here : (law : Setting → World → Type 0) → InEachRun law → law s w
  law_here law every =
      subst (λ (z : Setting). law z w) (sym are.cluster.is)
      (every are.cluster.config are.cluster.lying_node are.cluster.lying_client are.cluster.cluster are.lines w (subst (λ (z : Setting). IsRun z are.lines w) are.cluster.is are.run))

  pub can_tell : AreRecords records first
  can_tell =
      subst (λ (t : Stamp). AreRecords records t) are.begins
      (subst (λ (rs : List Record). AreRecords rs (first_stamp s)) are.has (are_records s are.lines w valid are.run are.fits))

  tells_history : InEachRun IsLinearizable → InEachRun IsDurablyLinearizable → (book : Book) → (h : List Entry) × Tells records first h book → HaveNumbers book → TellsHistory s w book
  tells_history linear durable book told numbers =
      let tells : Tells w.records (first_stamp s) told.0 book =
      subst (λ (rs : List Record). Tells rs (first_stamp s) told.0 book) (sym are.has) (subst (λ (t : Stamp). Tells records t told.0 book) (sym are.begins) told.1) in
      record {
        history = told.0;
        tells = tells;
        registers = are_registers s are.lines w valid are.run are.fits (law_here IsLinearizable linear) (law_here IsDurablyLinearizable durable) told.0 tells.history;
        told = is_report s are.lines w valid are.run are.fits told.0 book tells some numbers;
        plain = are_plain s are.lines w valid are.run are.fits told.0 book tells;
      }

  pub all_told : {E : Type 0} → InEachRun IsLinearizable → InEachRun IsDurablyLinearizable → (result : Result Book E) → IfOk result (λ book. (h : List Entry) × Tells records first h book) → IfOk result HaveNumbers → IfOk result (TellsHistory s w)
  all_told linear durable (Ok book) told numbers = tells_history linear durable book told numbers
  all_told linear durable (Err e) told numbers = tt
