-- What a script's run shows.
use Rattle.std.proofs.Common.{◌≡◌, ℕ, ◌+◌, List, length, sym, subst, refl, inr}
use Rattle.quorum_rules.specs.Limits.{Numbers}
use Rattle.wire_forms.specs.Liars.{Liars}
use Rattle.line_forms.specs.declared.cause.Cause.{Cause}
use Rattle.line_forms.specs.declared.refusal.ScriptFault.{ScriptFault}
use Rattle.event_lines.specs.declared.line.ReplayLine.{ReplayLine}
use Rattle.protocol.specs.Setting.{Setting, first_stamp}
use Rattle.protocol.specs.World.{World}
use Rattle.protocol.specs.Lines.{IsRun}
use Rattle.protocol.specs.History.{NoClash}
use Rattle.history_making.specs.Tellings.{Tells}
use Rattle.history_book.specs.Judging.{IsLegal, IsInTime}
use Rattle.world_state.specs.Worlds.{WorldView, setting_in, world_in}
use Rattle.script_run.specs.Registers.{AreRegisters}
use Rattle.script_run.specs.Performing.{CommandQueues, Performs, run_lines, StopsAt}
use Rattle.line_forms.specs.declared.refusal.ScriptRefusal.{ScriptRefusal}
use Rattle.line_forms.specs.declared.refusal.ScriptRefusal.TheVariants as scripts
use Rattle.command_texts.specs.declared.words.Command.TheVariants.{Replay}
use Rattle.command_texts.specs.Statuses.{refusal_of}
use Rattle.command_texts.specs.Texts.{Refuses}
use Rattle.command_texts.specs.Replays.{cluster_of, IsReportOf, IsScript, Replays, Stops}

module _ (input : List ℕ) (c : Numbers) (liars : Liars) (lines : List ReplayLine) (script : IsScript input c liars lines) where
  -- the report of the world to which the script's run leads
  pub replays : (text : List ℕ) (w : WorldView) → w.config ≡ c → setting_in w ≡ cluster_of c liars
      → (d : CommandQueues) × Performs (setting_in w) w.config lines d × (d.world ≡ world_in w) → IsRun (setting_in w) (run_lines (setting_in w) w.config lines) (world_in w) → IsReportOf w text → Replays input text
  replays text w same cluster run on report =
      let s = cluster_of c liars in
      let d = run.0 in
      record {
        config = c;
        liars = liars;
        lines = lines;
        script = script;
        queues = d;
        run = subst (λ (z : Setting). Performs z c lines d) cluster (subst (λ (k : Numbers). Performs (setting_in w) k lines d) same run.1);
        is_run =
            subst (λ (v : World). IsRun s (run_lines s c lines) v) (sym run.2)
            (subst (λ (z : Setting). IsRun z (run_lines z c lines) (world_in w)) cluster (subst (λ (k : Numbers). IsRun (setting_in w) (run_lines (setting_in w) k lines) (world_in w)) same on));
        history = report.history;
        book = report.book;
        tells = subst (λ (v : World). Tells v.records (first_stamp s) report.history report.book) (sym run.2) (subst (λ (z : Setting). Tells w.seen.records (first_stamp z) report.history report.book) cluster report.tells);
        shown = report.shown;
        registers = subst (λ (v : World). AreRegisters s v report.history) (sym run.2) (subst (λ (z : Setting). AreRegisters z (world_in w) report.history) cluster report.registers);
        told = report.told;
        plain = subst (λ (v : World). NoClash s v → IsLegal report.book.entries × IsInTime report.book.entries) (sym run.2) (subst (λ (z : Setting). NoClash z (world_in w) → IsLegal report.book.entries × IsInTime report.book.entries) cluster report.plain);
      }

  -- where it stops
  pub stops : (fault : ScriptFault) → (done : ℕ) × StopsAt (cluster_of c liars) c lines done fault.cause × (fault.line ≡ 2 + length liars.nodes + length liars.clients + done + 1) → Stops input fault
  stops fault at = record { config = c; liars = liars; lines = lines; script = script; done = at.0; stopped = at.1; line = at.2 }

  -- why nothing is written where the run stops
  pub refuses : (r : ScriptRefusal)
      → ((line : ℕ) (cause : Cause) → r ≡ scripts.Fault (record { line = line; cause = cause }) → (done : ℕ) × StopsAt (cluster_of c liars) c lines done cause × (line ≡ 2 + length liars.nodes + length liars.clients + done + 1))
      → Refuses Replay input (refusal_of r)
  refuses scripts.NoMemory h = tt
  refuses (scripts.Fault fault) h = inr (stops fault (h fault.line fault.cause refl))
