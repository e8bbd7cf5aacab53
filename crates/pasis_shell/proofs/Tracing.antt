-- The script of a trace replays to the trace's report.
use Rattle.std.proofs.Common.{◌≡◌, ℕ, ◌+◌, ◌≤◌, List, [], ◌∷◌, length, map, refl, sym, ◌∙◌, ap, subst, arith}
use Rattle.std.specs.Prelude.{option_map}
use Rattle.std.proofs.lemmas.List.{length-map}
use Rattle.quorum_rules.specs.Limits.{Numbers, IsOfScripts}
use Rattle.wire_forms.specs.Liars.{Liars, has_number}
use Rattle.line_forms.specs.Texts.{IsFaultless}
use Rattle.line_forms.specs.declared.cause.Cause.TheVariants.{Step}
use Rattle.event_lines.specs.declared.line.ReplayLine.{ReplayLine}
use Rattle.event_lines.specs.declared.line.ReplayLine.TheVariants.{Plain}
use Rattle.script_text.specs.Replays.{IsReplay, Spells, event_limit, replay_script, replay_text}
use Rattle.protocol.specs.Setting.{Setting, first_stamp}
use Rattle.protocol.specs.Instance.{setting_of}
use Rattle.protocol.specs.World.{World, start_world}
use Rattle.protocol.specs.Lines.{Line, StepFault, Run}
use Rattle.protocol.specs.History.{NoClash}
use Rattle.history_making.specs.Tellings.{Tells}
use Rattle.history_book.specs.Judging.{IsLegal, IsInTime}
use Rattle.script_run.specs.Registers.{AreRegisters}
use Rattle.script_run.specs.Performing.{CommandQueues, LeadsTo, start_queues, after_line, run_lines_from, run_lines}
use Rattle.journals.specs.declared.whole.Journals.{Journals}
use Rattle.journals.specs.Journals.{setting_for}
use Rattle.merge_trace.specs.Traces.{placed}
use Rattle.plan_words.specs.declared.plan.Plan.{Plan}
use Rattle.plan_followed.specs.Laws.{OfPlans}
use Rattle.command_texts.specs.ScriptLiars.{HasScriptLiars}
use Rattle.command_texts.specs.Runs.{Reports}
use Rattle.command_texts.specs.Traces.{TracesPlan}
use Rattle.command_texts.specs.Replays.{cluster_of, Replays}

module _ (s : Setting) (c : Numbers) where
  -- lines that are a run take place one after the other
  leads : (lines : List Line) (d : CommandQueues) (place : ℕ) (w : World) → Run s d.world (placed place lines) w
      → (last : CommandQueues) × LeadsTo s c d (place + 1) (map Plain lines) last × (last.world ≡ w)
  leads [] d place w run = (d, refl, sym run)
  leads (l ∷ lines) d place w run =
      let rest = leads lines (after_line s c d (place + 1) (Plain l)) (place + 1) w run.3 in
      (rest.0, (ap (option_map (λ (f : StepFault). Step f)) run.2, rest.1), rest.2)

  -- and that run is theirs
  plain_lines : (lines : List Line) (d : CommandQueues) (place : ℕ) → run_lines_from s c d (place + 1) (map Plain lines) ≡ placed place lines
  plain_lines [] d place = refl
  plain_lines (l ∷ lines) d place = ap (λ (ls : List (ℕ × Line)). (place + 1, l) ∷ ls) (plain_lines lines (after_line s c d (place + 1) (Plain l)) (place + 1))

pub trace_replays : OfPlans HasScriptLiars
    → ((text : List ℕ) (c : Numbers) (l : Liars) (es : List ReplayLine) → IsReplay c l es → Spells text c l es → IsFaultless replay_script text)
    → ((c : Numbers) (l : Liars) (es : List ReplayLine) → IsReplay c l es → Spells (replay_text c l es) c l es)
    → (plan : Plan) (j : Journals) (text : List ℕ) → (t : TracesPlan plan j text) → IsOfScripts plan.config → length t.run.made.lines ≤ event_limit plan.config
    → Replays (replay_text plan.config plan.liars (map Plain t.run.made.lines)) t.report
trace_replays declares accepted spelled plan j text t known few =
    let run = t.run.made in
    let of = run.of_plan.1 in
    let script = replay_text plan.config plan.liars (map Plain run.lines) in
    let size : length (map Plain run.lines) ≡ length run.lines = length-map run.lines Plain in
    let replay : IsReplay plan.config plan.liars (map Plain run.lines) =
    record { valid = of.fits.valid; of_scripts = known; lying = declares plan of.fits; events = t.events; limited = omega (arith, size, few) } in
    let spells = spelled plan.config plan.liars (map Plain run.lines) replay in
    let same : setting_for j ≡ cluster_of plan.config plan.liars =
    ap (λ (k : Numbers). setting_of k (has_number j.liars.nodes) (has_number j.liars.clients)) of.follows.are_for.config
    ∙ ap (λ (l : Liars). setting_of plan.config (has_number l.nodes) (has_number l.clients)) of.follows.are_for.liars in
    let s = cluster_of plan.config plan.liars in
    let here : Run s (start_world s) (placed 0 run.lines) run.world = subst (λ (z : Setting). Run z (start_world z) (placed 0 run.lines) run.world) same run.run in
    let done = leads s plan.config run.lines (start_queues s) 0 run.world here in
    let reports : Reports s run.world t.report = subst (λ (z : Setting). Reports z run.world t.report) same t.run.reports in
    record {
      config = plan.config;
      liars = plan.liars;
      lines = map Plain run.lines;
      script = record { replay = replay; spelled = spells; faultless = accepted script plan.config plan.liars (map Plain run.lines) replay spells };
      queues = done.0;
      run = done.1;
      is_run =
          subst (λ (v : World). Run s (start_world s) (run_lines s plan.config (map Plain run.lines)) v) (sym done.2)
          (subst (λ (ls : List (ℕ × Line)). Run s (start_world s) ls run.world) (sym (plain_lines s plan.config run.lines (start_queues s) 0)) here);
      history = reports.of.history;
      book = reports.book;
      tells = subst (λ (v : World). Tells v.records (first_stamp s) reports.of.history reports.book) (sym done.2) reports.of.tells;
      shown = reports.shown;
      registers = subst (λ (v : World). AreRegisters s v reports.of.history) (sym done.2) reports.of.registers;
      told = reports.of.told;
      plain = subst (λ (v : World). NoClash s v → IsLegal reports.book.entries × IsInTime reports.book.entries) (sym done.2) reports.of.plain;
    }
