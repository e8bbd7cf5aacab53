use Rattle.std.proofs.Common.{◌≡◌, ◌+◌, ◌<◌, [], ◌∷◌, sym, ap, subst, ◌∙◌, length, drop, arith, List}
use Rattle.std.specs.Prelude.{Err}
use Rattle.line_forms.specs.declared.refusal.LineRefusal.{LineRefusal}
use Rattle.std.specs.declared.option.Option.TheVariants.{None, Some}
use Rattle.wire_forms.specs.Liars.{has_number}
use Rattle.quorum_rules.specs.Limits.{Numbers}
use Rattle.protocol.specs.Setting.{Setting}
use Rattle.protocol.specs.Instance.{setting_of}
use Rattle.event_lines.specs.declared.line.ReplayLine.{ReplayLine}
use Rattle.world_state.specs.Worlds.{WorldView, setting_in, world_in}
use Rattle.protocol.specs.Lines.{IsRun, FitsLine}
use Rattle.script_run.specs.Performing.{cause_of, after_line, start_queues, run_line, run_lines, LeadsTo, Performs}
use Rattle.script_run.specs.Performing.{CommandQueues as TheQueues}
use Rattle.script_run.specs.CommandQueues.{queues_in}
use Rattle.script_run.proofs.lemmas.Leading.{leads_next, stops_here, after-place, run_next, told_at}
use Rattle.script_run.proofs.Taking.{next_within, next_is, rest_is, all_counted, all_taken}
use Rattle.script_run.proofs.run.perform.Goals as goal

pub returns-in-Err-clause-stop : goal.returns-in-Err-clause-stop
returns-in-Err-clause-stop c = λ line cause e.
    let config = c.args.replay.config in
    let s = setting_of config (has_number c.args.replay.liars.nodes) (has_number c.args.replay.liars.clients) in
    let lines = c.args.replay.lines in
    let i = c.loop-line.place in
    let inv = c.loop-line.invariant in
    let x = c.in-Some.line in
    let d = queues_in c.loop-line.queues in
    let next : drop i lines ≡ x ∷ c.next.new.self = sym inv.rest ∙ c.in-Some.ensures.parts in
    let told = told_at _ line c.in-Err.refusal cause (sym c.refused.ensures ∙ cc) in
    let why : cause_of s config d x ≡ Some cause =
    subst (λ (n : Numbers). cause_of s n d x ≡ Some cause) inv.cluster (subst (λ (z : Setting). cause_of z c.loop-line.queues.world.config d x ≡ Some cause) inv.setting (c.in-Err.ensures.cause cause (ap (λ (r : LineRefusal). Err r) told.0))) in
    let before = c.lines_before.ensures.is in
    let number = told.1 in
    (i, stops_here s config d lines i x cause (next_within lines i x c.next.new.self next) (next_is lines i x c.next.new.self next) inv.leads why, omega arith)

pub loop-line-preserved : goal.loop-line-preserved
loop-line-preserved c =
    let config = c.args.replay.config in
    let s = setting_of config (has_number c.args.replay.liars.nodes) (has_number c.args.replay.liars.clients) in
    let lines = c.args.replay.lines in
    let i = c.loop-line.place in
    let inv = c.loop-line.invariant in
    let x = c.in-Some.line in
    let w = c.loop-line.queues.world in
    let d = queues_in c.loop-line.queues in
    let new = queues_in c.perform.new.self in
    let next : drop i lines ≡ x ∷ c.next.new.self = sym inv.rest ∙ c.in-Some.ensures.parts in
    let lt : i < length lines = next_within lines i x c.next.new.self next in
    let why : cause_of s config d x ≡ None =
    subst (λ (n : Numbers). cause_of s n d x ≡ None) inv.cluster (subst (λ (z : Setting). cause_of z w.config d x ≡ None) inv.setting c.in_default-perform.ensures.allowed) in
    let is : new ≡ after_line s config d (i + 1) x =
    subst (λ (n : Numbers). new ≡ after_line s n d (i + 1) x) inv.cluster
    (subst (λ (z : Setting). new ≡ after_line z w.config d (i + 1) x) inv.setting c.in_default-perform.ensures.ok) in
    record {
      within = omega arith;
      rest = rest_is lines i x c.next.new.self next;
      placed = ap (λ (z : TheQueues). z.world.place) is ∙ after-place s config d (i + 1) x why;
      cluster = c.in_default-perform.ensures.cluster ∙ inv.cluster;
      setting = c.in_default-perform.ensures.setting ∙ inv.setting;
      is_run =
          let fits : FitsLine s (run_line s d x) = subst (λ (z : Setting). FitsLine z (run_line z d x)) inv.setting c.in_default-perform.ensures.fits in
          run_next s config d new (i + 1) lines i x lt (next_is lines i x c.next.new.self next) inv.leads (omega arith) inv.placed why is fits inv.is_run;
      leads = leads_next s config (start_queues s) d new (i + 1) lines i x lt (next_is lines i x c.next.new.self next) inv.leads (omega arith) why is;
    }

pub returns-clause-run : goal.returns-clause-run
returns-clause-run c =
    let config = c.args.replay.config in
    let s = setting_of config (has_number c.args.replay.liars.nodes) (has_number c.args.replay.liars.clients) in
    let lines = c.args.replay.lines in
    let i = c.loop-line.place in
    let inv = c.loop-line.invariant in
    let w = c.loop-line.queues.world in
    let d = queues_in c.loop-line.queues in
    let over : drop i lines ≡ [] = sym inv.rest ∙ c.in_default.ensures.none in
    let leads : Performs s config lines d =
    subst (λ (ls : List ReplayLine). LeadsTo s config (start_queues s) 1 ls d) (all_taken lines i inv.within over) inv.leads in
    let there : Performs (setting_in w) w.config lines d =
    subst (λ (z : Setting). Performs z w.config lines d) (sym inv.setting) (subst (λ (n : Numbers). Performs s n lines d) (sym inv.cluster) leads) in
    (d, subst (λ (v : WorldView). Performs (setting_in v) v.config lines d) (sym c.into_world.ensures) there, ap world_in (sym c.into_world.ensures))

pub returns-clause-is_run : goal.returns-clause-is_run
returns-clause-is_run c =
    let config = c.args.replay.config in
    let s = setting_of config (has_number c.args.replay.liars.nodes) (has_number c.args.replay.liars.clients) in
    let lines = c.args.replay.lines in
    let i = c.loop-line.place in
    let inv = c.loop-line.invariant in
    let w = c.loop-line.queues.world in
    let over : drop i lines ≡ [] = sym inv.rest ∙ c.in_default.ensures.none in
    let run : IsRun s (run_lines s config lines) (world_in w) = subst (λ (ls : List ReplayLine). IsRun s (run_lines s config ls) (world_in w)) (all_taken lines i inv.within over) inv.is_run in
    let there : IsRun (setting_in w) (run_lines (setting_in w) w.config lines) (world_in w) =
    subst (λ (z : Setting). IsRun z (run_lines z w.config lines) (world_in w)) (sym inv.setting) (subst (λ (n : Numbers). IsRun s (run_lines s n lines) (world_in w)) (sym inv.cluster) run) in
    subst (λ (v : WorldView). IsRun (setting_in v) (run_lines (setting_in v) v.config lines) (world_in v)) (sym c.into_world.ensures) there

pub returns-clause-placed : goal.returns-clause-placed
returns-clause-placed c =
    let inv = c.loop-line.invariant in
    let over : drop c.loop-line.place c.args.replay.lines ≡ [] = sym inv.rest ∙ c.in_default.ensures.none in
    ap (λ (v : WorldView). v.seen.place) c.into_world.ensures ∙ inv.placed ∙ all_counted c.args.replay.lines c.loop-line.place inv.within over
