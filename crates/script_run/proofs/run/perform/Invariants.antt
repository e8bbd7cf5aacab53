use Rattle.std.proofs.Common.{◌≡◌, ◌≤◌, take, drop, length}
use Rattle.wire_forms.specs.Liars.{has_number}
use Rattle.protocol.specs.Instance.{setting_of}
use Rattle.protocol.specs.Lines.{IsRun}
use Rattle.world_state.specs.Worlds.{setting_in, world_in}
use Rattle.script_run.specs.Performing.{LeadsTo, start_queues, run_lines}
use Rattle.script_run.specs.CommandQueues.{queues_in}
use Rattle.script_run.proofs.run.perform.Given as goal

abbrev pub invariant-loop-line : goal.invariant-loop-line
invariant-loop-line l = record {
  within : l.place ≤ length l.fn.replay.lines;
  rest : l.left ≡ drop l.place l.fn.replay.lines;
  placed : l.queues.world.seen.place ≡ l.place;
  cluster : l.queues.world.config ≡ l.fn.replay.config;
  setting : setting_in l.queues.world ≡ setting_of l.fn.replay.config (has_number l.fn.replay.liars.nodes) (has_number l.fn.replay.liars.clients);
  leads :
      LeadsTo (setting_of l.fn.replay.config (has_number l.fn.replay.liars.nodes) (has_number l.fn.replay.liars.clients)) l.fn.replay.config
      (start_queues (setting_of l.fn.replay.config (has_number l.fn.replay.liars.nodes) (has_number l.fn.replay.liars.clients))) 1 (take l.place l.fn.replay.lines) (queues_in l.queues);
  is_run :
      IsRun (setting_of l.fn.replay.config (has_number l.fn.replay.liars.nodes) (has_number l.fn.replay.liars.clients))
      (run_lines (setting_of l.fn.replay.config (has_number l.fn.replay.liars.nodes) (has_number l.fn.replay.liars.clients)) l.fn.replay.config (take l.place l.fn.replay.lines)) (world_in l.queues.world);
}

abbrev pub decreases-loop-line : goal.decreases-loop-line
decreases-loop-line l = length l.left
