use Rattle.std.proofs.Common.{◌≡◌, ◌<◌, ◌∙◌, ap, sym, subst, length, arith, []}
use Rattle.std.specs.Prelude.{slice_index_or}
use Rattle.std.specs.List.{All}
use Rattle.quorum_rules.specs.Limits.{Numbers}
use Rattle.protocol.specs.Count.{update}
use Rattle.protocol.specs.World.{only_place}
use Rattle.block_device.specs.Steps.{Fits, steps_of}
use Rattle.world_state.specs.Worlds.{setting_in, world_in}
use Rattle.script_run.specs.Performing.{begun}
use Rattle.script_run.specs.CommandQueues.{QueuesView, queues_in}
use Rattle.script_run.proofs.Keeping.{both, left_set, set_queue}
use Rattle.script_run.proofs.command_queues.CommandQueues.begin.Goals as goal

pub invariant_of-self : goal.invariant_of-self
invariant_of-self c = (c.self.invariant.0, c.play.ensures.cluster ∙ c.self.invariant.1)

pub invariant_of-self-2 : goal.invariant_of-self-2
invariant_of-self-2 c =
    let left = c.self.inside.left.items in
    let count = c.self.invariant.0.count in
    let low = c.requires.client in
    let within : c.args.client < length left = omega arith in
    let same : c.args.self.now.world.config ≡ c.self.inside.config = ap (λ (d : QueuesView). d.world.config) (sym c.self.view_is) ∙ c.self.invariant.1 in
    (set_queue c.self.inside.config left c.args.client c.in_ok-command.command c.self.invariant.0 within (subst (λ (n : Numbers). All (Fits n) c.in_ok-command.command) same c.in_ok-command.ensures.fit), c.play.ensures.cluster ∙ c.self.invariant.1)

pub returns-clause-ok : goal.returns-clause-ok
returns-clause-ok c =
    let left = c.self.inside.left.items in
    let count = c.self.invariant.0.count in
    let low = c.requires.client in
    let within : c.args.client < length left = omega arith in
    let w = c.self.inside.world in
    let steps : c.in_ok-command.command ≡ steps_of w.config c.args.op.now = c.in_ok-command.ensures.steps ∙ ap (λ (d : QueuesView). steps_of d.world.config c.args.op.now) (sym c.self.view_is) in
    let is = both (world_in c.play.new.world) (only_place (setting_in w) (world_in w) c.args.place) _ _ c.in_ok-play.ensures.ok
    (left_set left c.args.client c.in_ok-command.command within ∙ ap (update (λ k. slice_index_or left k []) c.args.client) steps) in
    ap (λ z. z) is ∙ ap (λ (d : QueuesView). begun (setting_in d.world) d.world.config (queues_in d) c.args.place c.args.client c.args.op.now) c.self.view_is
