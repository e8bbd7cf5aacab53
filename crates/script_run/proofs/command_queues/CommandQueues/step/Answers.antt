use Rattle.std.proofs.Common.{◌≡◌, ◌<◌, ◌∙◌, ap, sym, subst, length, arith, [], List, OnOk, IsErrOf}
use Rattle.std.specs.Prelude.{slice_index_or, slice_set, option_map}
use Rattle.std.specs.declared.option.Option.TheVariants.{None, Some}
use Rattle.quorum_rules.specs.Limits.{Numbers}
use Rattle.protocol.specs.Lines.{Line, FitsLine, fault, plays}
use Rattle.block_device.specs.declared.steps.BlockStep.{BlockStep}
use Rattle.block_device.specs.Steps.{Fits}
use Rattle.line_forms.specs.declared.cause.Cause.{Cause as Causes}
use Rattle.line_forms.specs.declared.cause.Cause.TheVariants.{Step}
use Rattle.line_forms.specs.declared.refusal.LineRefusal.TheVariants as refusals
use Rattle.world_state.specs.Worlds.{setting_in, world_in}
use Rattle.script_run.specs.Performing.{next_cause, started_by, next_line, stepped}
use Rattle.script_run.specs.CommandQueues.{QueuesView, queues_in}
use Rattle.script_run.proofs.Keeping.{both, on_ok, left_set, queue_is, step_fits, queues_stay}
use Rattle.script_run.proofs.command_queues.CommandQueues.step.Goals as goal

pub invariant_of-self-2 : goal.invariant_of-self-2
invariant_of-self-2 c =
    let count = c.self.invariant.0.count in
    let low = c.requires.client in
    (queues_stay c.self.inside.config c.self.inside.left.items c.args.client c.in-Some.step c.next.new.self c.self.invariant.0 (omega arith) c.index_mut.result.now c.index_mut.ensures.value c.in-Some.ensures.steps, c.self.invariant.1)

pub line_of-requires : goal.line_of-requires
line_of-requires c =
    let count = c.self.invariant.0.count in
    let low = c.requires.client in
    subst (λ (n : Numbers). Fits n c.in-Some.step) (sym c.self.invariant.1)
    (step_fits c.self.inside.config c.self.inside.left.items c.args.client c.in-Some.step c.next.new.self c.self.invariant.0 (omega arith) c.index_mut.result.now c.index_mut.ensures.value c.in-Some.ensures.steps)

pub invariant_of-self-in_err-line : goal.invariant_of-self-in_err-line
invariant_of-self-in_err-line c =
    let count = c.self.invariant.0.count in
    let low = c.requires.client in
    (queues_stay c.self.inside.config c.self.inside.left.items c.args.client c.in-Some.step c.next.new.self c.self.invariant.0 (omega arith) c.index_mut.result.now c.index_mut.ensures.value c.in-Some.ensures.steps, c.self.invariant.1)

pub invariant_of-self-3 : goal.invariant_of-self-3
invariant_of-self-3 c =
    let count = c.self.invariant.0.count in
    let low = c.requires.client in
    (queues_stay c.self.inside.config c.self.inside.left.items c.args.client c.in-Some.step c.next.new.self c.self.invariant.0 (omega arith) c.index_mut.result.now c.index_mut.ensures.value c.in-Some.ensures.steps, c.play.ensures.cluster ∙ c.self.invariant.1)

pub returns-clause-allowed : goal.returns-clause-allowed
returns-clause-allowed c =
    let count = c.self.invariant.0.count in
    let low = c.requires.client in
    let w = c.self.inside.world in
    let k = c.args.client in
    let at = queue_is c.self.inside.config c.self.inside.left.items k c.in-Some.step c.next.new.self c.self.invariant.0 (omega arith) c.index_mut.result.now c.index_mut.ensures.value c.in-Some.ensures.steps in
    subst (λ (d : QueuesView). OnOk c.play.result (next_cause (setting_in d.world) (world_in d.world) k (slice_index_or d.left k []) ≡ None)) c.self.view_is
    (subst (λ (zs : List BlockStep). OnOk c.play.result (next_cause (setting_in w) (world_in w) k zs ≡ None)) (sym at)
    (subst (λ (l : Line). OnOk c.play.result (option_map Step (fault (setting_in w) (world_in w) l) ≡ None)) c.in_ok-line.ensures.line c.play.ensures.allowed))

pub returns-clause-fits : goal.returns-clause-fits
returns-clause-fits c =
    let count = c.self.invariant.0.count in
    let low = c.requires.client in
    let w = c.self.inside.world in
    let k = c.args.client in
    let at = queue_is c.self.inside.config c.self.inside.left.items k c.in-Some.step c.next.new.self c.self.invariant.0 (omega arith) c.index_mut.result.now c.index_mut.ensures.value c.in-Some.ensures.steps in
    let fits : FitsLine (setting_in w) (started_by (setting_in w) (world_in w) k c.in-Some.step) = subst (λ (l : Line). FitsLine (setting_in w) l) c.in_ok-line.ensures.line c.in_ok-line.ensures.fits in
    subst (λ (d : QueuesView). OnOk c.play.result (FitsLine (setting_in d.world) (next_line (setting_in d.world) (world_in d.world) k (slice_index_or d.left k [])))) c.self.view_is
    (subst (λ (zs : List BlockStep). OnOk c.play.result (FitsLine (setting_in w) (next_line (setting_in w) (world_in w) k zs))) (sym at)
    (on_ok c.play.result (λ e. fits) c.play.ensures.allowed))

pub returns-clause-ok : goal.returns-clause-ok
returns-clause-ok c =
    let count = c.self.invariant.0.count in
    let low = c.requires.client in
    let w = c.self.inside.world in
    let k = c.args.client in
    let left = c.self.inside.left.items in
    let within : k < length left = omega arith in
    let new = queues_in (record { world = c.play.new.world; left = slice_set left k c.next.new.self }) in
    let at = queue_is c.self.inside.config left k c.in-Some.step c.next.new.self c.self.invariant.0 within c.index_mut.result.now c.index_mut.ensures.value c.in-Some.ensures.steps in
    subst (λ (d : QueuesView). OnOk c.play.result (new ≡ stepped (setting_in d.world) (queues_in d) c.args.place k (slice_index_or d.left k []))) c.self.view_is
    (subst (λ (zs : List BlockStep). OnOk c.play.result (new ≡ stepped (setting_in w) (queues_in (record { world = w; left = left })) c.args.place k zs)) (sym at)
    (on_ok c.play.result
    (λ e. both (world_in c.play.new.world) (plays (setting_in w) (world_in w) c.args.place (started_by (setting_in w) (world_in w) k c.in-Some.step)) _ _ (e ∙ ap (plays (setting_in w) (world_in w) c.args.place) c.in_ok-line.ensures.line) (left_set left k c.next.new.self within))
    c.play.ensures.ok))

pub returns-clause-cause : goal.returns-clause-cause
returns-clause-cause c =
    let count = c.self.invariant.0.count in
    let low = c.requires.client in
    let w = c.self.inside.world in
    let k = c.args.client in
    let at = queue_is c.self.inside.config c.self.inside.left.items k c.in-Some.step c.next.new.self c.self.invariant.0 (omega arith) c.index_mut.result.now c.index_mut.ensures.value c.in-Some.ensures.steps in
    subst (λ (d : QueuesView). (x : Causes) → IsErrOf c.play.result (refusals.Cause x) → next_cause (setting_in d.world) (world_in d.world) k (slice_index_or d.left k []) ≡ Some x) c.self.view_is
    (subst (λ (zs : List BlockStep). (x : Causes) → IsErrOf c.play.result (refusals.Cause x) → next_cause (setting_in w) (world_in w) k zs ≡ Some x) (sym at)
    (subst (λ (l : Line). (x : Causes) → IsErrOf c.play.result (refusals.Cause x) → option_map Step (fault (setting_in w) (world_in w) l) ≡ Some x) c.in_ok-line.ensures.line c.play.ensures.cause))
