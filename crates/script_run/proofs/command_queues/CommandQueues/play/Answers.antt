use Rattle.std.proofs.Common.{◌≡◌, ◌<◌, ℕ, length, [], ◌∙◌, ap, sym, subst, Err, IsErrOf}
use Rattle.std.specs.Prelude.{IfSome, Option, slice_index_or}
use Rattle.std.specs.declared.option.Option.TheVariants.{None, Some}
use Rattle.line_forms.specs.declared.cause.Cause.{Cause as Causes}
use Rattle.line_forms.specs.declared.refusal.LineRefusal.TheVariants as refusals
use Rattle.protocol.specs.Lines.{plays}
use Rattle.event_lines.specs.declared.line.ReplayLine.TheVariants.{Plain}
use Rattle.world_state.specs.Worlds.{setting_in, world_in}
use Rattle.script_run.specs.Performing.{without, cause_of, after_line}
use Rattle.script_run.specs.CommandQueues.{QueuesView, queues_in}
use Rattle.script_run.proofs.Keeping.{both, left_without, returning_within, queues_without}
use Rattle.script_run.proofs.command_queues.CommandQueues.play.Goals as goal

pub drop_steps-requires : goal.drop_steps-requires
drop_steps-requires c =
    let w = c.self.inside.world in
    subst (λ (o : Option ℕ). IfSome o (λ k. k < length c.self.inside.left.items)) (sym c.returning.ensures)
    (returning_within (setting_in w) (world_in w) c.args.line.now c.self.inside.left.items c.in_default.ensures.allowed c.self.invariant.0.count)

pub invariant_of-self : goal.invariant_of-self
invariant_of-self c = (c.self.invariant.0, c.play.ensures.cluster ∙ c.self.invariant.1)

pub invariant_of-self-2 : goal.invariant_of-self-2
invariant_of-self-2 c =
    let w = c.self.inside.world in
    let within = subst (λ (o : Option ℕ). IfSome o (λ k. k < length c.self.inside.left.items)) (sym c.returning.ensures)
    (returning_within (setting_in w) (world_in w) c.args.line.now c.self.inside.left.items c.in_default.ensures.allowed c.self.invariant.0.count) in (
      queues_without c.self.inside.config c.self.inside.left.items c.drop_steps.new.left.items c.returning.result within c.drop_steps.ensures.kept c.drop_steps.ensures.dropped c.self.invariant.0,
      c.play.ensures.cluster ∙ c.self.invariant.1,
    )

pub returns-clause-ok : goal.returns-clause-ok
returns-clause-ok c =
    let w = c.self.inside.world in
    let left = c.self.inside.left.items in
    let within = subst (λ (o : Option ℕ). IfSome o (λ k. k < length left)) (sym c.returning.ensures)
    (returning_within (setting_in w) (world_in w) c.args.line.now left c.in_default.ensures.allowed c.self.invariant.0.count) in
    both (world_in c.play.new.world) (plays (setting_in w) (world_in w) c.args.place c.args.line.now) _ _ c.in_default.ensures.ok
    (left_without left c.drop_steps.new.left.items c.returning.result within c.drop_steps.ensures.kept c.drop_steps.ensures.dropped ∙ ap (without (λ k. slice_index_or left k [])) c.returning.ensures)
    ∙ ap (λ (d : QueuesView). after_line (setting_in d.world) d.world.config (queues_in d) c.args.place (Plain c.args.line.now)) c.self.view_is

pub returns-clause-allowed : goal.returns-clause-allowed
returns-clause-allowed c =
    subst (λ (d : QueuesView). cause_of (setting_in d.world) d.world.config (queues_in d) (Plain c.args.line.now) ≡ None) c.self.view_is c.in_default.ensures.allowed

pub returns-in-Err-clause-cause : goal.returns-in-Err-clause-cause
returns-in-Err-clause-cause c =
    subst
    (λ (d : QueuesView). (x : Causes) → IsErrOf (Err c.in-Err.refusal) (refusals.Cause x) → cause_of (setting_in d.world) d.world.config (queues_in d) (Plain c.args.line.now) ≡ Some x)
    c.self.view_is c.in-Err.ensures.cause
