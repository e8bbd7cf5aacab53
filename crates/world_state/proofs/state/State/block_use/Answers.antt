use Rattle.std.proofs.Common.{List, get_or, length, sym, ◌∙◌, ap, subst, ◌<◌, ◌≤◌}
use Rattle.std.proofs.lemmas.List.{get_or_default, get_or_past}
use Rattle.protocol.specs.Lines.{is_busy_at}
use Rattle.world_state.specs.declared.block_use.BlockUse.{BlockUse}
use Rattle.world_state.specs.Worlds.{setting_in, world_in}
use Rattle.world_state.specs.BlockUses.{unused}
use Rattle.world_state.proofs.SettledUses.{busy-use}
use Rattle.world_state.proofs.state.State.block_use.Goals as goal

pub returns-in-Some-clause-at_work : goal.returns-in-Some-clause-at_work
returns-in-Some-clause-at_work c =
    let u = c.in-Some.block_use.now in
    let there = c.in-Some.ensures.lookup in
    let same = ap (λ (us : List BlockUse). get_or us c.args.block u) c.deref.ensures.value in
    let within = subst (λ (us : List BlockUse). c.args.block < length us) c.deref.ensures.value there.3.0 in
    busy-use c.self.inside c.self.invariant.0.clients c.self.invariant.2 c.args.block u
    (get_or_default c.self.inside.uses.items c.args.block unused u within ∙ sym (there.1 ∙ same))
    ∙ ap (λ v. is_busy_at (setting_in v) (world_in v) c.args.block) c.self.view_is

pub returns-in-None-clause-at_work : goal.returns-in-None-clause-at_work
returns-in-None-clause-at_work c =
    let past = subst (λ (us : List BlockUse). length us ≤ c.args.block) c.deref.ensures.value c.in-None.ensures.lookup.3 in
    busy-use c.self.inside c.self.invariant.0.clients c.self.invariant.2 c.args.block unused (get_or_past c.self.inside.uses.items c.args.block unused past)
    ∙ ap (λ v. is_busy_at (setting_in v) (world_in v) c.args.block) c.self.view_is
