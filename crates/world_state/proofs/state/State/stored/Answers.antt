use Rattle.std.proofs.Common.{sym, ◌∙◌, ap, arith}
use Rattle.node_core.specs.Seen.{versions_in}
use Rattle.version_disk.specs.Held.{held}
use Rattle.world_state.specs.Worlds.{world_in, node_in}
use Rattle.world_state.proofs.NodeSlots.{within, node_slot-there, row, versions-there}
use Rattle.world_state.proofs.state.State.stored.Goals as goal

pub returns-clause-state : goal.returns-clause-state
returns-clause-state c =
    let i = c.from.result in
    let old = c.index.result.now in
    let inside = within c.self.inside _ i c.args.node c.self.invariant.0 c.self.view_is c.from.ensures c.requires in
    let is = c.self.invariant.0.node_slot i old (node_slot-there c.self.inside i inside old c.index.ensures) in
    (λ j. held (sym (is.config ∙ ap (λ v. v.config) c.self.view_is) j) (sym (is.number ∙ c.from.ensures) j) c.bytes.result.now)
    ∙ c.bytes.ensures.held
    ∙ (λ j. record { config = is.config j; number = is.number j; blocks = sym (row c.self.inside i inside old c.index.ensures) j })
    ∙ (λ j. node_in (c.self.view_is j) (c.from.ensures j))

pub returns-clause-versions : goal.returns-clause-versions
returns-clause-versions c block there =
    let i = c.from.result in
    let old = c.index.result.now in
    let inside = within c.self.inside _ i c.args.node c.self.invariant.0 c.self.view_is c.from.ensures c.requires in
    let is = c.self.invariant.0.node_slot i old (node_slot-there c.self.inside i inside old c.index.ensures) in
    ap (λ a. versions_in a block)
    ((λ j. held (sym (is.config ∙ ap (λ v. v.config) c.self.view_is) j) (sym (is.number ∙ c.from.ensures) j) c.bytes.result.now) ∙ c.bytes.ensures.held)
    ∙ sym (versions-there c.self.inside i inside old c.index.ensures block (let e = ap (λ v. v.config.blocks) c.self.view_is in let f = is.blocks in omega (arith, e, f, there)))
    ∙ (λ j. (world_in (c.self.view_is j)).versions (c.from.ensures j) block)
