use Rattle.std.proofs.Common.{◌≡◌, ◌+◌, ◌<◌, ◌⊎◌, length, get_or, sym, ◌∙◌, ap, inl, inr, arith}
use Rattle.std.specs.declared.option.Option.TheVariants.{Some}
use Rattle.protocol.specs.Seen.{task_at}
use Rattle.protocol.specs.Instance.{setting}
use Rattle.protocol.specs.Operations.{decide}
use Rattle.quorum_rules.specs.Limits.{wait_of}
use Rattle.node_device.specs.Phases.{asked}
use Rattle.node_device.proofs.Phases.{begins, message_is, goes_on, ends, sent_count, end_is_told}
use Rattle.node_device.proofs.asking.ask.Goals as goal

pub loop-message-init : goal.loop-message-init
loop-message-init c = (c.requires.0, c.requires.1, begins _ _ _ _ c.requires.1)

pub meet-requires-clause-asks : goal.meet-requires-clause-asks
meet-requires-clause-asks c =
    let inv = c.loop-message.invariant in
    let is = message_is _ _ _ _ inv.1 c.loop-message.message-index c.message-item.result (omega (arith, inv.2.few, inv.1.waits.1)) (c.message-item.is ∙ ap (λ xs. get_or xs c.loop-message.message-index c.message-item.result) c.as_slice-message-items.ensures) in
    rw is tt

pub meet-requires-clause-there : goal.meet-requires-clause-there
meet-requires-clause-there c =
    let inv = c.loop-message.invariant in
    let is = message_is _ _ _ _ inv.1 c.loop-message.message-index c.message-item.result (omega (arith, inv.2.few, inv.1.waits.1)) (c.message-item.is ∙ ap (λ xs. get_or xs c.loop-message.message-index c.message-item.result) c.as_slice-message-items.ensures) in
    rw is (omega (arith, inv.2.few, inv.1.waits.1, inv.2.answered.count, inv.1.count))

pub returns-in_default : goal.returns-in_default
returns-in_default c =
    let inv = c.loop-message.invariant in
    let k = c.loop-message.message-index in
    let is = message_is _ _ _ _ inv.1 k c.message-item.result (omega (arith, inv.2.few, inv.1.waits.1)) (c.message-item.is ∙ ap (λ xs. get_or xs k c.message-item.result) c.as_slice-message-items.ensures) in
    let more = goes_on _ _ _ _ inv.1 k _ _ _ _ inv.2 c.message-item.result is c.in_ok-heard.heard c.in_ok-heard.ensures in
    let last = ends _ _ _ _ inv.1 k _ _ _ _ inv.2 c.message-item.result is c.in_ok-heard.heard c.in_ok-heard.ensures in
    let either : (k + 1 < wait_of c.args.client.now.config) ⊎ (k + 1 ≡ wait_of c.args.client.now.config) = (let few = inv.2.few in grind arith) in
    λ t e.
    let same : inv.0 ≡ t = (let f : Some inv.0 ≡ Some t = sym inv.1.task ∙ e in cc) in
    elim either [ inl w ↦ absurd (c.in_default.not-More (more w).0) | inr w ↦ rw (← same) (last w) ]

pub loop-message-preserved : goal.loop-message-preserved
loop-message-preserved c =
    let inv = c.loop-message.invariant in
    let k = c.loop-message.message-index in
    let is = message_is _ _ _ _ inv.1 k c.message-item.result (omega (arith, inv.2.few, inv.1.waits.1)) (c.message-item.is ∙ ap (λ xs. get_or xs k c.message-item.result) c.as_slice-message-items.ensures) in
    let more = goes_on _ _ _ _ inv.1 k _ _ _ _ inv.2 c.message-item.result is c.in_ok-heard.heard c.in_ok-heard.ensures in
    let last = ends _ _ _ _ inv.1 k _ _ _ _ inv.2 c.message-item.result is c.in_ok-heard.heard c.in_ok-heard.ensures in
    let either : (k + 1 < wait_of c.args.client.now.config) ⊎ (k + 1 ≡ wait_of c.args.client.now.config) = (let few = inv.2.few in grind arith) in
    elim either [
      | inl w ↦ (inv.0, inv.1, (more w).1)
      | inr w ↦ absurd (
          let u = asked c.args.client.now.config c.args.nodes.now.items inv.0 (wait_of c.args.client.now.config) in
          end_is_told c.args.client.now.config c.args.client.now.id u (decide (setting c.args.client.now.config) c.args.client.now.id (task_at 0 u) u.stage) (sym c.in-More.is ∙ (last w).told))
    ]

pub unreachable-requires : goal.unreachable-requires
unreachable-requires c =
    let inv = c.loop-message.invariant in
    let all = ap (λ xs. length xs) c.as_slice-message-items.ensures in
    omega (arith, c.loop-message-test.false, inv.2.few, inv.1.waits.1, sent_count _ _ _ _ inv.1, all)
