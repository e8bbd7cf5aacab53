use Rattle.std.proofs.Common.{◌≡◌, length, sym, ap, subst, ◌∙◌, inl, inr, arith}
use Rattle.store_device.specs.Stores.{SeenStore}
use Rattle.store_care.specs.Settling.{TriesLead, unsettled}
use Rattle.store_care.proofs.Looks.{on_err}
use Rattle.store_care.proofs.Tried.{one_more_try, settled_at_last}
use Rattle.store_care.proofs.settling.settle_group.Goals as goal

pub returns-in_err-settle-clause-tries : goal.returns-in_err-settle-clause-tries
returns-in_err-settle-clause-tries g c =
    let D = g.D.Disk in
    let did = c.in_err-settle.ensures.calls in
    let all = one_more_try D.pending D.seen D.most D.moment D.left_since c.args.first c.args.count c.loop-turn._turn did.0 c.args.store.now c.loop-turn.store c.count_unsettled.new.store c.settle.new.store
    c.loop-turn.invariant.tried c.count_unsettled.ensures.same did.1 did.2 in
    (all.tries, all.lead, on_err _ c.from_residual-in_err-settle.result c.from_residual-in_err-settle.ensures.0)

pub loop-turn-preserved : goal.loop-turn-preserved
loop-turn-preserved g c =
    let D = g.D.Disk in
    let inv = c.loop-turn.invariant in
    let did = c.in_ok-settle.ensures.calls in
    record {
      config = c.in_ok-settle.ensures.config ∙ ap (λ (s : SeenStore _). s.config) c.count_unsettled.ensures.same ∙ inv.config;
      tried = one_more_try D.pending D.seen D.most D.moment D.left_since c.args.first c.args.count c.loop-turn._turn did.0 c.args.store.now c.loop-turn.store c.count_unsettled.new.store c.settle.new.store
          inv.tried c.count_unsettled.ensures.same did.1 did.2;
    }

pub returns-then-branch-eq0-clause-tries : goal.returns-then-branch-eq0-clause-tries
returns-then-branch-eq0-clause-tries g c =
    let D = g.D.Disk in
    let so_far = c.loop-turn.invariant.tried in
    let none : length (unsettled c.loop-turn.store c.args.first c.args.count) ≡ 0 = sym c.in_ok-count_unsettled.ensures.count ∙ c.if-branch-eq0.true in (
      so_far.tries,
      subst (λ (s : SeenStore _). TriesLead D.pending D.seen D.most D.moment D.left_since c.args.store.now so_far.tries s) (sym c.count_unsettled.ensures.same) so_far.lead,
      λ block low high.
          inl (settled_at_last D.pending D.seen D.most D.moment D.left_since so_far.tries c.args.store.now c.loop-turn.store c.args.first c.args.count so_far.lead none block low high),
    )

pub returns-clause-tries : goal.returns-clause-tries
returns-clause-tries g c =
    let so_far = c.loop-turn.invariant.tried in
    (so_far.tries, so_far.lead, λ block low high. inr (omega (arith, c.loop-turn-test.false, so_far.often block low high)))
