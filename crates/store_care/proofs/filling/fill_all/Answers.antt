use Rattle.std.proofs.Common.{◌≡◌, ◌+◌, ◌-◌, min, ◌++◌, ℕ, length, length-append, ap, subst, ◌∙◌, arith}
use Rattle.quorum_rules.specs.Limits.{Numbers}
use Rattle.store_care.specs.Filling.{AreFilling, AreGroups, first_of, count_of, groups_of}
use Rattle.store_care.proofs.Groups.{if_err, leads_then, groups_then, group_at, filling_then}
use Rattle.store_care.proofs.filling.fill_all.Goals as goal

pub loop-group-preserved : goal.loop-group-preserved
loop-group-preserved g c =
    let D = g.D.Disk in
    let E = g.E.Disk in
    let inv = c.loop-group.invariant in
    let before = inv.calls in
    let more = c.in_ok-fill.ensures.calls in
    let config = c.args.store.now.config in
    let blocks = config.blocks in
    let k = c.loop-group.group in
    let first : c.min-first.result ≡ first_of blocks k = c.min-first.ensures ∙ ap (λ (b : ℕ). first_of b k) inv.blocks in
    let count : c.min-count.result ≡ count_of blocks k = c.min-count.ensures ∙ ap (λ (f : ℕ). min 64 (c.blocks-blocks.result - f)) c.min-first.ensures ∙ ap (λ (b : ℕ). count_of b k) inv.blocks in
    record {
      config = c.in_ok-fill.ensures.config ∙ inv.config;
      blocks = inv.blocks;
      most = inv.most;
      ends = inv.ends;
      calls = (
        before.0 ++ more.0,
        leads_then D.pending D.seen D.most D.moment D.left_since before.0 more.0 c.args.store.now c.loop-group.store c.fill.new.store before.1 more.1,
        groups_then blocks 0 before.0 more.0 before.2
            (subst (λ (n : ℕ). AreGroups blocks n more.0) (let e : k ≡ 0 + length before.0 = omega (arith, before.3) in e)
            (group_at blocks k c.min-first.result c.min-count.result more.0 first count more.2)),
        omega (arith, length-append before.0 more.0, before.3, more.3.0),
        filling_then E.pending E.seen config c.args.number before.0 more.0 _ c.loop-group.filled c.fill.new.self c.args.node.now c.loop-group.node c.fill.new.node before.4
            (subst (λ (n : Numbers). AreFilling E.pending E.seen n c.args.number more.0 c.loop-group.filled c.fill.new.self c.loop-group.node c.fill.new.node) inv.config more.3.1),
      );
    }

pub returns-clause-calls : goal.returns-clause-calls
returns-clause-calls g c =
    let inv = c.loop-group.invariant in
    let calls = inv.calls in
    let many : length calls.0 ≡ groups_of c.args.store.now.config.blocks =
    omega (arith, calls.3, c.loop-group-test.false, c.loop-group.auto.group-end, inv.ends, ap groups_of inv.blocks) in
    (calls.0, calls.1, calls.2, (many, calls.4))

pub returns-in_err-fill-clause-calls : goal.returns-in_err-fill-clause-calls
returns-in_err-fill-clause-calls g c =
    let D = g.D.Disk in
    let inv = c.loop-group.invariant in
    let before = inv.calls in
    let more = c.in_err-fill.ensures.calls in
    let blocks = c.args.store.now.config.blocks in
    let k = c.loop-group.group in
    let first : c.min-first.result ≡ first_of blocks k = c.min-first.ensures ∙ ap (λ (b : ℕ). first_of b k) inv.blocks in
    let count : c.min-count.result ≡ count_of blocks k = c.min-count.ensures ∙ ap (λ (f : ℕ). min 64 (c.blocks-blocks.result - f)) c.min-first.ensures ∙ ap (λ (b : ℕ). count_of b k) inv.blocks in (
      before.0 ++ more.0,
      leads_then D.pending D.seen D.most D.moment D.left_since before.0 more.0 c.args.store.now c.loop-group.store c.fill.new.store before.1 more.1,
      groups_then blocks 0 before.0 more.0 before.2
          (subst (λ (n : ℕ). AreGroups blocks n more.0) (let e : k ≡ 0 + length before.0 = omega (arith, before.3) in e)
          (group_at blocks k c.min-first.result c.min-count.result more.0 first count more.2)),
      if_err _ c.from_residual.result c.from_residual.ensures.0,
    )
