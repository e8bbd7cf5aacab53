use Rattle.std.proofs.Common.{◌≡◌, ◌+◌, ◌-◌, ◌*◌, ◌/◌, ℕ, suc, min, rules, subst, sym, ap, ◌∙◌, refl, arith}
use Rattle.quorum_rules.specs.Limits.{Numbers}
use Rattle.store_device.proofs.lemmas.Steps.{none_tended, tended_then}
use Rattle.store_care.specs.Pruning.{ArePruning, HasPassed, HavePassed}
use Rattle.store_care.proofs.pruning.prune_all.Goals as goal

pub loop-group-init : goal.loop-group-init
loop-group-init g c =
    let D = g.D.Disk in
    record {
      config = refl;
      blocks = search rules;
      ends = search rules;
      passed = refl;
      tended = none_tended D.pending D.seen D.most D.moment D.left_since c.args.store.now c.args.store.now refl;
    }

pub loop-group-preserved : goal.loop-group-preserved
loop-group-preserved g c =
    let D = g.D.Disk in
    let inv = c.loop-group.invariant in
    let k = c.loop-group.group in
    let mid = c.loop-group.store in
    let new = c.prune_due.new.store in
    let did = c.in_ok-prune_due.ensures.calls in
    let blocks : c.blocks-blocks.result ≡ mid.config.blocks = inv.blocks ∙ sym (ap (λ (n : Numbers). n.blocks) inv.config) in
    let ends : c.div_ceil-group-end.result ≡ (c.blocks-blocks.result + 63) / 64 = inv.ends in
    let first : c.min-first.result ≡ k * 64 = omega (arith, c.min-first.ensures, c.saturating_mul.ensures, ends, c.loop-group-test.true, c.blocks-blocks.ensures.most) in
    let count : c.min-count.result ≡ min 64 (mid.config.blocks - k * 64) = omega (arith, c.min-count.ensures, first, blocks) in
    let pruning : ArePruning (k * 64) (min 64 (mid.config.blocks - k * 64)) c.args.most mid did.0 =
    subst (λ (f : ℕ). ArePruning f (min 64 (mid.config.blocks - k * 64)) c.args.most mid did.0) first
    (subst (λ (n : ℕ). ArePruning c.min-first.result n c.args.most mid did.0) count did.2) in
    let passed : HasPassed D.pending D.seen D.most D.moment D.left_since c.args.most k mid new = record { calls = did.0; led = did.1; pruning = pruning; both = did.3 } in
    let next : suc k ≡ k + 1 = omega arith in
    record {
      config = c.in_ok-prune_due.ensures.config ∙ inv.config;
      blocks = inv.blocks;
      ends = inv.ends;
      passed = subst (λ (n : ℕ). HavePassed D.pending D.seen D.most D.moment D.left_since c.args.most n c.args.store.now new) next (mid, inv.passed, passed);
      tended = tended_then D.pending D.seen D.most D.moment D.left_since c.args.store.now c.loop-group.store c.prune_due.new.store inv.tended c.prune_due.ensures.tended;
    }

pub returns-in_err-prune_due-clause-tended : goal.returns-in_err-prune_due-clause-tended
returns-in_err-prune_due-clause-tended g c =
    let D = g.D.Disk in
    tended_then D.pending D.seen D.most D.moment D.left_since c.args.store.now c.loop-group.store c.prune_due.new.store c.loop-group.invariant.tended c.prune_due.ensures.tended
