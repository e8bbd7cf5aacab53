use Rattle.std.proofs.Common.{◌≡◌, ℕ, ◌+◌, ◌<◌, Bool, List, length, get_or, sym, ◌∙◌, ap, subst, arith}
use Rattle.std.specs.Prelude.{Option, IsTrue}
use Rattle.std.specs.declared.option.Option.TheVariants.{Some}
use Rattle.std.proofs.lemmas.List.{get_or_default}
use Rattle.protocol.specs.Messages.{Ask, Reply, Version}
use Rattle.slab_layout.specs.Shapes.{shape_of}
use Rattle.slab_index.specs.Slots.{version_at}
use Rattle.slab_reading.proofs.lemmas.ReadCalls.{reads_both}
use Rattle.slab_engine.specs.declared.plan.Plan.{Plan}
use Rattle.slab_engine.specs.declared.plan.Plan.TheVariants.{Silent}
use Rattle.slab_engine.specs.Seen.{listed}
use Rattle.slab_engine.specs.Plans.{said, IsUnsaid}
use Rattle.slab_engine.specs.Replies.{AreSaidBelow}
use Rattle.slab_engine.proofs.Saying.{said_more, lost_more, forget_fewer, forget_none, forget_lost, some_map, none_block, lost_wider}
use Rattle.slab_engine.proofs.reply.reply_all.Goals as goal

pub returns-in_err-push-clause-lost : goal.returns-in_err-push-clause-lost
returns-in_err-push-clause-lost g c =
    let asks : List Ask = c.args.asks.now in
    let plans : List Plan = c.args.plans.now in
    let i = c.loop-i.i in
    let r : Option Reply = c.in_ok-reply.reply in
    let old : List Bool = c.loop-i.answers in
    let new : List Bool = c.forget.new.answers in
    let ask : Ask = get_or asks i c.index-asks-i.result in
    let lt : i < length asks = c.loop-i-test.true in
    let lp : i < length plans = (let a = c.requires.count in omega (arith, a, lt)) in
    let fewer = forget_fewer r old new ask.block c.forget.ensures.none c.forget.ensures.some in
    lost_wider asks plans (i + 1) (length asks) (listed c.args.answers.now) (listed new) (omega (arith, lt))
    (lost_more c.args.identity.now.first (version_at (shape_of c.args.identity.now.config) (g.F.SlabFile.seen c.args.file.now)) (listed old) (listed new) fewer asks plans i (listed c.args.answers.now) c.loop-i.invariant.2
    (λ b was gone.
    let found = forget_lost (IsUnsaid (get_or plans i Silent)) r old new ask.block c.in_ok-reply.ensures.none c.forget.ensures.none c.forget.ensures.some b was gone in (
      λ a. ap (λ (x : Ask). x.block) (get_or_default asks i a c.index-asks-i.result lt) ∙ found.0,
      λ p. subst IsUnsaid (get_or_default plans i Silent p lp) found.1,
    )))

pub loop-i-preserved : goal.loop-i-preserved
loop-i-preserved g c =
    let F = g.F.SlabFile in
    let asks : List Ask = c.args.asks.now in
    let plans : List Plan = c.args.plans.now in
    let i = c.loop-i.i in
    let inv = c.loop-i.invariant in
    let r : Option Reply = c.in_ok-reply.reply in
    let old : List Bool = c.loop-i.answers in
    let new : List Bool = c.forget.new.answers in
    let ask : Ask = get_or asks i c.index-asks-i.result in
    let first : Version = c.args.identity.now.first in
    let lt : i < length asks = c.loop-i-test.true in
    let lp : i < length plans = (let a = c.requires.count in omega (arith, a, lt)) in
    let fewer = forget_fewer r old new ask.block c.forget.ensures.none c.forget.ensures.some in
    let reads = c.in_ok-reply.ensures.reads in (
      reads_both F.seen F.may_leave F.moment F.left_since F.is_usable F.is_clean c.args.file.now c.loop-i.file c.reply_one.new.file inv.0 reads,
      λ clean.
          subst (λ (rs : List (Option Reply)). AreSaidBelow first (version_at (shape_of c.args.identity.now.config) (F.seen c.args.file.now)) (listed new) asks plans (i + 1) rs) (sym c.in_ok-push.ensures.items)
          (said_more first (version_at (shape_of c.args.identity.now.config) (F.seen c.args.file.now)) (listed old) (listed new) fewer asks plans i c.loop-i.replies.items r (inv.1 (reads.clean clean))
          (λ a p. record {
            some = some_map (λ x. IsTrue (F.is_clean c.reply_one.new.file) → said first (version_at (shape_of c.args.identity.now.config) (F.seen c.loop-i.file)) (get_or plans i Silent) ≡ Some x) _ r
                (λ x h. (λ j. said first (version_at (shape_of c.args.identity.now.config) (sym inv.0.bytes j)) (get_or_default plans i p Silent lp j)) ∙ h clean) c.in_ok-reply.ensures.some;
            none = none_block r new (get_or asks i a).block ask.block (ap (λ (x : Ask). x.block) (get_or_default asks i c.index-asks-i.result a lt)) (forget_none r old new ask.block c.forget.ensures.none);
          })),
      lost_more c.args.identity.now.first (version_at (shape_of c.args.identity.now.config) (g.F.SlabFile.seen c.args.file.now)) (listed old) (listed new) fewer asks plans i (listed c.args.answers.now) inv.2
          (λ b was gone.
          let found = forget_lost (IsUnsaid (get_or plans i Silent)) r old new ask.block c.in_ok-reply.ensures.none c.forget.ensures.none c.forget.ensures.some b was gone in (
            λ a. ap (λ (x : Ask). x.block) (get_or_default asks i a c.index-asks-i.result lt) ∙ found.0,
            λ p. subst IsUnsaid (get_or_default plans i Silent p lp) found.1,
          )),
    )

pub returns-clause-said : goal.returns-clause-said
returns-clause-said g c clean =
    let F = g.F.SlabFile in
    let top : c.loop-i.i ≡ length c.args.asks.now = (let a = c.loop-i-test.false in let b = c.loop-i.auto.i-end in omega (arith, a, b)) in
    subst (λ (n : ℕ). AreSaidBelow c.args.identity.now.first (version_at (shape_of c.args.identity.now.config) (F.seen c.args.file.now)) (listed c.loop-i.answers) c.args.asks.now c.args.plans.now n c.loop-i.replies.items) top
    (c.loop-i.invariant.1 clean)
