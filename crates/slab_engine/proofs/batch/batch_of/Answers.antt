use Rattle.std.proofs.Common.{◌+◌, get_or, sym, ◌∙◌, ap, refl, subst}
use Rattle.std.proofs.lemmas.List.{get_or_default}
use Rattle.protocol.specs.Messages.{Ask, Version}
use Rattle.slab_index.specs.Kept.{put_kept, kept_in}
use Rattle.slab_index.specs.Slots.{kept_of}
use Rattle.slab_engine.specs.Batches.{IsWriteOf, IsAddedBy}
use Rattle.slab_engine.proofs.Growing.{batch_more, write_of}
use Rattle.slab_engine.proofs.batch.batch_of.Goals as goal

pub loop-k-preserved : goal.loop-k-preserved
loop-k-preserved c =
    let v : Version = c.in-Write.version in
    let k = c.loop-k.k in
    let ask : Ask = c.index-asks-added.result in
    let is = c.index-asks-added.is in
    let low = c.requires.added k 0 c.loop-k-test.true in
    let write : IsWriteOf c.args.config.now ask v = write_of c.args.config.now ask v c.in-Write.is (let some = (low.1 ask).1 in subst (λ (a : Ask). (w : Version) × IsWriteOf c.args.config.now a w) (sym is) some) in
    let it : IsAddedBy c.args.config.now c.args.key c.args.index.now ask (get_or c.args.slots.now k 0) (c.args.next + k) c.in_ok-fresh.fresh (record { block = ask.block; slot = get_or c.args.slots.now k 0; list = c.in_ok-list.list }) = record {
      version = v;
      write = write;
      fresh = c.in_ok-fresh.ensures.fresh;
      new = record { block = refl; slot = refl; list = c.in_ok-list.ensures ∙ ap (λ x. put_kept x (kept_in c.args.index.now ask.block)) (c.of.ensures ∙ ap (kept_of (get_or c.args.slots.now k 0)) c.in_ok-fresh.ensures.head) };
    } in
    batch_more c.args.config.now c.args.key c.args.index.now c.args.asks.now c.args.added.now c.args.slots.now c.args.next k _ _ _ _
    c.in_ok-push.ensures.items c.in_ok-push-2.ensures.items c.loop-k.invariant
    (λ d. subst (λ (a : Ask). IsAddedBy c.args.config.now c.args.key c.args.index.now a (get_or c.args.slots.now k 0) (c.args.next + k) c.in_ok-fresh.fresh (record { block = ask.block; slot = get_or c.args.slots.now k 0; list = c.in_ok-list.list }))
    (is ∙ get_or_default c.args.asks.now (get_or c.args.added.now k 0) ask d low.0) it)
