use Rattle.std.proofs.Common.{◌≡◌, ℕ, refl, ◌∙◌, ap, subst, arith, length, ◌∷◌}
use Rattle.slot_disk.specs.Bodies.{bodies}
use Rattle.slot_disk.specs.Slots.{body_len, slot_of}
use Rattle.version_disk.specs.Held.{held, first_bad}
use Rattle.version_disk.proofs.lemmas.Playing.{play_more, good_more}
use Rattle.version_disk.proofs.replay.replay.Goals as goal

pub loop-first-preserved : goal.loop-first-preserved
loop-first-preserved c =
    let inv = c.loop-first.invariant in
    let config = c.args.config.now in
    let w = body_len config in
    let first = c.in-Some.first.now in
    let slot = slot_of config.n first in
    let split : bodies w c.loop-first.rest.now ≡ first ∷ bodies w c.in-Some.behind.now =
    subst (λ (k : ℕ). bodies k c.loop-first.rest.now ≡ first ∷ bodies k c.in-Some.behind.now) inv.size c.in-Some.ensures.some in
    record {
      size = inv.size;
      config = c.play.ensures.config ∙ inv.config;
      number = c.play.ensures.number ∙ inv.number;
      node = play_more config.n c.loop-first.node c.play.new.node slot first _ _ (held config c.args.number c.args.bytes.now) split refl (c.in_ok-play.ensures.played c.if-not-branch.false) inv.node;
      count = omega (arith, inv.count, ap length split);
      good = good_more config c.loop-first.node.config c.args.number c.loop-first.node.number slot c.in_ok-play.field-0 c.loop-first.count first _ _ (first_bad config c.args.number c.args.bytes.now) split refl inv.config inv.number c.in_ok-play.ensures.good c.if-not-branch.false inv.good;
      within = omega (arith, inv.within, c.in-Some.ensures.shorter);
    }
