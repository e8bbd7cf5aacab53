use Rattle.std.proofs.Common.{ℕ, List, ◌++◌, length, take, refl, sym, ◌∙◌, ap, subst, arith}
use Rattle.std.proofs.lemmas.List.{take_all}
use Rattle.quorum_rules.specs.Limits.{Numbers}
use Rattle.protocol.specs.Messages.{Version}
use Rattle.node_core.specs.Seen.{versions_in}
use Rattle.slot_disk.specs.Slots.{Fits}
use Rattle.version_disk.specs.Compacted.{slots_in, slots_from, open_slots, IsWhole, AreFitting}
use Rattle.version_disk.proofs.Journals.{both, of_next, with_next, next_fits, open_append}
use Rattle.version_disk.proofs.compact.write_blocks.Goals as goal

pub loop-block-init : goal.loop-block-init
loop-block-init g c = record {
  journal = c.requires.begins;
  fitting = tt;
  room = refl;
  calm = refl;
}

pub write_block-requires-clause-whole : goal.write_block-requires-clause-whole
write_block-requires-clause-whole g c =
    let node = c.args.node.now in
    let count = c.requires.count in
    let config = ap (λ (k : Numbers). k.blocks) c.config.ensures in
    let lt = c.loop-block-test.true in
    of_next node.config node.blocks c.loop-block.block (omega arith) (IsWhole node.config) c.requires.whole

pub write_block-requires-clause-fits : goal.write_block-requires-clause-fits
write_block-requires-clause-fits g c =
    let E = g.E.Disk in
    let node = c.args.node.now in
    let count = c.requires.count in
    let config = ap (λ (k : Numbers). k.blocks) c.config.ensures in
    let lt = c.loop-block-test.true in
    let fits = next_fits node.config node.blocks c.loop-block.block (omega arith) (E.most c.args.disk.now) c.loop-block.invariant.fitting c.requires.fits in
    let room = c.loop-block.invariant.room in
    omega (arith, ap length c.loop-block.invariant.journal, fits, room)

pub loop-block-preserved : goal.loop-block-preserved
loop-block-preserved g c =
    let E = g.E.Disk in
    let node = c.args.node.now in
    let count = c.requires.count in
    let config = ap (λ (k : Numbers). k.blocks) c.config.ensures in
    let lt = c.loop-block-test.true in
    let k = c.loop-block.block in
    let before = slots_from 0 (take k node.blocks) in
    let next = slots_in k (versions_in node k) in
    let all = with_next node.config node.blocks k (omega arith) in
    record {
      journal = c.in_ok-write_block.ensures.journal ∙ ap (λ (l : List ℕ). l ++ open_slots next) c.loop-block.invariant.journal ∙ sym (open_append before next) ∙ ap open_slots (sym all);
      fitting = subst (AreFitting node.config) (sym all) (both (Fits node.config) before next c.loop-block.invariant.fitting c.in_ok-write_block.ensures.fitting);
      room = c.write_block.ensures.room ∙ c.loop-block.invariant.room;
      calm = c.in_ok-write_block.ensures.calm ∙ c.loop-block.invariant.calm;
    }

pub returns-clause-journal : goal.returns-clause-journal
returns-clause-journal g c =
    let node = c.args.node.now in
    let count = c.requires.count in
    let config = ap (λ (k : Numbers). k.blocks) c.config.ensures in
    let done = c.loop-block-test.false in
    c.loop-block.invariant.journal ∙ ap (λ (l : List (List Version)). open_slots (slots_from 0 l)) (take_all c.loop-block.block node.blocks (omega arith))

pub returns-clause-fitting : goal.returns-clause-fitting
returns-clause-fitting g c =
    let node = c.args.node.now in
    let count = c.requires.count in
    let config = ap (λ (k : Numbers). k.blocks) c.config.ensures in
    let done = c.loop-block-test.false in
    subst (λ (l : List (List Version)). AreFitting node.config (slots_from 0 l)) (take_all c.loop-block.block node.blocks (omega arith)) c.loop-block.invariant.fitting
