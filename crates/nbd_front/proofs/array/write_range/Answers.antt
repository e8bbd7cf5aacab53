use Rattle.std.proofs.Common.{◌≡◌, ◌+◌, ◌-◌, ◌*◌, ◌<◌, ◌≤◌, ◌∙◌, refl, ap, subst, sym, arith, take, length, slice_range}
use Rattle.std.proofs.Math.Seq.{take-length}
use Rattle.quorum_rules.specs.Limits.{Numbers}
use Rattle.block_device.specs.declared.pieces.Piece.{Piece}
use Rattle.block_device.specs.Pieces.{piece_in}
use Rattle.block_device.specs.Ranges.{Reaches}
use Rattle.block_device.specs.Device.{merged}
use Rattle.node_device.specs.Held.{held_at}
use Rattle.nbd_front.specs.Arrays.{array_of}
use Rattle.nbd_front.proofs.Blocks.{merged_none}
use Rattle.nbd_front.proofs.Devices.{length_array}
use Rattle.nbd_front.proofs.Progress.{reached, step, begins, ends, ends_at}
use Rattle.nbd_front.proofs.Steps.{HaveWalked, write_more, write_one, walk_begins, walk_goes_on, walk_ends}
use Rattle.nbd_front.proofs.array.write_range.Goals as goal

pub loop-block-init : goal.loop-block-init
loop-block-init c =
    let d0 = c.args.device in
    let start = c.args.start in
    let bytes = c.args.bytes.now in
    let first = c.blocks_of-blocks.result.first in
    let low : first * d0.config.size ≤ start = subst (λ (k : Numbers). first * k.size ≤ start) c.config.ensures c.blocks_of-blocks.ensures.begins in
    let none : reached d0.config.size start (start + length bytes) first - start ≡ 0 = omega (arith, begins d0.config.size start (length bytes) first low) in
    record {
      order = c.requires.order;
      config = refl;
      life = refl;
      steps = omega arith;
      array = sym (ap (λ n. merged (array_of d0.held) start (take n bytes)) none ∙ merged_none (array_of d0.held) start);
      times = walk_begins first d0;
    }

pub write_piece-requires-clause-steps : goal.write_piece-requires-clause-steps
write_piece-requires-clause-steps c =
    omega (arith, c.loop-block.invariant.steps, c.loop-block-test.true, c.blocks_of-blocks.ensures.within, ap (λ (k : Numbers). k.blocks) c.config.ensures, c.requires.order.few, c.requires.steps)

pub write_piece-requires-clause-times : goal.write_piece-requires-clause-times
write_piece-requires-clause-times c =
    let d0 = c.args.device in
    let block = c.loop-block.block in
    let within = c.blocks_of-blocks.ensures.within in
    let there : block < d0.config.blocks = subst (λ (k : Numbers). block < k.blocks) c.config.ensures (omega (arith, within, c.loop-block-test.true)) in
    let few = c.requires.times block there in
    let same = c.loop-block.invariant.times.rest block (omega arith) in
    omega (arith, same, few)

pub loop-block-preserved : goal.loop-block-preserved
loop-block-preserved c =
    let d0 = c.args.device in
    let d = c.loop-block.device in
    let e = c.in_ok-device.device in
    let inv = c.loop-block.invariant in
    let block = c.loop-block.block in
    let start = c.args.start in
    let bytes = c.args.bytes.now in
    let piece = c.piece_of-piece.result in
    let part = c.in_ok-part.part in
    let config : c.config.result.now ≡ d.config = c.config.ensures ∙ sym inv.config in
    let r : Reaches d.config start (length bytes) block = subst (λ k. Reaches k start (length bytes) block) config (c.blocks_of-blocks.ensures.reached block c.loop-block.auto.block (omega (arith, c.loop-block-test.true))) in
    let s = step d.config start (length bytes) block r in
    let is : piece ≡ piece_in d.config.size start (length bytes) block = c.piece_of-piece.ensures.is ∙ ap (λ (k : Numbers). piece_in k.size start (length bytes) block) config in
    let place = reached d.config.size start (start + length bytes) block in
    let end : piece.end ≡ (piece_in d.config.size start (length bytes) block).end = ap (λ (p : Piece). p.end) is in
    let to : piece.to ≡ block * d.config.size + piece.end - start = ap (λ (p : Piece). p.to) is ∙ ends_at d.config start (length bytes) block r ∙ ap (λ n. block * d.config.size + n - start) (sym end) in
    let cut : part ≡ slice_range bytes (place - start) (block * d.config.size + piece.end - start) =
    c.in_ok-part.ensures.value ∙ ap (λ n. slice_range bytes n piece.to) (ap (λ (p : Piece). p.from) is ∙ s.from) ∙ ap (λ n. slice_range bytes (place - start) n) to in
    let value = merged (held_at d.config d.held block).value piece.at part in
    let w = write_one d e block value inv.order s.block c.in_ok-device.ensures in
    let inside : start + length bytes ≤ length (array_of d0.held) = omega (arith, length_array d0 c.requires.order, c.requires.within) in
    let before = subst (λ (k : Numbers). array_of d.held ≡ merged (array_of d0.held) start (take (reached k.size start (start + length bytes) block - start) bytes)) (sym inv.config) inv.array in
    let grown = write_more d inv.order (array_of d0.held) bytes block start (start + length bytes) place piece.at piece.end s (ap (λ (p : Piece). p.at + block * d.config.size) is ∙ s.at) end refl inside before value (ap (λ z. merged (held_at d.config d.held block).value piece.at z) cut) in
    let next : block * d.config.size + piece.end ≡ reached d.config.size start (start + length bytes) (block + 1) = ap (λ n. block * d.config.size + n) end ∙ s.next in
    record {
      order = w.order;
      config = w.config ∙ inv.config;
      life = w.life ∙ inv.life;
      steps = omega (arith, c.in_ok-device.ensures.steps, inv.steps);
      array = ap array_of w.held ∙ grown ∙ ap (λ n. merged (array_of d0.held) start (take (n - start) bytes)) next ∙ ap (λ (k : Numbers). merged (array_of d0.held) start (take (reached k.size start (start + length bytes) (block + 1) - start) bytes)) inv.config;
      times = walk_goes_on c.blocks_of-blocks.result.first block d0 d e c.loop-block.auto.block inv.times w.here w.apart;
    }

pub returns : goal.returns
returns c =
    let d = c.loop-block.device in
    let d0 = c.args.device in
    let inv = c.loop-block.invariant in
    let start = c.args.start in
    let bytes = c.args.bytes.now in
    let blocks = c.blocks_of-blocks.result in
    let made = c.blocks_of-blocks.ensures in
    let order = made.order in
    let block = c.loop-block.block in
    let done : block ≡ blocks.end = let far = c.loop-block.auto.block-end order in omega (arith, far, c.loop-block-test.false) in
    let begun = subst (λ (k : Numbers). blocks.first * k.size ≤ start) c.config.ensures made.begins in
    let ended = subst (λ (k : Numbers). 0 < length bytes → start + length bytes ≤ blocks.end * k.size) c.config.ensures made.ends in
    let last = subst (λ n. 0 < length bytes → start + length bytes ≤ n * d0.config.size) (sym done) ended in
    let all : reached d0.config.size start (start + length bytes) block - start ≡ length bytes = omega (arith, ends d0.config.size start (length bytes) block last) in
    let walked = subst (λ n. HaveWalked blocks.first n d0 d) done inv.times in
    record {
      order = inv.order;
      config = inv.config;
      life = inv.life;
      bytes = inv.array ∙ ap (λ n. merged (array_of d0.held) start (take n bytes)) all ∙ ap (λ z. merged (array_of d0.held) start z) (take-length bytes);
      times = λ k l. walk_ends d0.config start (length bytes) blocks.first blocks.end d0 d begun ended (λ j low high. subst (λ n. Reaches n start (length bytes) j) c.config.ensures (made.reached j low high)) walked k;
      steps = omega (arith, inv.steps, done, made.within, ap (λ (k : Numbers). k.blocks) c.config.ensures, c.requires.order.few);
    }
