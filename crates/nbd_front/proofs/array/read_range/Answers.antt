use Rattle.std.proofs.Common.{◌≡◌, ◌+◌, ◌*◌, ◌++◌, ◌∙◌, ap, subst, arith, slice_range}
use Rattle.quorum_rules.specs.Limits.{Numbers}
use Rattle.block_device.specs.declared.pieces.Piece.{Piece}
use Rattle.block_device.specs.Pieces.{piece_in}
use Rattle.block_device.specs.Ranges.{Reaches}
use Rattle.nbd_front.specs.Arrays.{array_of}
use Rattle.nbd_front.proofs.Progress.{reached, step}
use Rattle.nbd_front.proofs.Steps.{read_more, read_same}
use Rattle.nbd_front.proofs.array.read_range.Goals as goal

pub read-requires-clause-fresh : goal.read-requires-clause-fresh
read-requires-clause-fresh c =
    omega (arith, c.loop-block.invariant.steps, c.loop-block-test.true, c.blocks_of-blocks.ensures.within, ap (λ (k : Numbers). k.blocks) c.config.ensures, c.requires.order.few, c.requires.steps)

pub loop-block-preserved : goal.loop-block-preserved
loop-block-preserved c =
    let d0 = c.args.device in
    let o = c.requires.order in
    let inv = c.loop-block.invariant in
    let block = c.loop-block.block in
    let start = c.args.start in
    let len = c.args.len in
    let r : Reaches d0.config start len block = subst (λ k. Reaches k start len block) c.config.ensures (c.blocks_of-blocks.ensures.reached block c.loop-block.auto.block (omega (arith, c.loop-block-test.true))) in
    let s = step d0.config start len block r in
    let is : c.piece_of-piece.result ≡ piece_in d0.config.size start len block = c.piece_of-piece.ensures.is ∙ ap (λ (k : Numbers). piece_in k.size start len block) c.config.ensures in
    let last = ap (λ (p : Piece). p.end) is in
    let same = read_same d0 c.loop-block.device c.in_ok-next.next inv.same c.in_ok-next.ensures.device in
    record {
      same = same.0;
      steps = omega (arith, same.1, inv.steps);
      text = read_more d0 o c.loop-block.device inv.same block start (start + len) (reached d0.config.size start (start + len) block) c.piece_of-piece.result.at c.piece_of-piece.result.end s (ap (λ (p : Piece). p.at + block * d0.config.size) is ∙ s.at) last c.args.text.now.items c.loop-block.text.items c.extend_from_slice.new.self.items c.as_slice.result.now inv.text (c.as_slice.ensures.value ∙ c.in_ok-next.ensures.value) c.in_ok-extend_from_slice.ensures.items
          ∙ ap (λ n. c.args.text.now.items ++ slice_range (array_of d0.held) start (block * d0.config.size + n)) last
          ∙ ap (λ n. c.args.text.now.items ++ slice_range (array_of d0.held) start n) s.next;
    }

pub returns-clause-read : goal.returns-clause-read
returns-clause-read c =
    let inv = c.loop-block.invariant in
    let made = c.blocks_of-blocks.ensures in
    let far = c.loop-block.auto.block-end made.order in
    record { same = inv.same; steps = omega (arith, inv.steps, far, c.loop-block-test.false, made.within, ap (λ (k : Numbers). k.blocks) c.config.ensures, c.requires.order.few) }
