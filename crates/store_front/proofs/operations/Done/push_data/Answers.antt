use Rattle.std.proofs.Common.{◌≡◌, ◌∙◌, ◌-◌, ◌++◌, ap, arith}
use Rattle.std.specs.List.{flat_map, range_with_len}
use Rattle.store_front.specs.Blocks.{end_of}
use Rattle.store_front.specs.Values.{read_of}
use Rattle.store_front.specs.Replies.{part_of}
use Rattle.store_front.proofs.Replying.{data_more}
use Rattle.store_front.proofs.operations.Done.push_data.Goals as goal

pub push_part-requires-clause-reaches : goal.push_part-requires-clause-reaches
push_part-requires-clause-reaches c = c.blocks_of-blocks.ensures.reached c.loop-block.block c.loop-block.auto.block c.loop-block-test.true

pub loop-block-preserved : goal.loop-block-preserved
loop-block-preserved c =
    data_more (part_of c.args.config.now (read_of c.args.self.now.found) c.args.request.now) c.args.text.now.items c.loop-block.text.items c.push_part.new.text.items c.blocks_of-blocks.result.first c.loop-block.block c.loop-block.auto.block c.loop-block.invariant c.in_ok-push_part.ensures

pub returns : goal.returns
returns c =
    let config = c.args.config.now in
    let r = c.args.request.now in
    let f = part_of config (read_of c.args.self.now.found) r in
    let b = c.blocks_of-blocks in
    let last : c.loop-block.block ≡ b.result.end = omega (arith, c.loop-block-test.false, c.loop-block.auto.block-end) in
    c.loop-block.invariant
    ∙ ap (λ n. c.args.text.now.items ++ flat_map f (range_with_len b.result.first (n - b.result.first))) (last ∙ b.ensures.end)
    ∙ ap (λ n. c.args.text.now.items ++ flat_map f (range_with_len n (end_of config r - n))) b.ensures.first
