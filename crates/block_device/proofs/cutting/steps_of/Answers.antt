use Rattle.std.proofs.Common.{◌≡◌, ◌+◌, ◌-◌, [], ◌∷◌, ◌++◌, ap, sym, ◌∙◌, arith}
use Rattle.std.specs.List.{flat_map, range_with_len}
use Rattle.std.proofs.lemmas.List.Concat.{flat_map-append}
use Rattle.std.proofs.lemmas.List.{append-nil}
use Rattle.block_device.specs.Ranges.{start_of, len_of, touched, touched_by}
use Rattle.block_device.specs.Steps.{steps_in}
use Rattle.block_device.proofs.lemmas.Touching.{range_more}
use Rattle.block_device.proofs.cutting.steps_of.Goals as goal

pub loop-block-preserved : goal.loop-block-preserved
loop-block-preserved c =
    let size = c.args.config.now.size in
    let op = c.args.op.now in
    let first = c.blocks_of-blocks.result.first in
    let block = c.loop-block.block in
    let low = c.loop-block.auto.block in
    let n : block + 1 - first ≡ block - first + 1 = omega arith in
    let range : range_with_len first (block + 1 - first) ≡ range_with_len first (block - first) ++ block ∷ [] =
    ap (range_with_len first) n ∙ range_more first (block - first) block (omega arith) in
    c.in_ok-add_steps.ensures
    ∙ ap (λ z. z ++ steps_in size op block) c.loop-block.invariant
    ∙ ap (λ z. flat_map (steps_in size op) (range_with_len first (block - first)) ++ z) (sym (append-nil (steps_in size op block)))
    ∙ sym (flat_map-append (steps_in size op) (range_with_len first (block - first)) (block ∷ []))
    ∙ ap (flat_map (steps_in size op)) (sym range)

pub returns : goal.returns
unfolding touched
returns c =
    let config = c.args.config.now in
    let op = c.args.op.now in
    let blocks = c.blocks_of-blocks.result in
    let block = c.loop-block.block in
    let order = c.blocks_of-blocks.ensures.order in
    let done : block ≡ blocks.end = let far = c.loop-block.auto.block-end order in omega arith in
    let count : block - blocks.first ≡ blocks.end - blocks.first = omega arith in
    let range : touched_by config (start_of op) (len_of op) ≡ range_with_len blocks.first (block - blocks.first) = cc in
    c.loop-block.invariant ∙ ap (flat_map (steps_in config.size op)) (sym range)
