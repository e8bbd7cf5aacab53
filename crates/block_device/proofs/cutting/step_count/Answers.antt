use Rattle.std.proofs.Common.{◌≡◌, ◌+◌, ◌-◌, List, ℕ, [], ◌∷◌, ◌++◌, length, ap, sym, ◌∙◌, arith, length-append}
use Rattle.std.specs.List.{flat_map, range_with_len}
use Rattle.std.proofs.lemmas.List.Concat.{flat_map-append}
use Rattle.std.proofs.lemmas.List.{append-nil}
use Rattle.block_device.specs.Ranges.{start_of, len_of, touched, touched_by}
use Rattle.block_device.specs.Steps.{steps_in}
use Rattle.block_device.specs.declared.steps.BlockStep.{BlockStep}
use Rattle.block_device.proofs.lemmas.Touching.{range_more}
use Rattle.block_device.proofs.cutting.step_count.Goals as goal

pub loop-touched-preserved : goal.loop-touched-preserved
loop-touched-preserved c =
    let size = c.args.config.now.size in
    let op = c.args.op.now in
    let first = c.blocks_of-blocks.result.first in
    let block = c.loop-touched.touched in
    let low = c.loop-touched.auto.touched in
    let n : block + 1 - first ≡ block - first + 1 = omega arith in
    let range : range_with_len first (block + 1 - first) ≡ range_with_len first (block - first) ++ block ∷ [] =
    ap (range_with_len first) n ∙ range_more first (block - first) block (omega arith) in
    let before = flat_map (steps_in size op) (range_with_len first (block - first)) in
    let more : flat_map (steps_in size op) (range_with_len first (block + 1 - first)) ≡ before ++ steps_in size op block =
    ap (flat_map (steps_in size op)) range ∙ flat_map-append (steps_in size op) (range_with_len first (block - first)) (block ∷ []) ∙ ap (λ (z : List BlockStep). before ++ z) (append-nil (steps_in size op block)) in
    let len = ap (length {A = BlockStep}) more ∙ length-append before (steps_in size op block) in
    let counted = c.loop-touched.invariant.counted in
    let few = c.loop-touched.invariant.few in
    let here = c.step_count_in-count.ensures.count in
    let most = c.step_count_in-count.ensures.few in
    record { counted = omega arith; few = omega arith }

pub returns : goal.returns
unfolding touched
returns c =
    let config = c.args.config.now in
    let op = c.args.op.now in
    let blocks = c.blocks_of-blocks.result in
    let block = c.loop-touched.touched in
    let order = c.blocks_of-blocks.ensures.order in
    let done : block ≡ blocks.end = let far = c.loop-touched.auto.touched-end order in omega arith in
    let count : block - blocks.first ≡ blocks.end - blocks.first = omega arith in
    let range : touched_by config (start_of op) (len_of op) ≡ range_with_len blocks.first (block - blocks.first) = cc in
    c.loop-touched.invariant.counted ∙ ap (λ (ks : List ℕ). length (flat_map (steps_in config.size op) ks)) (sym range)
