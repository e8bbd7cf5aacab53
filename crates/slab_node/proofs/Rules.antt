-- What a crash leaves of a node in a slab, at each step of a batch.
use Rattle.std.proofs.Common.{ℕ, List}
use Rattle.quorum_rules.specs.Limits.{Numbers}
use Rattle.slab_layout.specs.Shapes.{shape_of, is_marked}
use Rattle.slab_node.specs.Left.{nothing}
use Rattle.slab_node.specs.Rules.{FreeSlotsDontCount, MarksAnswer, FreedMarksPrune, GoingMarksMayStay, UncountedSlotsDontCount, BatchesAnswer, WrittenBatchesAnswer}
use Rattle.slab_node.proofs.Torn.{is_left}
use Rattle.slab_node.proofs.Crash.{kept_if_left, entry_same}
use Rattle.slab_node.proofs.lemmas.Node.{held_left, pruned_left, less_left}
use Rattle.slab_node.proofs.Answering.{answered_left}
use Rattle.slab_node.proofs.Overs.{uncounted, midway, whole}

module _ (c : Numbers) (number : ℕ) (old left : List ℕ) where
  pub free_slots : FreeSlotsDontCount c number old left
  free_slots long agrees = held_left c number old left long nothing agrees

  pub marks : MarksAnswer c number old left
  marks asks new batch long agrees =
      let rest = is_left (shape_of c) new nothing old left agrees long in
      answered_left c number nothing old asks new batch left (is_marked (shape_of c) left)
      (λ k lt now. entry_same (shape_of c) new nothing old left rest k lt (kept_if_left (shape_of c) new nothing old left rest k lt now)) rest.marks

  pub freed : FreedMarksPrune c number old left
  freed stamp going prunable long agrees = pruned_left c number old left long stamp going prunable agrees

  pub going_stay : GoingMarksMayStay c number old left
  going_stay going long agrees = less_left c number old left long going nothing agrees

  pub uncounted_slots : UncountedSlotsDontCount c number old left
  uncounted_slots set bodies marks answers within free long changes = uncounted c number bodies marks answers old left changes long set within free

  pub batches : BatchesAnswer c number old left
  batches set going batch asks within its long at = midway c number set going old asks batch within its long left at

  pub written : WrittenBatchesAnswer c number old left
  written set going batch asks apart within its all long w = whole c number set going old asks batch within its long left apart all w
