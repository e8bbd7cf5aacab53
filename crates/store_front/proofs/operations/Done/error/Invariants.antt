use Rattle.std.proofs.Common.{◌≡◌, ℕ, ◌≤◌, ◌<◌, true}
use Rattle.store_front.specs.Values.{read_of, written_of}
use Rattle.store_front.specs.Replies.{is_done}
use Rattle.store_front.proofs.operations.Done.error.Given as goal

abbrev pub invariant-loop-block : goal.invariant-loop-block
invariant-loop-block l = (k : ℕ) → l.initial.block ≤ k → k < l.block → is_done (read_of l.self.found) (written_of l.self.written) l.request.kind k ≡ true
