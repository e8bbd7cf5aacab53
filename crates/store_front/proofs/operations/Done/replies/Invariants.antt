-- The text is the replies to the requests so far.
use Rattle.std.proofs.Common.{◌≡◌, take}
use Rattle.store_front.specs.Values.{read_of, written_of}
use Rattle.store_front.specs.Replies.{replies_of}
use Rattle.store_front.specs.Rounds.{requests_of}
use Rattle.store_front.proofs.operations.Done.replies.Given as goal

abbrev pub invariant-loop-one : goal.invariant-loop-one
invariant-loop-one l = l.text.items ≡ replies_of l.config (read_of l.self.found) (written_of l.self.written) (requests_of (take l.one-index l.asked))
