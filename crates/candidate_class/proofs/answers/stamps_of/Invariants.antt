use Rattle.std.proofs.Common.{◌≡◌, ℕ, take, length, None}
use Rattle.std.specs.List.{slice_index_or}
use Rattle.protocol.specs.Instance.{setting}
use Rattle.protocol.specs.Operations.{stamps}
use Rattle.candidate_class.specs.Answers.{by_node}
use Rattle.candidate_class.proofs.answers.stamps_of.Given as goal

abbrev pub invariant-loop-answer : goal.invariant-loop-answer
invariant-loop-answer l = (length l.stamps ≡ 16) × ((i : ℕ) → slice_index_or l.stamps i None ≡ stamps (setting l.config) (by_node (take l.answer-index l.answers)) l.bound i)
