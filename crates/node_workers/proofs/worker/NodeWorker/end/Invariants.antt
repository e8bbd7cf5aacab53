use Rattle.std.proofs.Common.{◌≡◌, ◌+◌, ◌≤◌, ◌++◌, reverse, vec_len, vec_capacity}
use Rattle.node_workers.proofs.worker.NodeWorker.end.Given as goal

-- the putters that had their last word stand behind, the last seat's first
abbrev pub invariant-loop-putter : goal.invariant-loop-putter
invariant-loop-putter g l =
    (l.self-inside.cell ≡ l.initial.self-inside.cell) × (l.self-inside.asks ≡ l.initial.self-inside.asks)
    × (l.initial.self-inside.answers.items ≡ l.self-inside.answers.items ++ reverse l.self-inside.sents.items)
    × (vec_len l.self-inside.answers + vec_len l.self-inside.sents ≤ vec_capacity l.self-inside.sents)

abbrev pub decreases-loop-putter : goal.decreases-loop-putter
decreases-loop-putter g l = vec_len l.self-inside.answers
