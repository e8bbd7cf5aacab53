use Rattle.std.proofs.Common.{◌≡◌, All}
use Rattle.thread_tests.proofs.posts.posts_of.Given as goal

-- nobody has worked at the thread states so far
abbrev pub invariant-loop-number : goal.invariant-loop-number
invariant-loop-number l = All (λ p. p.rounds ≡ 0) l.posts.items
