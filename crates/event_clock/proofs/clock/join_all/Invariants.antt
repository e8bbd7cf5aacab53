use Rattle.std.proofs.Common.{◌≡◌, ℕ, ◌<◌, ◌≤◌, ◌++◌, length, map, All}
use Rattle.event_clock.specs.Passes.{clock_id, share_of}
use Rattle.event_clock.proofs.clock.join_all.Given as goal

abbrev pub invariant-loop-pass : goal.invariant-loop-pass
invariant-loop-pass l =
    All (λ p. p.clock ≡ clock_id l.table.shared.table_id l.table.shared.key) l.passes
    × (l.keeper.table_id ≡ l.table.shared.table_id)
    × (l.keeper.me.0.passes ≡ l.table.shared.key)
    × (0 < length l.keeper.me.0.shares)
    × (map share_of l.passes ++ l.keeper.me.0.shares ≡ map share_of l.fn.passes)
    × ((most : ℕ) → l.keeper.me.0.seen ≤ most → All (λ p. p.seen ≤ most) l.passes → All (λ p. p.seen ≤ most) l.fn.passes)

abbrev pub decreases-loop-pass : goal.decreases-loop-pass
decreases-loop-pass l = length l.passes
