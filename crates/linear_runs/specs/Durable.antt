-- Durably linearizable: linearizable as if there had been no crash, and a crash of a client leaves what it cuts off without an end.
use Rattle.std.specs.Prelude.{◌≡◌, ℕ, ◌<◌, List}
use Rattle.std.specs.declared.option.Option.TheVariants.{Some}
use Rattle.std.specs.List.{Contains}
use Rattle.linear_runs.specs.Linear.{Operation, Linearizable}

-- a crash of a client, at this place
pub record Crash : Type 0 where
  pub client : ℕ
  pub place : ℕ

-- where its client's operation began before the crash and has ended, it ended before the crash
abbrev pub IsNotSpanned : Crash → Operation → Type 0
IsNotSpanned crash o =
    (start end : ℕ)
    → o.client ≡ Some crash.client
    → o.start ≡ Some start
    → start < crash.place
    → o.end ≡ Some end
    → end < crash.place

-- the operations are linearizable, and none goes on beyond a crash of its client
pub record IsDurable (zeros : List ℕ) (crashes : List Crash) (ops : List Operation) : Type 0 where
  pub linearizable : Linearizable zeros ops
  pub cut_off : (crash : Crash) (o : Operation) → Contains crashes crash → Contains ops o → IsNotSpanned crash o
