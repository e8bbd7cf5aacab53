-- Who is declared lying.
use Rattle.std.specs.Prelude.{ℕ, ◌≤◌, ◌<◌, Bool, ◌==◌, List, length, All}
use Rattle.std.specs.List.{list_any}
use Rattle.std.specs.Ordering.{nat_cmp}
use Rattle.std.specs.List.Sorted.{IsStrictlySortedBy}
use Rattle.quorum_rules.specs.Limits.{Numbers}

-- the numbers of the lying nodes and clients
pub record Liars : Type 0 where
  pub nodes : List ℕ
  pub clients : List ℕ

-- each number is above the one before
abbrev pub IsAscending : List ℕ → Type 0
IsAscending numbers = IsStrictlySortedBy nat_cmp numbers

-- the number is one of these
abbrev pub has_number : List ℕ → ℕ → Bool
has_number numbers k = list_any (λ x. k == x) numbers

-- the number is one that a client may have
abbrev pub IsClientNumber : ℕ → Type 0
IsClientNumber k = (1 ≤ k) × (k ≤ 1000)

-- the lying nodes are nodes, at most b of them, and the lying clients have clients' numbers
pub record AreLiars (c : Numbers) (liars : Liars) : Type 0 where
  pub nodes : All (λ i. i < c.n) liars.nodes
  pub few : length liars.nodes ≤ c.b
  pub clients : All IsClientNumber liars.clients
