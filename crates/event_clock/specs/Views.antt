-- The clock's word and the views, which are what passes know: the rule that each step keeps, and what each step does.
use Rattle.std.specs.Prelude.{◌≡◌, ℕ, zero, suc, ◌+◌, ◌*◌, ◌^◌, ◌<◌, ◌≤◌, List, [], ◌∷◌, ◌++◌, length, max, All, count_by, sum_by, ◌==◌, nat_lt, if◌then◌else◌}
use mathlib.Core.Option.{some}
use lib.ListN.{get_elem?}
use Rattle.atomic_table.specs.Table.{State, Step, Me}
use Rattle.event_clock.specs.declared.rule.Share.{Share}
use Rattle.event_clock.specs.declared.rule.View.{View}

-- how often a number stands in a list
abbrev pub times : ℕ → List ℕ → ℕ
times x xs = count_by (λ y. y == x) xs

-- how often a number was drawn, over these passes
abbrev pub times_drawn : ℕ → List Share → ℕ
times_drawn x shares = sum_by (λ s. times x s.drawn) shares

-- how many numbers these passes drew
abbrev pub drawn_count : List Share → ℕ
drawn_count shares = sum_by (λ s. length s.drawn) shares

-- how often a pass number stands among these passes
abbrev pub times_numbered : ℕ → List Share → ℕ
times_numbered i shares = count_by (λ s. s.number == i) shares

-- 1 for the numbers below n, and 0 for the others
abbrev pub once_below : ℕ → ℕ → ℕ
once_below n x = if nat_lt x n then 1 else 0

-- the numbers below n, and no others, were drawn, each once over all these passes
abbrev pub IsDrawnOnce : ℕ → List Share → Type 0
IsDrawnOnce n shares = (x : ℕ) → times_drawn x shares ≡ once_below n x

-- what holds of each view where the word is n: it has seen no more, each of its passes drew at most
-- 2 ^ 40 numbers, and a view with a pass knows how many passes there are
pub record Fits (passes n : ℕ) (v : View) : Type 0 where
  pub seen : v.seen ≤ n
  pub few : All (λ s. length s.drawn ≤ 2 ^ 40) v.shares
  pub told : 0 < length v.shares → v.passes ≡ passes

-- what holds of all views together where the word is n
pub record IsKept (passes n : ℕ) (views : List View) : Type 0 where
  -- the word is how many numbers were drawn
  pub count : sum_by (λ v. drawn_count v.shares) views ≡ n
  -- each number drawn is below the word, and no number was drawn twice
  pub once : (x : ℕ) → sum_by (λ v. times_drawn x v.shares) views ≡ once_below n x
  -- the pass numbers are those below the number of passes, each in one view, once
  pub numbers : (i : ℕ) → sum_by (λ v. times_numbered i v.shares) views ≡ once_below passes i
  pub all : sum_by (λ v. length v.shares) views ≡ passes
  pub each : (k : ℕ) (v : View) → get_elem? views k ≡ some v → Fits passes n v

-- the rule of a clock with so many passes
abbrev pub Keeps : ℕ → State (Unit {0}) View → Type 0
Keeps passes s = (n : ℕ) × (s.words ≡ n ∷ []) × IsKept passes n s.views

-- the passes from the number i on, which drew nothing
abbrev pub unused_shares : ℕ → ℕ → List Share
unused_shares i zero = []
unused_shares i (suc count) = record { number = i; drawn = [] } ∷ unused_shares (i + 1) count

-- the view of the first seat, which has all passes
abbrev pub first_view : ℕ → View
first_view passes = record { passes = passes; seen = 0; shares = unused_shares 0 passes }

-- the first pass of a view, and what is left without it
abbrev pub first_share : List Share → List Share
first_share [] = []
first_share (s ∷ shares) = s ∷ []

abbrev pub other_shares : List Share → List Share
other_shares [] = []
other_shares (s ∷ shares) = shares

abbrev pub with_shares : View → List Share → View
with_shares v shares = record { passes = v.passes; seen = v.seen; shares = shares }

-- a note of what a pass has seen
abbrev pub note_of : View → View
note_of v = with_shares v []

-- a view that takes in another one
abbrev pub joined : View → View → View
joined v w = record { passes = v.passes; seen = max v.seen w.seen; shares = w.shares ++ v.shares }

-- a view that was joined away
abbrev pub spent : View
spent = record { passes = 0; seen = 0; shares = [] }

-- the one pass of a view
abbrev pub only : List Share → Share
only [] = record { number = 0; drawn = [] }
only (s ∷ shares) = s

abbrev pub with_drawn : Share → ℕ → Share
with_drawn s n = record { number = s.number; drawn = s.drawn ++ n ∷ [] }

abbrev pub after_draw : View → ℕ → View
after_draw v n = record { passes = v.passes; seen = n + 1; shares = with_drawn (only v.shares) n ∷ [] }

-- a draw: the pass has the number that it found, which is not below what it had seen, and below 2 ^ 40 for each pass
abbrev pub Draws : Step (Unit {0}) → Me (Unit {0}) View → ℕ → Me (Unit {0}) View → Type 0
Draws s v found w = (v.0.seen ≤ found) × (found < v.0.passes * 2 ^ 40) × (w ≡ (after_draw v.0 found, v.1))

-- the view has all passes of its clock
abbrev pub HasAll : View → Type 0
HasAll v = (0 < length v.shares) × (length v.shares ≡ v.passes)

-- the pass numbers are those below n, each once
abbrev pub IsEachPass : ℕ → List Share → Type 0
IsEachPass n shares = (i : ℕ) → times_numbered i shares ≡ once_below n i

-- a view with all passes: they drew the numbers below n, each once, and each at most 2 ^ 40 of them
abbrev pub KnowsAll : ℕ → View → Type 0
KnowsAll n v = IsDrawnOnce n v.shares × (drawn_count v.shares ≡ n) × IsEachPass v.passes v.shares × (n ≤ v.passes * 2 ^ 40)

-- a look: it has seen at most the word, and where it has all passes, it knows all
abbrev pub Looks : Step (Unit {0}) → Me (Unit {0}) View → ℕ → Me (Unit {0}) View → Type 0
Looks s v found w = (w ≡ v) × (v.0.seen ≤ found) × (HasAll v.0 → KnowsAll found v.0)
