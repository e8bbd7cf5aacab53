-- The vault's words and the views, which are what chits know: the rule that each step keeps, and what each step does.
use Rattle.std.specs.Prelude.{◌≡◌, ℕ, ◌+◌, ◌-◌, ◌*◌, ◌^◌, ◌<◌, ◌≤◌, ◌≢◌, ◌⊎◌, List, [], ◌∷◌, ◌++◌, length, drop, All, count_by, sum_by, ◌==◌, nat_lt, slice_get, if◌then◌else◌, Option, Some, None}
use mathlib.Core.Option.{some, none}
use mathlib.Core.Option as core
use lib.ListN.{get_elem?}
use Rattle.atomic_table.specs.Table.{State, Step, Me, rest}
use Rattle.receipt_lock.specs.declared.rule.ChitState.{ChitState}
use Rattle.receipt_lock.specs.declared.rule.ChitState.TheVariants.{Idle, Waits, Holds}
use Rattle.receipt_lock.specs.declared.rule.View.{View}

-- 1 for the numbers from low up to high, and 0 for the others
abbrev pub once_from : ℕ → ℕ → ℕ → ℕ
once_from low high x = if nat_lt x low then 0 else (if nat_lt x high then 1 else 0)

module _ {E : Type 0} where
  -- how often a place stands among these entries
  abbrev pub times_placed : ℕ → List (ℕ × E) → ℕ
  times_placed place mine = count_by (λ m. m.0 == place) mine

  -- these entries, with their places from the first one on
  abbrev pub placed_from : ℕ → List E → List (ℕ × E)
  placed_from place [] = []
  placed_from place (e ∷ entries) = (place, e) ∷ placed_from (place + 1) entries

  -- each of these entries stands in the list at its place
  abbrev pub AllStand : List E → List (ℕ × E) → Type 0
  AllStand now mine = All (λ m. slice_get now m.0 ≡ Some m.1) mine

  -- the list begins with the first one
  abbrev pub Begins : List E → List E → Type 0
  Begins first now = (more : List E) × (now ≡ first ++ more)

  -- 1 for a turn that has this ticket
  abbrev pub times_ticket : ℕ → ChitState E → ℕ
  times_ticket ticket Idle = 0
  times_ticket ticket (Waits t) = if t == ticket then 1 else 0
  times_ticket ticket (Holds t known) = if t == ticket then 1 else 0

  -- 1 for a turn that holds the value
  abbrev pub times_held : ChitState E → ℕ
  times_held Idle = 0
  times_held (Waits t) = 0
  times_held (Holds t known) = 1

  -- who holds the value has the ticket that is served, and knows the list
  abbrev pub IsServed : ℕ → List E → ChitState E → Type 0
  IsServed served now Idle = Unit {0}
  IsServed served now (Waits t) = Unit {0}
  IsServed served now (Holds t known) = (t ≡ served) × (known ≡ now)

  -- a view of so many chits, which have taken and given nothing
  abbrev pub fresh : ℕ → List E → View E
  fresh chits begun = record { chits = chits; takes = 0; turn = Idle; begun = begun; mine = [] }

  -- a view that was joined away
  abbrev pub spent : View E
  spent = fresh 0 []

  -- what holds of each view
  pub record Fits (first : List E) (served : ℕ) (now : List E) (v : View E) : Type 0 where
    pub turn : IsServed served now v.turn
    pub few : v.takes ≤ v.chits * 2 ^ 41
    pub stand : AllStand now v.mine
    pub told : 0 < v.chits → v.begun ≡ first
    pub none : v.chits ≡ 0 → v ≡ fresh 0 v.begun

  -- the same view with another turn
  abbrev pub with_turn : View E → ChitState E → View E
  with_turn v turn = record { chits = v.chits; takes = v.takes; turn = turn; begun = v.begun; mine = v.mine }

  -- the view with the next ticket
  abbrev pub queued : View E → ℕ → View E
  queued v ticket = record { chits = v.chits; takes = v.takes + 1; turn = Waits ticket; begun = v.begun; mine = v.mine }

  abbrev pub ticket_of : ChitState E → ℕ
  ticket_of Idle = 0
  ticket_of (Waits t) = t
  ticket_of (Holds t known) = t

  abbrev pub known_of : ChitState E → List E
  known_of Idle = []
  known_of (Waits t) = []
  known_of (Holds t known) = known

  -- the entries of a list beyond those that are known, with their places
  abbrev pub new_entries : List E → List E → List (ℕ × E)
  new_entries known now = placed_from (length known) (drop (length known) now)

  -- the view with the entries that were added
  abbrev pub with_entries : View E → List E → View E
  with_entries v now = record { chits = v.chits; takes = v.takes; turn = Holds (ticket_of v.turn) now; begun = v.begun; mine = v.mine ++ new_entries (known_of v.turn) now }

  -- the view without one chit, which has taken nothing
  abbrev pub without_one : View E → View E
  without_one v = fresh (v.chits - 1) v.begun

  abbrev pub one_fresh : View E → View E
  one_fresh v = fresh 1 v.begun

  -- a view that takes in another one
  abbrev pub joined : View E → View E → View E
  joined v w = record { chits = v.chits + w.chits; takes = v.takes + w.takes; turn = v.turn; begun = v.begun; mine = w.mine ++ v.mine }

module _ {T E : Type 0} (list : T → List E) where
  -- the value is at home, with these entries, and nobody holds it; or it is out with one view
  abbrev pub IsPlaced : List (core.Option (Option T)) → List E → List (View E) → Type 0
  IsPlaced homes now views =
      ((value : T) × (homes ≡ some (Some value) ∷ []) × (list value ≡ now) × (sum_by (λ v. times_held v.turn) views ≡ 0))
      ⊎ ((homes ≡ none ∷ []) × (sum_by (λ v. times_held v.turn) views ≡ 1))

  pub record IsKept (chits : ℕ) (first : List E) (homes : List (core.Option (Option T))) (next served : ℕ) (now : List E) (views : List (View E)) : Type 0 where
    pub order : served ≤ next
    -- the tickets out are those from the one served on, each in one view
    pub tickets : (t : ℕ) → sum_by (λ v. times_ticket t v.turn) views ≡ once_from served next t
    pub takes : sum_by (λ v. v.takes) views ≡ next
    pub all : sum_by (λ v. v.chits) views ≡ chits
    pub home : IsPlaced homes now views
    -- first the entries at the start, and then those in the views, each once
    pub begins : Begins first now
    pub places : (p : ℕ) → sum_by (λ v. times_placed p v.mine) views ≡ once_from (length first) (length now) p
    pub each : (k : ℕ) (v : View E) → get_elem? views k ≡ some v → Fits first served now v

  -- the rule: the words are the next ticket, the ticket served and the number of entries
  abbrev pub Keeps : ℕ → List E → State (Option T) (View E) → Type 0
  Keeps chits first s = (next : ℕ) × (served : ℕ) × (now : List E) × (s.words ≡ next ∷ served ∷ length now ∷ []) × IsKept chits first s.homes next served now s.views

  -- the entries of the value in the slot that was taken last
  abbrev pub held_list : List (ℕ × Option T) → List E
  held_list [] = []
  held_list ((k, None) ∷ slots) = []
  held_list ((k, Some value) ∷ slots) = list value

  -- a view has come to its turn, with the value in its slot
  abbrev pub HasTurn : View E → Me (Option T) (View E) → Type 0
  HasTurn v w = (value : T) × (w ≡ (with_turn v (Holds (ticket_of v.turn) (list value)), (0, Some value) ∷ [])) × Begins v.begun (list value) × AllStand (list value) v.mine

  -- the fetch_add on the next ticket
  abbrev pub Queues : Step (Option T) → Me (Option T) (View E) → ℕ → Me (Option T) (View E) → Type 0
  Queues s v found w = w ≡ (queued v.0 found, v.1)

  -- a load of the ticket served: whose ticket it is takes the slot
  abbrev pub Calls : Step (Option T) → Me (Option T) (View E) → ℕ → Me (Option T) (View E) → Type 0
  Calls s v found w = (found ≡ ticket_of v.0.turn → HasTurn v.0 w) × (found ≢ ticket_of v.0.turn → w ≡ v)

  -- the fetch_add on the number of entries, of the value in the slot
  abbrev pub Adds : Step (Option T) → Me (Option T) (View E) → ℕ → Me (Option T) (View E) → Type 0
  Adds s v found w = w ≡ (with_entries v.0 (held_list v.1), v.1)

  -- the fetch_add on the ticket served, with the slot given back
  abbrev pub Serves : Step (Option T) → Me (Option T) (View E) → ℕ → Me (Option T) (View E) → Type 0
  Serves s v found w = w ≡ (with_turn v.0 Idle, rest v.1)
