-- How many rounds a read asks, and how high times rise.
use Rattle.std.specs.Prelude.{◌≡◌, ℕ, ◌+◌, ◌*◌, ◌-◌, ◌^◌, ◌≤◌, max, Bool, true, false, if◌then◌else◌, not, ◌||◌, ◌&&◌, ◌==◌, List, [], ◌∷◌, Option}
use Rattle.std.specs.declared.option.Option.TheVariants.{Some}
use Rattle.std.specs.List.{Contains}
use Rattle.stamp_order.specs.declared.Stamp.{Stamp}
use Rattle.stamp_order.specs.Stamps.{same_stamp}
use Rattle.protocol.specs.Messages.{Ask, Request, Body, Message}
use Rattle.wire_forms.specs.declared.Request.TheVariants.{Write}
use Rattle.wire_forms.specs.declared.Body.TheVariants.{Ask as Asks, Answer as Answers}
use Rattle.protocol.specs.Setting.{Setting}
use Rattle.protocol.specs.Operations.{Task, Work, How}
use Rattle.protocol.specs.Operations.Work.{Reads, Writes}
use Rattle.run_words.specs.declared.outcome.Outcome.TheVariants.{Spent, Gave}
use Rattle.protocol.specs.World.{World, Record, Accepted}

-- the same node, block and stamp
abbrev pub same_accepted : Accepted → Accepted → Bool
same_accepted a b = (a.node == b.node) && (a.block == b.block) && same_stamp a.stamp b.stamp

-- one of these is the same
abbrev pub is_among : Accepted → List Accepted → Bool
is_among a [] = false
is_among a (b ∷ bs) = same_accepted a b || is_among a bs

-- how many different ones pass
abbrev pub different : (Accepted → Bool) → List Accepted → ℕ
different test [] = 0
different test (a ∷ xs) = (if test a && not (is_among a xs) then 1 else 0) + different test xs

-- how many different pairs of a node and a stamp were accepted of the block
abbrev pub pairs : World → ℕ → ℕ
pairs w block = different (λ a. a.block == block) w.accepted

-- a read of the block has asked at most twice these pairs and one round
abbrev pub IsFewAt : World → ℕ → ℕ → Type 0
IsFewAt w block rounds = rounds ≤ 2 * pairs w block + 1

-- what every read has asked
pub record IsBounded (w : World) : Type 0 where
  pub under_way : (c : ℕ) (task : Task) → w.task c ≡ Some task → task.work ≡ Reads → IsFewAt w task.block task.rounds
  pub completed : (r : Record) (stamp : Stamp) (value : List ℕ) (how : How) (rounds : ℕ) → Contains w.records r → r.outcome ≡ Some (Gave stamp value how rounds) → IsFewAt w r.block rounds

-- the time that a request writes
abbrev pub written_time : ℕ → Ask → Request → ℕ
written_time block ask (Write v) = if ask.block == block then v.stamp.time else 0
written_time block ask _ = 0

-- a write that has chosen a stamp
abbrev pub is_chosen : Work → Option Stamp → Bool
is_chosen (Writes value) (Some stamp) = true
is_chosen _ _ = false

-- how many writes of correct clients on the block have chosen a stamp
abbrev pub choices : ℕ → List Record → ℕ
choices block [] = 0
choices block (r ∷ rs) = (if (r.block == block) && is_chosen r.work r.stamp then 1 else 0) + choices block rs

module _ (s : Setting) where
  -- the time of a lying client's Write on the block, else 0
  abbrev pub lied_time : ℕ → Message → Body → ℕ
  lied_time block m (Asks ask) = if s.lying_client m.client then written_time block ask ask.request else 0
  lied_time block m (Answers reply) = 0

  -- the greatest time in a lying client's Write on the block, or 0 where there is none
  abbrev pub lied : ℕ → List Message → ℕ
  lied block [] = 0
  lied block (m ∷ ms) = max (lied_time block m m.body) (lied block ms)

  -- the greatest lied time of the block, and one more for each choice there
  abbrev pub ceiling : World → ℕ → ℕ
  ceiling w block = lied block w.pool + choices block w.records

  -- no correct client's write chose a time above the ceiling, and none ended as spent below the greatest time there is
  pub record IsLow (w : World) : Type 0 where
    pub chosen : (r : Record) (value : List ℕ) (stamp : Stamp) → Contains w.records r → r.work ≡ Writes value → r.stamp ≡ Some stamp → stamp.time ≤ ceiling w r.block
    pub spent : (r : Record) → Contains w.records r → r.outcome ≡ Some Spent → 2 ^ 64 - 1 ≤ ceiling w r.block
