-- What contracts see of a cell, and what each cell keeps.
use Rattle.std.specs.Prelude.{◌≡◌, ℕ, ◌+◌, ◌<◌, ◌≤◌, ◌%◌, ◌||◌, Bool, true, false, List, [], ◌∷◌, ◌++◌, length, map, take, drop, All, Option, None, Some}
use Rattle.std.specs.List.{Contains}
use Rattle.quorum_rules.specs.Limits.{Numbers}
use Rattle.protocol.specs.Messages.{Message, Body}
use Rattle.wire_forms.specs.declared.message.Body.TheVariants.{Ask as Asks, Answer as Answers}
use Rattle.event_clock.specs.Passes.{Holder, drew, met}
use Rattle.journals.specs.declared.desk.Way.{Way}
use Rattle.journals.specs.declared.desk.Way.TheVariants.{Call, Lose, Hold}
use Rattle.journals.specs.declared.node.Nature.{Nature}
use Rattle.journals.specs.declared.node.Nature.TheVariants.{Honest, Lying as Lies}
use Rattle.journals.specs.declared.node.Answer.{Answer}
use Rattle.journals.specs.declared.node.Answer.TheVariants.{Reply as Replies, Nothing}
use Rattle.journals.specs.declared.node.NodeAct.{NodeAct}
use Rattle.journals.specs.declared.node.NodeAct.TheVariants.{Pruned}
use Rattle.journals.specs.declared.node.NodeEntry.{NodeEntry}
use Rattle.journals.specs.Acts.{NodeState, Cause, new_state, late_act, after_all, cause_of, is_spent, IsOldest, NodeKept}
use Rattle.journals.specs.Acts.Cause.{Comes, ComesLate, Prunes}
use Rattle.journals.specs.Steps.{side}
use Rattle.locked_nodes.specs.declared.answers.Told.{Told}
use Rattle.locked_nodes.specs.declared.answers.Told.TheVariants.{Answered as ToldReply, Silent as ToldSilence}
use Rattle.locked_nodes.specs.declared.charter.Charter.{Charter}
use Rattle.locked_nodes.specs.declared.charter.Item.{Item}
use Rattle.locked_nodes.specs.declared.charter.Item.TheVariants.{Head, Entry}

-- a cell: what is fixed about it, its journal, and its pass
pub record CellView : Type 0 where
  pub charter : Charter
  pub journal : List NodeEntry
  pub pass : Holder

-- an ask on a block of this shard, of so many
abbrev pub IsShare : ℕ → ℕ → Body → Type 0
IsShare shard shards (Asks ask) = ask.block % shards ≡ shard
IsShare shard shards (Answers reply) = ⊥

-- a hold needs a node with one cell: what is held back comes again in the order in which the whole node held it
abbrev pub IsWhole : ℕ → Way → Type 0
IsWhole shards Call = Unit {0}
IsWhole shards Lose = Unit {0}
IsWhole shards Hold = shards ≡ 1

-- an ask to this node, on a block of the cell's shard
abbrev pub Serves : Charter → Message → Type 0
Serves c m = (m.node ≡ c.number) × IsShare c.shard c.shards m.body

abbrev pub HoldsWhole : Charter → Way → Type 0
HoldsWhole c way = IsWhole c.shards way

-- what comes is on a block of this shard, of so many
abbrev pub ComesTo : ℕ → ℕ → Cause → Type 0
ComesTo shard shards (Comes way ask) = IsShare shard shards ask.body × IsWhole shards way
ComesTo shard shards (ComesLate ask) = IsShare shard shards ask.body
ComesTo shard shards (Prunes block stamp) = block % shards ≡ shard

-- what the node did is on a block of this shard
abbrev pub IsOfShard : ℕ → ℕ → NodeAct → Type 0
IsOfShard shard shards act = ComesTo shard shards (cause_of act)

-- the node before the first entry
abbrev pub first_state : Charter → NodeState
first_state c = new_state c.config c.number c.crash_after

-- the node as the cell's journal leaves it
abbrev pub state_of : CellView → NodeState
state_of cell = after_all (first_state cell.charter) cell.journal

-- no ask is held back
abbrev pub HasNoLateMail : CellView → Type 0
HasNoLateMail cell = (state_of cell).late ≡ []

-- a held ask that comes now is lost: the node lies, has crashed, or crashes now
abbrev pub loses : NodeState → Nature → Bool
loses s Honest = s.crashed || is_spent s.crash_after
loses s (Lies rule) = true

abbrev pub numbers : List NodeEntry → List ℕ
numbers journal = map (λ e. e.number) journal

-- the numbers ascend, from the first bound on, and are below the second one
abbrev pub Rises : ℕ → List ℕ → ℕ → Type 0
Rises low [] high = low ≤ high
Rises low (x ∷ xs) high = (low ≤ x) × Rises (x + 1) xs high

abbrev pub IsPrune : NodeAct → Type 0
IsPrune (Pruned block stamp) = Unit {0}
IsPrune _ = ⊥

-- what each cell keeps
pub record IsCell (c : Charter) (state : NodeState) (journal : List NodeEntry) (pass : Holder) : Type 0 where
  pub below : c.number < c.config.n
  -- the journal is kept, and the node is as it leaves it
  pub kept : NodeKept c.nature (first_state c) journal
  pub stands : state ≡ after_all (first_state c) journal
  -- each entry is on a block of the cell's shard
  pub share : All (λ e. IsOfShard c.shard c.shards e.act) journal
  -- its numbers are those that the pass drew; they ascend, those of the base below the charter's floor, and those after it from there on
  pub own : (pass.clock ≡ c.pass.clock) × (pass.number ≡ c.pass.number)
  pub drawn : pass.drawn ≡ numbers journal
  pub based : c.base ≤ length journal
  pub before : Rises 0 (numbers (take c.base journal)) c.pass.seen
  pub since : Rises c.pass.seen (numbers (drop c.base journal)) pass.seen
  -- no prune stands after the base where none may
  pub calm : c.prunes ≡ false → All (λ e. IsPrune e.act → ⊥) (drop c.base journal)

-- what each cell keeps, of what contracts see
abbrev pub KeptCell : CellView → Type 0
KeptCell cell = IsCell cell.charter (state_of cell) cell.journal cell.pass

-- a cell's list: its charter, and then its journal
abbrev pub items : CellView → List Item
items cell = Head cell.charter ∷ map (λ e. Entry e) cell.journal

-- what the caller is told, by what it hears
abbrev pub told_as : ℕ → Answer → Told
told_as n (Replies reply) = ToldReply n reply
told_as n (Nothing why) = ToldSilence n why

abbrev pub number_of : Told → ℕ
number_of (ToldReply n reply) = n
number_of (ToldSilence n why) = n

-- the reply that is told, if there is one
abbrev pub reply_told : Told → Option Message
reply_told (ToldReply n reply) = Some reply
reply_told (ToldSilence n why) = None

abbrev pub entry : ℕ → NodeAct → NodeEntry
entry n act = record { number = n; act = act }

-- the cell with one more entry, whose number its pass drew
abbrev pub with_entry : CellView → ℕ → NodeAct → CellView
with_entry cell n act = record { charter = cell.charter; journal = cell.journal ++ entry n act ∷ []; pass = drew cell.pass n }

-- the pass after it saw all numbers below this one
abbrev pub with_seen : Holder → ℕ → Holder
with_seen pass seen = record { clock = pass.clock; number = pass.number; seen = seen; drawn = pass.drawn }

-- the oldest ask that was held back came again: the cell has one entry more, of what the node does with it
pub record BroughtLate (old : CellView) (n : ℕ) (new : CellView) : Type 0 where
  pub ask : Message
  pub oldest : IsOldest (state_of old).late ask
  pub cell : new ≡ with_entry old n (late_act (state_of old) old.charter.nature ask)

-- the cell is as it was, with entries more of which no client has a side
pub record HasMoreAside (old new : CellView) : Type 0 where
  pub charter : new.charter ≡ old.charter
  pub clock : new.pass.clock ≡ old.pass.clock
  pub more : List NodeEntry
  pub grew : new.journal ≡ old.journal ++ more
  pub aside : (e : NodeEntry) → Contains more e → side e.act ≡ None

-- a new cell's charter
abbrev pub new_charter : Numbers → ℕ → ℕ → ℕ → Nature → Option ℕ → Holder → Charter
new_charter config number shard shards nature crash_after pass =
    record { config = config; number = number; shard = shard; shards = shards; nature = nature; crash_after = crash_after; pass = pass; base = 0; prunes = true }

-- the cell of a node that has done nothing
abbrev pub new_cell : Numbers → ℕ → ℕ → ℕ → Nature → Option ℕ → Holder → CellView
new_cell config number shard shards nature crash_after pass =
    record { charter = new_charter config number shard shards nature crash_after pass; journal = []; pass = pass }

-- the cell after its pass met another one
abbrev pub met_cell : CellView → Holder → CellView
met_cell cell other = record { charter = cell.charter; journal = cell.journal; pass = met cell.pass other }

-- the same charter, with another pass, base and leave to prune
abbrev pub next_terms : Charter → Holder → ℕ → Bool → Charter
next_terms c p base prunes = record { config = c.config; number = c.number; shard = c.shard; shards = c.shards; nature = c.nature; crash_after = c.crash_after; pass = p; base = base; prunes = prunes }

-- the charter of a cell that goes on from here
abbrev pub next_charter : CellView → Bool → Charter
next_charter cell prunes = next_terms cell.charter cell.pass (length cell.journal) prunes

abbrev pub rechartered : CellView → Bool → CellView
rechartered cell prunes = record { charter = next_charter cell prunes; journal = cell.journal; pass = cell.pass }
