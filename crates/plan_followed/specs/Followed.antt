-- When journals are those of a run of a plan.
use Rattle.std.specs.Prelude.{◌≡◌, ℕ, zero, suc, ◌<◌, ◌≤◌, Bool, true, false, List, [], ◌∷◌, length, map, count_by, Option, slice_get}
use Rattle.std.specs.declared.option.Option.TheVariants.{None, Some}
use Rattle.std.specs.List.{Contains}
use Rattle.stamp_order.specs.declared.Stamp.{Stamp}
use Rattle.wire_forms.specs.Liars.{has_number}
use Rattle.protocol.specs.Report.{Ascend}
use Rattle.plan_words.specs.declared.plan.Plan.{Plan}
use Rattle.plan_words.specs.Named.{clients, is_phase}
use Rattle.plan_words.specs.Plans.{Fits}
use Rattle.journals.specs.declared.desk.DeskJournal.{DeskJournal}
use Rattle.journals.specs.declared.desk.DeskEntry.{DeskEntry}
use Rattle.journals.specs.Desks.{Ended}
use Rattle.journals.specs.Steps.{Gives}
use Rattle.journals.specs.declared.whole.Journals.{Journals}
use Rattle.journals.specs.Journals.{at_node, at_desk, cluster_at, AreKept, PairsAgree, NumbersBelow}
use Rattle.journals.specs.Phases.{Phase, IsWithin, IsGreatest}
use Rattle.plan_followed.specs.Asked.{conduct_of}
use Rattle.plan_followed.specs.Clients.{ClientFollows, LiarFollows}
use Rattle.plan_followed.specs.Nodes.{Pruning, NodeFollows}

-- ---- phases

-- where the k-th phase begins: at the first number, or after the prunes of the phase before
abbrev pub end_of : Option Phase → ℕ
end_of None = 0
end_of (Some p) = p.end

abbrev pub begin_of : List Phase → ℕ → ℕ
begin_of phases zero = 0
begin_of phases (suc k) = end_of (slice_get phases k)

-- each phase, and then its prunes, come after the prunes of the phase before
abbrev pub AreInTurn : ℕ → List Phase → Type 0
AreInTurn from [] = Unit {0}
AreInTurn from (p ∷ ps) = (from ≤ p.close) × (p.close ≤ p.end) × AreInTurn p.end ps

-- a read of the block gave a value in the phase, which began at this number
pub record IsGivenIn (plan : Plan) (j : Journals) (from : ℕ) (p : Phase) (block : ℕ) : Type 0 where
  pub client : ℕ
  pub correct : has_number j.liars.clients client ≡ false
  pub read : Ended
  pub there : Contains ((cluster_at (conduct_of plan.rules) j p.close).desks client).ended read
  pub stamp : Stamp
  pub gives : Gives read block stamp
  pub since : from ≤ read.end

-- the prunes after a phase: of each block of which a read gave a value in it, blocks ascending, by the greatest stamp that a read gave so far
pub record ArePrunes (plan : Plan) (j : Journals) (from : ℕ) (p : Phase) (prunes : List Pruning) : Type 0 where
  pub ascend : Ascend (map (λ x. x.block) prunes)
  pub all : (block : ℕ) → IsGivenIn plan j from p block → Contains (map (λ x. x.block) prunes) block
  pub given : (x : Pruning) → Contains prunes x → IsGivenIn plan j from p x.block
  pub greatest : (x : Pruning) → Contains prunes x → IsGreatest (conduct_of plan.rules) j p.close x.block x.stamp

-- ---- the whole

-- by whether the client is declared lying
abbrev pub FollowsAs : Bool → Plan → List Phase → ℕ → List DeskEntry → Type 0
FollowsAs true plan phases c es = LiarFollows plan c phases es
FollowsAs false plan phases c es = ClientFollows plan c phases es

-- the journals are of the plan's cluster, and each client that has one is named in the plan
pub record AreFor (plan : Plan) (j : Journals) : Type 0 where
  pub config : j.config ≡ plan.config
  pub liars : j.liars ≡ plan.liars
  pub ascend : Ascend (map (λ d. d.client) j.desks)
  pub named : (d : DeskJournal) → Contains j.desks d → Contains (clients plan.rules plan.work) d.client

-- the phases are those of the plan, one after the other, and no client does anything while nodes prune
pub record AreCut (plan : Plan) (j : Journals) (phases : List Phase) : Type 0 where
  pub count : length phases ≡ count_by is_phase plan.work
  pub turns : AreInTurn 0 phases
  pub still : (c : ℕ) (e : DeskEntry) → Contains (at_desk j c) e → (p : Phase) → Contains phases p → IsWithin p e.number → ⊥

-- the journals follow the plan: each client and each node does, and the prunes after each phase are those of what was read in it
pub record Follows (plan : Plan) (j : Journals) : Type 0 where
  pub are_for : AreFor plan j
  pub phases : List Phase
  pub cut : AreCut plan j phases
  pub clients : (c : ℕ) → FollowsAs (has_number plan.liars.clients c) plan phases c (at_desk j c)
  pub prunes : ℕ → List Pruning
  pub nodes : (i : ℕ) → i < plan.config.n → NodeFollows plan i phases prunes (at_node j i)
  pub pruned : (k : ℕ) (p : Phase) → slice_get phases k ≡ Some p → ArePrunes plan j (begin_of phases k) p (prunes k)

-- the journals are those of a run of the plan: kept, where nodes behave as the plan says; they agree in pairs, have each number below
-- some count once, and follow the plan
pub record AreOfPlan (plan : Plan) (j : Journals) (drawn : ℕ) : Type 0 where
  pub fits : Fits plan
  pub kept : AreKept (conduct_of plan.rules) j
  pub pairs : PairsAgree j
  pub numbers : NumbersBelow j drawn
  pub follows : Follows plan j
