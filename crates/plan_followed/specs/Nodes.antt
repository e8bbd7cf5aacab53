-- When a node's journal follows a plan.
use Rattle.std.specs.Prelude.{◌≡◌, ℕ, ◌&&◌, if◌then◌else◌, nat_lt, nat_le, List, [], map, filter, slice_get}
use Rattle.std.specs.declared.option.Option.TheVariants.{Some}
use Rattle.std.specs.List.{Contains}
use Rattle.stamp_order.specs.declared.Stamp.{Stamp}
use Rattle.plan_words.specs.declared.plan.Plan.{Plan}
use Rattle.journals.specs.declared.node.NodeAct.TheVariants.{Pruned}
use Rattle.journals.specs.declared.node.NodeAct.{NodeAct}
use Rattle.journals.specs.declared.node.NodeEntry.{NodeEntry}
use Rattle.journals.specs.Acts.{NodeState, new_state, after_all, can_prune}
use Rattle.journals.specs.Journals.{nodes_before}
use Rattle.journals.specs.Phases.{Phase, IsWithin}
use Rattle.plan_followed.specs.Asked.{nature, crash_after}

-- a block that is pruned, and by which stamp
pub record Pruning : Type 0 where
  pub block : ℕ
  pub stamp : Stamp

abbrev pub act_of : Pruning → NodeAct
act_of x = Pruned x.block x.stamp

-- the entries with the numbers of a phase's prunes
abbrev pub nodes_within : Phase → List NodeEntry → List NodeEntry
nodes_within p es = filter (λ e. nat_le p.close e.number && nat_lt e.number p.end) es

module _ (plan : Plan) (i : ℕ) where
  -- the node after these entries
  abbrev pub node_after : List NodeEntry → NodeState
  node_after es = after_all (new_state plan.config i (crash_after plan.rules i)) es

  -- a phase ends at the node: nothing is held back, and then it does these prunes and nothing else, if it neither lies nor has crashed
  pub record IsClosed (p : Phase) (prunes : List Pruning) (es : List NodeEntry) : Type 0 where
    pub late : (node_after (nodes_before p.close es)).late ≡ []
    pub acts : map (λ e. e.act) (nodes_within p es) ≡ (if can_prune (node_after (nodes_before p.close es)) (nature plan.rules i) then map act_of prunes else [])

  -- each phase ends, nothing is held back at last, and there are no other prunes
  pub record NodeFollows (phases : List Phase) (prunes : ℕ → List Pruning) (es : List NodeEntry) : Type 0 where
    pub closed : (k : ℕ) (p : Phase) → slice_get phases k ≡ Some p → IsClosed p (prunes k) es
    pub late : (node_after es).late ≡ []
    pub only : (n block : ℕ) (stamp : Stamp) → Contains es (record { number = n; act = Pruned block stamp }) → (p : Phase) × Contains phases p × IsWithin p n
