-- Journals of nodes and clients: when they are kept, agree in pairs and follow each other, and their entries as one list of steps by number.
use Rattle.std.specs.Prelude.{◌≡◌, ◌⊎◌, ◌↔◌, ℕ, ◌<◌, if◌then◌else◌, ◌==◌, nat_lt, List, [], ◌∷◌, length, map, filter, slice_index_or}
use Rattle.std.specs.declared.option.Option.TheVariants.{Some}
use Rattle.std.specs.List.{Contains}
use Rattle.wire_forms.specs.Liars.{has_number}
use Rattle.protocol.specs.Setting.{Setting}
use Rattle.protocol.specs.Instance.{setting_of, IsCluster}
use Rattle.protocol.specs.World.{IsClient, start_world}
use Rattle.protocol.specs.Lines.{Line}
use Rattle.protocol.specs.Report.{Ascend}
use Rattle.journals.specs.declared.desk.DeskJournal.{DeskJournal}
pub use Rattle.journals.specs.declared.whole.Journals.{Journals}
use Rattle.journals.specs.Acts.{NodeAct, NodeEntry, new_state, NodeKept, after_all}
use Rattle.journals.specs.Desks.{DeskAct, DeskEntry, new_desk, DeskKept, desk_after_all}
use Rattle.journals.specs.Steps.{Step, Cluster, Conduct, IsConduct, side, IsOwn, Prunes}
use Rattle.journals.specs.Steps.Step.{AtNode, AtDesk}
use Rattle.journals.specs.Merging.{Merged}

-- the cluster of the journals, with its liars
abbrev pub setting_for : Journals → Setting
setting_for j = setting_of j.config (has_number j.liars.nodes) (has_number j.liars.clients)

-- the journal of a node
abbrev pub at_node : Journals → ℕ → List NodeEntry
at_node j i = slice_index_or j.nodes i []

-- the entries of a client's journal, if it has one
abbrev pub entries_of : List DeskJournal → ℕ → List DeskEntry
entries_of [] c = []
entries_of (d ∷ ds) c = if d.client == c then d.entries else entries_of ds c

abbrev pub at_desk : Journals → ℕ → List DeskEntry
at_desk j c = entries_of j.desks c

-- the entries with numbers below k
abbrev pub nodes_before : ℕ → List NodeEntry → List NodeEntry
nodes_before k es = filter (λ e. nat_lt e.number k) es

abbrev pub desks_before : ℕ → List DeskEntry → List DeskEntry
desks_before k es = filter (λ e. nat_lt e.number k) es

-- all nodes and clients after the entries with numbers below k
abbrev pub cluster_at : Conduct → Journals → ℕ → Cluster
cluster_at conduct j k = record {
  nodes = λ i. after_all (new_state j.config i (conduct.crash_after i)) (nodes_before k (at_node j i));
  desks = λ c. desk_after_all (new_desk j.config c) (desks_before k (at_desk j c));
}

-- a node's journal is kept: its numbers ascend, and its entries are what such a node does
pub record IsNodeKept (conduct : Conduct) (j : Journals) (i : ℕ) : Type 0 where
  pub ascends : Ascend (map (λ e. e.number) (at_node j i))
  pub goes : NodeKept (conduct.nature i) (new_state j.config i (conduct.crash_after i)) (at_node j i)

-- a client's journal is kept: its numbers ascend, and its entries are what such a client may do
pub record IsDeskKept (j : Journals) (c : ℕ) : Type 0 where
  pub ascends : Ascend (map (λ e. e.number) (at_desk j c))
  pub goes : DeskKept (has_number j.liars.clients c) (new_desk j.config c) (at_desk j c)

-- there is a journal for each node, and each journal is kept
pub record AreKept (conduct : Conduct) (j : Journals) : Type 0 where
  pub behave : IsConduct (has_number j.liars.nodes) conduct
  pub count : length j.nodes ≡ j.config.n
  pub nodes : (i : ℕ) → IsNodeKept conduct j i
  pub desks : (c : ℕ) → IsDeskKept j c

abbrev pub IsKept : Journals → Type 0
IsKept j = (conduct : Conduct) × AreKept conduct j

-- the node's entry of this number is the other side of the client's
abbrev pub HasSide : Journals → ℕ → DeskEntry → Type 0
HasSide j c e = (i : ℕ) × (act : NodeAct) × Contains (at_node j i) (record { number = e.number; act = act }) × (side act ≡ Some (c, e.act))

-- a node's entry that has a client's side finds it there, and a client's entry is a start, a crash or the side of a node's
pub record PairsAgree (j : Journals) : Type 0 where
  pub called : (i c : ℕ) (e : NodeEntry) (act : DeskAct) → Contains (at_node j i) e → side e.act ≡ Some (c, act) → Contains (at_desk j c) (record { number = e.number; act = act })
  pub answered : (c : ℕ) (e : DeskEntry) → Contains (at_desk j c) e → IsOwn e.act ⊎ HasSide j c e

-- who has a desk is a client, and each prune goes by what the clients had read until then
pub record Follow (conduct : Conduct) (j : Journals) : Type 0 where
  pub clients : (c : ℕ) (e : DeskEntry) → Contains (at_desk j c) e → IsClient (setting_for j) c
  pub prunes : (i : ℕ) (e : NodeEntry) → Contains (at_node j i) e → Prunes (setting_for j) (cluster_at conduct j e.number) e.act

-- the step is an entry of a node, or a start or crash of a client
abbrev pub IsEntry : Journals → ℕ → Step → Type 0
IsEntry j number (AtNode i act) = Contains (at_node j i) (record { number = number; act = act })
IsEntry j number (AtDesk c act) = IsOwn act × Contains (at_desk j c) (record { number = number; act = act })

-- all entries by number, each pair once
pub record InOrder (j : Journals) (es : List (ℕ × Step)) : Type 0 where
  pub ascending : Ascend (map (λ p. p.0) es)
  pub entries : (p : ℕ × Step) → Contains es p ↔ IsEntry j p.0 p.1

-- the numbers of all entries, a pair counted once, are those below k, each once
pub record NumbersBelow (j : Journals) (k : ℕ) : Type 0 where
  pub some : (n : ℕ) → n < k → (e : Step) × IsEntry j n e
  pub below : (n : ℕ) (e : Step) → IsEntry j n e → n < k
  pub once : (n : ℕ) (e f : Step) → IsEntry j n e → IsEntry j n f → e ≡ f

-- the lines of journals: those of all entries in order
abbrev pub IsMerge : Journals → List (ℕ × Line) → Type 0
IsMerge j lines = (es : List (ℕ × Step)) × InOrder j es × Merged (setting_for j) (Some (start_world (setting_for j))) 0 (map (λ p. p.1) es) lines

-- journals of a run in threads: of a cluster with few liars, kept, agreeing in pairs and following each other, with each number
-- below some count once
pub record AreOfRun (conduct : Conduct) (j : Journals) : Type 0 where
  pub cluster : IsCluster j.config (has_number j.liars.nodes)
  pub kept : AreKept conduct j
  pub pairs : PairsAgree j
  pub follow : Follow conduct j
  pub drawn : ℕ
  pub numbers : NumbersBelow j drawn
