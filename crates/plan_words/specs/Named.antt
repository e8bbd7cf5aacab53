-- Whom the rules and the work of a plan name.
use Rattle.std.specs.Prelude.{ℕ, ◌==◌, Bool, true, false, ◌&&◌, List, [], ◌++◌, fold, Option, Some, None}
use Rattle.std.specs.List.{filter_map}
use Rattle.std.specs.Ordering.{nat_cmp}
use Rattle.std.specs.BTreeSet.{insert_key}
use Rattle.wire_forms.specs.Liars.{Liars}
use Rattle.plan_words.specs.declared.fault.Fault.{Fault}
use Rattle.plan_words.specs.declared.fault.Fault.TheVariants.{LiarNode, LiarSound, LiarMix, LiarFlood, CrashNode, CrashClient, Lose, Hold}
use Rattle.plan_words.specs.declared.job.Job.{Job}
use Rattle.plan_words.specs.declared.job.Job.TheVariants.{Block, Device, Phase}

-- ---- nodes

-- the node that a rule declares lying
abbrev pub lying_node : Fault → Option ℕ
lying_node (LiarNode node rule) = Some node
lying_node _ = None

-- the node that a rule makes lie or crash
abbrev pub faulty_node : Fault → Option ℕ
faulty_node (LiarNode node rule) = Some node
faulty_node (CrashNode node count) = Some node
faulty_node _ = None

abbrev pub lying_nodes : List Fault → List ℕ
lying_nodes rules = filter_map lying_node rules

abbrev pub faulty_nodes : List Fault → List ℕ
faulty_nodes rules = filter_map faulty_node rules

-- ---- clients

-- the client that a rule declares lying
abbrev pub lying_client : Fault → Option ℕ
lying_client (LiarSound client block time value count) = Some client
lying_client (LiarMix client block time value other count) = Some client
lying_client (LiarFlood client block time value other count) = Some client
lying_client _ = None

-- the client that a rule makes crash
abbrev pub crashing_client : Fault → Option ℕ
crashing_client (CrashClient client count) = Some client
crashing_client _ = None

-- the client that a rule makes crash, or whose asks it drops or holds
abbrev pub troubled_client : Fault → Option ℕ
troubled_client (CrashClient client count) = Some client
troubled_client (Lose client node count) = Some client
troubled_client (Hold client node count) = Some client
troubled_client _ = None

-- the client that is to do a job
abbrev pub job_client : Job → Option ℕ
job_client (Block client op) = Some client
job_client (Device client op) = Some client
job_client Phase = None

abbrev pub lying_clients : List Fault → List ℕ
lying_clients rules = filter_map lying_client rules

abbrev pub crashing_clients : List Fault → List ℕ
crashing_clients rules = filter_map crashing_client rules

-- the clients that make asks: those that have work, crash, or have asks dropped or held
abbrev pub asking_clients : List Fault → List Job → List ℕ
asking_clients rules work = filter_map troubled_client rules ++ filter_map job_client work

-- all clients that a plan names
abbrev pub clients : List Fault → List Job → List ℕ
clients rules work = lying_clients rules ++ asking_clients rules work

-- ---- clients with nodes

-- the client and the node between which a rule drops asks
abbrev pub dropped_pair : Fault → Option (ℕ × ℕ)
dropped_pair (Lose client node count) = Some (client, node)
dropped_pair _ = None

-- the client and the node between which a rule holds asks
abbrev pub held_pair : Fault → Option (ℕ × ℕ)
held_pair (Hold client node count) = Some (client, node)
held_pair _ = None

abbrev pub dropped_pairs : List Fault → List (ℕ × ℕ)
dropped_pairs rules = filter_map dropped_pair rules

abbrev pub held_pairs : List Fault → List (ℕ × ℕ)
held_pairs rules = filter_map held_pair rules

abbrev pub pair_eq : ℕ × ℕ → ℕ × ℕ → Bool
pair_eq a b = (a.0 == b.0) && (a.1 == b.1)

-- ---- liars

-- these numbers, each once, in ascending order
abbrev pub ascending : List ℕ → List ℕ
ascending numbers = fold (insert_key nat_cmp) [] numbers

-- who the rules declare lying
abbrev pub liars_of : List Fault → Liars
liars_of rules = record { nodes = ascending (lying_nodes rules); clients = ascending (lying_clients rules) }

-- ---- lines of which there may be few

abbrev pub is_flood : Fault → Bool
is_flood (LiarFlood client block time value other count) = true
is_flood _ = false

abbrev pub is_phase : Job → Bool
is_phase Phase = true
is_phase _ = false
