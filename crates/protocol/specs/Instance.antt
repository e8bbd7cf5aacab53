-- The setting of a cluster: its code, its digests, and who lies.
use Rattle.std.specs.Prelude.{ℕ, ◌≤◌, Bool, false, List, [], map, slice_index_or}
use Rattle.quorum_rules.specs.Limits.{Numbers, IsValid as IsValidConfig}
use Rattle.gf_field.specs.Fragments.{string_len, fragments_of, decoded}
use Rattle.cross_sum.specs.Digest.{digest}
use Rattle.ida_code.specs.Sums.{sum_of}
use Rattle.protocol.specs.Count.{count}
use Rattle.protocol.specs.Setting.{Setting}
use Rattle.protocol.specs.World.{World}
use Rattle.protocol.specs.Lines.{Line, IsRun}

-- the numbers of parts, and their strings
abbrev pub part_numbers : List (ℕ × List ℕ) → List ℕ
part_numbers parts = map (λ p. p.0) parts

-- the strings of parts
abbrev pub part_strings : List (ℕ × List ℕ) → List (List ℕ)
part_strings parts = map (λ p. p.1) parts

-- a cluster of these numbers, in which these nodes and clients lie
abbrev pub setting_of : Numbers → (ℕ → Bool) → (ℕ → Bool) → Setting
setting_of c lying_node lying_client = record {
  n = c.n;
  t = c.t;
  b = c.b;
  qc = c.qc;
  m = c.m;
  size = c.size;
  blocks = c.blocks;
  share = string_len c.m c.size;
  fragment_of = λ value i. slice_index_or (fragments_of c.n c.m value) i [];
  decoded = λ parts. decoded c.m c.size (part_numbers parts) (part_strings parts);
  digest = digest;
  sum_of = sum_of c.n c.m;
  lying_node = lying_node;
  lying_client = lying_client;
}

-- nobody lies
abbrev pub nobody : ℕ → Bool
nobody i = false

-- the setting as a single node or client knows it, who never asks who lies
abbrev pub setting : Numbers → Setting
setting c = setting_of c nobody nobody

-- a valid configuration, of whose nodes at most b lie
pub record IsCluster (c : Numbers) (lying_node : ℕ → Bool) : Type 0 where
  pub config : IsValidConfig c
  pub few : count c.n lying_node ≤ c.b

-- the law holds of each cluster, and of the last world of each of its runs
abbrev pub InEachRun : (Setting → World → Type 0) → Type 0
InEachRun law =
    (c : Numbers) (lying_node lying_client : ℕ → Bool) → IsCluster c lying_node
    → (lines : List (ℕ × Line)) (w : World) → IsRun (setting_of c lying_node lying_client) lines w → law (setting_of c lying_node lying_client) w
