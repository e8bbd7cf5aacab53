-- Two small clusters, lives of a block in them, and lists of turns that are not lives.
use Rattle.std.specs.Prelude.{◌⊎◌, ℕ, ◌<◌, zero, suc, false, List, [], ◌∷◌, ◌++◌, length, take, replicate, slice_index_or}
use Rattle.std.specs.declared.option.Option.TheVariants.{Some}
use Rattle.std.specs.List.{Contains}
use Rattle.stamp_order.specs.Stamps.{◌≼◌}
use Rattle.run_words.specs.declared.outcome.How.TheVariants.{Plain, Repaired}
use Rattle.run_words.specs.declared.outcome.Outcome.TheVariants.{Wrote, Gave}
use Rattle.protocol.specs.Messages.{Version}
use Rattle.protocol.specs.Nodes.{first_version}
use Rattle.protocol.specs.Setting.{Setting, zeros, first_stamp, verifier_of}
use Rattle.protocol.specs.Operations.Work.{Reads, Writes}
use Rattle.block_phases.specs.Phases.{Keeps}
use Rattle.block_phases.specs.Executions.{StampedValue, IsCompleted}
use Rattle.block_turns.specs.Turns.{Turn, Moment, first_standing}
use Rattle.block_turns.specs.Lives.{IsLife, version_of, first_kept}
use Rattle.block_turns.specs.Turns.{standing_at, kept_at}
use Rattle.block_turns.specs.Settled.{IsSettled, IsHeld}
use Rattle.block_turns.specs.Turns.Turn.{Did, Left, Gone, Back, Changed, Lost, Failed, Renewed}

-- a string's length, and what comes first in it
abbrev pub short_digest : List ℕ → List ℕ
short_digest x = length x ∷ take 31 (x ++ replicate 31 0)

-- the first part
abbrev pub first_part : List (ℕ × List ℕ) → List ℕ
first_part [] = 0 ∷ []
first_part (p ∷ parts) = p.1

-- three nodes: one may be missing, none may lie; each keeps the whole block, which is one byte
abbrev pub three_nodes : Setting
three_nodes = record {
  n = 3;
  t = 1;
  b = 0;
  qc = 2;
  m = 1;
  size = 1;
  blocks = 1;
  share = 1;
  fragment_of = λ value i. value;
  decoded = first_part;
  digest = short_digest;
  sum_of = λ value. short_digest value ∷ short_digest value ∷ short_digest value ∷ [];
  lying_node = λ i. false;
  lying_client = λ i. false;
}

-- what the first write stores
abbrev pub seven : StampedValue
seven = record { stamp = record { time = 1; client = 0; verifier = verifier_of three_nodes (7 ∷ []) }; value = 7 ∷ [] }

-- what a disk may keep: nothing, the first version alone, or the written one as well
abbrev pub blank : ℕ → List Version
blank i = []

abbrev pub old_disk : ℕ → List Version
old_disk i = first_version three_nodes i ∷ []

abbrev pub full_disk : ℕ → List Version
full_disk i = first_version three_nodes i ∷ version_of three_nodes seven i ∷ []

-- what the second write stores
abbrev pub nine : StampedValue
nine = record { stamp = record { time = 2; client = 0; verifier = verifier_of three_nodes (9 ∷ []) }; value = 9 ∷ [] }

abbrev pub ahead_disk : ℕ → List Version
ahead_disk i = first_version three_nodes i ∷ version_of three_nodes seven i ∷ version_of three_nodes nine i ∷ []

abbrev pub nine_disk : ℕ → List Version
nine_disk i = first_version three_nodes i ∷ version_of three_nodes nine i ∷ []

-- what three nodes keep
abbrev pub by_node : (ℕ → List Version) → (ℕ → List Version) → (ℕ → List Version) → Keeps
by_node a b c zero = a zero
by_node a b c (suc zero) = b 1
by_node a b c (suc (suc i)) = c (suc (suc i))

-- The block is written on nodes 0 and 1. Node 0 is lost, the block is read from the others, and node 0 is rebuilt.
-- Then the same for node 1.
abbrev pub two_disks_replaced : List Moment
two_disks_replaced =
    record { turn = Did 0 (Writes (7 ∷ [])) (Wrote seven.stamp); kept = by_node full_disk full_disk old_disk }
    ∷ record { turn = Lost 0; kept = by_node blank full_disk old_disk }
    ∷ record { turn = Did 0 Reads (Gave seven.stamp seven.value Repaired 1); kept = by_node blank full_disk full_disk }
    ∷ record { turn = Renewed 0; kept = by_node full_disk full_disk full_disk }
    ∷ record { turn = Lost 1; kept = by_node full_disk blank full_disk }
    ∷ record { turn = Did 0 Reads (Gave seven.stamp seven.value Plain 1); kept = by_node full_disk blank full_disk }
    ∷ record { turn = Renewed 1; kept = by_node full_disk full_disk full_disk }
    ∷ []

-- The block is written on nodes 0 and 1. Then, after this turn, node 1 has a new, empty disk. It answers before it
-- was rebuilt, and a read from nodes 1 and 2 returns zeros.
abbrev pub answered_too_early : Turn → List Moment
answered_too_early turn =
    record { turn = Did 0 (Writes (7 ∷ [])) (Wrote seven.stamp); kept = by_node full_disk full_disk old_disk }
    ∷ record { turn = turn; kept = by_node full_disk old_disk old_disk }
    ∷ record { turn = Did 0 Reads (Gave (first_stamp three_nodes) (zeros three_nodes) Plain 1); kept = by_node full_disk old_disk old_disk }
    ∷ []

-- nodes that answer so do make that read
abbrev pub TooEarlyIsRead : Type 0
TooEarlyIsRead =
    IsCompleted three_nodes (λ i. false) 0 0 Reads (Gave (first_stamp three_nodes) (zeros three_nodes) Plain 1) (by_node full_disk old_disk old_disk)
    (by_node full_disk old_disk old_disk)

-- that is not a life, whether node 1 is lost or its disk was changed by others
abbrev pub NoneAnswersTooEarly : Type 0
NoneAnswersTooEarly = IsLife three_nodes 0 (answered_too_early (Lost 1)) ⊎ IsLife three_nodes 0 (answered_too_early Changed) → ⊥

-- The block is written on nodes 0 and 1 while 2 is out of reach. A second write is cut off; only node 0 has stored
-- it. Node 2 comes back and has stored the first one late. The block is read from 1 and 2. Node 0 is lost and
-- rebuilt. Then the block is settled.
abbrev pub cut_off_and_settled : List Moment
cut_off_and_settled =
    record { turn = Did 0 (Writes (7 ∷ [])) (Wrote seven.stamp); kept = by_node full_disk full_disk old_disk }
    ∷ record { turn = Gone 2; kept = by_node full_disk full_disk old_disk }
    ∷ record { turn = Left 0 (Writes (9 ∷ [])) (Some nine); kept = by_node ahead_disk full_disk old_disk }
    ∷ record { turn = Back 2; kept = by_node ahead_disk full_disk full_disk }
    ∷ record { turn = Did 0 Reads (Gave seven.stamp seven.value Plain 1); kept = by_node ahead_disk full_disk full_disk }
    ∷ record { turn = Lost 0; kept = by_node blank full_disk full_disk }
    ∷ record { turn = Renewed 0; kept = by_node full_disk full_disk full_disk }
    ∷ []

abbrev pub IsSettledThen : Type 0
IsSettledThen =
    IsSettled three_nodes seven (standing_at (first_standing three_nodes) cut_off_and_settled) (kept_at (first_kept three_nodes) cut_off_and_settled)

-- A second write is cut off; no node has stored it yet, and node 2 is out of reach. The first one is read from the
-- others, and no node keeps more. Then node 2 comes back, has stored the second one late, and a read returns it.
abbrev pub before_late : List Moment
before_late =
    record { turn = Did 0 (Writes (7 ∷ [])) (Wrote seven.stamp); kept = by_node full_disk full_disk old_disk }
    ∷ record { turn = Left 0 (Writes (9 ∷ [])) (Some nine); kept = by_node full_disk full_disk old_disk }
    ∷ record { turn = Gone 2; kept = by_node full_disk full_disk old_disk }
    ∷ record { turn = Did 0 Reads (Gave seven.stamp seven.value Plain 1); kept = by_node full_disk full_disk old_disk }
    ∷ []

abbrev pub after_late : List Moment
after_late =
    record { turn = Back 2; kept = by_node full_disk full_disk nine_disk }
    ∷ record { turn = Did 0 Reads (Gave nine.stamp nine.value Repaired 1); kept = by_node ahead_disk full_disk nine_disk }
    ∷ []

-- before node 2 comes back, no node keeps a stamp above the one that was read
abbrev pub KeepNoMore : Type 0
KeepNoMore = (i : ℕ) (v : Version) → i < 3 → Contains (kept_at (first_kept three_nodes) before_late i) v → v.stamp ≼ seven.stamp

-- A second write is cut off when nodes 0 and 1 have stored it. So its stamp is held, though nobody was told of it.
abbrev pub before_rebuilt : List Moment
before_rebuilt =
    record { turn = Did 0 (Writes (7 ∷ [])) (Wrote seven.stamp); kept = by_node full_disk full_disk old_disk }
    ∷ record { turn = Left 0 (Writes (9 ∷ [])) (Some nine); kept = by_node ahead_disk ahead_disk old_disk }
    ∷ []

abbrev pub IsHeldThen : Type 0
IsHeldThen =
    IsHeld three_nodes nine.stamp (standing_at (first_standing three_nodes) before_rebuilt) (kept_at (first_kept three_nodes) before_rebuilt)

-- Nodes 0 and 1 are lost and rebuilt, one after the other, and no operation is acknowledged in between. So both keep
-- what was acknowledged, and a read returns that in place of what was held.
abbrev pub after_rebuilt : List Moment
after_rebuilt =
    record { turn = Lost 0; kept = by_node blank ahead_disk old_disk }
    ∷ record { turn = Renewed 0; kept = by_node full_disk ahead_disk old_disk }
    ∷ record { turn = Lost 1; kept = by_node full_disk blank old_disk }
    ∷ record { turn = Renewed 1; kept = by_node full_disk full_disk old_disk }
    ∷ record { turn = Did 0 Reads (Gave seven.stamp seven.value Plain 1); kept = by_node full_disk full_disk old_disk }
    ∷ []

-- ---- liars

-- five nodes: one may be missing, one may lie; each keeps the whole block, which is one byte
abbrev pub five_nodes : Setting
five_nodes = record {
  n = 5;
  t = 1;
  b = 1;
  qc = 3;
  m = 1;
  size = 1;
  blocks = 1;
  share = 1;
  fragment_of = λ value i. value;
  decoded = first_part;
  digest = short_digest;
  sum_of = λ value. short_digest value ∷ short_digest value ∷ short_digest value ∷ short_digest value ∷ short_digest value ∷ [];
  lying_node = λ i. false;
  lying_client = λ i. false;
}

-- what the write stores, and what nobody ever wrote
abbrev pub written : StampedValue
written = record { stamp = record { time = 1; client = 0; verifier = verifier_of five_nodes (7 ∷ []) }; value = 7 ∷ [] }

abbrev pub forged : StampedValue
forged = record { stamp = record { time = 2; client = 0; verifier = verifier_of five_nodes (9 ∷ []) }; value = 9 ∷ [] }

-- the versions of these on node i
abbrev pub versions_of : List StampedValue → ℕ → List Version
versions_of [] i = []
versions_of (x ∷ xs) i = version_of five_nodes x i ∷ versions_of xs i

-- each node keeps the first version, and those of what stands at its place
abbrev pub keeping : List (List StampedValue) → Keeps
keeping lists i = first_version five_nodes i ∷ versions_of (slice_index_or lists i []) i

-- The block is written on nodes 0 to 3. Node 0 begins to lie: it keeps a version that nobody wrote. A read returns what was written, and
-- stores it again. Node 0 is rebuilt, and counts as honest. Then the same with node 1.
abbrev pub two_liars_replaced : List Moment
two_liars_replaced =
    record { turn = Did 0 (Writes (7 ∷ [])) (Wrote written.stamp); kept = keeping ((written ∷ []) ∷ (written ∷ []) ∷ (written ∷ []) ∷ (written ∷ []) ∷ []) }
    ∷ record { turn = Failed 0; kept = keeping ((forged ∷ []) ∷ (written ∷ []) ∷ (written ∷ []) ∷ (written ∷ []) ∷ []) }
    ∷ record { turn = Did 0 Reads (Gave written.stamp written.value Repaired 1); kept = keeping ((forged ∷ written ∷ []) ∷ (written ∷ []) ∷ (written ∷ []) ∷ (written ∷ []) ∷ []) }
    ∷ record { turn = Renewed 0; kept = keeping ((written ∷ []) ∷ (written ∷ []) ∷ (written ∷ []) ∷ (written ∷ []) ∷ []) }
    ∷ record { turn = Failed 1; kept = keeping ((written ∷ []) ∷ (forged ∷ []) ∷ (written ∷ []) ∷ (written ∷ []) ∷ []) }
    ∷ record { turn = Did 0 Reads (Gave written.stamp written.value Repaired 1); kept = keeping ((written ∷ []) ∷ (forged ∷ written ∷ []) ∷ (written ∷ []) ∷ (written ∷ []) ∷ []) }
    ∷ record { turn = Renewed 1; kept = keeping ((written ∷ []) ∷ (written ∷ []) ∷ (written ∷ []) ∷ (written ∷ []) ∷ []) }
    ∷ []

-- two nodes lie at the same time
abbrev pub two_liars_at_once : List Moment
two_liars_at_once = record { turn = Failed 0; kept = first_kept five_nodes } ∷ record { turn = Failed 1; kept = first_kept five_nodes } ∷ []

-- that is not a life
abbrev pub NoTwoLie : Type 0
NoTwoLie = IsLife five_nodes 0 two_liars_at_once → ⊥
