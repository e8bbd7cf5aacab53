-- Runs of small clusters, computed.
use Rattle.std.specs.Prelude.{◌≡◌, ℕ, ◌+◌, ◌-◌, ◌*◌, ◌%◌, ◌==◌, if◌then◌else◌, Bool, false, List, [], ◌∷◌, ◌++◌, map, length, replicate, Option}
use Rattle.std.specs.declared.option.Option.TheVariants.{None, Some}
use Rattle.std.proofs.Common.{refl}
use Rattle.stamp_order.specs.Stamps.{stamp_cmp, up_to, before, same_stamp}
use Rattle.protocol.specs.Setting.{Setting, same, same_digests}
use Rattle.protocol.specs.Messages.{flat}
use Rattle.protocol.specs.Operations.{Outcome}
use Rattle.run_words.specs.declared.outcome.Outcome.TheVariants.{Wrote, Spent, Gave}
use Rattle.run_words.specs.declared.outcome.How.TheVariants.{Plain, Repaired}
use Rattle.protocol.specs.World.{World, Record, start_world}
use Rattle.protocol.specs.Lines.{Line, plays}
use Rattle.run_words.specs.declared.line.Line.TheVariants.{Write, Read, Call, CrashClient, False, Sound, Mix, Prune, Back}
use Rattle.protocol.specs.Lines.{fault, StepFault}
use Rattle.wire_forms.specs.declared.rule.Rule.TheVariants.{Top, Bad}
use Rattle.run_words.specs.declared.line.StepFault.TheVariants.{NoRead, NotQuiet, NotCrashed}
use Rattle.stamp_order.specs.declared.Stamp.{Stamp}
use Rattle.protocol.specs.Bounds.{pairs}

-- 32 numbers that tell short strings apart
abbrev weigh : List ℕ → ℕ
weigh [] = 1
weigh (x ∷ xs) = (x + 257 * weigh xs) % 65521

abbrev toy_digest : List ℕ → List ℕ
toy_digest xs = weigh xs ∷ replicate 31 0

-- one share: every fragment is the block
abbrev toy_sum : List ℕ → List (List ℕ)
toy_sum value = toy_digest value ∷ toy_digest value ∷ toy_digest value ∷ []

abbrev pub second_of_first : List (ℕ × List ℕ) → List ℕ
second_of_first [] = []
second_of_first (p ∷ ps) = p.1

abbrev pub toy : Setting
toy = record {
  n = 3;
  t = 0;
  b = 0;
  qc = 2;
  m = 1;
  size = 2;
  blocks = 1;
  share = 2;
  fragment_of = λ value i. value;
  decoded = second_of_first;
  digest = toy_digest;
  sum_of = toy_sum;
  lying_node = λ i. false;
  lying_client = λ c. false;
}

abbrev world_from : World → ℕ → List Line → World
world_from w place [] = w
world_from w place (l ∷ ls) = world_from (plays toy w place l) (place + 1) ls

-- a write of 1 0 and a read, whole
abbrev write_and_read : List Line
write_and_read =
    Write 1 0 (1 ∷ 0 ∷ []) ∷ Call 1 0 ∷ Call 1 1 ∷ Call 1 2 ∷ Call 1 0 ∷ Call 1 1 ∷ Call 1 2
    ∷ Read 2 0 ∷ Call 2 0 ∷ Call 2 1 ∷ Call 2 2 ∷ []

abbrev outcomes : List Record → List (Option Outcome)
outcomes rs = map (λ r. r.outcome) rs

write_and_read_gives : outcomes (world_from (start_world toy) 1 write_and_read).records ≡ Some (Wrote (record { time = 1; client = 1; verifier = toy_digest (flat (toy_sum (1 ∷ 0 ∷ []))) })) ∷ Some (Gave (record { time = 1; client = 1; verifier = toy_digest (flat (toy_sum (1 ∷ 0 ∷ []))) }) (1 ∷ 0 ∷ []) Plain 1) ∷ []
unfolding up_to before same_stamp same same_digests stamp_cmp
write_and_read_gives = refl

-- a line through two numbers modulo 257, and the number of it at i
abbrev at_number : ℕ → ℕ → ℕ → ℕ
at_number a b i = (a + i * (b + 257 - a)) % 257

-- what times k is 1
abbrev inverse : ℕ → ℕ
inverse k = if k == 1 then 1 else (if k == 2 then 129 else (if k == 3 then 86 else 193))

abbrev fragment_five : List ℕ → ℕ → List ℕ
fragment_five (a ∷ b ∷ []) i = at_number a b i ∷ []
fragment_five _ i = []

abbrev first_byte : List ℕ → ℕ
first_byte [] = 0
first_byte (x ∷ xs) = x

abbrev slope_of : ℕ → ℕ → ℕ → ℕ → ℕ
slope_of i x j y = ((y + 257 - x) * inverse (j - i)) % 257

abbrev row_at : ℕ → ℕ → ℕ → ℕ → ℕ
row_at i x slope k = (x + (k + 257 * 4 - i) * slope) % 257

abbrev decoded_two : List (ℕ × List ℕ) → List ℕ
decoded_two (p ∷ q ∷ []) =
    let slope = slope_of p.0 (first_byte p.1) q.0 (first_byte q.1) in
    row_at p.0 (first_byte p.1) slope 0 ∷ row_at p.0 (first_byte p.1) slope 1 ∷ []
decoded_two _ = []

abbrev sum_five : List ℕ → List (List ℕ)
sum_five value =
    toy_digest (fragment_five value 0) ∷ toy_digest (fragment_five value 1) ∷ toy_digest (fragment_five value 2) ∷ toy_digest (fragment_five value 3) ∷ toy_digest (fragment_five value 4) ∷ []

-- five nodes, of which one may fail or lie, and two shares
abbrev five : (ℕ → Bool) → (ℕ → Bool) → Setting
five nodes clients = record {
  n = 5;
  t = 1;
  b = 1;
  qc = 3;
  m = 2;
  size = 2;
  blocks = 2;
  share = 1;
  fragment_of = fragment_five;
  decoded = decoded_two;
  digest = toy_digest;
  sum_of = sum_five;
  lying_node = nodes;
  lying_client = clients;
}

abbrev nobody : ℕ → Bool
nobody i = false

-- what each operation has come to after these lines, and whether none was refused
abbrev lines_from : Setting → World → ℕ → List Line → World
lines_from s w place [] = w
lines_from s w place (l ∷ ls) = lines_from s (plays s w place l) (place + 1) ls

abbrev refused_from : Setting → World → ℕ → List Line → List (Option StepFault)
refused_from s w place [] = []
refused_from s w place (l ∷ ls) = fault s w l ∷ refused_from s (plays s w place l) (place + 1) ls

abbrev outcomes_of : Setting → List Line → List (Option Outcome)
outcomes_of s lines = outcomes (lines_from s (start_world s) 1 lines).records

abbrev stamp_at : ℕ → ℕ → List ℕ → Stamp
stamp_at time client value = record { time = time; client = client; verifier = toy_digest (flat (sum_five value)) }

abbrev calls : ℕ → ℕ → ℕ → List Line
calls c i k = Call c i ∷ Call c (i + 1) ∷ Call c (i + 2) ∷ Call c (i + 3) ∷ []

-- an incomplete write is repaired by two reads
abbrev repaired_twice : List Line
repaired_twice =
    Write 1 0 (1 ∷ 0 ∷ []) ∷ calls 1 0 3 ++ Call 1 0 ∷ Call 1 1 ∷ CrashClient 1 ∷ Read 2 0 ∷ calls 2 0 3 ++ calls 2 0 3 ++ Read 3 0 ∷ calls 3 1 4 ++ calls 3 1 4

repaired_twice_gives : outcomes_of (five nobody nobody) repaired_twice ≡ None ∷ Some (Gave (stamp_at 1 1 (1 ∷ 0 ∷ [])) (1 ∷ 0 ∷ []) Repaired 1) ∷ Some (Gave (stamp_at 1 1 (1 ∷ 0 ∷ [])) (1 ∷ 0 ∷ []) Repaired 1) ∷ []
unfolding up_to before same_stamp same same_digests stamp_cmp
repaired_twice_gives = refl

abbrev is_nine : ℕ → Bool
is_nine c = c == 9

-- fragments of two blocks under one stamp are poison, and the read steps back
abbrev poison_stepped_back : List Line
poison_stepped_back =
    Write 1 0 (1 ∷ 0 ∷ []) ∷ calls 1 0 3 ++ calls 1 0 3
    ++ Mix 9 0 0 5 (10 ∷ 10 ∷ []) (11 ∷ 11 ∷ []) ∷ Mix 9 1 0 5 (10 ∷ 10 ∷ []) (11 ∷ 11 ∷ []) ∷ Mix 9 2 0 5 (10 ∷ 10 ∷ []) (11 ∷ 11 ∷ []) ∷ Mix 9 3 0 5 (10 ∷ 10 ∷ []) (11 ∷ 11 ∷ []) ∷ Mix 9 4 0 5 (10 ∷ 10 ∷ []) (11 ∷ 11 ∷ [])
    ∷ Read 2 0 ∷ calls 2 0 3 ++ calls 2 0 3

poison_stepped_back_gives : outcomes_of (five nobody is_nine) poison_stepped_back ≡ Some (Wrote (stamp_at 1 1 (1 ∷ 0 ∷ []))) ∷ Some (Gave (stamp_at 1 1 (1 ∷ 0 ∷ [])) (1 ∷ 0 ∷ []) Plain 2) ∷ []
unfolding up_to before same_stamp same same_digests stamp_cmp
poison_stepped_back_gives = refl

-- of two writes that crashed the lower one is found at the second round, and repaired
abbrev lower_write_found : List Line
lower_write_found =
    Write 1 0 (1 ∷ 0 ∷ []) ∷ calls 1 0 3 ++ Call 1 0 ∷ Call 1 1 ∷ CrashClient 1 ∷ Write 2 0 (2 ∷ 0 ∷ []) ∷ Call 2 0 ∷ Call 2 2 ∷ Call 2 3 ∷ Call 2 4 ∷ Call 2 0 ∷ CrashClient 2
    ∷ Read 3 0 ∷ calls 3 0 3 ++ calls 3 0 3 ++ calls 3 0 3

lower_write_found_gives : outcomes_of (five nobody nobody) lower_write_found ≡ None ∷ None ∷ Some (Gave (stamp_at 1 1 (1 ∷ 0 ∷ [])) (1 ∷ 0 ∷ []) Repaired 2) ∷ []
unfolding up_to before same_stamp same same_digests stamp_cmp
lower_write_found_gives = refl

-- no time is left
abbrev no_time_left : List Line
no_time_left = Sound 9 0 0 18446744073709551615 (255 ∷ 255 ∷ []) ∷ Sound 9 1 0 18446744073709551615 (255 ∷ 255 ∷ []) ∷ Write 1 0 (1 ∷ 0 ∷ []) ∷ calls 1 0 3

no_time_left_gives : outcomes_of (five nobody is_nine) no_time_left ≡ Some Spent ∷ []
unfolding up_to before same_stamp same same_digests stamp_cmp
no_time_left_gives = refl

-- a read after a prune
abbrev before_prune : List Line
before_prune =
    Write 1 0 (1 ∷ 0 ∷ []) ∷ calls 1 0 3 ++ calls 1 0 3 ++ Write 1 0 (2 ∷ 0 ∷ []) ∷ calls 1 0 3 ++ calls 1 0 3 ++ Read 2 0 ∷ calls 2 0 3

abbrev pruned_row : List Line
pruned_row = before_prune ++ Prune 0 0 ∷ Read 3 0 ∷ calls 3 0 3

abbrev last_of : Setting → List Line → World
last_of s lines = lines_from s (start_world s) 1 lines

pruned_row_gives : outcomes_of (five nobody nobody) pruned_row
    ≡ Some (Wrote (stamp_at 1 1 (1 ∷ 0 ∷ []))) ∷ Some (Wrote (stamp_at 2 1 (2 ∷ 0 ∷ []))) ∷ Some (Gave (stamp_at 2 1 (2 ∷ 0 ∷ [])) (2 ∷ 0 ∷ []) Plain 1) ∷ Some (Gave (stamp_at 2 1 (2 ∷ 0 ∷ [])) (2 ∷ 0 ∷ []) Plain 1) ∷ []
unfolding up_to before same_stamp same same_digests stamp_cmp
pruned_row_gives = refl

pruned_row_keeps : length ((last_of (five nobody nobody) pruned_row).versions 0 0) ≡ 2
unfolding up_to before same_stamp same same_digests stamp_cmp
pruned_row_keeps = refl

others_keep : length ((last_of (five nobody nobody) pruned_row).versions 1 0) ≡ 3
unfolding up_to before same_stamp same same_digests stamp_cmp
others_keep = refl

no_read_yet : fault (five nobody nobody) (last_of (five nobody nobody) before_prune) (Prune 0 1) ≡ Some NoRead
unfolding up_to before same_stamp same same_digests stamp_cmp
no_read_yet = refl

not_quiet_yet : fault (five nobody nobody) (last_of (five nobody nobody) (Read 2 0 ∷ [])) (Prune 0 0) ≡ Some NotQuiet
unfolding up_to before same_stamp same same_digests stamp_cmp
not_quiet_yet = refl

-- a client that came back writes again, with the stamp that it had chosen before
abbrev back_row : List Line
back_row =
    Write 1 0 (1 ∷ 0 ∷ []) ∷ calls 1 0 3 ++ Call 1 0 ∷ CrashClient 1 ∷ Back 1 ∷ Write 1 0 (1 ∷ 0 ∷ []) ∷ calls 1 1 4 ++ calls 1 1 4 ++ Read 2 0 ∷ calls 2 0 3

back_row_gives : outcomes_of (five nobody nobody) back_row ≡ None ∷ Some (Wrote (stamp_at 1 1 (1 ∷ 0 ∷ []))) ∷ Some (Gave (stamp_at 1 1 (1 ∷ 0 ∷ [])) (1 ∷ 0 ∷ []) Plain 1) ∷ []
unfolding up_to before same_stamp same same_digests stamp_cmp
back_row_gives = refl

not_crashed_yet : fault (five nobody nobody) (start_world (five nobody nobody)) (Back 1) ≡ Some NotCrashed
not_crashed_yet = refl

-- the time of a lying node counts for nothing, and its damaged fragment for an answer only
abbrev is_four : ℕ → Bool
is_four i = i == 4

lying_time_gives : outcomes_of (five is_four nobody) (Write 1 0 (1 ∷ 0 ∷ []) ∷ False 1 4 Top ∷ Call 1 0 ∷ Call 1 1 ∷ Call 1 2 ∷ calls 1 0 3) ≡ Some (Wrote (stamp_at 1 1 (1 ∷ 0 ∷ []))) ∷ []
unfolding up_to before same_stamp same same_digests stamp_cmp
lying_time_gives = refl

damaged_gives : outcomes_of (five is_four nobody) (Write 1 0 (1 ∷ 0 ∷ []) ∷ calls 1 0 3 ++ calls 1 0 3 ++ Read 2 0 ∷ False 2 4 Bad ∷ Call 2 0 ∷ Call 2 1 ∷ Call 2 2 ∷ calls 2 0 3)
    ≡ Some (Wrote (stamp_at 1 1 (1 ∷ 0 ∷ []))) ∷ Some (Gave (stamp_at 1 1 (1 ∷ 0 ∷ [])) (1 ∷ 0 ∷ []) Repaired 1) ∷ []
unfolding up_to before same_stamp same same_digests stamp_cmp
damaged_gives = refl

-- three floods of poison make four rounds
abbrev flood : ℕ → List Line
flood t = Mix 9 0 0 t (10 ∷ 10 ∷ []) (11 ∷ 11 ∷ []) ∷ Mix 9 1 0 t (10 ∷ 10 ∷ []) (11 ∷ 11 ∷ []) ∷ Mix 9 2 0 t (10 ∷ 10 ∷ []) (11 ∷ 11 ∷ []) ∷ Mix 9 3 0 t (10 ∷ 10 ∷ []) (11 ∷ 11 ∷ []) ∷ Mix 9 4 0 t (10 ∷ 10 ∷ []) (11 ∷ 11 ∷ []) ∷ []

abbrev flood_row : List Line
flood_row = flood 5 ++ flood 4 ++ flood 3 ++ Read 1 0 ∷ calls 1 0 3 ++ calls 1 0 3 ++ calls 1 0 3 ++ calls 1 0 3

flood_row_gives : outcomes_of (five nobody is_nine) flood_row ≡ Some (Gave (stamp_at 0 0 (0 ∷ 0 ∷ [])) (0 ∷ 0 ∷ []) Plain 4) ∷ []
unfolding up_to before same_stamp same same_digests stamp_cmp
flood_row_gives = refl

flood_row_pairs : pairs (last_of (five nobody is_nine) flood_row) 0 ≡ 15
unfolding up_to before same_stamp same same_digests stamp_cmp
flood_row_pairs = refl
