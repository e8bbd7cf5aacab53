-- The life on five nodes: each phase computes, and no two different strings share a digest, also those that liars kept.
use Rattle.std.proofs.Common.{◌≡◌, ℕ, zero, suc, ◌<◌, ◌≤◌, Bool, true, false, List, [], ◌∷◌, take, refl, sym, ◌∙◌, ap, subst, inl, inr, arith}
use Rattle.std.specs.Prelude.{slice_index_or}
use Rattle.std.specs.declared.option.Option.TheVariants.{None, Some}
use Rattle.std.specs.List.{Contains, AllByRecursion}
use Rattle.lists.proofs.lemmas.Members.{Contains-none, Contains-cons_cases}
use Rattle.stamp_order.specs.Stamps.{up_to, before, same_stamp, stamp_cmp}
use Rattle.run_words.specs.declared.outcome.How.TheVariants.{Repaired}
use Rattle.run_words.specs.declared.outcome.Outcome.TheVariants.{Wrote, Gave}
use Rattle.protocol.specs.Messages.{flat, Version, IsFormedReply}
use Rattle.protocol.specs.Nodes.{reply, first_version}
use Rattle.protocol.specs.Operations.{Work}
use Rattle.protocol.specs.Operations.Stage.{Storing}
use Rattle.protocol.specs.Operations.Work.{Reads, Writes}
use Rattle.protocol.specs.Seen.{SeenTask, seen_begun, seen_goes_on}
use Rattle.protocol.specs.Setting.{IsValid, digest_at, same, same_digests}
use Rattle.block_phases.specs.Executions.{StampedValue, IsRunning, IsCompleted}
use Rattle.block_phases.specs.Laws.{ContinuesAs}
use Rattle.block_phases.specs.Phases.{Keeps, Progress, after_phase, ask_to}
use Rattle.block_phases.specs.Phases.Progress.{UnderWay, Over}
use Rattle.block_phases.proofs.lemmas.Executing.{operations_begin}
use Rattle.block_turns.specs.Turns.{Moment, away_in, first_standing, standing_at, written_in}
use Rattle.block_turns.specs.Lives.{IsLife, version_of, first_kept}
use Rattle.block_turns.specs.Strings.{IsValue, HasKept, IsSeen, NoClash}
use Rattle.block_turns.specs.Strings.IsValue.{zeros_value, to_be_written}
use Rattle.block_turns.specs.Strings.IsSeen.{sum_seen, fragment_seen, sum_kept, fragment_kept}
use Rattle.life_examples.specs.Examples.{short_digest, five_nodes, written, forged, versions_of, keeping, two_liars_replaced, NoTwoLie}
use Rattle.life_examples.proofs.Answering.{said, replies, DoneIf, goes_on_as}
use Rattle.life_examples.proofs.ExampleStrings.{first_decodes, first_block, digest_long, all_of}

below_five : (P : ℕ → Type 0) → P 0 → P 1 → P 2 → P 3 → P 4 → (i : ℕ) → i < 5 → P i
below_five P a b c d e zero l = a
below_five P a b c d e (suc zero) l = b
below_five P a b c d e (suc (suc zero)) l = c
below_five P a b c d e (suc (suc (suc zero))) l = d
below_five P a b c d e (suc (suc (suc (suc zero)))) l = e
below_five P a b c d e (suc (suc (suc (suc (suc i))))) l = absurd (omega (arith, l))

pub five_are_valid : IsValid five_nodes
five_are_valid = record {
  liars_few = omega arith;
  quorum_low = omega arith;
  quorum_high = omega arith;
  shares_some = omega arith;
  shares_few = omega arith;
  liars = omega arith;
  length-digest = digest_long;
  length-sum = λ value is. refl;
  digests = λ value i is l. below_five (λ j. digest_at five_nodes (five_nodes.sum_of value) j ≡ short_digest value) refl refl refl refl refl i l;
  length-fragment = λ value i is l. is.0;
  bytes-fragment = λ value i is. is.1;
  decodes = λ value parts is long ascend own. first_decodes 5 value parts long own;
  decoded-block = λ parts long ascend fits. first_block 5 parts long fits;
}

-- ---- the operations: nodes 0 to 3 answer

abbrev first_four : ℕ → Bool
first_four zero = true
first_four (suc zero) = true
first_four (suc (suc zero)) = true
first_four (suc (suc (suc zero))) = true
first_four (suc (suc (suc (suc i)))) = false

-- whatever these nodes keep, what they answer is formed
abbrev AreFormed : SeenTask → Keeps → Type 0
AreFormed task now = (i : ℕ) → i < 5 → IsFormedReply (reply five_nodes i (now i) (ask_to five_nodes task i))

five_go_on : (away : ℕ → Bool) (work : Work) (task : SeenTask) (old now then : Keeps) → AreFormed task now
    → IsRunning five_nodes away 0 0 work task old now → ((i : ℕ) → i < 5 → away i ≡ false)
    → ((i : ℕ) → i < 5 → DoneIf five_nodes (first_four i) task i now then)
    → (p : Progress) → after_phase five_nodes 0 task (replies five_nodes first_four task now) ≡ p → ContinuesAs five_nodes away 0 0 work p old then
five_go_on away work task old now then formed goes there done p is =
    goes_on_as five_nodes first_four away 0 0 work task old now then formed goes (λ i l e. there i l) done p is

abbrev writes : SeenTask
writes = seen_begun five_nodes 0 0 (Writes (7 ∷ []))

abbrev reads : SeenTask
reads = seen_begun five_nodes 0 0 Reads

abbrev storing : SeenTask → SeenTask
storing task = seen_goes_on five_nodes task (Storing written.stamp written.value)

abbrev all_written : Keeps
all_written = keeping ((written ∷ []) ∷ (written ∷ []) ∷ (written ∷ []) ∷ (written ∷ []) ∷ [])

abbrev lies_first : Keeps
lies_first = keeping ((forged ∷ []) ∷ (written ∷ []) ∷ (written ∷ []) ∷ (written ∷ []) ∷ [])

abbrev lies_second : Keeps
lies_second = keeping ((written ∷ []) ∷ (forged ∷ []) ∷ (written ∷ []) ∷ (written ∷ []) ∷ [])

abbrev first_again : Keeps
first_again = keeping ((forged ∷ written ∷ []) ∷ (written ∷ []) ∷ (written ∷ []) ∷ (written ∷ []) ∷ [])

abbrev second_again : Keeps
second_again = keeping ((written ∷ []) ∷ (forged ∷ written ∷ []) ∷ (written ∷ []) ∷ (written ∷ []) ∷ [])

seven_small : 7 < 256
seven_small = omega arith

nine_small : 9 < 256
nine_small = omega arith

none_small : 0 < 256
none_small = omega arith

write_done : (away : ℕ → Bool) → ((i : ℕ) → i < 5 → away i ≡ false)
    → IsCompleted five_nodes away 0 0 (Writes (7 ∷ [])) (Wrote written.stamp) (first_kept five_nodes) all_written
unfolding said up_to before same_stamp stamp_cmp same same_digests
write_done away there =
    five_go_on away (Writes (7 ∷ [])) (storing writes) (first_kept five_nodes) (first_kept five_nodes) all_written (below_five _ tt tt tt tt tt)
    (five_go_on away (Writes (7 ∷ [])) writes (first_kept five_nodes) (first_kept five_nodes) (first_kept five_nodes) (below_five _ tt tt tt tt tt)
    (operations_begin five_nodes away 0 0 0 (Writes (7 ∷ [])) (first_kept five_nodes)) there
    (below_five _ refl refl refl refl (inl refl)) (UnderWay (storing writes)) refl)
    there (below_five _ refl refl refl refl (inl refl)) (Over (Wrote written.stamp)) refl

-- node 0 lies, and answers
read_first : (away : ℕ → Bool) → ((i : ℕ) → i < 5 → away i ≡ false)
    → IsCompleted five_nodes away 0 0 Reads (Gave written.stamp written.value Repaired 1) lies_first first_again
unfolding said up_to before same_stamp stamp_cmp same same_digests
read_first away there =
    five_go_on away Reads (storing reads) lies_first lies_first first_again (below_five _ tt tt tt tt tt)
    (five_go_on away Reads reads lies_first lies_first lies_first
    (below_five _
    ((refl, (refl, (refl, (refl, (refl, tt))))), (nine_small, tt)) ((refl, (refl, (refl, (refl, (refl, tt))))), (seven_small, tt))
    ((refl, (refl, (refl, (refl, (refl, tt))))), (seven_small, tt)) ((refl, (refl, (refl, (refl, (refl, tt))))), (seven_small, tt))
    ((refl, (refl, (refl, (refl, (refl, tt))))), (none_small, tt)))
    (operations_begin five_nodes away 0 0 0 Reads lies_first) there
    (below_five _ refl refl refl refl (inl refl)) (UnderWay (storing reads)) refl)
    there (below_five _ refl refl refl refl (inl refl)) (Over (Gave written.stamp written.value Repaired 1)) refl

-- node 1 does
read_second : (away : ℕ → Bool) → ((i : ℕ) → i < 5 → away i ≡ false)
    → IsCompleted five_nodes away 0 0 Reads (Gave written.stamp written.value Repaired 1) lies_second second_again
unfolding said up_to before same_stamp stamp_cmp same same_digests
read_second away there =
    five_go_on away Reads (storing reads) lies_second lies_second second_again (below_five _ tt tt tt tt tt)
    (five_go_on away Reads reads lies_second lies_second lies_second
    (below_five _
    ((refl, (refl, (refl, (refl, (refl, tt))))), (seven_small, tt)) ((refl, (refl, (refl, (refl, (refl, tt))))), (nine_small, tt))
    ((refl, (refl, (refl, (refl, (refl, tt))))), (seven_small, tt)) ((refl, (refl, (refl, (refl, (refl, tt))))), (seven_small, tt))
    ((refl, (refl, (refl, (refl, (refl, tt))))), (none_small, tt)))
    (operations_begin five_nodes away 0 0 0 Reads lies_second) there
    (below_five _ refl refl refl refl (inl refl)) (UnderWay (storing reads)) refl)
    there (below_five _ refl refl refl refl (inl refl)) (Over (Gave written.stamp written.value Repaired 1)) refl

-- ---- the life

pub liars_life : IsLife five_nodes 0 two_liars_replaced
unfolding same_stamp stamp_cmp
liars_life = record {
  there = omega arith;
  takes = (
    ((refl, (seven_small, tt)), write_done (λ i. false) (λ i l. refl)),
    (
      (omega arith, below_five _ (λ n. absurd (n refl)) (λ n. refl) (λ n. refl) (λ n. refl) (λ n. refl)),
      (
        (tt, read_first (away_in (standing_at (first_standing five_nodes) (take 2 two_liars_replaced))) (below_five _ refl refl refl refl refl)),
        (
          (written, written ∷ [], refl, refl, below_five _ (λ n. absurd (n refl)) (λ n. refl) (λ n. refl) (λ n. refl) (λ n. refl)),
          (
            (omega arith, below_five _ (λ n. refl) (λ n. absurd (n refl)) (λ n. refl) (λ n. refl) (λ n. refl)),
            (
              (tt, read_second (away_in (standing_at (first_standing five_nodes) (take 5 two_liars_replaced))) (below_five _ refl refl refl refl refl)),
              (
                (written, written ∷ written ∷ [], refl, refl, below_five _ (λ n. refl) (λ n. absurd (n refl)) (λ n. refl) (λ n. refl) (λ n. refl)),
                tt,
              ),
            ),
          ),
        ),
      ),
    ),
  );
}

-- at the second turn two would lie
pub no_two_lie : NoTwoLie
no_two_lie is = absurd (let l : 2 ≤ 1 = is.takes.1.0.0 in omega (arith, l))

-- ---- the strings

-- the string that a digest is of
abbrev back : List ℕ → List ℕ
back (suc zero ∷ v ∷ rest) = v ∷ []
back (suc (suc l) ∷ k ∷ v ∷ rest) = flat (five_nodes.sum_of (v ∷ []))
back _ = []

abbrev IsByte : List ℕ → Type 0
IsByte value = (v : ℕ) × (value ≡ v ∷ [])

-- the version is that of one byte
abbrev OfByte : Version → Type 0
OfByte v = (value : List ℕ) × IsByte value × (v.sum ≡ five_nodes.sum_of value) × (v.fragment ≡ value)

-- what is to be written is one byte, and nodes keep nothing but versions of single bytes
abbrev OnlyBytes : Moment → Type 0
OnlyBytes m = ((value : List ℕ) → written_in m.turn ≡ Some value → IsByte value) × ((i : ℕ) (v : Version) → Contains (m.kept i) v → OfByte v)

module _ (life : List Moment) (only : AllByRecursion OnlyBytes life) where
  values : {value : List ℕ} → IsValue five_nodes life value → IsByte value
  values zeros_value = (0, refl)
  values (to_be_written {m = m} {value = value} there e) = (all_of OnlyBytes life only m there).0 value e

  sum_back : (value : List ℕ) → IsByte value → back (short_digest (flat (five_nodes.sum_of value))) ≡ flat (five_nodes.sum_of value)
  sum_back value r = subst (λ (x : List ℕ). back (short_digest (flat (five_nodes.sum_of x))) ≡ flat (five_nodes.sum_of x)) (sym r.1) refl

  fragment_back : (value : List ℕ) → IsByte value → back (short_digest value) ≡ value
  fragment_back value r = subst (λ (x : List ℕ). back (short_digest x) ≡ x) (sym r.1) refl

  kept_byte : (i : ℕ) (v : Version) → HasKept five_nodes life i v → OfByte v
  kept_byte i v h = (all_of OnlyBytes life only h.moment h.there).1 i v h.kept

  is_back : {x : List ℕ} → IsSeen five_nodes life x → back (short_digest x) ≡ x
  is_back (sum_seen {value = value} h) = sum_back value (values h)
  is_back (fragment_seen {value = value} h l) = fragment_back value (values h)
  is_back (sum_kept {i = i} {v = v} h) =
      let r = kept_byte i v h in subst (λ (z : List (List ℕ)). back (short_digest (flat z)) ≡ flat z) (sym r.2) (sum_back r.0 r.1)
  is_back (fragment_kept {i = i} {v = v} h) =
      let r = kept_byte i v h in subst (λ (z : List ℕ). back (short_digest z) ≡ z) (sym r.3) (fragment_back r.0 r.1)

  none_clash : NoClash five_nodes life
  none_clash x y p q e = sym (is_back p) ∙ ap back e ∙ is_back q

abbrev AreBytes : List StampedValue → Type 0
AreBytes xs = AllByRecursion (λ (x : StampedValue). IsByte x.value) xs

versions_bytes : (xs : List StampedValue) (i : ℕ) → AreBytes xs → (v : Version) → Contains (versions_of xs i) v → OfByte v
versions_bytes [] i all v there = absurd (Contains-none v there)
versions_bytes (x ∷ xs) i all v there = elim (Contains-cons_cases v (version_of five_nodes x i) (versions_of xs i) there) [
  | inl e ↦ (x.value, all.0, ap (λ (u : Version). u.sum) e, ap (λ (u : Version). u.fragment) e)
  | inr a ↦ versions_bytes xs i all.1 v a
]

bytes_at : (lists : List (List StampedValue)) (i : ℕ) → AllByRecursion AreBytes lists → AreBytes (slice_index_or lists i [])
bytes_at [] i all = tt
bytes_at (xs ∷ lists) zero all = all.0
bytes_at (xs ∷ lists) (suc i) all = bytes_at lists i all.1

keeping_bytes : (lists : List (List StampedValue)) → AllByRecursion AreBytes lists → (i : ℕ) (v : Version) → Contains (keeping lists i) v → OfByte v
keeping_bytes lists all i v there =
    elim (Contains-cons_cases v (first_version five_nodes i) (versions_of (slice_index_or lists i []) i) there) [
      | inl e ↦ (0 ∷ [], (0, refl), ap (λ (u : Version). u.sum) e, ap (λ (u : Version). u.fragment) e)
      | inr a ↦ versions_bytes (slice_index_or lists i []) i (bytes_at lists i all) v a
    ]

none_written : (value : List ℕ) → None ≡ Some value → IsByte value
none_written value e = absurd cc

seven_written : (value : List ℕ) → Some (7 ∷ []) ≡ Some value → IsByte value
seven_written value e = (7, (let f : 7 ∷ [] ≡ value = cc in sym f))

one : AreBytes (written ∷ [])
one = ((7, refl), tt)

false_one : AreBytes (forged ∷ [])
false_one = ((9, refl), tt)

both : AreBytes (forged ∷ written ∷ [])
both = ((9, refl), ((7, refl), tt))

-- nodes 2 and 3 keep what was written
kept_by : (a b : List StampedValue) → AreBytes a → AreBytes b → (i : ℕ) (v : Version)
    → Contains (keeping (a ∷ b ∷ (written ∷ []) ∷ (written ∷ []) ∷ []) i) v → OfByte v
kept_by a b p q = keeping_bytes (a ∷ b ∷ (written ∷ []) ∷ (written ∷ []) ∷ []) (p, (q, (one, (one, tt))))

pub liars_apart : NoClash five_nodes two_liars_replaced
liars_apart =
    none_clash two_liars_replaced (
      (seven_written, kept_by (written ∷ []) (written ∷ []) one one),
      (
        (none_written, kept_by (forged ∷ []) (written ∷ []) false_one one),
        (
          (none_written, kept_by (forged ∷ written ∷ []) (written ∷ []) both one),
          (
            (none_written, kept_by (written ∷ []) (written ∷ []) one one),
            (
              (none_written, kept_by (written ∷ []) (forged ∷ []) one false_one),
              (
                (none_written, kept_by (written ∷ []) (forged ∷ written ∷ []) one both),
                ((none_written, kept_by (written ∷ []) (written ∷ []) one one), tt),
              ),
            ),
          ),
        ),
      ),
    )
