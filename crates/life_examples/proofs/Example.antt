-- The life on three nodes: each phase computes.
use Rattle.std.proofs.Common.{◌≡◌, ℕ, zero, suc, ◌<◌, Bool, true, false, List, [], ◌∷◌, ◌++◌, take, refl, sym, subst, inl, inr, arith}
use Rattle.std.specs.declared.option.Option.TheVariants.{Some}
use Rattle.stamp_order.specs.Stamps.{up_to, before, same_stamp, stamp_cmp}
use Rattle.run_words.specs.declared.outcome.How.TheVariants.{Plain, Repaired}
use Rattle.run_words.specs.declared.outcome.Outcome.TheVariants.{Wrote, Gave}
use Rattle.protocol.specs.Messages.{IsFormedReply}
use Rattle.protocol.specs.Nodes.{reply}
use Rattle.protocol.specs.Setting.{same, same_digests, zeros, first_stamp}
use Rattle.protocol.specs.Operations.{Work}
use Rattle.protocol.specs.Operations.Work.{Reads, Writes}
use Rattle.protocol.specs.Operations.Stage.{Storing}
use Rattle.protocol.specs.Seen.{SeenTask, seen_begun, seen_goes_on}
use Rattle.block_phases.specs.Phases.{Keeps}
use Rattle.block_phases.specs.Executions.{StampedValue, IsRunning, IsCompleted, IsGivenUp}
use Rattle.block_phases.specs.Phases.{Progress, after_phase, ask_to}
use Rattle.block_phases.specs.Phases.Progress.{UnderWay, Over}
use Rattle.block_turns.specs.Lives.{HasTaken, IsLife, version_of, first_kept}
use Rattle.block_turns.specs.Turns.{away_in, first_standing}
use Rattle.protocol.specs.Count.{update}
use Rattle.protocol.specs.Nodes.{first_version}
use Rattle.protocol.proofs.lemmas.Counting.{update-cases}
use Rattle.protocol.proofs.lemmas.Order.{≼-refl}
use Rattle.stamp_order.specs.Stamps.{◌≼◌}
use Rattle.std.specs.List.{Contains}
use Rattle.lists.proofs.lemmas.Members.{Contains-head, Contains-none, Contains-one, Contains-cons_cases}
use Rattle.protocol.specs.Messages.{Version}
use Rattle.block_turns.specs.Turns.{standing_at}
use Rattle.block_phases.specs.Laws.{ContinuesAs}
use Rattle.life_examples.specs.Examples.{three_nodes, seven, nine, blank, old_disk, full_disk, ahead_disk, by_node, two_disks_replaced, cut_off_and_settled, IsSettledThen, nine_disk, before_late, after_late, KeepNoMore, TooEarlyIsRead}
use Rattle.block_phases.proofs.lemmas.Executing.{operations_begin, operations_cut_off}
use Rattle.life_examples.proofs.Answering.{said, replies, DoneIf, goes_on_as}

pub below_three : (P : ℕ → Type 0) → P 0 → P 1 → P 2 → (i : ℕ) → i < 3 → P i
below_three P a b c zero l = a
below_three P a b c (suc zero) l = b
below_three P a b c (suc (suc zero)) l = c
below_three P a b c (suc (suc (suc i))) l = absurd (omega (arith, l))

-- ---- one phase, in which these nodes answer

abbrev pub by_flags : Bool → Bool → Bool → ℕ → Bool
by_flags a b c zero = a
by_flags a b c (suc zero) = b
by_flags a b c (suc (suc i)) = c

pub goes_on : (away : ℕ → Bool) (work : Work) (task : SeenTask) (old now then : Keeps) (a b c : Bool)
    → ((i : ℕ) → i < 3 → IsFormedReply (reply three_nodes i (now i) (ask_to three_nodes task i)))
    → IsRunning three_nodes away 0 0 work task old now
    → (a ≡ true → away 0 ≡ false) → (b ≡ true → away 1 ≡ false) → (c ≡ true → away 2 ≡ false)
    → DoneIf three_nodes a task 0 now then → DoneIf three_nodes b task 1 now then → DoneIf three_nodes c task 2 now then
    → (p : Progress) → after_phase three_nodes 0 task (replies three_nodes (by_flags a b c) task now) ≡ p
    → ContinuesAs three_nodes away 0 0 work p old then
goes_on away work task old now then a b c formed goes x y z d e f p is =
    goes_on_as three_nodes (by_flags a b c) away 0 0 work task old now then formed goes
    (below_three (λ i. by_flags a b c i ≡ true → away i ≡ false) x y z)
    (below_three (λ i. DoneIf three_nodes (by_flags a b c i) task i now then) d e f) p is

-- ---- the operations

abbrev writes : SeenTask
writes = seen_begun three_nodes 0 0 (Writes (7 ∷ []))

abbrev storing_seven : SeenTask → SeenTask
storing_seven task = seen_goes_on three_nodes task (Storing seven.stamp seven.value)

abbrev reads : SeenTask
reads = seen_begun three_nodes 0 0 Reads

pub small : 7 < 256
small = omega arith

pub none : 0 < 256
none = omega arith

-- node 2 is slow
pub write_done : (away : ℕ → Bool) → away 0 ≡ false → away 1 ≡ false → IsCompleted three_nodes away 0 0 (Writes (7 ∷ [])) (Wrote seven.stamp) (first_kept three_nodes) (by_node full_disk full_disk old_disk)
unfolding said up_to before same_stamp stamp_cmp same same_digests
write_done away x y =
    goes_on away (Writes (7 ∷ [])) (storing_seven writes) (first_kept three_nodes) (first_kept three_nodes) (by_node full_disk full_disk old_disk)
    true true false (below_three _ tt tt tt)
    (goes_on away (Writes (7 ∷ [])) writes (first_kept three_nodes) (first_kept three_nodes) (first_kept three_nodes)
    true true false (below_three _ tt tt tt) (operations_begin three_nodes away 0 0 0 (Writes (7 ∷ [])) (first_kept three_nodes))
    (λ e. x) (λ e. y) (λ e. absurd cc) refl refl (inl refl) (UnderWay (storing_seven writes)) refl)
    (λ e. x) (λ e. y) (λ e. absurd cc) refl refl (inl refl) (Over (Wrote seven.stamp)) refl

-- node 0 is away, and what 1 keeps is stored again
read_repaired : (away : ℕ → Bool) → away 1 ≡ false → away 2 ≡ false
    → IsCompleted three_nodes away 0 0 Reads (Gave seven.stamp seven.value Repaired 1) (by_node blank full_disk old_disk) (by_node blank full_disk full_disk)
unfolding said up_to before same_stamp stamp_cmp same same_digests
read_repaired away x y =
    goes_on away Reads (storing_seven reads) (by_node blank full_disk old_disk) (by_node blank full_disk old_disk) (by_node blank full_disk full_disk)
    false true true (below_three _ tt tt tt)
    (goes_on away Reads reads (by_node blank full_disk old_disk) (by_node blank full_disk old_disk) (by_node blank full_disk old_disk)
    false true true (below_three _ tt ((refl, (refl, (refl, tt))), (small, tt)) ((refl, (refl, (refl, tt))), (none, tt)))
    (operations_begin three_nodes away 0 0 0 Reads (by_node blank full_disk old_disk))
    (λ e. absurd cc) (λ e. x) (λ e. y) (inl refl) refl refl (UnderWay (storing_seven reads)) refl)
    (λ e. absurd cc) (λ e. x) (λ e. y) (inl refl) refl refl (Over (Gave seven.stamp seven.value Repaired 1)) refl

-- node 1 is away
read_plain : (away : ℕ → Bool) → away 0 ≡ false → away 2 ≡ false
    → IsCompleted three_nodes away 0 0 Reads (Gave seven.stamp seven.value Plain 1) (by_node full_disk blank full_disk) (by_node full_disk blank full_disk)
unfolding said up_to before same_stamp stamp_cmp same same_digests
read_plain away x y =
    goes_on away Reads reads (by_node full_disk blank full_disk) (by_node full_disk blank full_disk) (by_node full_disk blank full_disk)
    true false true (below_three _ ((refl, (refl, (refl, tt))), (small, tt)) tt ((refl, (refl, (refl, tt))), (small, tt)))
    (operations_begin three_nodes away 0 0 0 Reads (by_node full_disk blank full_disk))
    (λ e. x) (λ e. absurd cc) (λ e. y) refl (inl refl) refl (Over (Gave seven.stamp seven.value Plain 1)) refl

-- ---- the life

pub is_life : IsLife three_nodes 0 two_disks_replaced
unfolding same_stamp stamp_cmp
is_life = record {
  there = omega arith;
  takes = (
    ((refl, (small, tt)), write_done (λ i. false) refl refl),
    (
      below_three _ (λ n. absurd (n refl)) (λ n. refl) (λ n. refl),
      (
        (tt, read_repaired (away_in (standing_at (first_standing three_nodes) (take 2 two_disks_replaced))) refl refl),
        (
          (seven, seven ∷ [], refl, refl, below_three _ (λ n. absurd (n refl)) (λ n. refl) (λ n. refl)),
          (
            below_three _ (λ n. refl) (λ n. absurd (n refl)) (λ n. refl),
            (
              (tt, read_plain (away_in (standing_at (first_standing three_nodes) (take 5 two_disks_replaced))) refl refl),
              (
                (seven, seven ∷ seven ∷ [], refl, refl, below_three _ (λ n. refl) (λ n. absurd (n refl)) (λ n. refl)),
                tt,
              ),
            ),
          ),
        ),
      ),
    ),
  );
}

pub nine_small : 9 < 256
nine_small = omega arith

abbrev Low : StampedValue → Type 0
Low y = y.stamp ≼ seven.stamp

-- ---- a write that is cut off, and a block that is settled

abbrev pub writes_nine : SeenTask
writes_nine = seen_begun three_nodes 0 0 (Writes (9 ∷ []))

abbrev pub storing_nine : SeenTask
storing_nine = seen_goes_on three_nodes writes_nine (Storing nine.stamp nine.value)

-- node 0 has taken it
nine_cut_off : (away : ℕ → Bool) → away 0 ≡ false → away 1 ≡ false
    → IsGivenUp three_nodes away 0 0 (Writes (9 ∷ [])) (Some nine) (by_node full_disk full_disk old_disk) (by_node ahead_disk full_disk old_disk)
unfolding said up_to before same_stamp stamp_cmp same same_digests
nine_cut_off away x y =
    operations_cut_off three_nodes away 0 0 (Writes (9 ∷ [])) storing_nine (by_node full_disk full_disk old_disk) (by_node full_disk full_disk old_disk)
    (by_node ahead_disk full_disk old_disk)
    (goes_on away (Writes (9 ∷ [])) writes_nine (by_node full_disk full_disk old_disk) (by_node full_disk full_disk old_disk)
    (by_node full_disk full_disk old_disk) true true false (below_three _ tt tt tt)
    (operations_begin three_nodes away 0 0 0 (Writes (9 ∷ [])) (by_node full_disk full_disk old_disk))
    (λ e. x) (λ e. y) (λ e. absurd cc) refl refl (inl refl) (UnderWay storing_nine) refl)
    (below_three _ (inr refl) (inl refl) (inl refl))

-- nodes 1 and 2 answer
read_others : (away : ℕ → Bool) → away 1 ≡ false → away 2 ≡ false
    → IsCompleted three_nodes away 0 0 Reads (Gave seven.stamp seven.value Plain 1) (by_node ahead_disk full_disk full_disk) (by_node ahead_disk full_disk full_disk)
unfolding said up_to before same_stamp stamp_cmp same same_digests
read_others away x y =
    goes_on away Reads reads (by_node ahead_disk full_disk full_disk) (by_node ahead_disk full_disk full_disk) (by_node ahead_disk full_disk full_disk)
    false true true (below_three _ ((refl, (refl, (refl, tt))), (nine_small, tt)) ((refl, (refl, (refl, tt))), (small, tt)) ((refl, (refl, (refl, tt))), (small, tt)))
    (operations_begin three_nodes away 0 0 0 Reads (by_node ahead_disk full_disk full_disk))
    (λ e. absurd cc) (λ e. x) (λ e. y) (inl refl) refl refl (Over (Gave seven.stamp seven.value Plain 1)) refl

taken_late : HasTaken three_nodes (seven ∷ []) 2 (old_disk 2) (full_disk 2)
taken_late = record {
  was = λ v h. elim (Contains-cons_cases v (first_version three_nodes 2) (version_of three_nodes seven 2 ∷ []) h) [
    | inl e ↦ inl (subst (λ (u : Version). Contains (old_disk 2) u) (sym e) (Contains-head (first_version three_nodes 2) []))
    | inr a ↦ inr (seven, Contains-head seven [], Contains-one v (version_of three_nodes seven 2) a)
  ];
  still = λ v h. subst (λ (u : Version). Contains (full_disk 2) u) (sym (Contains-one v (first_version three_nodes 2) h))
      (Contains-head (first_version three_nodes 2) (version_of three_nodes seven 2 ∷ []));
}

pub is_settled_life : IsLife three_nodes 0 cut_off_and_settled
unfolding same_stamp stamp_cmp
is_settled_life = record {
  there = omega arith;
  takes = (
    ((refl, (small, tt)), write_done (λ i. false) refl refl),
    (
      below_three _ refl refl refl,
      (
        ((refl, (nine_small, tt)), nine_cut_off (away_in (standing_at (first_standing three_nodes) (take 2 cut_off_and_settled))) refl refl),
        (
          (refl, taken_late, below_three _ (λ n. refl) (λ n. refl) (λ n. absurd (n refl))),
          (
            (tt, read_others (away_in (standing_at (first_standing three_nodes) (take 4 cut_off_and_settled))) refl refl),
            (
              below_three _ (λ n. absurd (n refl)) (λ n. refl) (λ n. refl),
              (
                (seven, seven ∷ [], refl, refl, below_three _ (λ n. absurd (n refl)) (λ n. refl) (λ n. refl)),
                tt,
              ),
            ),
          ),
        ),
      ),
    ),
  );
}

-- no version of these is above it
full_low : (i : ℕ) (v : Version) → Contains (full_disk i) v → v.stamp ≼ seven.stamp
unfolding up_to stamp_cmp
full_low i v h = elim (Contains-cons_cases v (first_version three_nodes i) (version_of three_nodes seven i ∷ []) h) [
  | inl e ↦ subst (λ (u : Version). u.stamp ≼ seven.stamp) (sym e) refl
  | inr a ↦ subst (λ (u : Version). u.stamp ≼ seven.stamp) (sym (Contains-one v (version_of three_nodes seven i) a)) refl
]

late_all : (P : StampedValue → Type 0) (f : ℕ → List StampedValue) (k : ℕ) (xs : List StampedValue) → ((y : StampedValue) → Contains xs y → P y)
    → ((i : ℕ) (y : StampedValue) → Contains (f i) y → P y) → (i : ℕ) (y : StampedValue) → Contains (update f k xs i) y → P y
late_all P f k xs here others i y h = elim (update-cases f k xs i) [
  | inl e ↦ here y (subst (λ (zs : List StampedValue). Contains zs y) e.1 h)
  | inr e ↦ others i y (subst (λ (zs : List StampedValue). Contains zs y) e.1 h)
]

seven_low : (y : StampedValue) → Contains (seven ∷ []) y → y.stamp ≼ seven.stamp
seven_low y h = subst (λ (z : StampedValue). z.stamp ≼ seven.stamp) (sym (Contains-one y seven h)) (≼-refl seven.stamp)

nothing_low : (y : StampedValue) → Contains [] y → y.stamp ≼ seven.stamp
nothing_low y h = absurd (Contains-none y h)

pub is_settled : IsSettledThen
is_settled = record {
  earlier = seven ∷ [];
  latest = refl;
  kept_low = λ i v l upright here h. below_three (λ j. (u : Version) → Contains (by_node full_disk full_disk full_disk j) u → u.stamp ≼ seven.stamp)
      (full_low 0) (full_low 1) (full_low 2) i l v h;
  late_low = late_all Low _ 0 [] nothing_low (late_all Low _ 0 [] nothing_low (late_all Low _ 2 [] nothing_low
      (late_all Low (λ i. []) 2 (seven ∷ []) seven_low (λ i y h. nothing_low y h))));
  asked_low = λ y e. (let f : seven ≡ y = cc in subst (λ (z : StampedValue). z.stamp ≼ seven.stamp) f (≼-refl seven.stamp));
}

-- ---- what is taken late matters

nine_untaken : (away : ℕ → Bool) → away 0 ≡ false → away 1 ≡ false
    → IsGivenUp three_nodes away 0 0 (Writes (9 ∷ [])) (Some nine) (by_node full_disk full_disk old_disk) (by_node full_disk full_disk old_disk)
unfolding said up_to before same_stamp stamp_cmp same same_digests
nine_untaken away x y =
    operations_cut_off three_nodes away 0 0 (Writes (9 ∷ [])) storing_nine (by_node full_disk full_disk old_disk) (by_node full_disk full_disk old_disk)
    (by_node full_disk full_disk old_disk)
    (goes_on away (Writes (9 ∷ [])) writes_nine (by_node full_disk full_disk old_disk) (by_node full_disk full_disk old_disk)
    (by_node full_disk full_disk old_disk) true true false (below_three _ tt tt tt)
    (operations_begin three_nodes away 0 0 0 (Writes (9 ∷ [])) (by_node full_disk full_disk old_disk))
    (λ e. x) (λ e. y) (λ e. absurd cc) refl refl (inl refl) (UnderWay storing_nine) refl)
    (below_three _ (inl refl) (inl refl) (inl refl))

pub read_first_two : (away : ℕ → Bool) → away 0 ≡ false → away 1 ≡ false
    → IsCompleted three_nodes away 0 0 Reads (Gave seven.stamp seven.value Plain 1) (by_node full_disk full_disk old_disk) (by_node full_disk full_disk old_disk)
unfolding said up_to before same_stamp stamp_cmp same same_digests
read_first_two away x y =
    goes_on away Reads reads (by_node full_disk full_disk old_disk) (by_node full_disk full_disk old_disk) (by_node full_disk full_disk old_disk)
    true true false (below_three _ ((refl, (refl, (refl, tt))), (small, tt)) ((refl, (refl, (refl, tt))), (small, tt)) ((refl, (refl, (refl, tt))), (none, tt)))
    (operations_begin three_nodes away 0 0 0 Reads (by_node full_disk full_disk old_disk))
    (λ e. x) (λ e. y) (λ e. absurd cc) refl refl (inl refl) (Over (Gave seven.stamp seven.value Plain 1)) refl

read_nine : (away : ℕ → Bool) → away 0 ≡ false → away 2 ≡ false
    → IsCompleted three_nodes away 0 0 Reads (Gave nine.stamp nine.value Repaired 1) (by_node full_disk full_disk nine_disk) (by_node ahead_disk full_disk nine_disk)
unfolding said up_to before same_stamp stamp_cmp same same_digests
read_nine away x y =
    goes_on away Reads (seen_goes_on three_nodes reads (Storing nine.stamp nine.value)) (by_node full_disk full_disk nine_disk)
    (by_node full_disk full_disk nine_disk) (by_node ahead_disk full_disk nine_disk)
    true false true (below_three _ tt tt tt)
    (goes_on away Reads reads (by_node full_disk full_disk nine_disk) (by_node full_disk full_disk nine_disk) (by_node full_disk full_disk nine_disk)
    true false true (below_three _ ((refl, (refl, (refl, tt))), (small, tt)) ((refl, (refl, (refl, tt))), (small, tt)) ((refl, (refl, (refl, tt))), (nine_small, tt)))
    (operations_begin three_nodes away 0 0 0 Reads (by_node full_disk full_disk nine_disk))
    (λ e. x) (λ e. absurd cc) (λ e. y) refl (inl refl) refl (UnderWay (seen_goes_on three_nodes reads (Storing nine.stamp nine.value))) refl)
    (λ e. x) (λ e. absurd cc) (λ e. y) refl (inl refl) refl (Over (Gave nine.stamp nine.value Repaired 1)) refl

nine_late : HasTaken three_nodes (nine ∷ []) 2 (old_disk 2) (nine_disk 2)
nine_late = record {
  was = λ v h. elim (Contains-cons_cases v (first_version three_nodes 2) (version_of three_nodes nine 2 ∷ []) h) [
    | inl e ↦ inl (subst (λ (u : Version). Contains (old_disk 2) u) (sym e) (Contains-head (first_version three_nodes 2) []))
    | inr a ↦ inr (nine, Contains-head nine [], Contains-one v (version_of three_nodes nine 2) a)
  ];
  still = λ v h. subst (λ (u : Version). Contains (nine_disk 2) u) (sym (Contains-one v (first_version three_nodes 2) h))
      (Contains-head (first_version three_nodes 2) (version_of three_nodes nine 2 ∷ []));
}

pub is_late_life : IsLife three_nodes 0 (before_late ++ after_late)
is_late_life = record {
  there = omega arith;
  takes = (
    ((refl, (small, tt)), write_done (λ i. false) refl refl),
    (
      ((refl, (nine_small, tt)), nine_untaken (λ i. false) refl refl),
      (
        below_three _ refl refl refl,
        (
          (tt, read_first_two (away_in (standing_at (first_standing three_nodes) (take 3 before_late))) refl refl),
          (
            (refl, nine_late, below_three _ (λ n. refl) (λ n. refl) (λ n. absurd (n refl))),
            (
              (tt, read_nine (away_in (standing_at (first_standing three_nodes) (before_late ++ take 1 after_late))) refl refl),
              tt,
            ),
          ),
        ),
      ),
    ),
  );
}

old_low : (i : ℕ) (v : Version) → Contains (old_disk i) v → v.stamp ≼ seven.stamp
unfolding up_to stamp_cmp
old_low i v h = subst (λ (u : Version). u.stamp ≼ seven.stamp) (sym (Contains-one v (first_version three_nodes i) h)) refl

pub keep_no_more : KeepNoMore
keep_no_more i v l h =
    below_three (λ j. (u : Version) → Contains (by_node full_disk full_disk old_disk j) u → u.stamp ≼ seven.stamp) (full_low 0) (full_low 1) (old_low 2) i l v h

-- ---- a new disk that answers

pub is_read : TooEarlyIsRead
unfolding said up_to before same_stamp stamp_cmp same same_digests
is_read =
    goes_on (λ i. false) Reads reads (by_node full_disk old_disk old_disk) (by_node full_disk old_disk old_disk) (by_node full_disk old_disk old_disk)
    false true true (below_three _ ((refl, (refl, (refl, tt))), (small, tt)) ((refl, (refl, (refl, tt))), (none, tt)) ((refl, (refl, (refl, tt))), (none, tt)))
    (operations_begin three_nodes (λ i. false) 0 0 0 Reads (by_node full_disk old_disk old_disk))
    (λ e. absurd cc) (λ e. refl) (λ e. refl) (inl refl) refl refl (Over (Gave (first_stamp three_nodes) (zeros three_nodes) Plain 1)) refl
