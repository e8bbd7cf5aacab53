-- What is held may be forgotten where nodes are rebuilt before an operation is acknowledged.
use Rattle.std.proofs.Common.{◌≡◌, ◌≤◌, ◌+◌, ℕ, Bool, true, false, not, ◌&&◌, ◌||◌, [], ◌∷◌, ◌++◌, take, refl, sym, subst, inl, inr, arith}
use Rattle.std.specs.declared.option.Option.TheVariants.{Some}
use Rattle.std.specs.List.{Contains}
use Rattle.lists.proofs.lemmas.Members.{Contains-none, Contains-one, Contains-cons_cases}
use Rattle.stamp_order.specs.Stamps.{up_to, before, same_stamp, stamp_cmp, ◌≼◌}
use Rattle.protocol.specs.Count.{count}
use Rattle.protocol.specs.Messages.{Version}
use Rattle.protocol.specs.Nodes.{keeps, first_version}
use Rattle.protocol.specs.Operations.Work.{Writes}
use Rattle.protocol.specs.Setting.{same, same_digests}
use Rattle.block_phases.specs.Executions.{IsGivenUp}
use Rattle.block_phases.specs.Phases.Progress.{UnderWay}
use Rattle.block_phases.proofs.lemmas.Executing.{operations_begin, operations_cut_off}
use Rattle.block_turns.specs.Lives.{IsLife, version_of}
use Rattle.block_turns.specs.Strings.{NoClash}
use Rattle.block_turns.specs.Turns.{away_in, first_standing, standing_at}
use Rattle.life_examples.specs.Examples.{three_nodes, seven, nine, old_disk, full_disk, ahead_disk, by_node, before_rebuilt, after_rebuilt, IsHeldThen}
use Rattle.life_examples.proofs.Answering.{said}
use Rattle.life_examples.proofs.Example.{below_three, goes_on, small, nine_small, writes_nine, storing_nine, write_done, read_first_two}
use Rattle.life_examples.proofs.ExampleStrings.{none_clash, none_written, byte_written}

-- nodes 0 and 1 have taken it
nine_on_two : (away : ℕ → Bool) → away 0 ≡ false → away 1 ≡ false
    → IsGivenUp three_nodes away 0 0 (Writes (9 ∷ [])) (Some nine) (by_node full_disk full_disk old_disk) (by_node ahead_disk ahead_disk old_disk)
unfolding said up_to before same_stamp stamp_cmp same same_digests
nine_on_two away x y =
    operations_cut_off three_nodes away 0 0 (Writes (9 ∷ [])) storing_nine (by_node full_disk full_disk old_disk) (by_node full_disk full_disk old_disk)
    (by_node ahead_disk ahead_disk old_disk)
    (goes_on away (Writes (9 ∷ [])) writes_nine (by_node full_disk full_disk old_disk) (by_node full_disk full_disk old_disk)
    (by_node full_disk full_disk old_disk) true true false (below_three _ tt tt tt)
    (operations_begin three_nodes away 0 0 0 (Writes (9 ∷ [])) (by_node full_disk full_disk old_disk))
    (λ e. x) (λ e. y) (λ e. absurd cc) refl refl (inl refl) (UnderWay storing_nine) refl)
    (below_three _ (inr refl) (inr refl) (inl refl))

pub is_rebuilt_life : IsLife three_nodes 0 (before_rebuilt ++ after_rebuilt)
unfolding same_stamp stamp_cmp
is_rebuilt_life = record {
  there = omega arith;
  takes = (
    ((refl, (small, tt)), write_done (λ i. false) refl refl),
    (
      ((refl, (nine_small, tt)), nine_on_two (λ i. false) refl refl),
      (
        below_three _ (λ n. absurd (n refl)) (λ n. refl) (λ n. refl),
        (
          (seven, [], refl, refl, below_three _ (λ n. absurd (n refl)) (λ n. refl) (λ n. refl)),
          (
            below_three _ (λ n. refl) (λ n. absurd (n refl)) (λ n. refl),
            (
              (seven, [], refl, refl, below_three _ (λ n. refl) (λ n. absurd (n refl)) (λ n. refl)),
              (
                (tt, read_first_two (away_in (standing_at (first_standing three_nodes) (before_rebuilt ++ take 4 after_rebuilt))) refl refl),
                tt,
              ),
            ),
          ),
        ),
      ),
    ),
  );
}

old_low : (i : ℕ) (v : Version) → Contains (old_disk i) v → v.stamp ≼ nine.stamp
unfolding up_to stamp_cmp
old_low i v h = subst (λ (u : Version). u.stamp ≼ nine.stamp) (sym (Contains-one v (first_version three_nodes i) h)) refl

ahead_low : (i : ℕ) (v : Version) → Contains (ahead_disk i) v → v.stamp ≼ nine.stamp
unfolding up_to stamp_cmp
ahead_low i v h = elim (Contains-cons_cases v (first_version three_nodes i) (version_of three_nodes seven i ∷ version_of three_nodes nine i ∷ []) h) [
  | inl e ↦ subst (λ (u : Version). u.stamp ≼ nine.stamp) (sym e) refl
  | inr a ↦ elim (Contains-cons_cases v (version_of three_nodes seven i) (version_of three_nodes nine i ∷ []) a) [
    | inl e ↦ subst (λ (u : Version). u.stamp ≼ nine.stamp) (sym e) refl
    | inr c ↦ subst (λ (u : Version). u.stamp ≼ nine.stamp) (sym (Contains-one v (version_of three_nodes nine i) c)) refl
  ]
]

two_keep : count 3 (λ i. false || (not false && keeps (by_node ahead_disk ahead_disk old_disk i) nine.stamp)) ≡ 2
unfolding same_stamp stamp_cmp
two_keep = refl

pub is_held : IsHeldThen
is_held = record {
  kept_low = λ i v l upright here h. below_three (λ j. (u : Version) → Contains (by_node ahead_disk ahead_disk old_disk j) u → u.stamp ≼ nine.stamp)
      (ahead_low 0) (ahead_low 1) (old_low 2) i l v h;
  late_low = λ i y h. absurd (Contains-none y h);
  many = (
      let e = two_keep in
      let m : 3 ≤ count 3 (λ i. false || (not false && keeps (by_node ahead_disk ahead_disk old_disk i) nine.stamp)) + 1 = omega (arith, e) in
      m);
}

pub rebuilt_apart : NoClash three_nodes (before_rebuilt ++ after_rebuilt)
rebuilt_apart =
    none_clash (before_rebuilt ++ after_rebuilt) (
      (byte_written 6, λ i e. absurd cc),
      (
        (byte_written 8, λ i e. absurd cc),
        (
          (none_written, λ i e. absurd cc),
          (
            (none_written, λ i e. absurd cc),
            ((none_written, λ i e. absurd cc), ((none_written, λ i e. absurd cc), ((none_written, λ i e. absurd cc), tt))),
          ),
        ),
      ),
    )
