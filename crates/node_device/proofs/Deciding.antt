-- How a phase ends in which each node that is asked gives the answer of the same block.
use Rattle.std.proofs.Common.{◌≡◌, ℕ, ◌+◌, ◌-◌, ◌^◌, ◌<◌, ◌≤◌, true, false, List, [], ◌∷◌, length, map, Option, refl, sym, ◌∙◌, ap, ◌⊎◌, inl, inr, arith, eqb, leb, ltb}
use Rattle.std.specs.declared.option.Option.TheVariants.{None, Some}
use Rattle.std.specs.List.{Contains, range_with_len}
use Rattle.std.proofs.lemmas.Bool.Decides.{nat_tests}
use Rattle.std.proofs.lemmas.List.{length-map}
use Rattle.std.proofs.lemmas.List.FromFn.{length-map-range_with_len}
use Rattle.stamp_order.specs.declared.Stamp.{Stamp}
use Rattle.stamp_order.specs.declared.Bound.TheVariants.{All as Every}
use Rattle.stamp_order.specs.Stamps.{up_to}
use Rattle.quorum_rules.specs.Limits.{Numbers, IsValid as IsValidConfig, wait_of}
use Rattle.run_words.specs.declared.outcome.How.TheVariants.{Plain}
use Rattle.run_words.specs.declared.outcome.Outcome.TheVariants.{Wrote, Gave}
use Rattle.wire_forms.specs.declared.Reply.TheVariants.{TimeIs, Found}
use Rattle.protocol.specs.Messages.{Version, Reply}
use Rattle.protocol.specs.Count.{count, collect}
use Rattle.protocol.specs.Setting.{Setting, IsValid, IsBlock, zeros, first_stamp, verifier_of, same_digests}
use Rattle.protocol.specs.Nodes.{carries, greatest_in}
use Rattle.protocol.specs.Instance.{setting, nobody}
use Rattle.protocol.specs.Operations.{valid, pivot, support, chosen, carriers, candidate, sum_of_first, part_of, only_if, numbered, drawn_from, decide, decide_at, decide_time, decide_pivot, value_of, time_of, stamp_of as stamp_in}
use Rattle.protocol.specs.Operations.Work.{Writes}
use Rattle.protocol.specs.Operations.Stage.{Times, Versions, Storing}
use Rattle.protocol.specs.Operations.Decision.{Ends}
use Rattle.protocol.specs.Seen.{SeenTask, task_at, answers_of, by_decision, seen_goes_on}
use Rattle.protocol.specs.Seen.Hearing.{Begins, Ended}
use Rattle.protocol.proofs.lemmas.Cluster.{cluster_valid}
use Rattle.protocol.proofs.lemmas.Lists.{Contains-collect, Contains-take}
use Rattle.protocol.proofs.lemmas.Order.{≼-refl, same_stamp-refl}
use Rattle.protocol.proofs.lemmas.Parts.{length_chosen, ascending_chosen, ascending_collect}
use Rattle.protocol.proofs.lemmas.Rounds.{same_digests-refl}
use Rattle.node_core.specs.Seen.{SeenNode, versions_in}
use Rattle.node_device.specs.Held.{Held, node_at, stamp_of, version_of, kept_of, fragment_in, part_in}
use Rattle.node_device.specs.Phases.{answer_of, asked, phase_end}
use Rattle.node_device.proofs.Below.{count_below, highest_below}
use Rattle.node_device.proofs.Keeping.{are_apart, greatest_is, whole_is}
use Rattle.node_device.proofs.Phases.{answer_there, answer_not, collect_all}
use Rattle.lists.proofs.lemmas.Members.{Contains-head, Contains-map_cases}

-- a node or client alone knows of no liar
pub good_setting : (c : Numbers) → IsValidConfig c → IsValid (setting c)
good_setting c config =
    let none : count c.n nobody ≡ 0 = count_below c.n 0 nobody (omega arith) (λ i l. absurd (omega (arith, l))) (λ i a b. refl) in
    cluster_valid c nobody nobody (record { config = config; few = omega (arith, none) })

none_some : {A : Type 0} (x : A) → None ≡ Some x → ⊥
none_some x e = cc

sum_of_all : (ps : List (ℕ × Version)) (sum : List (List ℕ)) → 1 ≤ length ps → ((q : ℕ × Version) → Contains ps q → q.1.sum ≡ sum) → sum_of_first ps ≡ sum
sum_of_all [] sum some all = absurd (omega (arith, some))
sum_of_all (p ∷ ps) sum some all = all p (Contains-head p ps)

module _ (c : Numbers) (config : IsValidConfig c) where
  abbrev s : Setting
  s = setting c

  abbrev w : ℕ
  w = wait_of c

  good : IsValid s
  good = good_setting c config

  waits : (1 ≤ w) × (w ≤ c.n) × (c.b + 1 ≤ w) × (c.qc + c.b ≤ w) × (c.qc - c.t ≤ w) × (c.m ≤ w)
  waits = (
    omega (arith, config.low, config.high),
    omega arith,
    omega (arith, config.low, config.high),
    omega (arith, config.high),
    omega (arith, config.high),
    omega (arith, config.shares.1, config.high),
  )

  -- what the first m nodes hold of a block decodes to it
  pub decodes_held : (nodes : List SeenNode) (k : ℕ) (h : Held) → IsBlock s h.value → (h.time ≡ 0 → h.value ≡ zeros s) → ((i : ℕ) → i < w → versions_in (node_at c nodes i) k ≡ kept_of c i h)
      → s.decoded (map (part_in c nodes k) (range_with_len 0 c.m)) ≡ h.value
  decodes_held nodes k h size un kept =
      let is : collect c.m (λ i. Some (part_in c nodes k i)) ≡ map (part_in c nodes k) (range_with_len 0 c.m) = collect_all c.m (part_in c nodes k) in
      let up = ascending_collect c.m (λ i. Some (part_in c nodes k i)) (λ i q e. (let f : part_in c nodes k i ≡ q = cc in sym (ap (λ (x : ℕ × List ℕ). x.0) f))) in
      good.decodes h.value _ size (length-map-range_with_len (part_in c nodes k) 0 c.m) (rw is at up)
      (λ q r. each q (Contains-collect c.m (λ i. Some (part_in c nodes k i)) q (rw (← is) at r)))
    where
      each : (q : ℕ × List ℕ) → (i : ℕ) × (i < c.m) × (Some (part_in c nodes k i) ≡ Some q) → (q.0 < c.n) × (q.1 ≡ s.fragment_of h.value q.0)
      each q r =
          let i = r.0 in
          let f : part_in c nodes k i ≡ q = (let e = r.2 in cc) in
          let below : i < w = omega (arith, r.1, waits) in
          let inside : i < c.n = omega (arith, below) in
          let g : fragment_in c (greatest_in Every (versions_in (node_at c nodes i) k)) ≡ s.fragment_of h.value i = rw (kept i below, greatest_is c good i inside h size un) refl in
          rw (← f) (inside, g)

  module _ (nodes : List SeenNode) (t : SeenTask) where
    abbrev answer : ℕ → Option Reply
    answer i = answers_of (asked c nodes t w) i

    -- equal times are drawn, and the next one is stored
    module _ (value : List ℕ) (time id : ℕ) (work : t.work ≡ Writes value) (stage : t.stage ≡ Times) (told : (i : ℕ) → i < w → answer_of c nodes t i ≡ TimeIs time) (last : time < 2 ^ 64 - 1) where
      drawn_is : drawn_from s answer ≡ time
      drawn_is =
          let high = highest_below leb time (grind (arith, nat_tests)) c.n w (c.b + 1) (λ i. time_of (answer i)) waits.0 waits.1 waits.2
          (λ i a. (let e = answer_there c nodes t w i a (omega (arith, a, waits)) in rw (e, told i a) refl))
          (λ i a b. (let e = answer_not c nodes t w i a b in rw e refl)) in
          rw high refl

      pub times_end : phase_end c id (asked c nodes t w) ≡ Begins (seen_goes_on s (asked c nodes t w) (Storing (record { time = time + 1; client = id; verifier = verifier_of s value }) value))
      times_end =
          let not_last : eqb time (2 ^ 64 - 1) ≡ false = grind (arith, nat_tests) in
          let u = asked c nodes t w in
          ap (λ g. by_decision s u (decide s id (task_at 0 u) g)) stage ∙ ap (λ x. by_decision s u (decide_time s id (value_of t.work) x)) drawn_is
          ∙ ap (λ v. by_decision s u (decide_time s id (value_of v) time)) work ∙ (rw not_last refl)

    -- what is stored is written
    pub storing_ends : (value stored_value : List ℕ) (stamp : Stamp) (id : ℕ) → t.work ≡ Writes value → t.stage ≡ Storing stamp stored_value → phase_end c id (asked c nodes t w) ≡ Ended (Wrote stamp)
    storing_ends value stored_value stamp id work stage = rw (stage, work) refl

    -- versions of one block are its value
    module _ (h : Held) (id : ℕ) (stage : t.stage ≡ Versions Every) (size : IsBlock s h.value) (un : h.time ≡ 0 → h.value ≡ zeros s) (told : (i : ℕ) → i < w → answer_of c nodes t i ≡ Found (version_of c i h)) where
      abbrev p : Stamp
      p = stamp_of c h

      abbrev valid_at : ℕ → Option Version
      valid_at i = valid s i Every (answer i)

      valid_there : (i : ℕ) → i < w → valid_at i ≡ Some (version_of c i h)
      valid_there i a =
          let inside : i < c.n = omega (arith, a) in
          let e = answer_there c nodes t w i a inside in
          rw (e, told i a, whole_is c good i inside h size un) refl

      valid_not : (i : ℕ) → w ≤ i → i < c.n → valid_at i ≡ None
      valid_not i a b = let e = answer_not c nodes t w i a b in rw e refl

      pivot_is : pivot s answer Every ≡ Some p
      pivot_is =
          highest_below up_to p (≼-refl p) c.n w (c.qc - c.t) (λ i. stamp_in (valid_at i)) waits.0 waits.1 waits.4
          (λ i a. rw (valid_there i a) refl)
          (λ i a b. rw (valid_not i a b) refl)

      support_is : support s answer Every p ≡ w
      support_is = count_below c.n w (λ i. carries p (valid_at i)) waits.1 (λ i a. rw (valid_there i a) (same_stamp-refl p)) (λ i a b. rw (valid_not i a b) refl)

      chosen_each : (q : ℕ × Version) → Contains (chosen s answer Every p) q → (q.0 < c.n) × (q.1 ≡ version_of c q.0 h)
      chosen_each q r =
          let k = Contains-collect c.n (λ i. only_if (carries p (valid_at i)) (numbered i (valid_at i))) q (Contains-take c.m (carriers s answer Every p) q r) in
          at k.0 k.1 k.2
        where
          at : (i : ℕ) → i < c.n → only_if (carries p (valid_at i)) (numbered i (valid_at i)) ≡ Some q → (q.0 < c.n) × (q.1 ≡ version_of c q.0 h)
          at i l e =
              let b : (i < w) ⊎ (w ≤ i) = grind arith in
              elim b [
                | inl a ↦ (
                    let f : Some (i, version_of c i h) ≡ Some q = rw (valid_there i a, same_stamp-refl p) at e in
                    let g : (i, version_of c i h) ≡ q = cc in
                    rw (← g) (l, refl))
                | inr a ↦ absurd (none_some q (rw (valid_not i a l) at e))
              ]

      chosen_count : length (chosen s answer Every p) ≡ c.m
      chosen_count = length_chosen s good answer Every p (omega (arith, support_is, waits))

      candidate_is : candidate s answer Every p ≡ h.value
      candidate_is =
          good.decodes h.value (map part_of (chosen s answer Every p)) size (length-map (chosen s answer Every p) part_of ∙ chosen_count) (ascending_chosen s good answer Every p)
          (λ q r. (let k = Contains-map_cases part_of (chosen s answer Every p) q r in let e = chosen_each k.0 k.1 in let f : k.0.1.fragment ≡ s.fragment_of h.value k.0.0 = ap (λ (v : Version). v.fragment) e.1 in rw k.2 (e.0, f)))

      sum_is : sum_of_first (chosen s answer Every p) ≡ s.sum_of h.value
      sum_is = sum_of_all (chosen s answer Every p) (s.sum_of h.value) (omega (arith, chosen_count, config.shares.0)) (λ q r. ap (λ (v : Version). v.sum) (chosen_each q r).1)

      decided : decide_at s answer Every t.rounds p ≡ Ends (Gave p h.value Plain t.rounds)
      decided =
          let k : (h.time ≡ 0) ⊎ (0 < h.time) = grind arith in
          elim k [
            | inl e ↦ rw (e, un e, same_stamp-refl (first_stamp s)) refl
            | inr l ↦ (
                let z : eqb h.time 0 ≡ false = grind (arith, nat_tests) in
                let later : p.time ≡ h.time = rw z refl in
                let apart = are_apart (first_stamp s) p (omega (arith, later, l)) in
                let many : ltb (support s answer Every p) (c.qc - c.t) ≡ false = rw support_is (grind (arith, nat_tests, waits)) in
                let same : same_digests (s.sum_of (candidate s answer Every p)) (sum_of_first (chosen s answer Every p)) ≡ true = rw (candidate_is, sum_is) (same_digests-refl (s.sum_of h.value)) in
                let whole : leb (c.qc + c.b) (support s answer Every p) ≡ true = rw support_is (grind (arith, nat_tests, waits)) in
                rw (apart.other, many, same, whole, candidate_is) refl)
          ]

      pub versions_end : phase_end c id (asked c nodes t w) ≡ Ended (Gave p h.value Plain t.rounds)
      versions_end =
          let u = asked c nodes t w in
          ap (λ g. by_decision s u (decide s id (task_at 0 u) g)) stage ∙ ap (λ o. by_decision s u (decide_pivot s answer Every t.rounds o)) pivot_is ∙ ap (λ d. by_decision s u d) decided
