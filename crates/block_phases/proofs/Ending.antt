-- A phase to which answers of enough nodes are heard ends, and what follows has fewer phases left.
use Rattle.std.proofs.Common.{◌≡◌, ℕ, suc, ◌+◌, ◌-◌, ◌^◌, ◌<◌, ◌≤◌, Bool, true, false, cond, not, ◌&&◌, eqb, leb, ltb, List, [], ◌∷◌, length, replicate, Option, slice_get, get_or, set, refl, sym, ◌∙◌, ap, subst, inl, inr, arith}
use Rattle.std.specs.declared.option.Option.TheVariants.{None, Some}
use Rattle.std.specs.Prelude.{slice_index_or}
use Rattle.std.specs.List.{Contains}
use Rattle.std.proofs.lemmas.Bool.{cases_Bool, cases_lt, cases_eq, eq-eqb}
use Rattle.std.proofs.lemmas.Bool.Decides.{nat_tests}
use Rattle.std.proofs.lemmas.List.{length-set, length-replicate, get_or-replicate, get_or-set_same, get_or-set_other, get_or_past}
use Rattle.std.proofs.lemmas.Option.{slice_get-get_or, slice_get_within}
use Rattle.stamp_order.specs.declared.Stamp.{Stamp}
use Rattle.stamp_order.specs.declared.Bound.{Bound}
use Rattle.stamp_order.specs.declared.Bound.TheVariants.{All as Every, AtMost, Below}
use Rattle.stamp_order.specs.Stamps.{has, same_stamp}
use Rattle.run_words.specs.declared.outcome.Outcome.TheVariants.{Spent}
use Rattle.wire_forms.specs.declared.Reply.TheVariants.{Found, Nothing, Refused}
use Rattle.wire_forms.specs.declared.Reason.TheVariants.{BadBlock}
use Rattle.protocol.specs.Messages.{Version, Reply, IsFormed, IsFormedReply}
use Rattle.protocol.specs.Nodes.{greatest_in, found, acknowledged, reply_in}
use Rattle.protocol.specs.Setting.{Setting, IsValid, IsBlock, first_stamp, verifier_of, same_digests}
use Rattle.protocol.specs.Operations.{Work, Stage, Task, Outcome, Decision, is_answered, is_of_kind, awaits_more, drawn_from, pivot, support, candidate, chosen, sum_of_first, decide, decide_at, decide_pivot, decide_time, value_of, request_of}
use Rattle.protocol.specs.Operations.Work.{Reads, Writes}
use Rattle.protocol.specs.Operations.Stage.{Times, Versions, Storing}
use Rattle.protocol.specs.Operations.Decision.{GoesOn, Ends}
use Rattle.protocol.specs.Seen.{SeenTask, Hearing, task_at, answers_of, seen_counted, seen_goes_on, is_counted, by_decision, after_counting}
use Rattle.protocol.specs.Seen.Hearing.{Ignored, Counted}
use Rattle.protocol.proofs.lemmas.Counting.{count_within, nobody_counts}
use Rattle.protocol.proofs.lemmas.Keeping.{greatest_in_is}
use Rattle.protocol.proofs.lemmas.Rounds.{valid_was, answered_is}
use Rattle.block_phases.specs.Phases.{Keeps}
use Rattle.block_phases.specs.Phases.{progress, tag_of, heard_from, AreAnswers}
use Rattle.block_phases.specs.Phases.Progress.{UnderWay, Over}
use Rattle.block_phases.specs.Endings.{MayAsk, IsAsked, OperationsAreAsked, IsNearer, PhasesEnd, phases_left, answers_given}
use Rattle.block_phases.proofs.lemmas.Hearing.{bare, late_ignored}
use Rattle.block_phases.proofs.lemmas.Storable.{none_refused, pivot_given, candidate_taken}
use Rattle.block_phases.proofs.SteppingBack.{left_below, left_at_most, supported}

-- an operation that begins may ask
pub operations_are_asked : (s : Setting) → OperationsAreAsked s
operations_are_asked s block op Reads there fits = record { there = there; may = tt; unheard = refl }
operations_are_asked s block op (Writes value) there fits = record { there = there; may = fits; unheard = refl }

-- one of five, by four tests
pick : (G : Decision → Type 0) (a b c d : Bool) (v w x y z : Decision) → G v → (a ≡ false → b ≡ true → G w)
    → (a ≡ false → b ≡ false → c ≡ true → G x) → G y → (a ≡ false → b ≡ false → c ≡ false → G z)
    → G (cond a v (cond b w (cond c x (cond d y z))))
pick G true b c d v w x y z p q r t u = p
pick G false true c d v w x y z p q r t u = q refl refl
pick G false false true d v w x y z p q r t u = r refl refl refl
pick G false false false true v w x y z p q r t u = t
pick G false false false false v w x y z p q r t u = u refl refl refl

not_false : (b : Bool) → not b ≡ false → b ≡ true
not_false true e = refl
not_false false e = absurd cc

below_false : (x y : ℕ) → ltb x y ≡ false → y ≤ x
below_false x y e = grind (arith, nat_tests)

below_true : (x y : ℕ) → ltb x y ≡ true → x < y
below_true x y e = grind (arith, nat_tests)

true_below : (x y : ℕ) → x < y → ltb x y ≡ true
true_below x y l = grind (arith, nat_tests)

-- there are no answers yet
none_at : (n i : ℕ) (nothing : Option Reply) → get_or (replicate n nothing) i nothing ≡ nothing
none_at n i nothing = elim (cases_lt i n) [
  | inl l ↦ get_or-replicate n i nothing nothing l
  | inr l ↦ get_or_past (replicate n nothing) i nothing (let m = length-replicate n nothing in omega arith)
]

module _ (s : Setting) (good : IsValid s) (client : ℕ) (now : Keeps) where
  -- what a node answers to a phase
  abbrev answer_in : Stage → ℕ → Reply
  answer_in stage i = reply_in s i (now i) (request_of s stage i)

  -- it is of the kind that the phase counts
  kind_in : (i : ℕ) → i < s.n → (work : Work) (stage : Stage) → MayAsk s work stage → is_of_kind stage (answer_in stage i) ≡ true
  kind_in i below work Times may = refl
  kind_in i below work (Versions bound) may = of_found (greatest_in bound (now i))
    where
      of_found : (o : Option Version) → is_of_kind (Versions bound) (found o) ≡ true
      of_found None = refl
      of_found (Some v) = refl
  kind_in i below work (Storing stamp value) may =
      ap (λ r. is_of_kind (Storing stamp value) (acknowledged r)) (may i below)

  -- ---- how a phase ends

  -- a decision to go on asks what may be asked, and leaves fewer phases
  abbrev GoesNearer : Work → Stage → Decision → Type 0
  GoesNearer work stage (Ends outcome) = Unit {0}
  GoesNearer work stage (GoesOn next) = MayAsk s work next × (phases_left s.n now next < phases_left s.n now stage)

  module _ (t : Task) (from : (j : ℕ) (r : Reply) → t.answers j ≡ Some r → (j < s.n) × IsFormedReply r × (r ≡ answer_in t.stage j)) where
    -- a write takes the next time
    time_nearer : (value : List ℕ) → IsBlock s value → (x : ℕ) → GoesNearer t.work Times (decide_time s client value x)
    time_nearer value block x = elim (cases_Bool (eqb x (2 ^ 64 - 1))) [
      | inl last ↦ subst (λ (b : Bool). GoesNearer t.work Times (cond b (Ends Spent) next)) (sym last) tt
      | inr before ↦ subst (λ (b : Bool). GoesNearer t.work Times (cond b (Ends Spent) next)) (sym before)
          (none_refused s good stamp value block refl (omega arith), omega arith)
    ]
      where
        stamp : Stamp
        stamp = record { time = x + 1; client = client; verifier = verifier_of s value }

        next : Decision
        next = GoesOn (Storing stamp value)

    module _ (bound : Bound) (stage : t.stage ≡ Versions bound) where
      formed : (i : ℕ) (v : Version) → t.answers i ≡ Some (Found v) → IsFormed v
      formed i v e = (from i (Found v) e).1

      -- the node keeps what it found
      found_kept : (i : ℕ) (v : Version) → t.answers i ≡ Some (Found v) → Contains (now i) v × (has bound v.stamp ≡ true)
      found_kept i v e = at (greatest_in bound (now i)) refl
        where
          same : (o : Option Version) → greatest_in bound (now i) ≡ o → Found v ≡ found o
          same o f = (from i (Found v) e).2 ∙ ap (λ (x : Stage). answer_in x i) stage ∙ ap found f

          at : (o : Option Version) → greatest_in bound (now i) ≡ o → Contains (now i) v × (has bound v.stamp ≡ true)
          at None f = absurd (let q : Found v ≡ Nothing = same None f in cc)
          at (Some u) f = greatest_in_is bound (now i) v (let q : Found v ≡ Found u = same (Some u) f in let w : v ≡ u = cc in f ∙ ap Some (sym w))

      pivot_nearer : (p : Stamp) → pivot s t.answers bound ≡ Some p → GoesNearer t.work (Versions bound) (decide_at s t.answers bound t.rounds p)
      pivot_nearer p is =
          let g = pivot_given s good t.answers formed bound p is in
          let u = valid_was s g.0 bound (t.answers g.0) g.1 g.3 in
          let k = found_kept g.0 g.1 u.0 in
          let inside : has bound p ≡ true = subst (λ (x : Stamp). has bound x ≡ true) g.4 k.1 in
          pick (GoesNearer t.work (Versions bound)) (same_stamp p (first_stamp s)) (ltb (support s t.answers bound p) (s.qc - s.t))
          (not (same_digests (s.sum_of (candidate s t.answers bound p)) (sum_of_first (chosen s t.answers bound p))))
          (leb (s.qc + s.b) (support s t.answers bound p)) _ _ _ _ _
          tt
          (λ first few. (
            tt,
            left_at_most s.n now p g.0 g.1 g.2 k.0 g.4 bound inside (λ q asked same. few_up_to few q (asked ∙ ap AtMost (sym same))),
          ))
          (λ first few _. (tt, left_below s.n now p g.0 g.1 g.2 k.0 g.4 bound inside))
          tt
          (λ first few match. (
            candidate_taken s good t.answers formed bound p is first (below_false _ _ few) (not_false _ match),
            stores_less bound,
          ))
        where
          few_up_to : ltb (support s t.answers bound p) (s.qc - s.t) ≡ true → (q : Stamp) → bound ≡ AtMost p → ⊥
          few_up_to few q asked =
              let enough = supported s t.answers p (subst (λ (d : Bound). pivot s t.answers d ≡ Some p) asked is) in
              let less : support s t.answers (AtMost p) p < s.qc - s.t = below_true _ _ (subst (λ (d : Bound). ltb (support s t.answers d p) (s.qc - s.t) ≡ true) asked few) in
              omega (arith, enough, less)

          stores_less : (d : Bound) → 1 < phases_left s.n now (Versions d)
          stores_less Every = omega arith
          stores_less (AtMost q) = omega arith
          stores_less (Below q) = omega arith

      versions_nearer : (o : Option Stamp) → pivot s t.answers bound ≡ o → GoesNearer t.work (Versions bound) (decide_pivot s t.answers bound t.rounds o)
      versions_nearer None is = tt
      versions_nearer (Some p) is = pivot_nearer p is

    decides_nearer : (stage : Stage) → t.stage ≡ stage → MayAsk s t.work stage → GoesNearer t.work stage (decide s client t stage)
    decides_nearer Times e may = time_nearer (value_of t.work) may (drawn_from s t.answers)
    decides_nearer (Versions bound) e may = versions_nearer bound e (pivot s t.answers bound) refl
    decides_nearer (Storing stamp value) e may = tt

  -- ---- the answers are heard, node by node

  module _ (task : SeenTask) (replies : List (Option Reply)) (asked : IsAsked s task) (are : AreAnswers s task now replies) where
    -- an answer is what the node keeps gives
    given_is : (i : ℕ) (r : Reply) → slice_get replies i ≡ Some (Some r) → r ≡ answer_in task.stage i
    given_is i r at =
        are.answers i r at ∙ ap (λ (b : Bool). cond b (answer_in task.stage i) (Refused BadBlock)) (true_below task.block s.blocks asked.there)

    -- The answers of the nodes before this one were heard, and the phase goes on.
    record IsHearing (u : SeenTask) (i : ℕ) : Type 0 where
      same : bare u ≡ bare task
      long : length u.answers ≡ s.n
      from : (j : ℕ) (r : Reply) → answers_of u j ≡ Some r → slice_get replies j ≡ Some (Some r)
      all : (j : ℕ) (r : Reply) → j < i → slice_get replies j ≡ Some (Some r) → answers_of u j ≡ Some r
      later : (j : ℕ) → i ≤ j → answers_of u j ≡ None
      waits : awaits_more s (task_at 0 u) ≡ true

    begins : IsHearing task 0
    begins = record {
      same = refl;
      long = ap length asked.unheard ∙ length-replicate s.n None;
      from = λ j r e. absurd (let f = none j in cc);
      all = λ j r l at. absurd (omega (arith, l));
      later = λ j l. none j;
      waits = true_below _ _ (
          let few = count_within s.n (λ i. is_answered (answers_of task i)) nobody_yet (λ i l a. ap is_answered (sym (none i)) ∙ a) in
          let zero = nobody_counts s.n in
          omega (arith, few, zero, good.quorum_low, good.quorum_high));
    }
      where
        none : (i : ℕ) → answers_of task i ≡ None
        none i = ap (λ (l : List (Option Reply)). get_or l i None) asked.unheard ∙ none_at s.n i None

        nobody_yet : ℕ → Bool
        nobody_yet i = false

    -- whatever comes after a further phase has begun is too late
    late : (u : SeenTask) (i : ℕ) (rest : List (Option Reply)) → task.phase < u.phase
        → heard_from s client (tag_of task) (UnderWay u) i rest ≡ UnderWay u
    late u i [] l = refl
    late u i (None ∷ rest) l = late u (suc i) rest l
    late u i (Some r ∷ rest) l =
        ap (λ (x : Hearing). heard_from s client (tag_of task) (progress s u x) (suc i) rest) (late_ignored s client u i (tag_of task) r l)
        ∙ late u (suc i) rest l

    over : (outcome : Outcome) (i : ℕ) (rest : List (Option Reply)) → heard_from s client (tag_of task) (Over outcome) i rest ≡ Over outcome
    over outcome i [] = refl
    over outcome i (given ∷ rest) = over outcome (suc i) rest

    -- an answer that is the node's first is counted
    module _ (u : SeenTask) (i : ℕ) (r : Reply) (h : IsHearing u i) (at : slice_get replies i ≡ Some (Some r)) where
      below : i < s.n
      below = let w = slice_get_within replies i (Some r) at in let n = are.count in omega arith

      counts : is_counted s u i (tag_of task) r ≡ true
      counts = all_five _ _ _ _ _
          (eq-eqb task.op u.op (sym (ap (λ (x : SeenTask). x.op) h.same)))
          (eq-eqb task.phase u.phase (sym (ap (λ (x : SeenTask). x.phase) h.same)))
          (true_below i s.n below)
          (ap (λ (x : SeenTask). is_of_kind x.stage r) h.same ∙ ap (is_of_kind task.stage) (given_is i r at) ∙ kind_in i below task.work task.stage asked.may)
          (ap (λ (o : Option Reply). not (is_answered o)) (h.later i (omega arith)))
        where
          all_five : (a b c d e : Bool) → a ≡ true → b ≡ true → c ≡ true → d ≡ true → e ≡ true → a && b && c && d && e ≡ true
          all_five a b c d e p q x y z = rw (p, q, x, y, z) refl

      abbrev next : SeenTask
      next = seen_counted u i r

      next_from : (j : ℕ) (x : Reply) → answers_of next j ≡ Some x → slice_get replies j ≡ Some (Some x)
      next_from j x e = elim (cases_eq j i) [
        | inl same ↦ (
            let here : Some r ≡ Some x = sym (get_or-set_same u.answers i (Some r) None (let l = h.long in omega (arith, l, below)))
            ∙ ap (λ (k : ℕ). get_or (set u.answers i (Some r)) k None) (sym same) ∙ e in
            ap (slice_get replies) same ∙ at ∙ ap Some here)
        | inr other ↦ h.from j x (sym (get_or-set_other u.answers i j (Some r) None other) ∙ e)
      ]

      next_all : (j : ℕ) (x : Reply) → j < suc i → slice_get replies j ≡ Some (Some x) → answers_of next j ≡ Some x
      next_all j x l given = elim (cases_eq j i) [
        | inl same ↦ (
            let here : Some (Some r) ≡ Some (Some x) = sym at ∙ ap (slice_get replies) (sym same) ∙ given in
            let is : Some r ≡ Some x = cc in
            ap (λ (k : ℕ). get_or (set u.answers i (Some r)) k None) same
            ∙ get_or-set_same u.answers i (Some r) None (let l = h.long in omega (arith, l, below)) ∙ is)
        | inr other ↦ get_or-set_other u.answers i j (Some r) None other ∙ h.all j x (omega (arith, l, other)) given
      ]

      next_later : (j : ℕ) → suc i ≤ j → answers_of next j ≡ None
      next_later j l = get_or-set_other u.answers i j (Some r) None (λ e. absurd (omega (arith, l, e))) ∙ h.later j (omega (arith, l))

      goes_on : awaits_more s (task_at 0 next) ≡ true → IsHearing next (suc i)
      goes_on waits = record {
        same = h.same;
        long = length-set u.answers i (Some r) ∙ h.long;
        from = next_from;
        all = next_all;
        later = next_later;
        waits = waits;
      }

      from_nodes : (j : ℕ) (x : Reply) → answers_of next j ≡ Some x → (j < s.n) × IsFormedReply x × (x ≡ answer_in next.stage j)
      from_nodes j x e =
          let g = next_from j x e in (
            (let w = slice_get_within replies j (Some x) g in let n = are.count in omega arith),
            are.formed j x g,
            given_is j x g ∙ ap (λ (t : SeenTask). answer_in t.stage j) (sym h.same),
          )

      -- where the phase ends with it
      ends : (rest : List (Option Reply)) (d : Decision) → GoesNearer next.work next.stage d
          → IsNearer s task now (heard_from s client (tag_of task) (progress s u (by_decision s next d)) (suc i) rest)
      ends rest (Ends outcome) nearer = subst (IsNearer s task now) (sym (over outcome (suc i) rest)) tt
      ends rest (GoesOn stage) nearer =
          let begun = seen_goes_on s next stage in
          let phase : begun.phase ≡ task.phase + 1 = ap (λ (t : SeenTask). t.phase + 1) h.same in
          subst (IsNearer s task now) (sym (late begun (suc i) rest (omega (arith, phase)))) (
            phase,
            record {
              there = subst (λ (t : SeenTask). t.block < s.blocks) (sym h.same) asked.there;
              may = nearer.0;
              unheard = refl;
            },
            subst (λ (t : SeenTask). phases_left s.n now stage < phases_left s.n now t.stage) h.same nearer.1,
          )

      decided : (rest : List (Option Reply))
          → IsNearer s task now (heard_from s client (tag_of task) (progress s u (by_decision s next (decide s client (task_at 0 next) next.stage))) (suc i) rest)
      decided rest =
          ends rest (decide s client (task_at 0 next) next.stage) (decides_nearer (task_at 0 next) from_nodes next.stage refl
          (subst (λ (t : SeenTask). MayAsk s t.work t.stage) (sym h.same) asked.may))

    -- where all were heard, as many as a phase waits for are not enough
    not_all : (u : SeenTask) (i : ℕ) → s.n ≤ i → IsHearing u i → s.n ≤ answers_given s.n replies + s.t → ⊥
    not_all u i past h enough =
        let heard = count_within s.n (λ j. is_answered (slice_index_or replies j None)) (λ j. is_answered (answers_of u j)) each in
        let waits = below_true _ _ h.waits in
        omega (arith, heard, waits, enough)
      where
        each : (j : ℕ) → j < s.n → is_answered (slice_index_or replies j None) ≡ true → is_answered (answers_of u j) ≡ true
        each j l a =
            let r = answered_is (slice_index_or replies j None) a in
            let there : slice_get replies j ≡ Some (Some r.0) = slice_get-get_or replies j None (let n = are.count in omega (arith, n, l)) ∙ ap Some r.1 in
            ap is_answered (h.all j r.0 (omega (arith, past, l)) there)

    abbrev Leads : SeenTask → ℕ → List (Option Reply) → Hearing → Type 0
    Leads u i rest x = IsNearer s task now (heard_from s client (tag_of task) (progress s u x) (suc i) rest)

    hear_all : (rest : List (Option Reply)) (u : SeenTask) (i : ℕ) → i + length rest ≡ s.n
        → ((k : ℕ) → slice_get rest k ≡ slice_get replies (i + k)) → IsHearing u i → s.n ≤ answers_given s.n replies + s.t
        → IsNearer s task now (heard_from s client (tag_of task) (UnderWay u) i rest)
    hear_all [] u i e at h enough = absurd (not_all u i (omega (arith, e)) h enough)
    hear_all (None ∷ rest) u i e at h enough =
        hear_all rest u (suc i) (omega (arith, e)) (λ k. at (suc k) ∙ ap (slice_get replies) (omega arith)) (record {
          same = h.same;
          long = h.long;
          from = h.from;
          all = λ j r l given. elim (cases_eq j i) [
            | inl same ↦ absurd (
                let here : Some None ≡ Some (Some r) = at 0 ∙ ap (slice_get replies) (let f : i + 0 ≡ j = omega (arith, same) in f) ∙ given in
                cc)
            | inr other ↦ h.all j r (omega (arith, l, other)) given
          ];
          later = λ j l. h.later j (omega (arith, l));
          waits = h.waits;
        }) enough
    hear_all (Some r ∷ rest) u i e at h enough =
        subst (λ (x : Hearing). IsNearer s task now (heard_from s client (tag_of task) (progress s u x) (suc i) rest))
        (sym (ap (λ (b : Bool). cond b (after_counting s client (next u i r h here)) Ignored) (counts u i r h here)))
        (by (awaits_more s (task_at 0 (next u i r h here))) refl
        (λ waits. hear_all rest (next u i r h here) (suc i) (omega (arith, e)) (λ k. at (suc k) ∙ ap (slice_get replies) (omega arith))
        (goes_on u i r h here waits) enough))
      where
        here : slice_get replies i ≡ Some (Some r)
        here = ap (slice_get replies) (let f : i ≡ i + 0 = omega arith in f) ∙ sym (at 0)

        by : (b : Bool) → awaits_more s (task_at 0 (next u i r h here)) ≡ b
            → (awaits_more s (task_at 0 (next u i r h here)) ≡ true → Leads u i rest (Counted (next u i r h here)))
            → Leads u i rest (cond b (Counted (next u i r h here)) (by_decision s (next u i r h here) (decide s client (task_at 0 (next u i r h here)) (next u i r h here).stage)))
        by true waits again = again waits
        by false waits again = decided u i r h here rest

-- what is said of phases, in each setting that is valid
pub phases_end : (s : Setting) → IsValid s → PhasesEnd s
phases_end s good client task now replies asked are enough =
    hear_all s good client now task replies asked are replies task 0 (let n = are.count in omega (arith, n)) (λ k. ap (slice_get replies) (omega arith))
    (begins s good client now task replies asked are) enough
