-- When an answer leaves a read outvoted.
use Rattle.std.proofs.Common.{◌≡◌, ◌↔◌, ℕ, ◌-◌, ◌^◌, ◌<◌, Bool, true, false, cond, not, ◌&&◌, ◌==◌, List, Option, refl, sym, ◌∙◌, inl, inr, arith, leb, ltb}
use Rattle.std.specs.declared.option.Option.TheVariants.{None, Some}
use Rattle.stamp_order.specs.declared.Stamp.{Stamp}
use Rattle.stamp_order.specs.declared.Bound.{Bound}
use Rattle.stamp_order.specs.declared.Bound.TheVariants.{AtMost, Below}
use Rattle.stamp_order.specs.Stamps.{same_stamp}
use Rattle.quorum_rules.specs.Limits.{Numbers, IsValid, complete_of, repairable_of}
use Rattle.wire_forms.specs.declared.message.Tag.{Tag}
use Rattle.wire_forms.specs.declared.message.Reply.{Reply}
use Rattle.run_words.specs.declared.outcome.How.TheVariants.{Plain}
use Rattle.run_words.specs.declared.outcome.Outcome.TheVariants.{Gave, Spent, Outvoted as OutvotedBy}
use Rattle.protocol.specs.Setting.{first_stamp, same_digests, zeros}
use Rattle.protocol.specs.Instance.{setting}
use Rattle.protocol.specs.Operations.{Work, Stage, candidate, chosen, decide, decide_pivot, drawn_from, invalid_nodes, pivot, stamps, stored, sum_of_first, support}
use Rattle.protocol.specs.Operations.Work.{Reads, Writes}
use Rattle.protocol.specs.Operations.Stage.{Times, Versions, Storing}
use Rattle.protocol.specs.Operations.Decision.{GoesOn, Ends}
use Rattle.protocol.specs.Seen.{SeenTask, Hearing, task_at, answers_of, by_decision, seen_counted, hears}
use Rattle.protocol.specs.Seen.Hearing.{Ignored, Counted, Ended}
use Rattle.candidate_class.proofs.lemmas.Reaching.{highest_none}
use Rattle.read_core.specs.Readers.{FewAreValid, EndsOutvoted, IsReading}
use Rattle.read_core.specs.declared.reading.Reading.{Reading}
use Rattle.read_core.specs.declared.reading.Reading.TheVariants.{More, Send, Got, Outvoted}

-- the read ends outvoted
abbrev IsOutvoting : Hearing → Type 0
IsOutvoting h = (nodes : List ℕ) × (h ≡ Ended (OutvotedBy nodes))

module _ (c : Numbers) (some : 0 < repairable_of c) (client : ℕ) (t : SeenTask) where
  abbrev answers : ℕ → Option Reply
  answers i = answers_of t i

  -- a pivot leaves nothing outvoted, whatever becomes of it
  pivot_not : (a b d e : Bool) (first p : Stamp) (zero value : List ℕ)
      → IsOutvoting (by_decision (setting c) t (cond a (Ends (Gave first zero Plain t.rounds)) (cond b (GoesOn (Versions (AtMost p))) (cond d (GoesOn (Versions (Below p))) (cond e (Ends (Gave p value Plain t.rounds)) (GoesOn (Storing p value))))))) → ⊥
  pivot_not true b d e first p zero value (nodes, h) = cc
  pivot_not false true d e first p zero value (nodes, h) = cc
  pivot_not false false true e first p zero value (nodes, h) = cc
  pivot_not false false false true first p zero value (nodes, h) = cc
  pivot_not false false false false first p zero value (nodes, h) = cc

  by_pivot : (bound : Bound) (o : Option Stamp) → pivot (setting c) answers bound ≡ o
      → IsOutvoting (by_decision (setting c) t (decide_pivot (setting c) answers bound t.rounds o)) ↔ (pivot (setting c) answers bound ≡ None)
  by_pivot bound None e = (λ _. e, λ _. (invalid_nodes (setting c) answers bound, refl))
  by_pivot bound (Some p) e =
      let s = setting c in
      let carried = support s answers bound p in
      let value = candidate s answers bound p in
      let apart = not (same_digests (s.sum_of value) (sum_of_first (chosen s answers bound p))) in (
        λ h. absurd (pivot_not (same_stamp p (first_stamp s)) (ltb carried (repairable_of c)) apart (leb (complete_of c) carried) (first_stamp s) p (zeros s) value h),
        λ f. absurd (let q = sym e ∙ f in cc),
      )

  time_not : (b : Bool) (stage : Stage) → IsOutvoting (by_decision (setting c) t (cond b (Ends Spent) (GoesOn stage))) → ⊥
  time_not true stage (nodes, h) = cc
  time_not false stage (nodes, h) = cc

  stored_not : (work : Work) (stamp : Stamp) (value : List ℕ) → IsOutvoting (by_decision (setting c) t (Ends (stored work t.rounds stamp value))) → ⊥
  stored_not Reads stamp value (nodes, h) = cc
  stored_not (Writes written) stamp value (nodes, h) = cc

  -- the end of a phase leaves a read outvoted exactly where it's a round with too few valid answers
  by_stage : (stage : Stage) → IsOutvoting (by_decision (setting c) t (decide (setting c) client (task_at 0 t) stage)) ↔ FewAreValid c stage answers
  by_stage Times = (λ h. time_not (drawn_from (setting c) answers == 2 ^ 64 - 1) _ h, λ f. absurd f)
  by_stage (Storing stamp value) = (λ h. stored_not t.work stamp value h, λ f. absurd f)
  by_stage (Versions bound) =
      let few = highest_none c.n (repairable_of c) (stamps (setting c) answers bound) some in
      let ends = by_pivot bound (pivot (setting c) answers bound) refl in
      (λ h. few.0 (ends.0 h), λ f. ends.1 (few.1 f))

by_count : (b f : Bool) (t : SeenTask) (h : Hearing) (P : Type 0) → (IsOutvoting h ↔ P) → IsOutvoting (cond b (cond f (Counted t) h) Ignored) ↔ ((b && not f ≡ true) × P)
by_count false f t h P ends = (λ o. absurd (let e = o.1 in cc), λ p. absurd (let e = p.0 in cc))
by_count true true t h P ends = (λ o. absurd (let e = o.1 in cc), λ p. absurd (let e = p.0 in cc))
by_count true false t h P ends = (λ o. (refl, ends.0 o), λ p. ends.1 p.1)

module _ (c : Numbers) (valid : IsValid c) (client node : ℕ) (tag : Tag) (reply : Reply) where
  some_reach : 0 < repairable_of c
  some_reach = let low = valid.low in omega arith

  ends_outvoted : (task : Option SeenTask) → IsOutvoting (hears (setting c) client task node tag reply) ↔ EndsOutvoted c task node tag reply
  ends_outvoted None = (λ o. absurd (let e = o.1 in cc), λ p. absurd p)
  ends_outvoted (Some t) = by_count _ _ (seen_counted t node reply) _ _ (by_stage c some_reach client (seen_counted t node reply) t.stage)

  -- what is told says that the read is outvoted exactly where it ends so
  told : (h : Hearing) (rounds : ℕ) (reading : Reading) → IsReading (setting c) client rounds h reading → ((nodes : List ℕ) × (reading ≡ Outvoted nodes)) ↔ IsOutvoting h
  told h rounds More is = (λ o. absurd (let e = o.1 in cc), λ o. absurd (more o is))
    where
      more : IsOutvoting h → IsReading (setting c) client rounds h More → ⊥
      more o (inl e) = let f = o.1 in cc
      more o (inr k) = let f = o.1 in let e = k.1 in cc
  told h rounds (Send messages) is = (λ o. absurd (let e = o.1 in cc), λ o. absurd (let f = o.1 in let e = is.1 in cc))
  told h rounds (Got stamp value how) is = (λ o. absurd (let e = o.1 in cc), λ o. absurd (let f = o.1 in cc))
  told h rounds (Outvoted nodes) is = (λ _. (nodes, is), λ _. (nodes, refl))

  pub outvoted_where : (task : Option SeenTask) (rounds : ℕ) (reading : Reading) → IsReading (setting c) client rounds (hears (setting c) client task node tag reply) reading
      → ((nodes : List ℕ) × (reading ≡ Outvoted nodes)) ↔ EndsOutvoted c task node tag reply
  outvoted_where task rounds reading is =
      let says = told (hears (setting c) client task node tag reply) rounds reading is in
      let ends = ends_outvoted task in
      (λ o. ends.0 (says.0 o), λ p. says.1 (ends.1 p))
