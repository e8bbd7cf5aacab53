-- Where a script declares no lying client its run spends no write.
use Rattle.std.proofs.Common.{◌≡◌, ◌≢◌, ℕ, ◌+◌, ◌*◌, ◌/◌, ◌<◌, ◌≤◌, ◌^◌, true, cond, List, [], ◌∷◌, length, min, Option, refl, ap, ◌∙◌, inl, inr, arith}
use Rattle.std.specs.Prelude.{count_by}
use Rattle.std.specs.declared.option.Option.TheVariants.{None, Some}
use Rattle.std.specs.List.{Contains}
use Rattle.std.proofs.lemmas.Bool.{cases_Bool}
use Rattle.std.proofs.lemmas.List.Sums.{sum_by-cons}
use Rattle.quorum_rules.specs.Limits.{Numbers}
use Rattle.wire_forms.specs.Liars.{has_number}
use Rattle.run_words.specs.declared.outcome.Outcome.TheVariants.{Wrote, Spent, Gave, Outvoted}
use Rattle.event_lines.specs.declared.line.ReplayLine.{ReplayLine}
use Rattle.protocol.specs.Setting.{Setting}
use Rattle.protocol.specs.Operations.{Outcome}
use Rattle.protocol.specs.World.{Record}
use Rattle.protocol.specs.Report.{is_spent}
use Rattle.protocol.specs.Instance.{InEachRun, IsCluster}
use Rattle.protocol.specs.Laws.{NoneIsSpent}
use Rattle.protocol.proofs.lemmas.Counting.{count_named}
use Rattle.history_making.specs.declared.entry.Counts.{Counts}
use Rattle.script_run.specs.Performing.{CommandQueues, LeadsTo, after_line, start_queues}
use Rattle.script_run.proofs.lemmas.Leading.{after-place}
use Rattle.command_texts.specs.Replays.{cluster_of, Replays}
use Rattle.lists.proofs.lemmas.Members.{Contains-head, Contains-rest}

spent_is : (o : Option Outcome) → is_spent o ≡ true → o ≡ Some Spent
spent_is None e = absurd (cc)
spent_is (Some Spent) e = refl
spent_is (Some (Wrote stamp)) e = absurd (cc)
spent_is (Some (Gave stamp value how rounds)) e = absurd (cc)
spent_is (Some (Outvoted nodes)) e = absurd (cc)

none_counted : (records : List Record) → ((r : Record) → Contains records r → r.outcome ≢ Some Spent) → count_by (λ (r : Record). is_spent r.outcome) records ≡ 0
none_counted [] h = refl
none_counted (x ∷ xs) h =
    let rest = none_counted xs (λ r k. h r (Contains-rest r x xs k)) in
    let cons = sum_by-cons (λ (r : Record). cond {A = ℕ} (is_spent r.outcome) 1 0) x xs in
    elim (cases_Bool (is_spent x.outcome)) [
      | inl t ↦ absurd (h x (Contains-head x xs) (spent_is x.outcome t))
      | inr f ↦ (let first : cond {A = ℕ} (is_spent x.outcome) 1 0 ≡ 0 = rw f refl in omega (arith, rest, cons, first))
    ]

-- each line that takes place is one place more
last_place : (s : Setting) (c : Numbers) (lines : List ReplayLine) (d : CommandQueues) (place : ℕ) (last : CommandQueues) → place ≡ d.world.place + 1 → LeadsTo s c d place lines last → last.world.place ≡ d.world.place + length lines
last_place s c [] d place last e h = let q = ap (λ (z : CommandQueues). z.world.place) h in omega (arith, q)
last_place s c (line ∷ lines) d place last e h =
    let p = after-place s c d place line h.0 in
    let rest = last_place s c lines (after_line s c d place line) (place + 1) last (omega (arith, p)) h.1 in
    omega (arith, e, p, rest)

lesser : (a b : ℕ) → min a b ≤ a
lesser a b = grind arith

module _ (input text : List ℕ) (r : Replays input text) where
  of_cluster : IsCluster r.config (has_number r.liars.nodes)
  of_cluster =
      let named = count_named r.config.n r.liars.nodes in
      let few = r.script.replay.lying.may_lie.few in
      record { config = r.script.replay.valid; few = omega (arith, named, few) }

  low : r.queues.world.place < 2 ^ 64
  low =
      let s = cluster_of r.config r.liars in
      let place = last_place s r.config r.lines (start_queues s) 1 r.queues (omega arith) r.run in
      let few = r.script.replay.limited in
      let most = lesser 200000 (1000000000 / (r.config.n * (r.config.size + 32 * r.config.n + 128))) in
      omega (arith, place, few, most)

  pub unspent : InEachRun NoneIsSpent → r.liars.clients ≡ [] → r.book.counts.spent ≡ 0
  unspent none honest =
      ap (λ (k : Counts). k.spent) r.tells.counts
      ∙ none_counted r.queues.world.records (λ x k.
      none r.config (has_number r.liars.nodes) (has_number r.liars.clients) of_cluster _ r.queues.world r.is_run x (λ client. rw honest refl) low k)
